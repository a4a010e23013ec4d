use Rattle.std.proofs.Common.{length}
use Rattle.account_lists.specs.Pages.{rows_behind}
use Rattle.account_lists.proofs.PageFacts.{Gathered}
use Rattle.account_lists.proofs.pages.part_behind.Given as goal

abbrev pub invariant-loop-row : goal.invariant-loop-row
invariant-loop-row g l =
    Gathered (g.L.Listing.born l.listing) (g.L.Listing.rows l.listing) (g.L.Listing.listed l.listing) (g.L.Listing.shown l.listing) l.limit l.fn.after l.at l.last l.items.items

abbrev pub decreases-loop-row : goal.decreases-loop-row
decreases-loop-row g l = length (rows_behind (g.L.Listing.born l.listing) l.at (g.L.Listing.rows l.listing))
