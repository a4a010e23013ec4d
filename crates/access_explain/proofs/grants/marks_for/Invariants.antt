use Rattle.std.proofs.Common.{length}
use Rattle.account_rows.specs.History.{replay}
use Rattle.access_explain.specs.Marks.{IsGrantMark}
use Rattle.access_explain.proofs.GrantWalk.{own, from, Gone}
use Rattle.access_explain.proofs.grants.marks_for.Given as goal

abbrev pub invariant-loop-row : goal.invariant-loop-row
invariant-loop-row l = Gone (IsGrantMark l.caller l.op l.asked) (own l.key (replay l.account.entries).grants) (from l.at (own l.key (replay l.account.entries).grants)) l.marks.items

abbrev pub decreases-loop-row : goal.decreases-loop-row
decreases-loop-row l = length (from l.at (own l.key (replay l.account.entries).grants))
