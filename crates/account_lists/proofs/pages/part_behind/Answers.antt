use Rattle.std.proofs.Common.{◌≡◌, ◌≢◌, sym, ◌∙◌, subst, rules, Some, None, ℕ, length, ◌<◌, ◌++◌, ◌∷◌, []}
use Rattle.account_lists.specs.Pages.{rows_behind}
use Rattle.account_lists.proofs.PageFacts.{at_first, one_taken, one_passed, full_rows, full_next, last_rows, no_next, shorter, Gathered}
use Rattle.account_lists.proofs.pages.part_behind.Goals as goal

pub loop-row-init : goal.loop-row-init
loop-row-init g c =
    let items : c.new-items.result.items ≡ [] = search rules in
    let born = g.L.Listing.born c.args.listing.now in
    let rows = g.L.Listing.rows c.args.listing.now in
    let listed = g.L.Listing.listed c.args.listing.now in
    let shown = g.L.Listing.shown c.args.listing.now in
    subst (Gathered born rows listed shown c.args.limit c.args.after c.args.after None) (sym items) (at_first born rows listed shown c.args.limit c.args.after c.in_order.ensures)

pub returns-then-len-limit-clause-items : goal.returns-then-len-limit-clause-items
returns-then-len-limit-clause-items g c =
    let n : length c.loop-row.items.items ≡ c.args.limit = search rules in
    full_rows _ _ _ _ _ _ c.loop-row.invariant c.in-Some.row (sym c.behind.ensures ∙ c.in-Some.is) (sym c.lists.ensures ∙ c.if-lists.true) n

pub returns-then-len-limit-clause-next : goal.returns-then-len-limit-clause-next
returns-then-len-limit-clause-next g c =
    let n : length c.loop-row.items.items ≡ c.args.limit = search rules in
    full_next _ _ _ _ _ _ c.loop-row.invariant c.in-Some.row (sym c.behind.ensures ∙ c.in-Some.is) (sym c.lists.ensures ∙ c.if-lists.true) n

pub loop-row-smaller-in_ok-push : goal.loop-row-smaller-in_ok-push
loop-row-smaller-in_ok-push g c =
    let born = g.L.Listing.born c.args.listing.now in
    let rows = g.L.Listing.rows c.args.listing.now in
    let less = shorter born rows c.loop-row.invariant.rise c.loop-row.at c.in-Some.row (sym c.behind.ensures ∙ c.in-Some.is) in
    subst (λ (n : ℕ). length (rows_behind born (Some n) rows) < length (rows_behind born c.loop-row.at rows)) (sym c.born.ensures) less

pub loop-row-preserved-in_ok-push : goal.loop-row-preserved-in_ok-push
loop-row-preserved-in_ok-push g c =
    let born = g.L.Listing.born c.args.listing.now in
    let rows = g.L.Listing.rows c.args.listing.now in
    let listed = g.L.Listing.listed c.args.listing.now in
    let shown = g.L.Listing.shown c.args.listing.now in
    let not : length c.loop-row.items.items ≢ c.args.limit = search rules in
    let next = one_taken born rows listed shown c.args.limit c.args.after c.loop-row.invariant c.in-Some.row (sym c.behind.ensures ∙ c.in-Some.is) (sym c.lists.ensures ∙ c.if-lists.true)
    not in
    let items : c.push.new.self.items ≡ c.loop-row.items.items ++ shown c.in-Some.row ∷ [] = search rules in
    let there = subst (Gathered born rows listed shown c.args.limit c.args.after (Some (born c.in-Some.row)) (Some (born c.in-Some.row))) (sym items) next in
    subst (λ (n : ℕ). Gathered born rows listed shown c.args.limit c.args.after (Some n) (Some n) c.push.new.self.items) (sym c.born.ensures) there

pub loop-row-smaller : goal.loop-row-smaller
loop-row-smaller g c =
    let born = g.L.Listing.born c.args.listing.now in
    let rows = g.L.Listing.rows c.args.listing.now in
    let less = shorter born rows c.loop-row.invariant.rise c.loop-row.at c.in-Some.row (sym c.behind.ensures ∙ c.in-Some.is) in
    subst (λ (n : ℕ). length (rows_behind born (Some n) rows) < length (rows_behind born c.loop-row.at rows)) (sym c.born.ensures) less

pub loop-row-preserved : goal.loop-row-preserved
loop-row-preserved g c =
    let born = g.L.Listing.born c.args.listing.now in
    let rows = g.L.Listing.rows c.args.listing.now in
    let listed = g.L.Listing.listed c.args.listing.now in
    let shown = g.L.Listing.shown c.args.listing.now in
    let next = one_passed born rows listed shown c.args.limit c.args.after c.loop-row.invariant c.in-Some.row (sym c.behind.ensures ∙ c.in-Some.is) (sym c.lists.ensures ∙ c.if-lists.false) in
    subst (λ (n : ℕ). Gathered born rows listed shown c.args.limit c.args.after (Some n) c.loop-row.last c.loop-row.items.items) (sym c.born.ensures) next

pub returns-clause-items : goal.returns-clause-items
returns-clause-items g c = last_rows _ _ _ _ _ _ c.loop-row.invariant (sym c.behind.ensures ∙ c.in_default.is)

pub returns-clause-next : goal.returns-clause-next
returns-clause-next g c = no_next _ _ _ _ _ _ c.loop-row.invariant (sym c.behind.ensures ∙ c.in_default.is)
