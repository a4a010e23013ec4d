use Rattle.std.proofs.Common.{List, ℕ, Option, ◌≡◌, if◌then◌else◌, ap, sym, ◌∙◌}
use Rattle.std.specs.Prelude.{◌==◌}
use Rattle.std.proofs.lemmas.Result.{IfOk-weaker}
use Rattle.persist_map.specs.Pairs.{value_at, with_pair}
use Rattle.account_rows.specs.declared.keys.Due.{Due}
use Rattle.account_rows.specs.Keys.{due_on}
use Rattle.account_rows.proofs.DateFacts.{due_cmp, by_dates, no_date_more, date_more}
use Rattle.account_rows.proofs.keys.dates_with.Goals as goal

pub returns-in-Some : goal.returns-in-Some
returns-in-Some c due =
    let dates = c.args.dates in
    let place = c.args.place in
    let stands = λ (date : Option ℕ). (if due.place == place then due_on due.date date else value_at due_cmp dates due) in
    IfOk-weaker c.insert.result (λ all. all ≡ with_pair due_cmp dates (record { date = c.in-Some.date; place = place }) tt) (λ all. value_at due_cmp all due ≡ stands c.args.date)
    (λ all is. ap (λ (l : List (Due × Unit {0})). value_at due_cmp l due) is ∙ date_more due_cmp by_dates place dates c.requires c.in-Some.date due ∙ ap stands (sym c.in-Some.is))
    c.insert.ensures

pub returns-in-None : goal.returns-in-None
returns-in-None c due =
    let dates = c.args.dates in
    let place = c.args.place in
    let stands = λ (date : Option ℕ). (if due.place == place then due_on due.date date else value_at due_cmp dates due) in
    no_date_more due_cmp by_dates place dates c.requires due ∙ ap stands (sym c.in-None.is)
