use Rattle.std.proofs.Common.{List, ◌≡◌, None, if◌then◌else◌, ap, sym, ◌∙◌}
use Rattle.std.specs.Prelude.{◌==◌}
use Rattle.std.proofs.lemmas.Result.{IfOk-weaker}
use Rattle.persist_map.specs.Pairs.{value_at, without_key}
use Rattle.account_rows.specs.declared.keys.Due.{Due}
use Rattle.account_rows.specs.Keys.{due_at}
use Rattle.account_rows.proofs.DateFacts.{due_cmp, by_dates, none_there, date_less}
use Rattle.account_rows.proofs.keys.dates_without.Goals as goal

pub returns-in-Some : goal.returns-in-Some
returns-in-Some c due =
    let rows = c.args.rows.now in
    let dates = c.args.dates.now in
    let place = c.args.place in
    let found = sym c.date_at.ensures ∙ c.in-Some.is in
    IfOk-weaker c.remove.result (λ left. left ≡ without_key due_cmp dates (record { date = c.in-Some.date; place = place }))
    (λ left. value_at due_cmp left due ≡ (if due.place == place then None else due_at rows due))
    (λ left is. ap (λ (l : List (Due × Unit {0})). value_at due_cmp l due) is ∙ date_less due_cmp by_dates place rows dates c.requires c.in-Some.date found due)
    c.remove.ensures

pub returns-in-None : goal.returns-in-None
returns-in-None c due =
    let rows = c.args.rows.now in
    let dates = c.args.dates.now in
    let place = c.args.place in
    let none = sym c.date_at.ensures ∙ c.in-None.is in
    IfOk-weaker c.share.result (λ left. left ≡ dates) (λ left. value_at due_cmp left due ≡ (if due.place == place then None else due_at rows due))
    (λ left is. ap (λ (l : List (Due × Unit {0})). value_at due_cmp l due) is ∙ none_there due_cmp by_dates place rows dates c.requires none due)
    c.share.ensures
