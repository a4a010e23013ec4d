use Rattle.std.proofs.Common.{◌≡◌, List, length, sym, ap, ◌∙◌, subst, refl}
use Rattle.std.specs.Arc.{arc_value}
use Rattle.account_core.specs.Account.{Account}
use Rattle.account_core.specs.Fitting.{IsHeld}
use Rattle.account_steps.specs.History.{Entry}
use Rattle.published_account.specs.Growing.{Pairs}
use Rattle.published_account.specs.Pairs.{entries_of, loaded_pairs, IsHistory}
use Rattle.published_account.proofs.Lists.{history_loaded, entries_of-loaded}
use Rattle.published_account.proofs.published.Published.first.Goals as goal

pub invariant_of-result : goal.invariant_of-result
invariant_of-result c =
    let account : Account = arc_value c.in_ok-behind_arc.field-0 in
    let same : account ≡ c.args.account = c.in_ok-behind_arc.ensures in
    let log : c.again.result.log ≡ loaded_pairs account.entries = ap (λ s. s.log) c.again.ensures ∙ c.requires ∙ ap (λ (a : Account). loaded_pairs a.entries) (sym same) in
    let held : IsHeld account.facts account.entries = subst (λ (a : Account). IsHeld a.facts a.entries) (sym same) c.entries-loaded.ensures.held in
    let number : length account.entries ≡ c.entries-loaded.result = ap (λ (a : Account). length a.entries) same ∙ sym c.entries-loaded.ensures.number in
    record {
      entries = sym (ap entries_of log ∙ entries_of-loaded account.entries);
      history = subst (IsHistory account.facts c.args.passes c.entries-loaded.result) (sym log) (history_loaded account.facts c.args.passes c.entries-loaded.result account.entries held number);
    }
