use Rattle.std.proofs.Common.{◌≡◌, ℕ, length, sym, ap, ◌∙◌, subst, rules}
use Rattle.std.proofs.lemmas.List.{length-map}
use Rattle.account_steps.specs.History.{Entry}
use Rattle.published_account.specs.Growing.{Pairs}
use Rattle.published_account.specs.Pairs.{Shown, entries_of, loaded_pairs}
use Rattle.published_account.proofs.Lists.{entries_of-loaded}
use Rattle.publish_pass.proofs.opening.open_loaded.Goals as goal

pub invariant_of-result : goal.invariant_of-result
invariant_of-result g c =
    let entries = c.args.account.entries in
    let is = c.warm.ensures.shown ∙ c.in_ok-writer.ensures.shown in
    let pairs = ap (λ (x : Shown). x.whole.pairs) is in
    let size : length (loaded_pairs entries) ≡ length entries = length-map {B = Entry × ℕ} entries (λ (entry : Entry). (entry, 0)) in
    record {
      book = search rules;
      passes = search rules;
      loaded = subst (λ (ps : Pairs). ps ≡ loaded_pairs (entries_of ps)) (sym pairs) (ap loaded_pairs (sym (entries_of-loaded entries)));
      number = ap (λ (x : Shown). x.whole.loaded) is ∙ sym size ∙ sym (ap length pairs);
      parts = search rules;
      some = search rules;
      knows = search rules;
    }
