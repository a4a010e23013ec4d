-- Of the forms that `parse_str` takes a text of 36 bytes has the hyphenated one alone.
use Rattle.std.proofs.Common.{◌≡◌, ℕ, List, length, Option, Some, None, refl, rules, ◌∙◌}
use Rattle.std.proofs.lemmas.Bool.{false≢true}
use Rattle.uuid.specs.Text.{parsed, parsed_hyphenated}
use Rattle.kms_names.proofs.keys.read_key_id.Goals as goal

none_where_not_some : {A : Type 0} (o : Option A) → ((u : A) → ¬ (o ≡ Some u)) → None ≡ o
none_where_not_some o h =
    elim o as (λ p. ((u : _) → ¬ (p ≡ Some u)) → None ≡ p) [ None ↦ λ _. refl | Some u ↦ λ k. absurd (k u refl) ] h

pub returns-in-Err : goal.returns-in-Err
returns-in-Err c =
    let t : List ℕ = c.args.text.now in
    let len : length t ≡ 36 = search rules in
    let same : parsed t ≡ parsed_hyphenated t = rw len refl in
    none_where_not_some _ (λ u e. false≢true (c.in-Err.ensures.ok.1 (u, same ∙ e)))
