-- After housekeeping nothing more is owed.
use Rattle.std.proofs.Common.{◌≡◌, ℕ, List, [], ◌∷◌, Option, Some, None, refl, ap, ◌∙◌}
use Rattle.std.proofs.lemmas.List.{map-append}
use Rattle.account_steps.specs.History.{Entry, housekeeping_of}
use Rattle.account_laws.specs.Laws.{HouseIsKeptOnce}
use Rattle.published_account.specs.Pairs.{entries_of}
use Rattle.publish_pass.specs.Pass.{making_any}
use Rattle.pass_laws.specs.House.{OwesNothingMore}

pub rests : HouseIsKeptOnce → OwesNothingMore
rests law s clock held = by_entry (housekeeping_of (entries_of s.history) clock) refl
  where
    by_entry : (o : Option Entry) → housekeeping_of (entries_of s.history) clock ≡ o → housekeeping_of (entries_of (making_any s o).history) clock ≡ None
    by_entry None is = is
    by_entry (Some entry) is =
        ap (λ (h : List Entry). housekeeping_of h clock) (map-append (λ (made : Entry × ℕ). made.0) s.history ((entry, s.number) ∷ []))
        ∙ law s.facts (entries_of s.history) clock entry held is
