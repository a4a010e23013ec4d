-- An ARN of the key service has one region, account and resource.
use Rattle.std.proofs.Common.{◌≡◌, ◌≢◌, ℕ, List, ◌∷◌, ◌++◌, sym, ◌∙◌, subst, inl, inr}
use Rattle.std.specs.Prelude.{codes}
use Rattle.std.proofs.lemmas.List.Elements.{All-weaker}
use Rattle.kms_names.specs.Parts.{HasNoColon}
use Rattle.kms_names.specs.Account.{IsAccountNumber}
use Rattle.kms_names.specs.Region.{IsRegion}
use Rattle.kms_names.specs.Reference.{IsKmsArn, IsArn, IsResource}
use Rattle.kms_names.specs.Target.{IsTarget}
use Rattle.kms_names.specs.declared.references.Target.{Target}
use Rattle.kms_names.specs.declared.references.Target.TheVariants.{Key, Alias}
use Rattle.kms_names.proofs.AsciiFacts.{region_character_is_no_colon}
use Rattle.kms_names.proofs.PartsFacts.{one_cut, one_part, colon_stands, no_part_without_colon}
use Rattle.kms_names.proofs.PrincipalFacts.{account_has_no_colon}

abbrev pub kms_front : List ℕ
kms_front = codes "arn:aws:kms:"

pub region_has_no_colon : (r : List ℕ) → IsRegion r → HasNoColon r
region_has_no_colon r h = All-weaker _ (λ c. c ≢ 58) region_character_is_no_colon r h.2

module _ (text : List ℕ) where
  pub no_arn_without_region : (rest : List ℕ) → text ≡ kms_front ++ rest → HasNoColon rest → (r a s : List ℕ) → ¬ (IsKmsArn text r a s)
  no_arn_without_region rest e none r a s at = no_part_without_colon kms_front rest text r (a ++ 58 ∷ s) e none at.2

  -- of a text that was cut at the first colon behind the front
  module _ (x y : List ℕ) (none : HasNoColon x) (e : text ≡ kms_front ++ (x ++ 58 ∷ y)) where
    parts : (r a s : List ℕ) → IsKmsArn text r a s → (r ≡ x) × (a ++ 58 ∷ s ≡ y)
    parts r a s at = one_part kms_front text r x (a ++ 58 ∷ s) y (region_has_no_colon r at.0) none at.2 e

    pub no_arn_without_account : HasNoColon y → (r a s : List ℕ) → ¬ (IsKmsArn text r a s)
    no_arn_without_account none_y r a s at = colon_stands a s (subst HasNoColon (sym (parts r a s at).1) none_y)

    pub no_arn_at_other_account : (b z : List ℕ) → HasNoColon b → y ≡ b ++ 58 ∷ z → ¬ (IsAccountNumber b) → (r a s : List ℕ) → ¬ (IsKmsArn text r a s)
    no_arn_at_other_account b z none_b cut wrong r a s at =
        let same : a ≡ b = (one_cut a b s z (account_has_no_colon a at.1) none_b ((parts r a s at).1 ∙ cut)).0 in
        wrong (subst IsAccountNumber same at.1)

    pub no_arn_at_other_region : ¬ (IsRegion x) → (r a s : List ℕ) → ¬ (IsKmsArn text r a s)
    no_arn_at_other_region wrong r a s at = wrong (subst IsRegion (parts r a s at).0 at.0)

  pub same_kms_arn : (r a s r' a' s' : List ℕ) → IsKmsArn text r a s → IsKmsArn text r' a' s' → (r ≡ r') × (a ≡ a') × (s ≡ s')
  same_kms_arn r a s r' a' s' here there =
      let cut = parts r' (a' ++ 58 ∷ s') (region_has_no_colon r' there.0) there.2 r a s here in
      let behind = one_cut a a' s s' (account_has_no_colon a here.1) (account_has_no_colon a' there.1) cut.1 in
      (cut.0, behind.0, behind.1)

  pub no_arn_of_other_resource : (r a s : List ℕ) → IsKmsArn text r a s → ¬ (IsResource s) → ¬ (IsArn text)
  no_arn_of_other_resource r a s at wrong (r', a', s', there, resource) =
      wrong (subst IsResource (sym (same_kms_arn r a s r' a' s' at there).2) resource)

pub target_is_resource : (s : List ℕ) (t : Target) → IsTarget s t → IsResource s
target_is_resource s (Key key) h = inl (key, h)
target_is_resource s (Alias name) h = inr h.0
