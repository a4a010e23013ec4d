-- The policies of a caller, found by its ARN.
use Rattle.std.proofs.Common.{◌≡◌, ◌⊎◌, ℕ, List, [], false, Option, Some, None, refl, ap, ◌∙◌, option_map, unwrap_or, inl, inr}
use Rattle.kms_names.specs.declared.accounts.AccountNumber.{AccountNumber}
use Rattle.kms_names.specs.declared.texts.Text.{Text}
use Rattle.kms_names.specs.Principal.{principal_text}
use Rattle.kms_names.specs.declared.principals.Principal.{Principal}
use Rattle.kms_names.specs.declared.principals.Principal.TheVariants.{Root, User, Role}
use Rattle.policy_doc.specs.declared.policies.Policy.{Policy}
use Rattle.authority.specs.declared.identities.Identity.{Identity}
use Rattle.authority.specs.Callers.{ArePoliciesOf, policies_at}
use Rattle.authority.specs.Setting.{identity_at, policies_or_none, policies_of, callers_policies, is_root}

or_none : (found : Option Identity) → unwrap_or (option_map (λ (identity : Identity). identity.policies) found) [] ≡ policies_or_none found
or_none (Some identity) = refl
or_none None = refl

module _ (callers : List (List ℕ × List Policy)) (identities : List Identity) (are : ArePoliciesOf callers identities) where
  found_of : (caller : Principal) → unwrap_or (policies_at callers (principal_text caller)) [] ≡ policies_of identities caller
  unfolding policies_of
  found_of caller =
      ap (λ (found : Option (List Policy)). unwrap_or found []) (are (principal_text caller)) ∙ or_none (identity_at identities (principal_text caller))

  pub found_at_arn : (caller : Principal) → is_root caller ≡ false → unwrap_or (policies_at callers (principal_text caller)) [] ≡ callers_policies identities caller
  found_at_arn (Root account) e = cc
  found_at_arn (User account name) e = found_of (User account name)
  found_at_arn (Role account name) e = found_of (Role account name)

pub not_root : (caller : Principal) → ((account : AccountNumber) × (name : Text) × (caller ≡ User account name)) ⊎ ((account : AccountNumber) × (name : Text) × (caller ≡ Role account name)) → is_root caller ≡ false
not_root caller (inl (account, name, e)) = ap is_root e
not_root caller (inr (account, name, e)) = ap is_root e
