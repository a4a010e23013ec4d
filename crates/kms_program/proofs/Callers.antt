-- Who is named by a text.
use Rattle.std.proofs.Common.{◌≡◌, ℕ, List, [], Bool, true, false, Option, refl, sym, ap, ◌∙◌, subst}
use Rattle.std.proofs.lemmas.Bool.{false≢true}
use Rattle.std.specs.Str.{bytes_eq}
use Rattle.std.proofs.lemmas.Slice.Eq.{bytes_eq-Decides}
use Rattle.kms_names.specs.Reading.{some_if}
use Rattle.kms_names.specs.Principal.{IsPrincipal, principal_text, account_of}
use Rattle.kms_names.specs.declared.principals.Principal.{Principal}
use Rattle.kms_names.proofs.PrincipalFacts.{one_principal}
use Rattle.kms_names.specs.declared.principals.Principal.TheVariants.{Root, User, Role}
use Rattle.std.proofs.lemmas.List.Elements.{All-nil}
use Rattle.policy_doc.specs.declared.policies.Policy.{Policy}
use Rattle.policy_doc.specs.declared.policies.PolicyKind.TheVariants.{Identity}
use Rattle.authority.specs.Setting.{policies_of, callers_policies}
use Rattle.authority.specs.Allowed.{AreIdentityPolicies}
use Rattle.account_steps.specs.declared.facts.RealmFacts.{RealmFacts}
use Rattle.kms_program.specs.Files.{HasIdentityPolicies}
use Rattle.kms_program.specs.Settings.{Names}

module _ (account text : List ℕ) (p : Principal) (form : IsPrincipal p) (arn : text ≡ principal_text p) where
  named_where : (b : Bool) → bytes_eq (account_of p) account ≡ b → Names account text (some_if b p)
  named_where true is = record { form = form; of_account = (bytes_eq-Decides (account_of p) account).0 is; arn = arn }
  named_where false is = λ q named.
      let same : p ≡ q = one_principal p q form named.form (sym arn ∙ named.arn) in
      false≢true (sym is ∙ (bytes_eq-Decides (account_of p) account).1 (ap account_of same ∙ named.of_account))

  pub named_if : (o : Option Principal) → o ≡ some_if (bytes_eq (account_of p) account) p → Names account text o
  named_if o is = subst (Names account text) (sym is) (named_where (bytes_eq (account_of p) account) refl)

no_kind : AreIdentityPolicies []
no_kind = All-nil (λ (p : Policy). p.kind ≡ Identity)

no_policies : (caller : Principal) → AreIdentityPolicies (callers_policies [] caller)
unfolding policies_of
no_policies (Root account) = no_kind
no_policies (User account name) = no_kind
no_policies (Role account name) = no_kind

-- facts without policies have identity policies alone
pub without_policies : (facts : RealmFacts) → facts.identities ≡ [] → facts.ceiling ≡ [] → HasIdentityPolicies facts
without_policies facts identities ceiling = record {
  own = λ caller. subst (λ all. AreIdentityPolicies (callers_policies all caller)) (sym identities) (no_policies caller);
  ceiling = subst AreIdentityPolicies (sym ceiling) no_kind;
}
