-- The principal whose ARN a text is.
use Rattle.std.proofs.Common.{◌≡◌, ◌≢◌, ◌⊎◌, List, ℕ, Option, Some, None, Result, Ok, Err, refl, sym, ◌∙◌}
use Rattle.std.specs.Prelude.{IfOk, IfErr, ok_or}
use Rattle.kms_names.specs.Principal.{IsPrincipal, principal_text}
use Rattle.kms_names.specs.Reading.{principal_of}
use Rattle.kms_names.specs.declared.faults.NameFault.{NameFault}
use Rattle.kms_names.specs.declared.faults.NameFault.TheVariants.{BadArn, NoMemory}
use Rattle.kms_names.specs.declared.principals.Principal.{Principal}
use Rattle.kms_names.proofs.PrincipalReading.{principal_value}
use Rattle.kms_json.specs.declared.refusals.Refusal.TheVariants as refusal
use Rattle.account_steps.specs.Given.{principal_in}

module _ (text : List ℕ) (answer : Result Principal NameFault) (ok : IfOk answer (λ p. IsPrincipal p × (text ≡ principal_text p)))
    (bad_arn : answer ≡ Err BadArn → (p : Principal) → IsPrincipal p → text ≢ principal_text p) (faults : IfErr answer (λ e. (e ≡ BadArn) ⊎ (e ≡ NoMemory))) where
  by_answer : answer ≢ Err NoMemory → (o : Option Principal) → answer ≡ ok_or o BadArn → (r : Result Principal NameFault) → answer ≡ r
      → ((p : Principal) → r ≡ Ok p → ok_or o refusal.InvalidArn ≡ Ok p) × ((e : NameFault) → r ≡ Err e → ok_or o refusal.InvalidArn ≡ Err refusal.InvalidArn)
  by_answer memory (Some q) is r same = (λ p e. let one : Ok q ≡ Ok p = sym is ∙ same ∙ e in cc, λ f e. let bad : Ok q ≡ Err f = sym is ∙ same ∙ e in cc)
  by_answer memory None is r same = (λ p e. let bad : Err BadArn ≡ Ok p = sym is ∙ same ∙ e in cc, λ f e. cc)

  pub principal_found : (p : Principal) → answer ≡ Ok p → principal_in text ≡ Ok p
  principal_found p is =
      let memory : answer ≢ Err NoMemory = λ f. let bad : Ok p ≡ Err NoMemory = sym is ∙ f in cc in
      (by_answer memory (principal_of text) (principal_value text answer ok bad_arn faults memory) answer refl).0 p is

  pub no_principal : (e : NameFault) → e ≢ NoMemory → answer ≡ Err e → principal_in text ≡ Err refusal.InvalidArn
  no_principal e other is =
      let memory : answer ≢ Err NoMemory = λ f. other (let same : Err e ≡ Err NoMemory = sym is ∙ f in cc) in
      (by_answer memory (principal_of text) (principal_value text answer ok bad_arn faults memory) answer refl).1 e is
