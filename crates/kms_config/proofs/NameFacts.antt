-- What the readers of names answer, as functions of the text.
use Rattle.std.proofs.Common.{◌≡◌, ◌≢◌, ◌⊎◌, ℕ, Bool, true, false, List, Option, Some, None, Result, Ok, Err, ◌↔◌, refl, sym, ap, ◌∙◌, IsTrue}
use Rattle.std.specs.Prelude.{IfOk, IfErr}
use Rattle.std.specs.Option.{SomeIff, ok_or}
use Rattle.std.specs.Bool.{Decides}
use Rattle.kms_names.specs.Account.{IsAccountNumber}
use Rattle.kms_names.specs.Region.{IsRegion}
use Rattle.kms_names.specs.Principal.{IsPrincipal, principal_text}
use Rattle.kms_names.specs.Reading.{some_if, is_account_number, is_region_text, principal_of}
use Rattle.kms_names.specs.declared.faults.NameFault.{NameFault}
use Rattle.kms_names.specs.declared.faults.NameFault.TheVariants.{BadArn, NoMemory}
use Rattle.kms_names.specs.declared.principals.Principal.{Principal}
use Rattle.kms_names.proofs.ReadingFacts.{account_decides, region_decides}
use Rattle.kms_names.proofs.PrincipalReading.{principal_value}

by_test : (b : Bool) (text : List ℕ) → Decides b (IsAccountNumber text) → (o : Option (List ℕ)) → SomeIff o (IsAccountNumber text) text → o ≡ some_if b text
by_test true text decides None none = absurd (none (decides.0 refl))
by_test true text decides (Some x) some = ap Some some.1
by_test false text decides None none = refl
by_test false text decides (Some x) some = let bad : false ≡ true = decides.1 some.0 in cc

pub account_is : (text : List ℕ) (o : Option (List ℕ)) → SomeIff o (IsAccountNumber text) text → o ≡ some_if (is_account_number text) text
account_is text o iff = by_test (is_account_number text) text (account_decides text) o iff

same : {P : Type 0} (a b : Bool) → IsTrue a ↔ P → Decides b P → a ≡ b
same true true p q = refl
same true false p q = let bad : false ≡ true = q.1 (p.0 refl) in cc
same false true p q = p.1 (q.0 refl)
same false false p q = refl

pub region_is : (text : List ℕ) (b : Bool) → IsTrue b ↔ IsRegion text → b ≡ is_region_text text
region_is text b iff = same b (is_region_text text) iff (region_decides text)

-- what was read of a text
module _ (text : List ℕ) (answer : Result Principal NameFault) (ok : IfOk answer (λ p. IsPrincipal p × (text ≡ principal_text p)))
    (bad_arn : answer ≡ Err BadArn → (p : Principal) → IsPrincipal p → text ≢ principal_text p) (faults : IfErr answer (λ e. (e ≡ BadArn) ⊎ (e ≡ NoMemory))) where
  some_by : (o : Option Principal) (p : Principal) → Ok p ≡ ok_or o BadArn → Some p ≡ o
  some_by None p e = cc
  some_by (Some q) p e = cc

  none_by : (o : Option Principal) (e : NameFault) → Err e ≡ ok_or o BadArn → None ≡ o
  none_by None e f = refl
  none_by (Some q) e f = cc

  pub principal_found : (p : Principal) → answer ≡ Ok p → Some p ≡ principal_of text
  principal_found p is = some_by (principal_of text) p (sym is ∙ principal_value text answer ok bad_arn faults (λ f. cc))

  pub no_principal : answer ≡ Err BadArn → None ≡ principal_of text
  no_principal is = none_by (principal_of text) BadArn (sym is ∙ principal_value text answer ok bad_arn faults (λ f. let g : Err BadArn ≡ Err NoMemory = sym is ∙ f in cc))
