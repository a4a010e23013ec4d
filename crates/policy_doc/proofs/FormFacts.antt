-- Facts on the forms of texts.
use Rattle.std.proofs.Common.{◌≡◌, ℕ, Bool, true, false, ◌||◌, ◌&&◌, ◌==◌, List, [], ◌∷◌, ◌++◌, ◌↔◌, refl, sym, ap, ◌∙◌}
use Rattle.std.proofs.lemmas.Bool.{eqb-true}
use Rattle.std.specs.Prelude.{codes, Option, Some, None}
use Rattle.std.specs.Option.{SomeIff}
use Rattle.std.specs.Bool.{Decides}
use Rattle.std.specs.Str.Iter.{HasSubslice}
use Rattle.kms_names.specs.Account.{IsAccountNumber}
use Rattle.kms_names.specs.Reading.{some_if, is_account_number}
use Rattle.kms_names.proofs.ReadingFacts.{account_decides}
use Rattle.policy_doc.specs.Forms.{begins_with_brace, has_variable}

pub account_is : (text : List ℕ) (o : Option (List ℕ)) → SomeIff o (IsAccountNumber text) text → o ≡ some_if (is_account_number text) text
account_is text o iff = by_test (is_account_number text) (account_decides text) o iff
  where
    by_test : (b : Bool) → Decides b (IsAccountNumber text) → (o : Option (List ℕ)) → SomeIff o (IsAccountNumber text) text → o ≡ some_if b text
    by_test true decides None none = absurd (none (decides.0 refl))
    by_test true decides (Some x) some = ap Some some.1
    by_test false decides None none = refl
    by_test false decides (Some x) some = let bad : false ≡ true = decides.1 some.0 in cc

or_true : (a b : Bool) → b ≡ true → (a || b) ≡ true
or_true true b e = refl
or_true false b e = e

variable_within : (xs ys : List ℕ) → has_variable (xs ++ (36 ∷ 123 ∷ ys)) ≡ true
variable_within [] ys = refl
variable_within (x ∷ xs) ys = or_true _ _ (variable_within xs ys)

variable_more : (x : ℕ) (text : List ℕ) → HasSubslice text (codes "${") → HasSubslice (x ∷ text) (codes "${")
variable_more x text (xs, ys, e) = (x ∷ xs, ys, ap (λ s. x ∷ s) e)

both : (a b : Bool) → (a && b) ≡ true → (a ≡ true) × (b ≡ true)
both true b e = (refl, e)
both false b e = let bad : false ≡ true = e in cc

variable_here : (x : ℕ) (text : List ℕ) → ((x == 36) && begins_with_brace text) ≡ true → HasSubslice (x ∷ text) (codes "${")
variable_here x [] e = let bad : false ≡ true = (both (x == 36) false e).1 in cc
variable_here x (y ∷ text) e =
    let first : x ≡ 36 = eqb-true x 36 (both _ _ e).0 in
    let second : y ≡ 123 = eqb-true y 123 (both _ _ e).1 in
    ([], text, ap (λ a. a ∷ y ∷ text) first ∙ ap (λ b. 36 ∷ b ∷ text) second)

variable_stands : (text : List ℕ) → has_variable text ≡ true → HasSubslice text (codes "${")
variable_stands [] e = let bad : false ≡ true = e in cc
variable_stands (x ∷ text) e =
    by_test ((x == 36) && begins_with_brace text) (variable_here x text) (variable_stands text) e
  where
    by_test : (b : Bool) → (b ≡ true → HasSubslice (x ∷ text) (codes "${")) → (has_variable text ≡ true → HasSubslice text (codes "${")) → (b || has_variable text) ≡ true → HasSubslice (x ∷ text) (codes "${")
    by_test true here later t = here refl
    by_test false here later t = variable_more x text (later t)

pub variable_is : (r : Bool) (text : List ℕ) → (r ≡ true) ↔ HasSubslice text (codes "${") → r ≡ has_variable text
variable_is r text iff = same r (has_variable text) (λ t. within (iff.0 t)) (λ t. iff.1 (variable_stands text t))
  where
    within : HasSubslice text (codes "${") → has_variable text ≡ true
    within (xs, ys, e) = ap has_variable e ∙ variable_within xs ys

    same : (a b : Bool) → (a ≡ true → b ≡ true) → (b ≡ true → a ≡ true) → a ≡ b
    same true b f g = sym (f refl)
    same false true f g = g refl
    same false false f g = refl
