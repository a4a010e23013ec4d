-- The numbers of actions, and the bits of a set of them.
use Rattle.std.proofs.Common.{◌≡◌, ◌≢◌, ◌⊎◌, inl, inr, ℕ, zero, suc, ◌<◌, ◌≤◌, ◌+◌, ◌==◌, Bool, true, false, ◌||◌, refl, sym, ◌∙◌, ◌*◌, ◌^◌, ◌%◌, ap, subst, arith, lit<, lit≤, get_or, length, w64}
use Rattle.std.specs.Prelude.{max, bit_or}
use Rattle.std.proofs.lemmas.Bool.{eqb-true, eq-eqb}
use Rattle.std.specs.Int.{bit_at}
use Rattle.std.proofs.lemmas.Nat.Bits.{bit_at_set_same, bit_at_set_other, bit_at_or, bit_at-lt}
use Rattle.kms_names.specs.Action.{all_actions, action_number}
use Rattle.kms_names.specs.ActionSet.{has_action, with_action}
use Rattle.kms_names.specs.declared.actions.Action.{Action}
use Rattle.kms_names.specs.declared.actions.Action.TheVariants as action

pub number_below : (a : Action) → action_number a < length all_actions
number_below action.CreateKey = lit< tt
number_below _ = lit< tt

-- a set of 64 bits has room for each
has_bit : (a : Action) → action_number a < 64
has_bit a = let few : length all_actions ≤ 64 = lit≤ tt in let small = number_below a in omega arith

-- an action stands at its number
pub at_number : (a d : Action) → get_or all_actions (action_number a) d ≡ a
at_number action.CreateKey d = refl
at_number _ d = refl

pub same_number : (a b : Action) → action_number a ≡ action_number b → a ≡ b
same_number a b e = sym (at_number a a) ∙ (ap (λ n. get_or all_actions n a) e ∙ at_number b a)

-- two actions are one, or two
same_or_other : (a b : Action) → (a ≡ b) ⊎ (a ≢ b)
same_or_other a b = by_test (action_number a == action_number b) (eqb-true (action_number a) (action_number b)) (eq-eqb (action_number a) (action_number b))
  where
    by_test : (t : Bool) → (t ≡ true → action_number a ≡ action_number b) → (action_number a ≡ action_number b → t ≡ true) → (a ≡ b) ⊎ (a ≢ b)
    by_test true is back = inl (same_number a b (is refl))
    by_test false is back = inr (λ e. let bad : false ≡ true = back (ap action_number e) in cc)

-- a set, and the same with one more action
module _ (old new : ℕ) (one : Action) (added : has_action new one ≡ true) (others : (other : Action) → other ≢ one → has_action new other ≡ has_action old other) where
  pub each_has : (P : Action → Type 0) → P one → ((a : Action) → has_action old a ≡ true → P a) → (a : Action) → has_action new a ≡ true → P a
  each_has P here there a h = elim (same_or_other a one) [ inl same ↦ by_same a same | inr other ↦ there a (sym (others a other) ∙ h) ]
    where
      by_same : (b : Action) → b ≡ one → P b
      by_same b same = subst P (sym same) here

or_bit : (a b : ℕ) → a < 2 → b < 2 → (max a b == 1) ≡ (a == 1) || (b == 1)
or_bit zero zero la lb = refl
or_bit zero (suc zero) la lb = refl
or_bit (suc zero) zero la lb = refl
or_bit (suc zero) (suc zero) la lb = refl
or_bit (suc (suc n)) b la lb = absurd (omega arith)
or_bit zero (suc (suc n)) la lb = absurd (omega arith)
or_bit (suc zero) (suc (suc n)) la lb = absurd (omega arith)

-- one shifted to the place of an action
shifted : (a : Action) → 1 * 2 ^ action_number a % 2 ^ 64 ≡ 2 ^ action_number a
shifted action.CreateKey = refl
shifted _ = refl

pub with_bit : (bits same : ℕ) → bits ≡ same → (a : Action) → bit_or bits (1 * 2 ^ action_number a % 2 ^ 64) ≡ with_action a same
with_bit bits same e a = ap (bit_or bits) (shifted a) ∙ ap (with_action a) e

pub has_added : (bits : ℕ) (a : Action) → has_action (with_action a bits) a ≡ true
has_added bits a = ap (λ n. has_action (bit_or bits n) a) (sym (shifted a)) ∙ ap (λ b. b == 1) (bit_at_set_same w64 bits (action_number a) (has_bit a))

pub has_others : (bits : ℕ) (a other : Action) → other ≢ a → has_action (with_action a bits) other ≡ has_action bits other
has_others bits a other differ =
    ap (λ n. has_action (bit_or bits n) other) (sym (shifted a))
    ∙ ap (λ b. b == 1) (bit_at_set_other w64 bits (action_number a) (has_bit a) (action_number other) (λ n. differ (same_number other a n)))

pub bits_or : (m n k l : ℕ) → m ≡ k → n ≡ l → (a : Action) → has_action (bit_or m n) a ≡ has_action k a || has_action l a
bits_or m n k l e f a =
    ap (λ b. b == 1) (bit_at_or m n (action_number a)) ∙ (or_bit (bit_at m (action_number a)) (bit_at n (action_number a)) (bit_at-lt m (action_number a)) (bit_at-lt n (action_number a))
    ∙ (ap (λ x. has_action x a || has_action n a) e ∙ ap (λ x. has_action k a || has_action x a) f))

-- an action before the next one, or the next one
before : (n : ℕ) (one : Action) → one ≡ get_or all_actions n one → (a : Action) → a ≢ one → action_number a < n + 1 → action_number a < n
before n one is a other small = by_test (action_number a == n) (eqb-true (action_number a) n) (eq-eqb (action_number a) n)
  where
    by_test : (t : Bool) → (t ≡ true → action_number a ≡ n) → (action_number a ≡ n → t ≡ true) → action_number a < n
    by_test true same back = absurd (other (sym (at_number a one) ∙ (ap (λ k. get_or all_actions k one) (same refl) ∙ sym is)))
    by_test false same back = let differ : action_number a ≢ n = λ e. (let bad : false ≡ true = back e in cc) in omega arith

-- of the first n actions those with a property are in a set, and every action in it has the property
pub record IsSetOf (P : Action → Type 0) (n : ℕ) (bits : ℕ) : Type 0 where
  pub each : (a : Action) → has_action bits a ≡ true → P a
  pub all : (a : Action) → action_number a < n → P a → has_action bits a ≡ true

module _ (P : Action → Type 0) where
  pub none_yet : (bits : ℕ) → ((a : Action) → has_action bits a ≡ false) → IsSetOf P 0 bits
  none_yet bits empty = record {
    each = λ a h. let bad : false ≡ true = sym (empty a) ∙ h in cc;
    all = λ a small. absurd (omega arith);
  }

  -- the next action has the property, and is added
  pub one_added : (n old new : ℕ) (one : Action) → one ≡ get_or all_actions n one → P one → has_action new one ≡ true
      → ((other : Action) → other ≢ one → has_action new other ≡ has_action old other) → IsSetOf P n old → IsSetOf P (n + 1) new
  one_added n old new one is here added others so_far = record {
    each = each_has old new one added others P here so_far.each;
    all = λ a small p. elim (same_or_other a one) [ inl same ↦ ap (has_action new) same ∙ added | inr other ↦ others a other ∙ so_far.all a (before n one is a other small) p ];
  }

  -- the next action does not have it
  pub one_passed : (n bits : ℕ) (one : Action) → one ≡ get_or all_actions n one → ¬ (P one) → IsSetOf P n bits → IsSetOf P (n + 1) bits
  one_passed n bits one is none so_far = record {
    each = so_far.each;
    all = λ a small p. elim (same_or_other a one) [ inl same ↦ absurd (none (subst P same p)) | inr other ↦ so_far.all a (before n one is a other small) p ];
  }

  pub all_passed : (n bits : ℕ) → length all_actions ≤ n → IsSetOf P n bits → (a : Action) → (has_action bits a ≡ true → P a) × (P a → has_action bits a ≡ true)
  all_passed n bits enough done a = (done.each a, λ p. let small : action_number a < length all_actions = number_below a in let within : action_number a < n = omega arith in done.all a within p)
