-- Bytes of texts and of ids.
use Rattle.std.proofs.Common.{◌≡◌, ℕ, zero, suc, ◌+◌, ◌/◌, ◌<◌, List, [], ◌∷◌, ◌++◌, Bool, true, false, cond, nat_lt, IsUtf8, inl, inr, refl, subst, arith}
use Rattle.std.specs.Prelude.{All}
use Rattle.std.proofs.Math.Utf8.{encode, encodes, scalar, scalars, next, scalar_cases}
use Rattle.std.proofs.lemmas.Bool.{and_parts, ltb-true}
use Rattle.base64.specs.GeneralPurpose.{IsBytes}

pub nil : IsBytes []
nil i = omega arith

pub cons : (b : ℕ) (bytes : List ℕ) → b < 256 → IsBytes bytes → IsBytes (b ∷ bytes)
cons b bytes small rest zero = small
cons b bytes small rest (suc i) = rest i

pub append : (a b : List ℕ) → IsBytes a → IsBytes b → IsBytes (a ++ b)
append [] b p q = q
append (x ∷ a) b p q = cons x (a ++ b) (p 0) (append a b (λ i. p (suc i)) q)

pub from_all : (bytes : List ℕ) → All (λ b. b < 256) bytes → IsBytes bytes
from_all [] h = nil
from_all (b ∷ bytes) h = cons b bytes (h 0 0 (omega arith)) (from_all bytes (λ k d lt. h (suc k) d (omega arith)))

-- ---- UTF-8

by_test : (b : Bool) (x y : List ℕ) → (b ≡ true → IsBytes x) → (b ≡ false → IsBytes y) → IsBytes (cond b x y)
by_test true x y p q = p refl
by_test false x y p q = q refl

below : (c : ℕ) → scalar c ≡ true → c < 1114112
below c is = elim (scalar_cases c is) [ inl low ↦ omega arith | inr high ↦ high.1 ]

next_bytes : (bits : ℕ) (bytes : List ℕ) → IsBytes bytes → IsBytes (next bits ∷ bytes)
next_bytes bits bytes rest = cons (next bits) bytes (omega arith) rest

encode_bytes : (c : ℕ) → c < 1114112 → IsBytes (encode c)
unfolding encode
encode_bytes c small =
    by_test (nat_lt c 128) _ _ (λ e. let lt = ltb-true c 128 e in cons c [] (omega arith) nil)
    (λ _. by_test (nat_lt c 2048) _ _ (λ e. let lt = ltb-true c 2048 e in cons (192 + c / 64) (next c ∷ []) (omega arith) (next_bytes c [] nil))
    (λ _. by_test (nat_lt c 65536) _ _ (λ e. let lt = ltb-true c 65536 e in cons (224 + c / 4096) (next (c / 64) ∷ next c ∷ []) (omega arith) (next_bytes (c / 64) (next c ∷ []) (next_bytes c [] nil)))
    (λ _. cons (240 + c / 262144) (next (c / 4096) ∷ next (c / 64) ∷ next c ∷ []) (omega arith) (next_bytes (c / 4096) (next (c / 64) ∷ next c ∷ []) (next_bytes (c / 64) (next c ∷ []) (next_bytes c [] nil))))))

encodes_bytes : (cs : List ℕ) → scalars cs ≡ true → IsBytes (encodes cs)
encodes_bytes [] is = nil
encodes_bytes (c ∷ cs) is =
    let parts = and_parts (scalar c) (scalars cs) is in append (encode c) (encodes cs) (encode_bytes c (below c parts.0)) (encodes_bytes cs parts.1)

pub from_utf8 : (text : List ℕ) → IsUtf8 text → IsBytes text
from_utf8 text u = subst IsBytes u.1.1 (encodes_bytes u.0 u.1.0)
