-- A seal is 32 bytes.
use Rattle.std.proofs.Common.{◌≡◌, ℕ, zero, suc, ◌/◌, ◌%◌, ◌^◌, List, [], ◌∷◌, ◌++◌, Bool, true, nat_lt, slice_index, refl, ap₂, arith}
use Rattle.std.specs.Prelude.{◌&&◌}
use Rattle.std.specs.Int.{w32, to_be_bytes}
use Rattle.std.specs.List.{list_all}
use Rattle.std.proofs.lemmas.Bool.{and_parts, lt-ltb, ltb-true}
use Rattle.std.proofs.lemmas.List.Sums.{AllPass-from_list_all}
use Rattle.sha2.specs.Sha256.{sha256, digest_bytes}
use Rattle.mac_sha.specs.Hmac.{hmac_sha256}
use Rattle.mac_sha.proofs.HmacFacts.{hmac_length}
use Rattle.kms_names.specs.Identifier.{IsByteList}

abbrev is_byte : ℕ → Bool
is_byte b = nat_lt b 256

both : (a b : Bool) → a ≡ true → b ≡ true → a && b ≡ true
both a b p q = ap₂ (λ x y. x && y) p q

joined : (xs ys : List ℕ) → list_all is_byte xs ≡ true → list_all is_byte ys ≡ true → list_all is_byte (xs ++ ys) ≡ true
joined [] ys p q = q
joined (x ∷ xs) ys p q = let parts = and_parts (is_byte x) (list_all is_byte xs) p in both (is_byte x) (list_all is_byte (xs ++ ys)) parts.0 (joined xs ys parts.1 q)

low : (n : ℕ) → is_byte (n % 256) ≡ true
low n = lt-ltb (n % 256) 256 (omega arith)

word_bytes : (n : ℕ) → list_all is_byte (to_be_bytes w32 n) ≡ true
word_bytes n = both _ _ (low (n / 256 ^ 3)) (both _ _ (low (n / 256 ^ 2)) (both _ _ (low (n / 256 ^ 1)) (both _ _ (low n) refl)))

digest : (h : List ℕ) (n : ℕ) → list_all is_byte (digest_bytes h n) ≡ true
unfolding digest_bytes
digest h zero = refl
digest h (suc n) = joined (digest_bytes h n) (to_be_bytes w32 (slice_index h n)) (digest h n) (word_bytes (slice_index h n))

hash_bytes : (m : List ℕ) → list_all is_byte (sha256 m) ≡ true
unfolding sha256
hash_bytes m = digest _ 8

mac_bytes : (key text : List ℕ) → list_all is_byte (hmac_sha256 key text) ≡ true
unfolding hmac_sha256
mac_bytes key text = hash_bytes _

pub seal_is_bytes : (key text : List ℕ) → IsByteList 32 (hmac_sha256 key text)
seal_is_bytes key text = (hmac_length key text, λ k d lt. ltb-true _ 256 (AllPass-from_list_all is_byte (hmac_sha256 key text) (mac_bytes key text) k d lt))
