-- An id from its two parts.
use Rattle.std.proofs.Common.{◌≡◌, ◌+◌, ◌-◌, ◌≤◌, ◌++◌, ℕ, List, take, length, sym, ap, ap₂, append_assoc, ◌∙◌, arith}
use Rattle.std.proofs.lemmas.List.{take_all}
use Rattle.mac_sha.specs.Hmac.{hmac_sha256}
use Rattle.account_steps.specs.Ids.{be32, be48}

-- so many bytes of the digest of a name, the boot number and the place, and then the place, which is written over the last six bytes
pub id_of_parts : (name : List ℕ) (n : ℕ) (root boot place digest first id : List ℕ) (b p : ℕ)
    → digest ≡ hmac_sha256 root (name ++ (boot ++ place)) → boot ≡ be32 b → place ≡ be48 p
    → length first ≡ n + 6 → length id ≡ n + 6
    → take n first ≡ take n digest → take (length first) id ≡ take (length first - 6) first ++ place
    → id ≡ take n (hmac_sha256 root (name ++ be32 b ++ be48 p)) ++ be48 p
id_of_parts name n root boot place digest first id b p mac is_boot is_place m k head all =
    let short : length id ≤ length first = omega (arith, m, k) in
    let count : length first - 6 ≡ n = omega (arith, m) in
    let message : name ++ (boot ++ place) ≡ name ++ be32 b ++ be48 p = ap₂ (λ x y. name ++ (x ++ y)) is_boot is_place ∙ sym (append_assoc name (be32 b) (be48 p)) in
    let made : digest ≡ hmac_sha256 root (name ++ be32 b ++ be48 p) = mac ∙ ap (hmac_sha256 root) message in
    sym (take_all (length first) id short) ∙ all ∙ ap₂ (λ x y. x ++ y) (ap (λ (i : ℕ). take i first) count ∙ head ∙ ap (take n) made) is_place
