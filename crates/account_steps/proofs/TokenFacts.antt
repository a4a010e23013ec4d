-- The id that a token writes.
use Rattle.std.proofs.Common.{◌≡◌, ◌≢◌, ℕ, Bool, true, false, cond, List, length, Option, Some, None, Result, Ok, refl, sym, ap, ◌∙◌, arith}
use Rattle.std.specs.Prelude.{MatchOption}
use Rattle.std.specs.Result.{result_ok}
use Rattle.std.specs.Str.{bytes_eq}
use Rattle.std.proofs.lemmas.Slice.Eq.{bytes_eq-Decides}
use Rattle.hex.specs.Hex.{encode_lower, decode_sized}
use Rattle.hex.specs.declared.error.FromHexError.{FromHexError}
use Rattle.hex.proofs.HexLemmas.{decode_sized-encode_lower, decode_sized-ok, decode_sized-twice, decode_of-ok}
use Rattle.kms_names.specs.Identifier.{IsGrantId}
use Rattle.kms_names.proofs.AsciiFacts.{IsBytes-from_list, IsByteList-from_places}
use Rattle.account_steps.specs.Parts.{grant_id_of, if_written}

-- what decodes into 32 bytes is an id
is_id : (text id : List ℕ) → decode_sized text 32 ≡ Ok id → IsGrantId id
is_id text id e =
    let long = decode_sized-ok text 32 id e in
    let of = decode_of-ok text id (sym (decode_sized-twice text 32 long) ∙ e) in
    let size : length id ≡ 32 = omega (arith, long, of.2) in
    IsByteList-from_places 32 id size (λ i. of.3 i)

ok_is : (r : Result (List ℕ) FromHexError) (id : List ℕ) → result_ok r ≡ Some id → r ≡ Ok id
ok_is (Ok found) id e = cc
ok_is r id e = cc

none_written : (text : List ℕ) → ((id : List ℕ) → IsGrantId id → text ≢ encode_lower id) → (o : Option (List ℕ)) → result_ok (decode_sized text 32) ≡ o → None ≡ if_written text o
none_written text never None e = refl
none_written text never (Some id) e = by_test (bytes_eq (encode_lower id) text) (bytes_eq-Decides (encode_lower id) text).0
  where
    by_test : (b : Bool) → (b ≡ true → encode_lower id ≡ text) → None ≡ cond b (Some id) None
    by_test true same = absurd (never id (is_id text id (ok_is (decode_sized text 32) id e)) (sym (same refl)))
    by_test false same = refl

some_written : (text id : List ℕ) → IsGrantId id → text ≡ encode_lower id → Some id ≡ if_written text (result_ok (decode_sized text 32))
some_written text id is e =
    let decodes : decode_sized text 32 ≡ Ok id = ap (λ (t : List ℕ). decode_sized t 32) e ∙ decode_sized-encode_lower id 32 is.0 (IsBytes-from_list 32 id is) in
    let same : bytes_eq (encode_lower id) text ≡ true = (bytes_eq-Decides (encode_lower id) text).1 (sym e) in
    sym (ap (λ (r : Result (List ℕ) FromHexError). if_written text (result_ok r)) decodes ∙ ap (λ (b : Bool). cond b (Some id) None) same)

pub grant_read : (text : List ℕ) (r : Option (List ℕ)) → MatchOption r ((id : List ℕ) → IsGrantId id → text ≢ encode_lower id) (λ id. IsGrantId id × (text ≡ encode_lower id)) → r ≡ grant_id_of text
unfolding grant_id_of
grant_read text None never = none_written text never (result_ok (decode_sized text 32)) refl
grant_read text (Some id) is = some_written text id is.0 is.1
