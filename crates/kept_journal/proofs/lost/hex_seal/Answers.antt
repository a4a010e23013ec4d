-- A seal of lower-case digits reads back.
use Rattle.std.proofs.Common.{◌≡◌, ℕ, ◌<◌, length, get_or, rules, Ok, ap, sym, ◌∙◌, true}
use Rattle.std.specs.Str.{bytes_eq}
use Rattle.std.specs.Result.{is_ok, result_ok}
use Rattle.std.proofs.lemmas.Bool.{false≢true}
use Rattle.std.proofs.lemmas.Option.{same_Some}
use Rattle.std.proofs.lemmas.Slice.Eq.{bytes_eq-Decides}
use Rattle.hex.specs.Hex.{decode_sized, encode_lower}
use Rattle.hex.proofs.HexLemmas.{decode_sized-encode_lower}
use Rattle.kms_names.proofs.AsciiFacts.{IsBytes-from_list, IsByteList-from_places}
use Rattle.kept_journal.proofs.lost.hex_seal.Goals as goal

pub returns-in_err-seal : goal.returns-in_err-seal
returns-in_err-seal c = rw c.from_residual.ensures (λ bytes id e.
    let reads : decode_sized c.args.digits.now 32 ≡ Ok bytes = ap (λ t. decode_sized t 32) e ∙ decode_sized-encode_lower bytes 32 id.0 (IsBytes-from_list 32 bytes id) in
    false≢true (c.in_err-seal.ensures.variant ∙ ap is_ok (c.from_hex.ensures ∙ reads)))

pub returns-else-eq : goal.returns-else-eq
returns-else-eq c = λ bytes id e.
    let reads : decode_sized c.args.digits.now 32 ≡ Ok bytes = ap (λ t. decode_sized t 32) e ∙ decode_sized-encode_lower bytes 32 id.0 (IsBytes-from_list 32 bytes id) in
    let read : c.in_ok-seal.seal ≡ bytes = same_Some _ _ (c.in_ok-seal.ensures.value ∙ ap result_ok (c.from_hex.ensures ∙ reads)) in
    let written : c.as_slice-2.result.now ≡ encode_lower c.in_ok-seal.seal = search rules in
    let equal : bytes_eq c.as_slice-2.result.now c.args.digits.now ≡ true = (bytes_eq-Decides _ _).1 (written ∙ ap encode_lower read ∙ sym e) in
    false≢true (c.if-eq.ensures ∙ equal)

pub returns-then-eq : goal.returns-then-eq
returns-then-eq c =
    let found : (length c.in_ok-seal.seal ≡ 32) × ((i : ℕ) → get_or c.in_ok-seal.seal i 0 < 256) × (c.args.digits.now ≡ encode_lower c.in_ok-seal.seal) = search rules in
    (IsByteList-from_places 32 _ found.0 found.1, found.2)
