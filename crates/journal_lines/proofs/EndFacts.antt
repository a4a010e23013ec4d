-- What is read as a last line is one, and what isn't is none.
use Rattle.std.proofs.Common.{◌≡◌, ℕ, ◌+◌, List, length, codes, Bool, true, false, cond, Option, Some, None, Result, Ok, Err, refl, sym, ap, subst, ◌∙◌, arith}
use Rattle.std.specs.Prelude.{◌==◌}
use Rattle.std.specs.Option.{option_map, option_and_then}
use Rattle.std.specs.Result.{result_ok}
use Rattle.std.specs.Str.{bytes_eq}
use Rattle.hex.specs.Hex.{encode_lower, decode_sized}
use Rattle.hex.specs.declared.error.FromHexError.{FromHexError}
use Rattle.hex.proofs.HexLemmas.{decode_sized-ok, decode_sized-twice, decode_of-ok}
use Rattle.kms_names.specs.Identifier.{IsByteList}
use Rattle.kms_names.specs.Reading.{some_if}
use Rattle.kms_names.proofs.AsciiFacts.{IsByteList-from_places}
use Rattle.journal_lines.specs.Cuts.{cut_at, number_before}
use Rattle.journal_lines.specs.Frames.{behind, if_seal_of, seal_in, seal_alone, seal_behind, end_in}
use Rattle.journal_lines.specs.FrameLines.{end_line, IsEnd}
use Rattle.journal_lines.proofs.FrameFacts.{end_told, end_is}

some_is : {A : Type 0} (b : Bool) (x y : A) → some_if b x ≡ Some y → x ≡ y
some_is true x y e = cc
some_is false x y e = cc

if_some : {A : Type 0} (b : Bool) (o : Option A) (x : A) → cond b o None ≡ Some x → o ≡ Some x
if_some true o x e = e
if_some false o x e = cc

through : {A B : Type 0} (Is : B → Type 0) (next : A → Option B) (o : Option A) (b : B) → ((a : A) → next a ≡ Some b → Is b) → option_and_then next o ≡ Some b → Is b
through Is next None b each e = cc
through Is next (Some a) b each e = each a e

decoded_bytes : (text bytes : List ℕ) → decode_sized text 32 ≡ Ok bytes → IsByteList 32 bytes
decoded_bytes text bytes e =
    let size = decode_sized-ok text 32 bytes e in
    let ok = decode_of-ok text bytes (sym (decode_sized-twice text 32 size) ∙ e) in
    IsByteList-from_places 32 bytes (omega (arith, size, ok.2)) ok.3

found_bytes : (text : List ℕ) (r : Result (List ℕ) FromHexError) (seal : List ℕ) → ((bytes : List ℕ) → r ≡ Ok bytes → IsByteList 32 bytes)
    → option_and_then (if_seal_of text) (result_ok r) ≡ Some seal → IsByteList 32 seal
found_bytes text (Err fault) seal each e = cc
found_bytes text (Ok bytes) seal each e = subst (IsByteList 32) (some_is (bytes_eq (encode_lower bytes) text) bytes seal e) (each bytes refl)

seal_bytes : (text seal : List ℕ) → seal_in text ≡ Some seal → IsByteList 32 seal
seal_bytes text seal e = found_bytes text (decode_sized text 32) seal (decoded_bytes text) e

abbrev HasBytes : ℕ × List ℕ → Type 0
HasBytes found = IsByteList 32 found.1

numbered : (number : ℕ) (o : Option (List ℕ)) (found : ℕ × List ℕ) → ((seal : List ℕ) → o ≡ Some seal → IsByteList 32 seal) → option_map (λ s. (number, s)) o ≡ Some found → HasBytes found
numbered number None found each e = cc
numbered number (Some seal) found each e = let same : (number, seal) ≡ found = cc in subst HasBytes same (each seal refl)

alone : (number : ℕ) (cut : List ℕ × List ℕ) (found : ℕ × List ℕ) → seal_alone number cut ≡ Some found → HasBytes found
alone number (text, rest) found e = numbered number (seal_in text) found (seal_bytes text) (if_some (length rest == 0) _ found e)

behind_number : (cut found : ℕ × List ℕ) → seal_behind cut ≡ Some found → HasBytes found
behind_number (number, rest) found e = through HasBytes (seal_alone number) (cut_at 10 rest) found (λ cut. alone number cut found) e

end_bytes : (line : List ℕ) (found : ℕ × List ℕ) → end_in line ≡ Some found → HasBytes found
unfolding end_in
end_bytes line found e = through HasBytes seal_behind (option_and_then (number_before 32) (behind (codes "end ") line)) found (λ cut. behind_number cut found) e

-- what is read as a last line is one
pub end_read : (line : List ℕ) (found : ℕ × List ℕ) → end_in line ≡ Some found → IsEnd line found.0 found.1
end_read line found e = let is = end_is line found e in record { short = is.0; seals = end_bytes line found e; is = is.1 }

not_none : (found : ℕ × List ℕ) → None ≡ Some found → ⊥
not_none found e = cc

-- what isn't read as one is none
pub no_end : (line : List ℕ) → end_in line ≡ None → (number : ℕ) (seal : List ℕ) → ¬ (IsEnd line number seal)
no_end line none number seal end =
    let told : None ≡ Some (number, seal) = sym none ∙ ap end_in end.is ∙ end_told number seal end.short end.seals in not_none (number, seal) told
