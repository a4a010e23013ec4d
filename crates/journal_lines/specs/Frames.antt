-- The first and the last line of a journal, as they are read.
use Rattle.std.specs.Prelude.{ℕ, List, length, take, drop, nat_lt, ◌==◌, if◌then◌else◌, codes, Option, Some, None, option_map, option_and_then}
use Rattle.std.specs.Result.{result_ok}
use Rattle.std.specs.Str.{bytes_eq}
use Rattle.hex.specs.Hex.{encode_lower, decode_sized}
use Rattle.kms_names.specs.Reading.{some_if}
use Rattle.journal_lines.specs.Cuts.{cut_at, number_before}
use Rattle.journal_lines.specs.FrameLines.{head_front}

-- what follows a front, where the text begins with it
abbrev pub behind : List ℕ → List ℕ → Option (List ℕ)
behind front text = if bytes_eq (take (length front) text) front then Some (drop (length front) text) else None

-- a boot number has 32 bits
abbrev pub if_boot : ℕ × List ℕ → Option (ℕ × List ℕ)
if_boot (boot, rest) = some_if (nat_lt boot 4294967296) (boot, rest)

-- the boot number behind the front of a first line, and what follows the line
abbrev pub boot_behind : List ℕ → List ℕ → Option (ℕ × List ℕ)
boot_behind front text = option_and_then if_boot (option_and_then (number_before 10) (behind front text))

-- the boot number of the first line of this account and region, and what follows the line
unfoldable pub head_in : List ℕ → List ℕ → List ℕ → Option (ℕ × List ℕ)
head_in account region text = boot_behind (head_front account region) text

-- the 32 bytes whose lower-case hex digits these are
abbrev pub if_seal_of : List ℕ → List ℕ → Option (List ℕ)
if_seal_of text seal = some_if (bytes_eq (encode_lower seal) text) seal

abbrev pub seal_in : List ℕ → Option (List ℕ)
seal_in text = option_and_then (if_seal_of text) (result_ok (decode_sized text 32))

abbrev pub seal_alone : ℕ → List ℕ × List ℕ → Option (ℕ × List ℕ)
seal_alone number (text, rest) = if length rest == 0 then option_map (λ seal. (number, seal)) (seal_in text) else None

abbrev pub seal_behind : ℕ × List ℕ → Option (ℕ × List ℕ)
seal_behind (number, rest) = option_and_then (seal_alone number) (cut_at 10 rest)

-- the number and the seal of a last line
unfoldable pub end_in : List ℕ → Option (ℕ × List ℕ)
end_in line = option_and_then seal_behind (option_and_then (number_before 32) (behind (codes "end ") line))
