-- The pairs that the encoding of a context stands for.
use Rattle.std.specs.Prelude.{ℕ, suc, zero, List, [], ◌∷◌, length, take, drop, nat_le, Bool, true, ◌&&◌, if◌then◌else◌, Option, Some, None, option_map, option_and_then}
use Rattle.std.specs.Str.{is_utf8}
use Rattle.std.specs.Int.{w32, from_be_bytes}
use Rattle.std.specs.Cmp.Lexicographic.{slice_cmp}
use Rattle.std.specs.Ordering.{nat_cmp, is_lt}
use Rattle.kms_names.specs.Reading.{some_if}
use Rattle.enc_context.specs.Encoding.{encoding_of}
use Rattle.enc_context.specs.declared.pairs.Pair.{Pair}

-- so many bytes, where there are, which are UTF-8, and what follows them
abbrev pub cut_by : ℕ → List ℕ → Option (List ℕ × List ℕ)
cut_by size bytes = if nat_le size (length bytes) then some_if (is_utf8 (take size bytes)) (take size bytes, drop size bytes) else None

-- a text behind its length in 4 bytes, high byte first, and what follows it
abbrev pub cut_text : List ℕ → Option (List ℕ × List ℕ)
cut_text bytes = if nat_le 4 (length bytes) then cut_by (from_be_bytes w32 (take 4 bytes)) (drop 4 bytes) else None

abbrev pub pair_and : List ℕ → List ℕ × List ℕ → Pair × List ℕ
pair_and key (value, rest) = (record { key = key; value = value }, rest)

abbrev pub value_behind : List ℕ × List ℕ → Option (Pair × List ℕ)
value_behind (key, rest) = option_map (pair_and key) (cut_text rest)

-- a pair and what follows it
unfoldable pub cut_pair : List ℕ → Option (Pair × List ℕ)
cut_pair bytes = option_and_then value_behind (cut_text bytes)

-- the pairs that bytes encode, of which there are at most so many
abbrev pub pairs_within : ℕ → List ℕ → Option (List Pair)
pairs_within n [] = Some []
pairs_within zero (b ∷ bytes) = None
pairs_within (suc n) (b ∷ bytes) = option_and_then (λ p. option_map (λ pairs. p.0 ∷ pairs) (pairs_within n p.1)) (cut_pair (b ∷ bytes))

-- the pairs that bytes encode
unfoldable pub pairs_of : List ℕ → Option (List Pair)
pairs_of bytes = pairs_within (length bytes) bytes

-- each key comes before the next, and this one before the first
abbrev pub ascend_behind : List ℕ → List Pair → Bool
ascend_behind key [] = true
ascend_behind key (pair ∷ pairs) = is_lt (slice_cmp nat_cmp key pair.key) && ascend_behind pair.key pairs

abbrev pub ascend : List Pair → Bool
ascend [] = true
ascend (pair ∷ pairs) = ascend_behind pair.key pairs

-- pairs in order, of which the encoding has at most 8,192 bytes
abbrev pub context_by : List Pair → Option (List Pair)
context_by pairs = if ascend pairs then some_if (nat_le (length (encoding_of pairs)) 8192) pairs else None

abbrev pub context_of : List ℕ → Option (List Pair)
context_of bytes = option_and_then context_by (pairs_of bytes)
