-- What holds of the definitions.
use Rattle.std.specs.Prelude.{◌≡◌, ◌≢◌, ℕ, ◌+◌, ◌<◌, ◌≤◌, List, [], length, slice_index_or, Some, None}
use Rattle.std.specs.List.{concat}
use Rattle.gcm_seal.specs.Blocks.{blocks_of}
use Rattle.gcm_seal.specs.Gcm.{sealed_text, tag_of, open_of}

-- what was sealed is opened, under its tag, to the text that was sealed
abbrev pub OpensWhatWasSealed : Type 0
OpensWhatWasSealed =
    (key iv aad text : List ℕ)
    → open_of key iv aad (sealed_text key iv text) (tag_of key iv aad (sealed_text key iv text)) ≡ Some text

-- a tag that is not the one of the ciphertext opens nothing
abbrev pub OpensNothingElse : Type 0
OpensNothingElse =
    (key iv aad ciphertext tag : List ℕ) → tag ≢ tag_of key iv aad ciphertext
    → open_of key iv aad ciphertext tag ≡ None

-- the blocks of a text, joined, are the text; all but the last have 16 bytes, and the last has from 1
-- to 16
abbrev pub BlocksAreTheText : List ℕ → Type 0
BlocksAreTheText text =
    (concat (blocks_of text) ≡ text)
    × ((i : ℕ) → i + 1 < length (blocks_of text) → length (slice_index_or (blocks_of text) i []) ≡ 16)
    × ((i : ℕ) → i + 1 ≡ length (blocks_of text)
    → (0 < length (slice_index_or (blocks_of text) i [])) × (length (slice_index_or (blocks_of text) i []) ≤ 16))
