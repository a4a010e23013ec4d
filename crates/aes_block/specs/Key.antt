-- What is seen of a key.
use Rattle.std.specs.Prelude.{◌≡◌, ℕ, List, take}
use Rattle.std.specs.List.{flat_map}
use Rattle.aes_block.specs.Schedule.{key_expansion}
use Rattle.aes_block.specs.Words.{words_of}
use Rattle.aes_block.specs.declared.key.AesKey.TheInside.{Inside}

-- the key of a schedule: the bytes of its first 8 words
abbrev pub key_of : Inside → List ℕ
key_of k = flat_map (λ (w : List ℕ). w) (take 8 (words_of k.words))

-- the words are the schedule of the key
abbrev pub IsSchedule : Inside → Type 0
IsSchedule k = words_of k.words ≡ key_expansion (key_of k)
