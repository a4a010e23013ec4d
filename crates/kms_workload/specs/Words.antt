-- The words that choose the messages.
use Rattle.std.specs.Prelude.{ℕ, ◌+◌, ◌-◌, ◌*◌, List}
use Rattle.std.specs.Int.{w64, to_be_bytes}
use Rattle.sha2.specs.Sha256.{sha256}
use Rattle.draw_lines.specs.Draw.{key_stream_word}
use Rattle.kms_workload.specs.declared.words.Words.{Words}

-- the key of the words: the digest of the seed in eight bytes, the greatest first
abbrev pub key_of_seed : ℕ → List ℕ
key_of_seed seed = sha256 (to_be_bytes w64 seed)

-- the three words of the message of this number, of which the first that takes words is message 8
abbrev pub words_of : ℕ → ℕ → Words
words_of seed number = let place = 3 * (number - 8) in record {
  first = key_stream_word (key_of_seed seed) place;
  second = key_stream_word (key_of_seed seed) (place + 1);
  third = key_stream_word (key_of_seed seed) (place + 2);
}
