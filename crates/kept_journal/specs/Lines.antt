-- The lines of a kept journal. A record of its log is a line without the opening brace, which is the record's gate, and without its line feed.
use Rattle.std.specs.Prelude.{◌≡◌, ◌⊎◌, ℕ, List, [], ◌∷◌, ◌++◌, codes, decimal, replicate}
use Rattle.hex.specs.Hex.{encode_lower}
use Rattle.json.specs.Print.{quoted}
use Rattle.mac_sha.specs.Hmac.{hmac_sha256}
use Rattle.account_rows.specs.declared.entries.Entry.{Entry}
use Rattle.journal_lines.specs.Lines.{entry_line}
use Rattle.journal_lines.specs.LineReading.{before_last}
use Rattle.kept_log.specs.Log.{recovered}
use Rattle.kept_journal.specs.declared.told.Told.{Told}
use Rattle.kept_journal.specs.declared.told.Told.TheVariants.{Start, Change}

-- whose journal it is
pub record Head : Type 0 where
  pub account : List ℕ
  pub region : List ℕ
  pub root : List ℕ

-- the first line, up to its seal
unfoldable pub head_text : List ℕ → List ℕ → List ℕ
head_text account region = ((codes "\"kept\":1,\"account\":\"" ++ account) ++ codes "\",\"region\":") ++ quoted region

-- each other line, up to its seal
unfoldable pub text_of : Told → List ℕ
text_of (Start number) = codes "\"start\":" ++ decimal number
text_of (Change entry) = codes "\"entry\":" ++ before_last (entry_line entry)

-- the key of the seals
unfoldable pub key_of : List ℕ → List ℕ
key_of root = hmac_sha256 root (codes "kept")

-- the seal of a line is over that of the line before it, and over the line up to its seal
unfoldable pub seal_of : List ℕ → List ℕ → List ℕ → List ℕ
seal_of key last text = hmac_sha256 key (last ++ (123 ∷ text))

-- a line with its seal, in lower-case hex
unfoldable pub sealed : List ℕ → List ℕ → List ℕ
sealed text seal = text ++ (codes ",\"seal\":\"" ++ (encode_lower seal ++ codes "\"}"))

-- the records that tell this in turn, behind a line of this seal
abbrev pub records_behind : List ℕ → List ℕ → List Told → List (List ℕ)
records_behind key last [] = []
records_behind key last (told ∷ more) = sealed (text_of told) (seal_of key last (text_of told)) ∷ records_behind key (seal_of key last (text_of told)) more

-- the seal of the last of them
abbrev pub seal_behind : List ℕ → List ℕ → List Told → List ℕ
seal_behind key last [] = last
seal_behind key last (told ∷ more) = seal_behind key (seal_of key last (text_of told)) more

-- the seal of the first line, before which no seal stands: 32 zeros are in its place
abbrev pub first_seal : Head → List ℕ
first_seal head = seal_of (key_of head.root) (replicate 32 0) (head_text head.account head.region)

-- the records of a journal that tells this
abbrev pub records_of : Head → List Told → List (List ℕ)
records_of head told = sealed (head_text head.account head.region) (first_seal head) ∷ records_behind (key_of head.root) (first_seal head) told

-- the seal of its last line
abbrev pub last_seal : Head → List Told → List ℕ
last_seal head told = seal_behind (key_of head.root) (first_seal head) told

-- a file that is recovered as a journal that tells this
abbrev pub Recovers : Head → List Told → List ℕ → Type 0
Recovers head told file = recovered file ≡ records_of head told

-- a file that tells this: it is recovered as such a journal, or it has no record, and nothing is told
abbrev pub Holds : Head → List Told → List ℕ → Type 0
Holds head told file = Recovers head told file ⊎ ((recovered file ≡ []) × (told ≡ []))
