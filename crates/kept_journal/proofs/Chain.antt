-- A line more behind those of a journal.
use Rattle.std.proofs.Common.{◌≡◌, ◌<◌, ℕ, List, [], ◌∷◌, ◌++◌, refl, ap}
use Rattle.account_rows.specs.declared.entries.Entry.{Entry}
use Rattle.kept_journal.specs.declared.told.Told.{Told}
use Rattle.kept_journal.specs.declared.told.Told.TheVariants.{Start, Change}
use Rattle.kept_journal.specs.Lines.{Head, text_of, seal_of, sealed, key_of, first_seal, head_text, records_behind, seal_behind, records_of, last_seal}
use Rattle.kept_journal.specs.Starts.{latest, Rises, entries_of}

records_more : (key last : List ℕ) (told : List Told) (one : Told)
    → records_behind key last (told ++ one ∷ []) ≡ records_behind key last told ++ sealed (text_of one) (seal_of key (seal_behind key last told) (text_of one)) ∷ []
records_more key last [] one = refl
records_more key last (t ∷ told) one = ap (λ (l : List (List ℕ)). sealed (text_of t) (seal_of key last (text_of t)) ∷ l) (records_more key (seal_of key last (text_of t)) told one)

seal_more : (key last : List ℕ) (told : List Told) (one : Told) → seal_behind key last (told ++ one ∷ []) ≡ seal_of key (seal_behind key last told) (text_of one)
seal_more key last [] one = refl
seal_more key last (t ∷ told) one = seal_more key (seal_of key last (text_of t)) told one

pub records_are : (head : Head) (told : List Told) (one : Told)
    → records_of head (told ++ one ∷ []) ≡ records_of head told ++ sealed (text_of one) (seal_of (key_of head.root) (last_seal head told) (text_of one)) ∷ []
records_are head told one = ap (λ (l : List (List ℕ)). sealed (head_text head.account head.region) (first_seal head) ∷ l) (records_more (key_of head.root) (first_seal head) told one)

pub seal_is : (head : Head) (told : List Told) (one : Told) → last_seal head (told ++ one ∷ []) ≡ seal_of (key_of head.root) (last_seal head told) (text_of one)
seal_is head told one = seal_more (key_of head.root) (first_seal head) told one

pub latest_start : (last number : ℕ) (told : List Told) → latest last (told ++ Start number ∷ []) ≡ number
latest_start last number [] = refl
latest_start last number (Start k ∷ told) = latest_start k number told
latest_start last number (Change entry ∷ told) = latest_start last number told

pub latest_change : (last : ℕ) (told : List Told) (entry : Entry) → latest last (told ++ Change entry ∷ []) ≡ latest last told
latest_change last [] entry = refl
latest_change last (Start k ∷ told) entry = latest_change k told entry
latest_change last (Change e ∷ told) entry = latest_change last told entry

pub rises_start : (last number : ℕ) (told : List Told) → Rises last told → latest last told < number → Rises last (told ++ Start number ∷ [])
rises_start last number [] rises low = (low, tt)
rises_start last number (Start k ∷ told) rises low = (rises.0, rises_start k number told rises.1 low)
rises_start last number (Change entry ∷ told) rises low = rises_start last number told rises low

pub rises_change : (last : ℕ) (told : List Told) (entry : Entry) → Rises last told → Rises last (told ++ Change entry ∷ [])
rises_change last [] entry rises = tt
rises_change last (Start k ∷ told) entry rises = (rises.0, rises_change k told entry rises.1)
rises_change last (Change e ∷ told) entry rises = rises_change last told entry rises

pub entries_start : (told : List Told) (number : ℕ) → entries_of (told ++ Start number ∷ []) ≡ entries_of told
entries_start [] number = refl
entries_start (Start k ∷ told) number = entries_start told number
entries_start (Change entry ∷ told) number = ap (λ (l : List Entry). entry ∷ l) (entries_start told number)

pub entries_change : (told : List Told) (entry : Entry) → entries_of (told ++ Change entry ∷ []) ≡ entries_of told ++ entry ∷ []
entries_change [] entry = refl
entries_change (Start k ∷ told) entry = entries_change told entry
entries_change (Change e ∷ told) entry = ap (λ (l : List Entry). e ∷ l) (entries_change told entry)
