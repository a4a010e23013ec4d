-- Files that are recovered alike tell the same starts.
use Rattle.std.proofs.Common.{◌≡◌, ◌⊎◌, inl, inr, ◌<◌, ◌≤◌, ◌^◌, ◌+◌, ℕ, zero, suc, List, [], ◌∷◌, ◌++◌, All, map, length, get_or, codes, decimal, refl, sym, ap, ap₂, subst, ◌∙◌, arith, length-append}
use Rattle.std.proofs.lemmas.Fmt.{decimal_injective}
use Rattle.std.proofs.lemmas.List.Elements.{All-nil, All-cons, All-head, All-tail}
use Rattle.hex.specs.Hex.{encode_lower, encode_with}
use Rattle.mac_sha.proofs.HmacFacts.{hmac_length}
use Rattle.account_rows.specs.declared.entries.Entry.{Entry}
use Rattle.kept_log.specs.Log.{recovered}
use Rattle.kept_journal.specs.declared.told.Told.{Told}
use Rattle.kept_journal.specs.declared.told.Told.TheVariants.{Start, Change}
use Rattle.kept_journal.specs.Lines.{Head, Recovers, Holds, text_of, seal_of, sealed, key_of, first_seal, records_behind, records_of}
use Rattle.kept_journal.specs.Starts.{latest}
use Rattle.kept_journal.specs.Laws.{IsSmall, StartsRise}

-- lists with ends of one length
front_same : (a b s t : List ℕ) → a ++ s ≡ b ++ t → length s ≡ length t → a ≡ b
front_same [] [] s t e size = refl
front_same [] (y ∷ b) s t e size = absurd (omega (arith, ap length e, size, length-append b t))
front_same (x ∷ a) [] s t e size = absurd (omega (arith, ap length e, size, length-append a s))
front_same (x ∷ a) (y ∷ b) s t e size = let parts : (x ≡ y) × (a ++ s ≡ b ++ t) = (cc, cc) in ap₂ (λ (z : ℕ) (l : List ℕ). z ∷ l) parts.0 (front_same a b s t parts.1 size)

pub hex_length : (seal : List ℕ) → length (encode_lower seal) ≡ length seal + length seal
unfolding encode_with
hex_length [] = refl
hex_length (b ∷ seal) = omega (arith, hex_length seal)

pub seal_length : (key last text : List ℕ) → length (seal_of key last text) ≡ 32
unfolding seal_of
seal_length key last text = hmac_length key (last ++ (123 ∷ text))

pub end_length : (seal : List ℕ) → length seal ≡ 32 → length (codes ",\"seal\":\"" ++ encode_lower seal ++ codes "\"}") ≡ 75
end_length seal size = omega (arith, size, hex_length seal, length-append (codes ",\"seal\":\"") (encode_lower seal ++ codes "\"}"), length-append (encode_lower seal) (codes "\"}"))

text_same : (a b s t : List ℕ) → length s ≡ 32 → length t ≡ 32 → sealed a s ≡ sealed b t → a ≡ b
unfolding sealed
text_same a b s t size other e = front_same a b _ _ e (end_length s size ∙ sym (end_length t other))

behind_same : (key last : List ℕ) (x y : Told) (a b : List Told) → records_behind key last (x ∷ a) ≡ records_behind key last (y ∷ b) → (text_of x ≡ text_of y) × (records_behind key (seal_of key last (text_of x)) a ≡ records_behind key (seal_of key last (text_of x)) b)
behind_same key last x y a b e =
    let first : sealed (text_of x) (seal_of key last (text_of x)) ≡ sealed (text_of y) (seal_of key last (text_of y)) = cc in
    let rest : records_behind key (seal_of key last (text_of x)) a ≡ records_behind key (seal_of key last (text_of y)) b = cc in
    let same = text_same (text_of x) (text_of y) _ _ (seal_length key last (text_of x)) (seal_length key last (text_of y)) first in
    (same, rest ∙ ap (λ (t : List ℕ). records_behind key (seal_of key last t) b) (sym same))

pub start_same : (m n : ℕ) → m < 2 ^ 32 → n < 2 ^ 32 → text_of (Start m) ≡ text_of (Start n) → m ≡ n
unfolding text_of
start_same m n small low e = decimal_injective m n (omega (arith, small)) (omega (arith, low)) (behind_word (decimal m) (decimal n) e)
  where
    behind_word : (a b : List ℕ) → codes "\"start\":" ++ a ≡ codes "\"start\":" ++ b → a ≡ b
    behind_word a b e = cc

pub not_both : (n : ℕ) (entry : Entry) → text_of (Start n) ≡ text_of (Change entry) → ⊥
unfolding text_of
not_both n entry e = let second : 115 ≡ 101 = ap (λ (l : List ℕ). get_or l 1 0) e in absurd (omega (arith, second))

-- the starts of journals whose records are the same
latest_same : (key : List ℕ) (a b : List Told) (seal : List ℕ) (last : ℕ) → All IsSmall a → All IsSmall b → records_behind key seal a ≡ records_behind key seal b → latest last a ≡ latest last b
latest_same key [] [] seal last small low e = refl
latest_same key [] (y ∷ b) seal last small low e = absurd (cc e)
latest_same key (x ∷ a) [] seal last small low e = absurd (cc e)
latest_same key (Start m ∷ a) (Start n ∷ b) seal last small low e =
    let parts = behind_same key seal (Start m) (Start n) a b e in
    let same = start_same m n (All-head IsSmall (Start m) a small) (All-head IsSmall (Start n) b low) parts.0 in
    ap (λ (k : ℕ). latest k a) same ∙ latest_same key a b (seal_of key seal (text_of (Start m))) n (All-tail IsSmall (Start m) a small) (All-tail IsSmall (Start n) b low) parts.1
latest_same key (Start m ∷ a) (Change f ∷ b) seal last small low e = absurd (not_both m f (behind_same key seal (Start m) (Change f) a b e).0)
latest_same key (Change f ∷ a) (Start n ∷ b) seal last small low e = absurd (not_both n f (sym (behind_same key seal (Change f) (Start n) a b e).0))
latest_same key (Change f ∷ a) (Change g ∷ b) seal last small low e = latest_same key a b (seal_of key seal (text_of (Change f))) last (All-tail IsSmall (Change f) a small) (All-tail IsSmall (Change g) b low) (behind_same key seal (Change f) (Change g) a b e).1

changes_small : (changes : List Entry) → All IsSmall (map Change changes)
changes_small [] = All-nil IsSmall
changes_small (entry ∷ changes) = All-cons IsSmall (Change entry) (map Change changes) tt (changes_small changes)

run_small : (before : List Told) (n : ℕ) (changes : List Entry) → All IsSmall (before ++ Start n ∷ []) → All IsSmall (before ++ Start n ∷ map Change changes)
run_small [] n changes small = All-cons IsSmall (Start n) (map Change changes) (All-head IsSmall (Start n) [] small) (changes_small changes)
run_small (one ∷ before) n changes small =
    All-cons IsSmall one (before ++ Start n ∷ map Change changes) (All-head IsSmall one (before ++ Start n ∷ []) small) (run_small before n changes (All-tail IsSmall one (before ++ Start n ∷ []) small))

changes_keep : (n : ℕ) (changes : List Entry) → latest n (map Change changes) ≡ n
changes_keep n [] = refl
changes_keep n (entry ∷ changes) = changes_keep n changes

run_latest : (last : ℕ) (before : List Told) (n : ℕ) (changes : List Entry) → latest last (before ++ Start n ∷ map Change changes) ≡ n
run_latest last [] n changes = changes_keep n changes
run_latest last (Start k ∷ before) n changes = run_latest k before n changes
run_latest last (Change entry ∷ before) n changes = run_latest last before n changes

same_behind : (head : Head) (a b : List Told) → records_of head a ≡ records_of head b → records_behind (key_of head.root) (first_seal head) a ≡ records_behind (key_of head.root) (first_seal head) b
same_behind head a b e = cc

pub starts_rise : StartsRise
starts_rise head before read changes file n m small low is (inl held) above =
    let run = before ++ Start n ∷ map Change changes in
    let same = latest_same (key_of head.root) run read (first_seal head) 0 (run_small before n changes small) low (same_behind head run read (sym is ∙ held)) in
    omega (arith, run_latest 0 before n changes, same, above)
starts_rise head before read changes file n m small low is (inr none) above = absurd (cc (sym is ∙ none.0))
