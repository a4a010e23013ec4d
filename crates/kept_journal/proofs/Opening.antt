-- A run that begins on what was read of a file.
use Rattle.std.proofs.Common.{◌≡◌, ◌⊎◌, inl, inr, ℕ, Bool, true, false, List, [], ◌∷◌, ◌++◌, refl, sym, ap, ap₂, ◌∙◌}
use Rattle.std.specs.Prelude.{if◌then◌else◌}
use Rattle.kept_log.specs.Log.{recovered, IsBeforeOrAfter}
use Rattle.kept_journal.specs.declared.told.Told.{Told}
use Rattle.kept_journal.specs.declared.told.Told.TheVariants.{Start}
use Rattle.kept_journal.specs.declared.reading.Read.{Read}
use Rattle.kept_journal.specs.Lines.{Head, Recovers, text_of, seal_of, sealed, key_of, head_text, first_seal, records_of, last_seal}
use Rattle.kept_journal.specs.Reading.{IsReading, head_of, opening}
use Rattle.kept_journal.proofs.Chain.{records_are, seal_is}

module _ (read : Read) (bytes : List ℕ) (told : List Told) (r : IsReading read.account.facts bytes told read) (seal start : List ℕ)
    (seal_now : seal ≡ seal_of (key_of read.account.facts.root) read.seal (text_of (Start read.account.facts.boot))) (start_now : start ≡ sealed (text_of (Start read.account.facts.boot)) seal) where
  abbrev head : Head
  head = head_of read.account.facts

  abbrev one : Told
  one = Start read.account.facts.boot

  abbrev first : List ℕ
  first = head_text read.account.facts.account read.account.facts.region

  start_behind : (last : List ℕ) → read.seal ≡ last → start ≡ sealed (text_of one) (seal_of (key_of head.root) last (text_of one))
  start_behind last is = start_now ∙ ap (λ (s : List ℕ). sealed (text_of one) s) (seal_now ∙ ap (λ (s : List ℕ). seal_of (key_of head.root) s (text_of one)) is)

  by_flag : (b : Bool) → read.is_new ≡ b → recovered bytes ++ opening read start ≡ records_of head (told ++ one ∷ [])
  by_flag true e =
      let none = r.new e in
      let seal_first : read.seal ≡ first_seal head = r.so_far.seal ∙ ap (λ (t : List Told). last_seal head t) none.1 in
      ap (λ (l : List (List ℕ)). l ++ opening read start) none.0 ∙ ap (λ (b : Bool). if b then sealed first read.seal ∷ start ∷ [] else start ∷ []) e
      ∙ ap₂ (λ (a b : List ℕ). a ∷ b ∷ []) (ap (λ (s : List ℕ). sealed first s) seal_first) (start_behind (first_seal head) seal_first)
      ∙ ap (λ (t : List Told). records_of head (t ++ one ∷ [])) (sym none.1)
  by_flag false e =
      ap (λ (l : List (List ℕ)). l ++ opening read start) (r.old e) ∙ ap (λ (b : Bool). records_of head told ++ (if b then sealed first read.seal ∷ start ∷ [] else start ∷ [])) e
      ∙ ap (λ (s : List ℕ). records_of head told ++ s ∷ []) (start_behind (last_seal head told) r.so_far.seal) ∙ sym (records_are head told one)

  pub opens : recovered bytes ++ opening read start ≡ records_of head (told ++ one ∷ [])
  opens = by_flag read.is_new refl

  pub last_is : seal ≡ last_seal head (told ++ one ∷ [])
  last_is = seal_now ∙ ap (λ (s : List ℕ). seal_of (key_of head.root) s (text_of one)) r.so_far.seal ∙ sym (seal_is head told one)

  -- a file that stands for what stood there, with the opening or without it
  pub begun : (old : List (List ℕ)) → old ≡ recovered bytes → (c : List ℕ) → IsBeforeOrAfter old (opening read start) c → (recovered c ≡ recovered bytes) ⊎ Recovers head (told ++ one ∷ []) c
  begun old is c (inl before) = inl (before ∙ is)
  begun old is c (inr after) = inr (after ∙ ap (λ (l : List (List ℕ)). l ++ opening read start) is ∙ opens)
