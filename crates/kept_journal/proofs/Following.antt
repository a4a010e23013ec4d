-- Lines that follow one another by their seals.
use Rattle.std.proofs.Common.{◌≡◌, ◌≢◌, ◌⊎◌, inl, inr, ◌<◌, ◌≤◌, ◌+◌, ◌-◌, ℕ, zero, suc, Bool, true, false, not, cond, List, [], ◌∷◌, ◌++◌, All, length, take, drop, codes, append_assoc, length-append, length-drop, refl, sym, ap, ap₂, subst, ◌∙◌, ne_eqb, arith}
use Rattle.std.specs.Prelude.{◌==◌, ◌↔◌, slice_range, MatchOption, Option, Some, None, Result, Ok, Err, IfOk, IfErr, is_some, IsTrue}
use Rattle.std.specs.List.{AllPass}
use Rattle.std.proofs.Math.Seq.{take-append_seam, drop-append_seam}
use Rattle.std.proofs.lemmas.Bool.{cases_eq}
use Rattle.std.proofs.lemmas.List.{take_all}
use Rattle.std.proofs.lemmas.List.Elements.{All-nil, All-head, All-tail}
use Rattle.hex.specs.Hex.{encode_lower, decode_sized}
use Rattle.hex.proofs.HexLemmas.{decode_sized-encode_lower}
use Rattle.kms_names.proofs.AsciiFacts.{IsBytes-from_list}
use Rattle.kms_names.specs.Identifier.{IsByteList}
use Rattle.journal_lines.specs.Cuts.{place_of, first_line, behind_line}
use Rattle.journal_lines.proofs.CutFacts.{place_behind, cut_whole}
use Rattle.kept_log.specs.Log.{IsPlain, lines}
use Rattle.account_steps.specs.declared.facts.RealmFacts.{RealmFacts}
use Rattle.kept_journal.specs.declared.faults.KeptFault.{KeptFault}
use Rattle.kept_journal.specs.declared.reading.Read.{Read}
use Rattle.kept_journal.specs.Lines.{sealed}
use Rattle.kept_journal.specs.Reading.{line_of, behind_lines}
use Rattle.kms_names.specs.declared.faults.NoMemory.{NoMemory}
use Rattle.kept_journal.specs.Lost.{seal_end, IsNext, ShowsNext, is_closed, searched, HasLost, IsFileFault}
use Rattle.kept_journal.proofs.Printable.{sealed_plain}
use Rattle.kept_journal.proofs.Same.{end_length, hex_length}

-- ---- texts with no line feed

abbrev Plain : ℕ → Type 0
Plain byte = (byte ≢ 10) × (byte ≢ 9)

abbrev HasNoFeed : List ℕ → Type 0
HasNoFeed text = AllPass (λ c. not (c == 10)) text

no_feed : (c : ℕ) → c ≢ 10 → not (c == 10) ≡ true
no_feed c other = ap not (ne_eqb c 10 other)

plain_has_none : (text : List ℕ) → IsPlain text → HasNoFeed text
plain_has_none [] plain i d within = absurd (omega (arith, within))
plain_has_none (c ∷ text) plain zero d within = no_feed c (All-head Plain c text plain).0
plain_has_none (c ∷ text) plain (suc i) d within = plain_has_none text (All-tail Plain c text plain) i d (omega (arith, within))

end_has_none : (seal : List ℕ) → HasNoFeed (sealed [] seal)
end_has_none seal = plain_has_none (sealed [] seal) (sealed_plain [] seal (All-nil (λ (byte : ℕ). 32 ≤ byte)))

-- ---- cuts

cut_end : (text rest : List ℕ) → HasNoFeed text → (first_line (text ++ 10 ∷ rest) ≡ text ++ 10 ∷ []) × (behind_line (text ++ 10 ∷ rest) ≡ rest)
cut_end text rest none =
    let line : List ℕ = text ++ 10 ∷ [] in
    let size : place_of 10 (text ++ 10 ∷ rest) + 1 ≡ length line = omega (arith, place_behind 10 text rest none, length-append text (10 ∷ [])) in
    let whole : text ++ 10 ∷ rest ≡ line ++ rest = sym (append_assoc text (10 ∷ []) rest) in (
      ap (λ (n : ℕ). take n (text ++ 10 ∷ rest)) size ∙ ap (λ (l : List ℕ). take (length line) l) whole ∙ take-append_seam line rest,
      ap (λ (n : ℕ). drop n (text ++ 10 ∷ rest)) size ∙ ap (λ (l : List ℕ). drop (length line) l) whole ∙ drop-append_seam line rest,
    )

cut_within : (c : ℕ) (text : List ℕ) → c ≢ 10 → (first_line (c ∷ text) ≡ c ∷ first_line text) × (behind_line (c ∷ text) ≡ behind_line text)
cut_within c text other =
    let b : (c == 10) ≡ false = ne_eqb c 10 other in
    let n : ℕ = place_of 10 text in
    let one : 1 + n + 1 ≡ suc (n + 1) = omega arith in (
      ap (λ (b : Bool). take (cond (not b) (1 + n) 0 + 1) (c ∷ text)) b ∙ ap (λ (k : ℕ). take k (c ∷ text)) one,
      ap (λ (b : Bool). drop (cond (not b) (1 + n) 0 + 1) (c ∷ text)) b ∙ ap (λ (k : ℕ). drop k (c ∷ text)) one,
    )

cut_first : (c : ℕ) (text : List ℕ) → c ≡ 10 → behind_line (c ∷ text) ≡ text
cut_first c text is = ap (λ (d : ℕ). behind_line (d ∷ text)) is

-- the first line is that which ends so, or that one stands behind it
cut_before : (front text rest : List ℕ) → HasNoFeed text
    → ((first_line (front ++ (text ++ 10 ∷ rest)) ≡ front ++ (text ++ 10 ∷ [])) × (behind_line (front ++ (text ++ 10 ∷ rest)) ≡ rest))
    ⊎ ((later : List ℕ) × (behind_line (front ++ (text ++ 10 ∷ rest)) ≡ later ++ (text ++ 10 ∷ rest)))
cut_before [] text rest none = inl (cut_end text rest none)
cut_before (c ∷ front) text rest none = elim (cases_eq c 10) [
  | inl feed ↦ inr (front, cut_first c (front ++ (text ++ 10 ∷ rest)) feed)
  | inr other ↦
      let within = cut_within c (front ++ (text ++ 10 ∷ rest)) other in
      elim (cut_before front text rest none) [
        | inl (line, behind) ↦ inl (within.0 ∙ ap (λ (l : List ℕ). c ∷ l) line, within.1 ∙ behind)
        | inr (later, is) ↦ inr (later, within.1 ∙ is)
      ]
]

-- ---- a line that follows another

module _ (key : List ℕ) where
  whole_end : (last rest : List ℕ) → seal_end last ++ rest ≡ sealed [] last ++ 10 ∷ rest
  whole_end last rest = append_assoc (sealed [] last) (10 ∷ []) rest

  pub shows_step : (text : List ℕ) → ShowsNext key text → IsNext key (first_line text) (first_line (behind_line text)) ⊎ ShowsNext key (behind_line text)
  shows_step text s =
      let all : text ≡ s.front ++ (sealed [] s.last ++ 10 ∷ s.rest) = s.split ∙ ap (λ (l : List ℕ). s.front ++ l) (whole_end s.last s.rest) in
      elim (cut_before s.front (sealed [] s.last) s.rest (end_has_none s.last)) [
        | inl (line, behind) ↦ inl (record {
          front = s.front;
          last = s.last;
          seal = s.seal;
          ends = ap first_line all ∙ line;
          body = s.body;
          is = ap (λ (l : List ℕ). first_line (behind_line l)) all ∙ ap first_line behind ∙ s.is;
        })
        | inr (later, is) ↦ inr (record {
          front = later;
          last = s.last;
          seal = s.seal;
          rest = s.rest;
          split = ap behind_line all ∙ is ∙ ap (λ (l : List ℕ). later ++ l) (sym (whole_end s.last s.rest));
          body = s.body;
          is = s.is;
        })
      ]

  pub next_shows : (text : List ℕ) → IsNext key (first_line text) (first_line (behind_line text)) → ShowsNext key text
  next_shows text n = record {
    front = n.front;
    last = n.last;
    seal = n.seal;
    rest = behind_line text;
    split = sym (cut_whole text) ∙ ap (λ (l : List ℕ). l ++ behind_line text) n.ends ∙ append_assoc n.front (seal_end n.last) (behind_line text);
    body = n.body;
    is = n.is;
  }

  pub later_shows : (text : List ℕ) → ShowsNext key (behind_line text) → ShowsNext key text
  later_shows text s = record {
    front = first_line text ++ s.front;
    last = s.last;
    seal = s.seal;
    rest = s.rest;
    split = sym (cut_whole text) ∙ ap (λ (l : List ℕ). first_line text ++ l) s.split ∙ sym (append_assoc (first_line text) s.front (seal_end s.last ++ s.rest));
    body = s.body;
    is = s.is;
  }

  pub none_shows : (text : List ℕ) → length text ≡ 0 → ShowsNext key text → ⊥
  none_shows text none s =
      absurd (omega (arith, none, ap length s.split, length-append s.front (seal_end s.last ++ s.rest), length-append (seal_end s.last) s.rest, length-append (sealed [] s.last) (10 ∷ [])))

-- ---- the seal at the end of a line

pub end_size : (last : List ℕ) → length last ≡ 32 → length (seal_end last) ≡ 76
unfolding sealed
end_size last size = omega (arith, length-append (codes ",\"seal\":\"" ++ (encode_lower last ++ codes "\"}")) (10 ∷ []), end_length last size)

pub end_is : (front last line : List ℕ) → length last ≡ 32 → line ≡ front ++ seal_end last → drop (length line - 76) line ≡ seal_end last
end_is front last line size is =
    let place : length line - 76 ≡ length front = omega (arith, ap length is, length-append front (seal_end last), end_size last size) in
    ap (λ (n : ℕ). drop n line) place ∙ ap (λ (l : List ℕ). drop (length front) l) is ∙ drop-append_seam front (seal_end last)

pub end_all : (n : ℕ) (line : List ℕ) → slice_range line n (length line) ≡ drop n line
end_all n line = take_all (length line - n) (drop n line) (omega (arith, length-drop n line))

pub digits_are : (last : List ℕ) → length last ≡ 32 → slice_range (seal_end last) 9 73 ≡ encode_lower last
unfolding sealed
digits_are last size =
    let digits : List ℕ = encode_lower last in
    let count : 64 ≡ length digits = omega (arith, size, hex_length last) in
    ap (λ (l : List ℕ). take 64 l) (append_assoc digits (codes "\"}") (10 ∷ [])) ∙ ap (λ (n : ℕ). take n (digits ++ (codes "\"}" ++ 10 ∷ []))) count ∙ take-append_seam digits (codes "\"}" ++ 10 ∷ [])

-- ... is one seal
pub one_seal : (a b : List ℕ) → IsByteList 32 a → IsByteList 32 b → encode_lower a ≡ encode_lower b → a ≡ b
one_seal a b p q e =
    let both : Ok a ≡ Ok b =
    sym (decode_sized-encode_lower a 32 p.0 (IsBytes-from_list 32 a p)) ∙ ap (λ (t : List ℕ). decode_sized t 32) e ∙ decode_sized-encode_lower b 32 q.0 (IsBytes-from_list 32 b q) in
    cc

pub one_end : (before front other a b : List ℕ) → IsByteList 32 a → IsByteList 32 b → before ≡ front ++ seal_end a → before ≡ other ++ seal_end b → a ≡ b
one_end before front other a b p q e f =
    let ends : seal_end a ≡ seal_end b = sym (end_is front a before p.0 e) ∙ end_is other b before q.0 f in
    one_seal a b p q (sym (digits_are a p.0) ∙ ap (λ (l : List ℕ). slice_range l 9 73) ends ∙ digits_are b q.0)

-- what was found of a line behind one with this seal
pub next_is : {X : Type 0} (key before line last front : List ℕ) (found : Option X) (body : X → List ℕ) (Q : X → Type 0) → IsByteList 32 last → before ≡ front ++ seal_end last
    → MatchOption found ((text : List ℕ) → line ≢ line_of key last text) (λ r. (line ≡ line_of key last (body r)) × Q r) → IsTrue (is_some found) ↔ IsNext key before line
next_is key before line last front (Some r) body Q seal ends m = (λ _. record { front = front; last = last; seal = seal; ends = ends; body = body r; is = m.0 }, λ _. refl)
next_is key before line last front None body Q seal ends m = (
  λ e. cc,
  λ (n : IsNext key before line). absurd (m n.body (n.is ∙ ap (λ (s : List ℕ). line_of key s n.body) (one_end before n.front front n.last last n.seal seal n.ends ends))),
)

pub next_at : (key text line behind after : List ℕ) → line ≡ first_line text → behind ≡ behind_line text → after ≡ first_line behind → IsNext key line after → IsNext key (first_line text) (first_line (behind_line text))
next_at key text line behind after l b a n = subst (λ (x : List ℕ). IsNext key x (first_line (behind_line text))) l (subst (λ (x : List ℕ). IsNext key line x) (a ∙ ap first_line b) n)

pub next_from : (key text line behind after : List ℕ) → line ≡ first_line text → behind ≡ behind_line text → after ≡ first_line behind → IsNext key (first_line text) (first_line (behind_line text)) → IsNext key line after
next_from key text line behind after l b a n = subst (λ (x : List ℕ). IsNext key x after) (sym l) (subst (λ (x : List ℕ). IsNext key (first_line text) x) (sym (a ∙ ap first_line b)) n)

-- what was looked for behind whole lines
pub if_lost : (key bytes behind : List ℕ) (r : Result Bool NoMemory) → behind ≡ behind_lines bytes → is_closed behind ≡ false → searched bytes ≡ behind → IfOk r (λ b. IsTrue b ↔ ShowsNext key behind)
    → IfOk r (λ b. IsTrue b ↔ HasLost key bytes)
if_lost key bytes behind (Ok b) is opened all m = (λ e. (ap is_closed (sym is) ∙ opened, subst (ShowsNext key) (sym all) (m.0 e)), λ h. m.1 (subst (ShowsNext key) all h.1))
if_lost key bytes behind (Err e) is opened all m = m

pub err_fault : (facts : RealmFacts) (bytes : List ℕ) (fault : KeptFault) (r : Result Read KeptFault) → IsFileFault facts bytes fault → IfErr r (λ e. e ≡ fault) → IfErr r (IsFileFault facts bytes)
err_fault facts bytes fault (Ok read) is m = m
err_fault facts bytes fault (Err e) is m = subst (IsFileFault facts bytes) (sym m) is
