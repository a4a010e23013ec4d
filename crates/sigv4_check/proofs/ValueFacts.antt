-- Values and lines, as they are added.
use Rattle.std.proofs.Common.{◌≡◌, subst, length-drop, ℕ, suc, ◌+◌, ◌-◌, ◌<◌, ◌≤◌, List, [], ◌∷◌, ◌++◌, length, take, drop, get_or, map, Bool, true, false, refl, sym, ap, ◌∙◌, arith, append_assoc}
use Rattle.std.proofs.Math.Seq.{drop-cons}
use Rattle.std.proofs.lemmas.List.{take_more, get_or-drop}
use Rattle.http_front.specs.Heading.{Field}
use Rattle.sha2.specs.Hashers.{Holds256}
use Rattle.sha2.specs.declared.Sha256.{Sha256}
use Rattle.std.specs.List.{slice_range, join_with_byte, flat_map}
use Rattle.sigv4_check.specs.Canonical.{begins_with_spaces, squeezed, next_value, header_line, ended_line}

-- ---- what is added to a hash

abbrev pub Adds : Sha256 → Sha256 → List ℕ → Type 0
Adds before after part = (m : List ℕ) → Holds256 before m → Holds256 after (m ++ part)

pub both_added : (a b c : Sha256) (x y : List ℕ) → Adds a b x → Adds b c y → Adds a c (x ++ y)
both_added a b c x y f g = λ m h. subst (λ (n : List ℕ). Holds256 c n) (append_assoc m x y) (g (m ++ x) (f m h))

pub added_as : (a b : Sha256) (x y : List ℕ) → x ≡ y → Adds a b x → Adds a b y
added_as a b x y e f = subst (λ (n : List ℕ). Adds a b n) e f

nil_right : (xs : List ℕ) → xs ++ [] ≡ xs
nil_right [] = refl
nil_right (x ∷ xs) = ap (λ (ys : List ℕ). x ∷ ys) (nil_right xs)

-- ---- a value

squeeze_spaces : (c : ℕ) (text : List ℕ) → true ≡ begins_with_spaces (c ∷ text) → squeezed (c ∷ text) ≡ squeezed text
squeeze_spaces c text is = rw (sym is) refl

squeeze_other : (c : ℕ) (text : List ℕ) → false ≡ begins_with_spaces (c ∷ text) → squeezed (c ∷ text) ≡ c ∷ squeezed text
squeeze_other c text is = rw (sym is) refl

module _ (value : List ℕ) (i : ℕ) (within : i < length value) where
  here : drop i value ≡ get_or value i 0 ∷ drop (i + 1) value
  here = let e : suc i ≡ i + 1 = omega arith in drop-cons value i 0 within ∙ ap (λ (n : ℕ). get_or value i 0 ∷ drop n value) e

  pub spaces_here : true ≡ begins_with_spaces (drop i value) → squeezed (drop i value) ≡ squeezed (drop (i + 1) value)
  spaces_here is = ap squeezed here ∙ squeeze_spaces (get_or value i 0) (drop (i + 1) value) (is ∙ ap begins_with_spaces here)

  other_here : false ≡ begins_with_spaces (drop i value) → squeezed (drop i value) ≡ get_or value i 0 ∷ squeezed (drop (i + 1) value)
  other_here is = ap squeezed here ∙ squeeze_other (get_or value i 0) (drop (i + 1) value) (is ∙ ap begins_with_spaces here)

  longer : (start : ℕ) → start ≤ i → slice_range value start (i + 1) ≡ slice_range value start i ++ get_or value i 0 ∷ []
  longer start h =
      let e : i + 1 - start ≡ i - start + 1 = omega arith in
      let at : start + (i - start) ≡ i = omega arith in
      ap (λ (n : ℕ). take n (drop start value)) e
      ∙ take_more (drop start value) (i - start) 0 (omega (arith, length-drop start value))
      ∙ ap (λ (c : ℕ). take (i - start) (drop start value) ++ c ∷ []) (get_or-drop start value (i - start) 0 ∙ ap (λ (n : ℕ). get_or value n 0) at)

  pub moved : (start : ℕ) → start ≤ i → false ≡ begins_with_spaces (drop i value)
      → slice_range value start i ++ squeezed (drop i value) ≡ slice_range value start (i + 1) ++ squeezed (drop (i + 1) value)
  moved start h is =
      ap (λ (rest : List ℕ). slice_range value start i ++ rest) (other_here is)
      ∙ sym (append_assoc (slice_range value start i) (get_or value i 0 ∷ []) (squeezed (drop (i + 1) value)))
      ∙ ap (λ (front : List ℕ). front ++ squeezed (drop (i + 1) value)) (sym (longer start h))

-- how far a value was added: what is done, and what begins at start and isn't yet, make the value up to here
abbrev pub Reaches : Sha256 → Sha256 → List ℕ → ℕ → ℕ → Type 0
Reaches from to value start i =
    (done : List ℕ) × Adds from to done × (squeezed value ≡ done ++ (slice_range value start i ++ squeezed (drop i value)))

module _ (from to next : Sha256) (value : List ℕ) (start i : ℕ) (within : i < length value) (order : start ≤ i) (reaches : Reaches from to value start i) where
  pub past_space : true ≡ begins_with_spaces (drop i value) → Adds to next (slice_range value start i) → Reaches from next value (i + 1) (i + 1)
  past_space is adds =
      let none : i + 1 - (i + 1) ≡ 0 = omega arith in (
        reaches.0 ++ slice_range value start i,
        both_added from to next reaches.0 (slice_range value start i) reaches.1 adds,
        reaches.2
            ∙ sym (append_assoc reaches.0 (slice_range value start i) (squeezed (drop i value)))
            ∙ ap (λ (rest : List ℕ). reaches.0 ++ slice_range value start i ++ rest) (spaces_here value i within is)
            ∙ ap (λ (n : ℕ). reaches.0 ++ slice_range value start i ++ (take n (drop (i + 1) value) ++ squeezed (drop (i + 1) value))) (sym none),
      )

  pub past_other : false ≡ begins_with_spaces (drop i value) → Reaches from to value start (i + 1)
  past_other is = (reaches.0, reaches.1, reaches.2 ∙ ap (λ (rest : List ℕ). reaches.0 ++ rest) (moved value i within start order is))

-- ---- the values of a name

-- the values with a comma before each
abbrev behind_comma : List (List ℕ) → List ℕ
behind_comma [] = []
behind_comma (value ∷ values) = 44 ∷ (squeezed value ++ behind_comma values)

-- the values, the first of them with a comma before it where others stand before it
abbrev pub values_from : Bool → List (List ℕ) → List ℕ
values_from true values = join_with_byte 44 (map squeezed values)
values_from false values = behind_comma values

pub first_value : (value : List ℕ) (values : List (List ℕ)) → values_from true (value ∷ values) ≡ squeezed value ++ values_from false values
first_value value [] = sym (nil_right (squeezed value))
first_value value (next ∷ values) = ap (λ (rest : List ℕ). squeezed value ++ 44 ∷ rest) (first_value next values)

abbrev pub ValuesReach : Sha256 → Sha256 → List ℕ → Bool → List (List ℕ) → Type 0
ValuesReach from to whole is_first values = (done : List ℕ) × Adds from to done × (whole ≡ done ++ values_from is_first values)

next_from : (is_first : Bool) (value : List ℕ) (values : List (List ℕ)) → values_from is_first (value ∷ values) ≡ next_value is_first value ++ values_from false values
next_from true value values = first_value value values
next_from false value values = refl

pub value_added : (from to next : Sha256) (whole : List ℕ) (is_first : Bool) (value : List ℕ) (values others : List (List ℕ)) → values ≡ value ∷ others
    → ValuesReach from to whole is_first values → Adds to next (next_value is_first value) → ValuesReach from next whole false others
value_added from to next whole is_first value values others e reach adds = (
  reach.0 ++ next_value is_first value,
  both_added from to next reach.0 (next_value is_first value) reach.1 adds,
  reach.2 ∙ ap (λ vs. reach.0 ++ values_from is_first vs) e ∙ ap (λ (rest : List ℕ). reach.0 ++ rest) (next_from is_first value others)
      ∙ sym (append_assoc reach.0 (next_value is_first value) (values_from false others)),
)

none_left : (is_first : Bool) → values_from is_first [] ≡ []
none_left true = refl
none_left false = refl

pub values_added : (from to : Sha256) (whole : List ℕ) (is_first : Bool) → ValuesReach from to whole is_first [] → Adds from to whole
values_added from to whole is_first reach =
    added_as from to reach.0 whole (sym (reach.2 ∙ ap (λ (rest : List ℕ). reach.0 ++ rest) (none_left is_first) ∙ nil_right reach.0)) reach.1

-- ---- the lines

-- the lines of names, each ended
abbrev pub lines_of : List Field → List (List ℕ) → List ℕ
lines_of fields names = flat_map (ended_line fields) names

abbrev pub LinesReach : Sha256 → Sha256 → List Field → List (List ℕ) → List (List ℕ) → Type 0
LinesReach from to fields names left = (done : List ℕ) × Adds from to done × (lines_of fields names ≡ done ++ lines_of fields left)

pub line_added : (from to next : Sha256) (fields : List Field) (names left : List (List ℕ)) (name : List ℕ) (others : List (List ℕ)) → left ≡ name ∷ others
    → LinesReach from to fields names left → Adds to next (ended_line fields name) → LinesReach from next fields names others
line_added from to next fields names left name others e reach adds = (
  reach.0 ++ ended_line fields name,
  both_added from to next reach.0 (ended_line fields name) reach.1 adds,
  reach.2 ∙ ap (λ ns. reach.0 ++ lines_of fields ns) e ∙ sym (append_assoc reach.0 (ended_line fields name) (lines_of fields others)),
)

pub lines_added : (from to : Sha256) (fields : List Field) (names : List (List ℕ)) → LinesReach from to fields names [] → Adds from to (lines_of fields names)
lines_added from to fields names reach = added_as from to reach.0 (lines_of fields names) (sym (reach.2 ∙ nil_right reach.0)) reach.1

-- the lines between, and three behind them
module _ (fields : List Field) (text hash : List ℕ) where
  abbrev with_last : List (List ℕ) → List (List ℕ)
  with_last names = map (header_line fields) names ++ [] ∷ text ∷ hash ∷ []

  abbrev last : List ℕ
  last = 10 ∷ (text ++ 10 ∷ hash)

  one_joined : (name : List ℕ) (names : List (List ℕ)) → join_with_byte 10 (with_last (name ∷ names)) ≡ header_line fields name ++ 10 ∷ join_with_byte 10 (with_last names)
  one_joined name [] = refl
  one_joined name (next ∷ names) = refl

  pub lines_joined : (names : List (List ℕ)) → join_with_byte 10 (with_last names) ≡ lines_of fields names ++ last
  lines_joined [] = refl
  lines_joined (name ∷ names) =
      one_joined name names
      ∙ ap (λ (rest : List ℕ). header_line fields name ++ 10 ∷ rest) (lines_joined names)
      ∙ sym (append_assoc (header_line fields name) (10 ∷ []) (lines_of fields names ++ last))
      ∙ sym (append_assoc (ended_line fields name) (lines_of fields names) last)

  pub empty_joined : (names : List (List ℕ)) → join_with_byte 10 ([] ∷ with_last names) ≡ 10 ∷ (lines_of fields names ++ last)
  empty_joined [] = refl
  empty_joined (name ∷ names) = ap (λ (rest : List ℕ). 10 ∷ rest) (lines_joined (name ∷ names))
