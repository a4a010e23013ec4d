-- Texts that lengths cut.
use Rattle.std.proofs.Common.{◌≡◌, ◌≤◌, ◌<◌, ◌+◌, ◌-◌, min, Result, Ok, Err, ℕ, suc, zero, List, [], ◌∷◌, ◌++◌, length, take, drop, get_or, refl, sym, ◌∙◌, ap, subst, arith}
use Rattle.std.specs.Prelude.{OnOk, OnErr}
use Rattle.std.specs.Str.{IsUtf8, IsCharBoundary}
use Rattle.std.proofs.lemmas.List.{length-append, take-append-drop, take_min, drop-drop, take-append-le, drop-append-le, take_all, drop_all}
use Rattle.std.proofs.lemmas.Str.{IsUtf8-nil, IsUtf8-append, IsCharBoundary-from_drop}
use Rattle.packed_texts.specs.Cut.{AreCut, AreWhole, cut}

pub cut_whole : (lengths bytes : List ℕ) → AreWhole lengths bytes → AreCut lengths bytes
cut_whole [] bytes whole = subst IsUtf8 (sym whole) IsUtf8-nil
cut_whole (n ∷ lengths) bytes whole = (whole.0, whole.1, cut_whole lengths (drop n bytes) whole.2)

-- one more text
pub whole_more : (lengths bytes text : List ℕ) → AreWhole lengths bytes → IsUtf8 text → AreWhole (lengths ++ length text ∷ []) (bytes ++ text)
whole_more [] bytes text whole utf8 =
    let same : bytes ++ text ≡ text = ap (λ b. b ++ text) whole in
    subst (AreWhole (length text ∷ [])) (sym same) (omega arith, subst IsUtf8 (sym (take_all (length text) text (omega arith))) utf8, drop_all (length text) text (omega arith))
whole_more (n ∷ lengths) bytes text whole utf8 =
    let within : n ≤ length bytes = whole.0 in (
      omega (arith, length-append bytes text),
      subst IsUtf8 (sym (take-append-le n bytes text within)) whole.1,
      subst (AreWhole (lengths ++ length text ∷ [])) (sym (drop-append-le n bytes text within)) (whole_more lengths (drop n bytes) text whole.2 utf8),
    )

pub cut_more : (lengths bytes text : List ℕ) → AreWhole lengths bytes → cut (lengths ++ length text ∷ []) (bytes ++ text) ≡ cut lengths bytes ++ text ∷ []
cut_more [] bytes text whole =
    ap (λ b. take (length text) (b ++ text) ∷ []) whole ∙ ap (λ t. t ∷ []) (take_all (length text) text (omega arith))
cut_more (n ∷ lengths) bytes text whole =
    let within : n ≤ length bytes = whole.0 in
    rw (take-append-le n bytes text within, drop-append-le n bytes text within) (ap (λ ts. take n bytes ∷ ts) (cut_more lengths (drop n bytes) text whole.2))

-- texts one behind another are a text
pub text_cut : (lengths bytes : List ℕ) → AreCut lengths bytes → IsUtf8 bytes
text_cut [] bytes are = are
text_cut (n ∷ lengths) bytes are = subst IsUtf8 (take-append-drop n bytes) (IsUtf8-append (take n bytes) (drop n bytes) are.1 (text_cut lengths (drop n bytes) are.2))

-- as many texts as lengths
pub length_cut : (lengths bytes : List ℕ) → length (cut lengths bytes) ≡ length lengths
length_cut [] bytes = refl
length_cut (n ∷ lengths) bytes = ap suc (length_cut lengths (drop n bytes))

-- the first text, and those behind it
pub cut_none : (lengths bytes : List ℕ) → length lengths ≡ 0 → cut lengths bytes ≡ []
cut_none [] bytes none = refl
cut_none (n ∷ lengths) bytes none = absurd (omega arith)

pub cut_first : (lengths bytes : List ℕ) → 0 < length lengths → cut lengths bytes ≡ take (get_or lengths 0 0) bytes ∷ cut (drop 1 lengths) (drop (get_or lengths 0 0) bytes)
cut_first [] bytes some = absurd (omega arith)
cut_first (n ∷ lengths) bytes some = refl

pub first_behind : (lengths bytes : List ℕ) → 0 < length lengths → AreCut lengths bytes → AreCut (drop 1 lengths) (drop (get_or lengths 0 0) bytes)
first_behind [] bytes some are = absurd (omega arith)
first_behind (n ∷ lengths) bytes some are = are.2

pub first_ends : (lengths bytes : List ℕ) → 0 < length lengths → AreCut lengths bytes → IsCharBoundary bytes (get_or lengths 0 0)
first_ends [] bytes some are = absurd (omega arith)
first_ends (n ∷ lengths) bytes some are = IsCharBoundary-from_drop bytes n are.0 (text_cut lengths (drop n bytes) are.2)

-- the first so many
pub cut_take : (k : ℕ) (lengths bytes : List ℕ) → cut (take k lengths) bytes ≡ take k (cut lengths bytes)
cut_take zero lengths bytes = refl
cut_take (suc k) [] bytes = refl
cut_take (suc k) (n ∷ lengths) bytes = ap (λ ts. take n bytes ∷ ts) (cut_take k lengths (drop n bytes))

pub are_take : (k : ℕ) (lengths bytes : List ℕ) → AreCut lengths bytes → AreCut (take k lengths) bytes
are_take zero lengths bytes are = text_cut lengths bytes are
are_take (suc k) [] bytes are = are
are_take (suc k) (n ∷ lengths) bytes are = (are.0, are.1, are_take k lengths (drop n bytes) are.2)

-- one more text, or what stood there
module _ {T E : Type 0} where
  pub either_whole : (result : Result T E) (lengths bytes text more_lengths more_bytes : List ℕ) → AreWhole lengths bytes → IsUtf8 text
      → OnOk result (more_bytes ≡ bytes ++ text) → OnOk result (more_lengths ≡ lengths ++ length text ∷ [])
      → OnErr result (more_bytes ≡ bytes) → OnErr result (more_lengths ≡ lengths) → AreWhole more_lengths more_bytes
  either_whole (Ok x) lengths bytes text more_lengths more_bytes whole utf8 b l b_less l_less = rw (b, l) (whole_more lengths bytes text whole utf8)
  either_whole (Err e) lengths bytes text more_lengths more_bytes whole utf8 b_more l_more b l = rw (b, l) whole

  pub pushed_cut : (result : Result T E) (lengths bytes text more_lengths more_bytes : List ℕ) (texts : List (List ℕ)) → AreWhole lengths bytes → cut lengths bytes ≡ texts
      → OnOk result (more_bytes ≡ bytes ++ text) → OnOk result (more_lengths ≡ lengths ++ length text ∷ [])
      → OnOk result (cut more_lengths more_bytes ≡ texts ++ text ∷ [])
  pushed_cut (Ok x) lengths bytes text more_lengths more_bytes texts whole is b l = rw (b, l) (cut_more lengths bytes text whole ∙ ap (λ ts. ts ++ text ∷ []) is)
  pushed_cut (Err e) lengths bytes text more_lengths more_bytes texts whole is b l = tt

-- the first so many at most
pub first_many : (k : ℕ) (lengths bytes : List ℕ) (count : ℕ) → count ≡ min k (length lengths) → cut (take count lengths) bytes ≡ take k (cut lengths bytes)
first_many k lengths bytes count e =
    cut_take count lengths bytes ∙ ap (λ m. take m (cut lengths bytes)) (e ∙ ap (λ n. min k n) (sym (length_cut lengths bytes))) ∙ take_min k (cut lengths bytes)

-- those behind one more
pub drop_next : {X : Type 0} (texts rest others : List X) (x : X) (i : ℕ) → rest ≡ drop i texts → rest ≡ x ∷ others → others ≡ drop (i + 1) texts
drop_next texts rest others x i so_far next = ap (drop 1) (sym next) ∙ ap (drop 1) so_far ∙ drop-drop 1 i texts

-- none are behind the end
pub drop_ended : {X : Type 0} (texts rest : List X) (i k : ℕ) → i ≤ k → rest ≡ drop i texts → rest ≡ [] → rest ≡ drop k texts
drop_ended texts rest i k le so_far none =
    let e : i + (k - i) ≡ k = omega arith in
    none ∙ sym (drop_all (k - i) [] (omega arith)) ∙ ap (drop (k - i)) (sym none ∙ so_far) ∙ drop-drop (k - i) i texts ∙ ap (λ n. drop n texts) e
