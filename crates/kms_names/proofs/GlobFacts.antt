-- A match that takes back its last `*` alone finds a match where there is one.
use Rattle.std.proofs.Common.{◌≡◌, ◌≢◌, ◌⊎◌, ℕ, ◌+◌, ◌≤◌, suc, List, [], ◌∷◌, ◌++◌, length, Option, None, Some, refl, ap, sym, ◌∙◌, subst, inl, inr, ⊎_elim, append_assoc, append-nil, arith, length-append}
use Rattle.std.specs.Prelude.{◌↔◌}
use Rattle.kms_names.specs.Glob.{Globs, star, question_mark}

-- the same pattern matches from a later character on
abbrev pub Later : List ℕ → List ℕ → Type 0
Later p text = (c : ℕ) × (rest : List ℕ) × (text ≡ c ∷ rest) × Globs (star ∷ p) rest

abbrev pub HasNoStar : List ℕ → Type 0
HasNoStar [] = Unit {0}
HasNoStar (c ∷ p) = (c ≢ star) × HasNoStar p

-- from p at t the place q at r is reached, each character of the pattern between them taking one of the text
pub record IsReached (p t q r : List ℕ) : Type 0 where
  pub passed : List ℕ
  pub taken : List ℕ
  pub pattern : p ≡ passed ++ q
  pub text : t ≡ taken ++ r
  pub alike : length passed ≡ length taken
  pub no_star : HasNoStar passed

pub reached_itself : (p t : List ℕ) → IsReached p t p t
reached_itself p t = record { passed = []; taken = []; pattern = refl; text = refl; alike = refl; no_star = tt }

-- a `*` takes nothing, or one character more
pub star_splits : (p text : List ℕ) → Globs (star ∷ p) text → Globs p text ⊎ Later p text
star_splits p text (inl ([], rest, e, same, matches)) = inl (subst (Globs p) (sym same) matches)
star_splits p text (inl (d ∷ run, rest, e, same, matches)) = inr (d, run ++ rest, same, inl (run, rest, refl, refl, matches))
star_splits p text (inr (inl (one, rest, e, same, matches))) = absurd (omega arith)
star_splits p text (inr (inr (rest, same, matches))) = inr (star, rest, same, inl ([], rest, refl, refl, matches))

pub star_takes_none : (p text : List ℕ) → Globs p text → Globs (star ∷ p) text
star_takes_none p text matches = inl ([], text, refl, refl, matches)

pub star_takes_one : (p : List ℕ) (c : ℕ) (rest : List ℕ) → Globs (star ∷ p) rest → Globs (star ∷ p) (c ∷ rest)
star_takes_one p c rest (inl (run, end, e, same, matches)) = inl (c ∷ run, end, refl, ap (λ t. c ∷ t) same, matches)
star_takes_one p c rest (inr (inl (one, end, e, same, matches))) = absurd (omega arith)
star_takes_one p c rest (inr (inr (end, same, matches))) = inl (c ∷ star ∷ [], end, refl, ap (λ t. c ∷ t) same, matches)

pub later_star : (p t : List ℕ) → Later p t → Globs (star ∷ p) t
later_star p t (c, rest, same, matches) = subst (Globs (star ∷ p)) (sym same) (star_takes_one p c rest matches)

pub star_takes_run : (p run rest : List ℕ) → Globs (star ∷ p) rest → Globs (star ∷ p) (run ++ rest)
star_takes_run p [] rest matches = matches
star_takes_run p (c ∷ run) rest matches = star_takes_one p c (run ++ rest) (star_takes_run p run rest matches)

-- characters other than `*` take one character each
pub takes_as_many : (passed q text : List ℕ) → HasNoStar passed → Globs (passed ++ q) text
    → (u : List ℕ) × (v : List ℕ) × (text ≡ u ++ v) × (length u ≡ length passed) × Globs q v
takes_as_many [] q text none matches = ([], text, refl, refl, matches)
takes_as_many (c ∷ passed) q text none (inl (run, rest, e, same, matches)) = absurd (none.0 e)
takes_as_many (c ∷ passed) q text none (inr (inl (one, rest, e, same, matches))) =
    let further = takes_as_many passed q rest none.1 matches in
    (one ∷ further.0, further.1, same ∙ ap (λ t. one ∷ t) further.2, ap suc further.3, further.4)
takes_as_many (c ∷ passed) q text none (inr (inr (rest, same, matches))) =
    let further = takes_as_many passed q rest none.1 matches in
    (c ∷ further.0, further.1, same ∙ ap (λ t. c ∷ t) further.2, ap suc further.3, further.4)

-- of two cuts of a list the later one leaves an end of what the earlier one leaves
later_cut : (a b c d : List ℕ) → length a ≤ length b → a ++ c ≡ b ++ d → (z : List ℕ) × (c ≡ z ++ d)
later_cut [] b c d short same = (b, same)
later_cut (x ∷ a) [] c d short same = absurd (omega arith)
later_cut (x ∷ a) (y ∷ b) c d short same =
    let tails : a ++ c ≡ b ++ d = cc in
    let shorter : length a ≤ length b = omega arith in later_cut a b c d shorter tails

pub star_takes_end : (p t : List ℕ) → Globs (star ∷ p) t → (x : List ℕ) × (y : List ℕ) × (t ≡ x ++ y) × Globs p y
star_takes_end p t (inl (run, rest, e, same, matches)) = (run, rest, same, matches)
star_takes_end p t (inr (inl (one, rest, e, same, matches))) = absurd (omega arith)
star_takes_end p t (inr (inr (rest, same, matches))) = (star ∷ [], rest, same, matches)

-- where a `*` is reached, an earlier `*` is needed no more
pub later_star_serves : (p t q r : List ℕ) → IsReached p t (star ∷ q) r → Later p t → Globs (star ∷ q) r
later_star_serves p t q r reached (c, rest, same, matches) =
    let ends = star_takes_end p rest matches in
    let taken_again = takes_as_many reached.passed (star ∷ q) ends.1 reached.no_star (subst (λ pattern. Globs pattern ends.1) reached.pattern ends.3) in
    let u : List ℕ = taken_again.0 in
    let v : List ℕ = taken_again.1 in
    let whole : t ≡ (c ∷ ends.0 ++ u) ++ v =
    same ∙ ap (λ x. c ∷ x) (ends.2 ∙ ap (λ y. ends.0 ++ y) taken_again.2 ∙ sym (append_assoc ends.0 u v)) in
    let short : length reached.taken ≤ length (c ∷ ends.0 ++ u) = omega (arith, reached.alike, taken_again.3, length-append ends.0 u) in
    let cut = later_cut reached.taken (c ∷ ends.0 ++ u) r v short (sym reached.text ∙ whole) in
    subst (Globs (star ∷ q)) (sym cut.1) (star_takes_run q cut.0 v taken_again.4)

-- a character of the pattern takes one of the text
pub one_matches : (c d : ℕ) (p t : List ℕ) → (c ≡ question_mark) ⊎ (c ≡ d) → Globs p t → Globs (c ∷ p) (d ∷ t)
one_matches c d p t (inl e) matches = inr (inl (d, t, e, refl, matches))
one_matches c d p t (inr e) matches = inr (inr (t, ap (λ x. x ∷ t) (sym e), matches))

pub one_matched : (c d : ℕ) (p t : List ℕ) → c ≢ star → Globs (c ∷ p) (d ∷ t) → Globs p t
one_matched c d p t other (inl (run, rest, e, same, matches)) = absurd (other e)
one_matched c d p t other (inr (inl (one, rest, e, same, matches))) = let tails : rest ≡ t = cc in subst (Globs p) tails matches
one_matched c d p t other (inr (inr (rest, same, matches))) = let tails : rest ≡ t = cc in subst (Globs p) tails matches

-- the rest of a match at a place, with what the last `*` that was passed may still bring: its pattern and its
-- text stand in `last`
abbrev pub IsAsGood : Type 0 → List ℕ → List ℕ → Option (List ℕ × List ℕ) → Type 0
IsAsGood whole p t None = whole ↔ Globs p t
IsAsGood whole p t (Some last) = (whole ↔ (Globs p t ⊎ Later last.0 last.1)) × IsReached last.0 last.1 p t

pub good_after_star : (whole : Type 0) (p t : List ℕ) (last : Option (List ℕ × List ℕ)) → IsAsGood whole (star ∷ p) t last → IsAsGood whole p t (Some (p, t))
good_after_star whole p t None (to, back) =
    ((λ w. star_splits p t (to w), λ e. back (⊎_elim (star_takes_none p t) (λ l. later_star p t l) e)), reached_itself p t)
good_after_star whole p t (Some last) ((to, back), reached) =
    ((λ w. star_splits p t (⊎_elim (λ m. m) (later_star_serves last.0 last.1 p t reached) (to w)), λ e. back (inl (⊎_elim (star_takes_none p t) (λ l. later_star p t l) e))), reached_itself p t)

no_star_more : (passed : List ℕ) (c : ℕ) → HasNoStar passed → c ≢ star → HasNoStar (passed ++ c ∷ [])
no_star_more [] c none other = (other, tt)
no_star_more (x ∷ passed) c none other = (none.0, no_star_more passed c none.1 other)

later_tail : (a : List ℕ) (c : ℕ) (rest : List ℕ) → Later a (c ∷ rest) → Globs (star ∷ a) rest
later_tail a c rest (d, end, same, matches) = let tails : end ≡ rest = cc in subst (Globs (star ∷ a)) tails matches

later_none : (a : List ℕ) → ¬ (Later a [])
later_none a (d, end, same, matches) = cc

reached_further : (a f : List ℕ) (c d : ℕ) (p t : List ℕ) → c ≢ star → IsReached a f (c ∷ p) (d ∷ t) → IsReached a f p t
reached_further a f c d p t other reached = record {
  passed = reached.passed ++ c ∷ [];
  taken = reached.taken ++ d ∷ [];
  pattern = reached.pattern ∙ sym (append_assoc reached.passed (c ∷ []) p);
  text = reached.text ∙ sym (append_assoc reached.taken (d ∷ []) t);
  alike = simp length-append (ap (λ n. n + 1) reached.alike);
  no_star = no_star_more reached.passed c reached.no_star other;
}

pub good_after_advance : (whole : Type 0) (c d : ℕ) (p t : List ℕ) (last : Option (List ℕ × List ℕ)) → c ≢ star → (c ≡ question_mark) ⊎ (c ≡ d)
    → IsAsGood whole (c ∷ p) (d ∷ t) last → IsAsGood whole p t last
good_after_advance whole c d p t None other takes (to, back) =
    (λ w. one_matched c d p t other (to w), λ m. back (one_matches c d p t takes m))
good_after_advance whole c d p t (Some last) other takes ((to, back), reached) = (
  (λ w. ⊎_elim (λ m. inl (one_matched c d p t other m)) inr (to w), λ e. back (⊎_elim (λ m. inl (one_matches c d p t takes m)) inr e)),
  reached_further last.0 last.1 c d p t other reached,
)

pub good_one_later : (whole : Type 0) (p t a : List ℕ) (c : ℕ) (rest : List ℕ) → ¬ (Globs p t) → IsAsGood whole p t (Some (a, c ∷ rest))
    → IsAsGood whole a rest (Some (a, rest))
good_one_later whole p t a c rest stuck ((to, back), reached) = (
  (
    λ w. ⊎_elim (λ m. absurd (stuck m)) (λ l. star_splits a rest (later_tail a c rest l)) (to w),
    λ e. back (inr (c, rest, refl, ⊎_elim (star_takes_none a rest) (later_star a rest) e)),
  ),
  reached_itself a rest,
)

pub star_takes_all : (text : List ℕ) → Globs (star ∷ []) text
star_takes_all text = inl (text, [], refl, sym (append-nil text), refl)
