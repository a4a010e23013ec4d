-- What a reading ends with at a last line.
use Rattle.std.proofs.Common.{◌≡◌, ℕ, ◌<◌, ◌≤◌, List, [], ◌∷◌, ◌++◌, length, Option, Some, None, Result, Ok, Err, refl, sym, ap, ap₂, subst, ◌∙◌, append_assoc, append-nil, arith}
use Rattle.std.specs.Prelude.{IfOk, IfErr, MatchOption}
use Rattle.mac_sha.specs.declared.Mac.{Mac}
use Rattle.account_steps.specs.declared.facts.RealmFacts.{RealmFacts}
use Rattle.account_core.specs.Account.{Account}
use Rattle.journal_lines.specs.Cuts.{lines_of, first_line, behind_line}
use Rattle.journal_lines.specs.FrameLines.{head_line, end_line, IsEnd}
use Rattle.journal_lines.proofs.CutFacts.{next_line, cut_whole}
use Rattle.journal_file.specs.Journal.{entries_text, text_under}
use Rattle.journal_file.specs.Faults.{IsLeft, IsFaultBehind, IsEndFault, IsReadOf, right_seal, text_at}
use Rattle.journal_file.specs.declared.faults.JournalFault.{JournalFault}
use Rattle.journal_file.proofs.ReadingSoFar.{IsSoFar, left}

-- ---- answers by their parts

pub ok_is : {A E : Type 0} (Was Is : A → Type 0) (r : Result A E) → ((a : A) → Was a → Is a) → IfOk r Was → IfOk r Is
ok_is Was Is (Ok a) each h = each a h
ok_is Was Is (Err e) each h = tt

pub err_is : {A E : Type 0} (Was Is : E → Type 0) (r : Result A E) → ((e : E) → Was e → Is e) → IfErr r Was → IfErr r Is
err_is Was Is (Ok a) each h = tt
err_is Was Is (Err e) each h = each e h

pub when_none : {A : Type 0} (No : Type 0) (Is : A → Type 0) (o : Option A) → MatchOption o No Is → o ≡ None → No
when_none No Is None h e = h
when_none No Is (Some a) h e = cc

pub when_some : {A : Type 0} (No : Type 0) (Is : A → Type 0) (o : Option A) (a : A) → MatchOption o No Is → o ≡ Some a → Is a
when_some No Is None a h e = cc
when_some No Is (Some b) a h e = let same : b ≡ a = cc in subst Is same h

-- ---- the last line

no_more : (text : List ℕ) → length text ≡ 0 → text ≡ []
no_more [] none = refl
no_more (c ∷ text) none = absurd (omega arith)

module _ (facts : RealmFacts) (boot : ℕ) (text : List ℕ) (account : Account) (mac : Mac) (rest : List ℕ) (so_far : IsSoFar facts boot text account mac rest) (some : 0 < length rest)
    (number : ℕ) (seal right : List ℕ) (end : IsEnd (first_line rest) number seal) (is_right : right ≡ right_seal facts boot account.entries) where
  -- what is left of the text is the last line
  last : length (behind_line rest) ≡ 0 → text ≡ entries_text account.entries ++ end_line number seal
  last none =
      so_far.whole ∙ ap (λ (t : List ℕ). entries_text account.entries ++ t)
      (sym (cut_whole rest) ∙ ap (λ (t : List ℕ). first_line rest ++ t) (no_more (behind_line rest) none) ∙ append-nil (first_line rest) ∙ end.is)

  rightly : length (behind_line rest) ≡ 0 → number ≡ length account.entries → seal ≡ right
      → text ≡ entries_text account.entries ++ end_line (length account.entries) (right_seal facts boot account.entries)
  rightly none counted sealed = last none ∙ ap₂ (λ (n : ℕ) (s : List ℕ). entries_text account.entries ++ end_line n s) counted (sealed ∙ is_right)

  pub read_of : length (behind_line rest) ≡ 0 → number ≡ length account.entries → seal ≡ right → boot < account.facts.boot → IsReadOf facts boot text account
  read_of none counted sealed lower = record {
    same = so_far.same;
    lower = subst (λ (f : RealmFacts). boot < f.boot) so_far.same lower;
    sound = so_far.sound;
    read = so_far.read;
    text = rightly none counted sealed;
  }

  whole : length (behind_line rest) ≡ 0 → number ≡ length account.entries → seal ≡ right → head_line facts.account facts.region boot ++ text ≡ text_at facts boot account.entries
  unfolding text_under
  whole none counted sealed =
      let head : List ℕ = head_line facts.account facts.region boot in
      ap (λ (t : List ℕ). head ++ t) (rightly none counted sealed)
      ∙ sym (append_assoc head (entries_text account.entries) (end_line (length account.entries) (right_seal facts boot account.entries)))

  lines_left : IsLeft facts text account.entries (first_line rest ∷ lines_of (behind_line rest))
  lines_left = left facts boot text account mac rest so_far some

  alone : length (behind_line rest) ≡ 0 → IsLeft facts text account.entries (first_line rest ∷ [])
  alone none = subst (λ (t : List ℕ). IsLeft facts text account.entries (first_line rest ∷ lines_of t)) (no_more (behind_line rest) none) lines_left

  more : 0 < length (behind_line rest) → IsLeft facts text account.entries (first_line rest ∷ first_line (behind_line rest) ∷ lines_of (behind_line (behind_line rest)))
  more some_more = subst (λ (ls : List (List ℕ)). IsLeft facts text account.entries (first_line rest ∷ ls)) (next_line (behind_line rest) some_more) lines_left

  pub end_fault : (fault : JournalFault) → IsEndFault account boot right number seal (behind_line rest) fault → IsFaultBehind facts boot text fault
  end_fault fault (IsEndFault.followed some_more) = IsFaultBehind.goes_on number seal (more some_more) end
  end_fault fault (IsEndFault.wrong none other) = IsFaultBehind.wrong_end number seal (alone none) end (λ counted sealed. other counted (sealed ∙ sym is_right))
  end_fault fault (IsEndFault.old none counted sealed low) =
      IsFaultBehind.old_boot so_far.sound so_far.read (whole none counted sealed) (subst (λ (f : RealmFacts). f.boot ≤ boot) so_far.same low)
