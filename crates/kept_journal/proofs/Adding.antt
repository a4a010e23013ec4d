-- What a journal tells once a line was added.
use Rattle.std.proofs.Common.{◌≡◌, ◌⊎◌, inl, inr, ⊎_elim, ℕ, List, [], ◌∷◌, ◌++◌, IsTrue, refl, sym, ap, subst, ◌∙◌, arith}
use Rattle.kept_log.specs.Device.{LeavesOnly}
use Rattle.kept_log.specs.Log.{recovered, IsBeforeOrAfter}
use Rattle.kept_log.specs.declared.device.Device as device
use Rattle.kept_journal.specs.declared.told.Told.{Told}
use Rattle.kept_journal.specs.declared.journal.KeptJournal.{KeptJournal}
use Rattle.kept_journal.specs.Lines.{Head, Recovers, text_of, seal_of, sealed, key_of, records_of, last_seal}
use Rattle.kept_journal.specs.Tells.{Tells}
use Rattle.kept_journal.proofs.Chain.{records_are, seal_is}

-- what has P has Q
pub widened : {D : Type 0} (moment : D → ℕ) (left_since : D → ℕ → List ℕ → Type 0) (old new : D) (P Q : List ℕ → Type 0)
    → LeavesOnly moment left_since old new P → ((c : List ℕ) → P c → Q c) → LeavesOnly moment left_since old new Q
widened moment left_since old new P Q run p = record {
  later = run.later;
  each = λ c left. p c (run.each c left);
  before = λ t c le left. ⊎_elim (λ was. inl was) (λ now. inr (p c now)) (run.before t c le left);
}

-- one run, and then another
pub joined : {D : Type 0} (moment : D → ℕ) (left_since : D → ℕ → List ℕ → Type 0) (old mid new : D) (P : List ℕ → Type 0)
    → LeavesOnly moment left_since old mid P → LeavesOnly moment left_since mid new P → LeavesOnly moment left_since old new P
joined moment left_since old mid new P first second = record {
  later = omega (arith, first.later, second.later);
  each = λ c left. ⊎_elim (first.each c) (λ now. now) (second.before (moment old) c first.later left);
  before = λ t c le left. ⊎_elim (first.before t c le) (λ now. inr now) (second.before t c (omega (arith, le, first.later)) left);
}

module _ {D : Type 0} {g : device.Ghosts D} (old : KeptJournal D g) (one : Told) (record_now seal : List ℕ)
    (is : record_now ≡ sealed (text_of one) seal) (seal_now : seal ≡ seal_of old.key old.seal (text_of one)) where
  module _ (head : Head) (told : List Told) (tells : Tells old head told) (is_open : IsTrue old.log.is_open) where
    seal_same : seal ≡ seal_of (key_of head.root) (last_seal head told) (text_of one)
    seal_same = seal_now ∙ ap (λ (k : List ℕ). seal_of k old.seal (text_of one)) tells.key ∙ ap (λ (s : List ℕ). seal_of (key_of head.root) s (text_of one)) (tells.seal is_open)

    record_same : record_now ≡ sealed (text_of one) (seal_of (key_of head.root) (last_seal head told) (text_of one))
    record_same = is ∙ ap (λ (s : List ℕ). sealed (text_of one) s) seal_same

    records_same : recovered (g.seen old.log.device) ++ record_now ∷ [] ≡ records_of head (told ++ one ∷ [])
    records_same =
        ap (λ (l : List (List ℕ)). l ++ record_now ∷ []) (tells.file is_open) ∙ ap (λ (b : List ℕ). records_of head told ++ b ∷ []) record_same ∙ sym (records_are head told one)

    -- a file that stands for the records from before, with the line or without it
    pub told_by : (batch : List (List ℕ)) → batch ≡ record_now ∷ [] → (c : List ℕ) → IsBeforeOrAfter (recovered (g.seen old.log.device)) batch c → Recovers head told c ⊎ Recovers head (told ++ one ∷ []) c
    told_by batch b c (inl before) = inl (before ∙ tells.file is_open)
    told_by batch b c (inr after) = inr (after ∙ ap (λ (l : List (List ℕ)). recovered (g.seen old.log.device) ++ l) b ∙ records_same)

    pub tells_on : (new : KeptJournal D g) → new.key ≡ old.key → new.seal ≡ seal
        → recovered (g.seen new.log.device) ≡ recovered (g.seen old.log.device) ++ record_now ∷ [] → Tells new head (told ++ one ∷ [])
    tells_on new key seal_on file = record {
      key = key ∙ tells.key;
      file = λ _. file ∙ records_same;
      seal = λ _. seal_on ∙ seal_same ∙ sym (seal_is head told one);
    }

-- nothing was done
pub still : {D : Type 0} {g : device.Ghosts D} (old : KeptJournal D g) → IsTrue old.log.is_open → ((c : List ℕ) → g.left_since old.log.device (g.moment old.log.device) c → g.may_leave old.log.device c)
    → (P : List ℕ → Type 0) → P (g.seen old.log.device) → LeavesOnly g.moment g.left_since old.log.device old.log.device P
still {D} {g} old is_open only_now P here = record {
  later = omega arith;
  each = λ c left. subst P (sym ((old.log.settled is_open).durable c (only_now c left))) here;
  before = λ t c le left. inl left;
}
