-- What a crash may leave of a history while entries are made.
use Rattle.std.proofs.Common.{◌≡◌, ℕ, Bool, true, false, IsTrue, Result, Err, List, [], ◌∷◌, ◌++◌, Option, None, Some, refl, sym, ap, ◌∙◌, subst, ◌⊎◌, inl, inr}
use mathlib.Core.List.{IsPrefix}
use Rattle.kms_json.specs.declared.asks.Ask.{Ask}
use Rattle.account_steps.specs.History.{Entry, housekeeping_of}
use Rattle.account_core.specs.Decide.{decide}
use Rattle.published_account.specs.Pairs.{entries_of}
use Rattle.published_account.proofs.Lists.{entries_of-push, prefix_self, prefix_trans}
use Rattle.publish_pass.specs.Pass.{Pass, making, making_any, keeping_house, deciding}
use Rattle.keepers.specs.Keeping.{LeavesAlso, IsBetween}
use Rattle.keepers.specs.declared.keeps.Unmade.{Unmade}
use Rattle.keepers.specs.declared.keeps.Unmade.TheVariants.{NoMemory as Lacking, Unkept}
use Rattle.keepers.proofs.KeepingFacts.{leaves_on}

-- ---- a history goes on

making_one : (s : Pass) (entry : Entry) → entries_of (making s entry).history ≡ entries_of s.history ++ entry ∷ []
making_one s entry = entries_of-push s.history (entry, s.number)

goes_on : (s : Pass) (made : Option Entry) → IsPrefix (entries_of s.history) (entries_of (making_any s made).history)
goes_on s None = prefix_self (entries_of s.history)
goes_on s (Some entry) = (entry ∷ [], sym (making_one s entry))

made_one : (s : Pass) (made : Option Entry) (entry : Entry) → made ≡ Some entry → entries_of s.history ++ entry ∷ [] ≡ entries_of (making_any s made).history
made_one s made entry is = sym (making_one s entry) ∙ ap (λ (o : Option Entry). entries_of (making_any s o).history) (sym is)

module _ {K : Type 0} (moment : K → ℕ) (left_since : K → ℕ → List ℕ → Type 0) (reads : List ℕ → List Entry → Type 0) where
  abbrev Leaves : K → K → List Entry → List Entry → Type 0
  Leaves old new first last = LeavesAlso moment left_since old new (IsBetween reads first last)

  -- what may be left meanwhile begins earlier and ends later
  wider : (old new : K) (first last earlier later : List Entry) → IsPrefix earlier first → IsPrefix last later → Leaves old new first last → Leaves old new earlier later
  wider old new first last earlier later begins ends leaves = record {
    later = leaves.later;
    also = λ t file le was. elim (leaves.also t file le was) as (λ _. left_since old t file ⊎ IsBetween reads earlier later file) [
      | inl before ↦ inl before
      | inr has ↦ inr (record { history = has.history; read = has.read; from = prefix_trans earlier first has.history begins has.from; to = prefix_trans has.history last later has.to ends })
    ];
  }

  -- one entry more of a pass that holds the history
  leaves_made : (old new : K) (s : Pass) (history : List (Entry × ℕ)) (made : Option Entry) (entry : Entry) → s.history ≡ history → made ≡ Some entry
      → Leaves old new (entries_of history) (entries_of history ++ entry ∷ []) → Leaves old new (entries_of history) (entries_of (making_any s made).history)
  leaves_made old new s history made entry met is leaves =
      subst (Leaves old new (entries_of history)) (ap (λ (h : List (Entry × ℕ)). entries_of h ++ entry ∷ []) (sym met) ∙ made_one s made entry is) leaves

  -- that of housekeeping
  pub leaves_house : (old new : K) (s : Pass) (history : List (Entry × ℕ)) (clock : ℕ) (entry : Entry) → s.history ≡ history → housekeeping_of (entries_of s.history) clock ≡ Some entry
      → Leaves old new (entries_of history) (entries_of history ++ entry ∷ []) → Leaves old new (entries_of history) (entries_of (keeping_house s clock).history)
  leaves_house old new s history clock entry met is leaves = leaves_made old new s history _ entry met is leaves

  -- that of a decision
  pub leaves_decision : (old new : K) (s : Pass) (history : List (Entry × ℕ)) (x : Ask) (entry : Entry) → s.history ≡ history → (decide s.facts (entries_of s.history) x s.places).entry ≡ Some entry
      → Leaves old new (entries_of history) (entries_of history ++ entry ∷ []) → Leaves old new (entries_of history) (entries_of (deciding s x).history)
  leaves_decision old new s history x entry met is leaves = leaves_made old new s history _ entry met is leaves

  -- housekeeping, and then no more
  pub leaves_first : (old new : K) (s : Pass) (history : List (Entry × ℕ)) (clock : ℕ) (x : Ask)
      → Leaves old new (entries_of history) (entries_of (keeping_house s clock).history) → Leaves old new (entries_of history) (entries_of (deciding (keeping_house s clock) x).history)
  leaves_first old new s history clock x leaves = wider old new _ _ _ _ (prefix_self (entries_of history)) (goes_on (keeping_house s clock) _) leaves

  -- housekeeping, and then a decision
  pub leaves_both : (old mid new : K) (s u : Pass) (before after : List (Entry × ℕ)) (clock : ℕ) (x : Ask) → s.history ≡ before → u ≡ keeping_house s clock → after ≡ u.history
      → Leaves old mid (entries_of before) (entries_of (keeping_house s clock).history) → Leaves mid new (entries_of after) (entries_of (deciding u x).history)
      → Leaves old new (entries_of before) (entries_of (deciding (keeping_house s clock) x).history)
  leaves_both old mid new s u before after clock x met house holds first second =
      let begins : IsPrefix (entries_of before) (entries_of after) =
      subst (λ (h : List (Entry × ℕ)). IsPrefix (entries_of before) (entries_of h)) (sym (holds ∙ ap (λ (p : Pass). p.history) house))
      (subst (λ (h : List (Entry × ℕ)). IsPrefix (entries_of h) (entries_of (keeping_house s clock).history)) met (goes_on s _)) in
      let last : Leaves mid new (entries_of after) (entries_of (deciding (keeping_house s clock) x).history) =
      subst (λ (p : Pass). Leaves mid new (entries_of after) (entries_of (deciding p x).history)) house second in
      let ends = entries_of (deciding (keeping_house s clock) x).history in
      leaves_on moment left_since old mid new (IsBetween reads (entries_of before) ends) (IsBetween reads (entries_of before) ends)
      (wider old mid _ _ _ _ (prefix_self (entries_of before)) (goes_on (keeping_house s clock) _) first)
      (wider mid new _ _ _ _ begins (prefix_self ends) last)
      (λ file has. has)

-- ---- an entry that a keeper was told

module _ {K : Type 0} (is_open : K → Bool) where
  -- after an error a keeper that is open is as it was
  pub stays_open : (keeps : Bool) (old new : K) (why : Unmade) (r : Result (Unit {0}) Unmade) → r ≡ Err why → (r ≡ Err Lacking → new ≡ old) → (r ≡ Err Unkept → IsTrue keeps × (is_open new ≡ false))
      → is_open new ≡ true → new ≡ old
  stays_open keeps old new Lacking r is lacking unkept opened = lacking is
  stays_open keeps old new Unkept r is lacking unkept opened = let shut : is_open new ≡ false = (unkept is).1 in let bad : true ≡ false = sym opened ∙ shut in cc
