-- What opening the file of a history comes to.
use Rattle.std.specs.Prelude.{◌≡◌, ◌≤◌, ◌⊎◌, ℕ, List, [], length, Bool, true, Option, IfSome}
use Rattle.account_rows.specs.declared.entries.Entry.{Entry}
use Rattle.account_steps.specs.declared.facts.RealmFacts.{RealmFacts}
use Rattle.account_core.specs.Account.{Account}
use Rattle.account_core.specs.Fitting.{IsHeld}
use Rattle.keepers.specs.Keeping.{IsKept}

-- An account of these facts, under their boot number or a higher one, whose entries fit one behind another; and what keeps it has kept these, from this moment on.
pub record Opens {K : Type 0} (tells : RealmFacts → K → List Entry → Type 0) (is_open : K → Bool) (moment : K → ℕ) (left_since : K → ℕ → List ℕ → Type 0) (reads : RealmFacts → List ℕ → List Entry → Type 0)
    (facts : RealmFacts) (account : Account) (keeper : K) : Type 0 where
  pub facts_are : account.facts ≡ record facts { boot = account.facts.boot }
  pub no_lower : facts.boot ≤ account.facts.boot
  pub held : IsHeld account.facts account.entries
  pub opened : is_open keeper ≡ true
  pub kept : IsKept (tells account.facts) is_open moment left_since (reads account.facts) (moment keeper) (length account.entries) keeper account.entries

-- the account's entries are those that the bytes of the file are read as; or nothing was kept in it yet, and there are none
abbrev pub IsOfFile : (RealmFacts → List ℕ → List Entry → Type 0) → (List ℕ → Type 0) → List ℕ → Account → Type 0
IsOfFile reads is_new bytes account = reads account.facts bytes account.entries ⊎ (is_new bytes × (account.entries ≡ []))

-- so it is of the file of a name, where its bytes are told
abbrev pub IsOfNamed : (List ℕ → Option (List ℕ)) → (RealmFacts → List ℕ → List Entry → Type 0) → (List ℕ → Type 0) → List ℕ → Account → Type 0
IsOfNamed files reads is_new name account = IfSome (files name) (λ bytes. IsOfFile reads is_new bytes account)

-- a file of this name has its first fault at this line, where its bytes are told
abbrev pub IsFaultyNamed : (List ℕ → Option (List ℕ)) → (RealmFacts → List ℕ → ℕ → Type 0) → RealmFacts → List ℕ → ℕ → Type 0
IsFaultyNamed files is_faulty facts name line = IfSome (files name) (λ bytes. is_faulty facts bytes line)
