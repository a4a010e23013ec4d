-- What lies under a service's lock, and what it leaves.
use Rattle.std.specs.Prelude.{◌≡◌, ℕ, List, Bool, IsTrue}
use Rattle.account_steps.specs.declared.facts.RealmFacts.{RealmFacts}
use Rattle.account_steps.specs.History.{Entry}
use Rattle.keepers.specs.Keeping.{IsKept}
use Rattle.published_account.specs.Pairs.{IsHistory, entries_of}

-- what lies under the service's lock: the published history, each entry with the number of the pass that made it, and what keeps it
pub record Desk (K : Type 0) : Type 0 where
  pub pairs : List (Entry × ℕ)
  pub keeper : K

-- the last history of a service with these facts, of so many passes, that began with so many entries, is kept, where anything is
pub record EndsKept {K : Type 0} (facts : RealmFacts) (passes loaded : ℕ) (keeps : Bool) (tells : K → List Entry → Type 0) (is_open : K → Bool) (moment : K → ℕ) (left_since : K → ℕ → List ℕ → Type 0)
    (reads : List ℕ → List Entry → Type 0) (started : ℕ) (keeper : K) : Type 0 where
  pub pairs : List (Entry × ℕ)
  pub history : IsHistory facts passes loaded pairs
  pub kept : IsTrue keeps → IsKept tells is_open moment left_since reads started loaded keeper (entries_of pairs)
