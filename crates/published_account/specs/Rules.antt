-- What readers and the writer of the two published copies have seen, and what their steps tell.
use Rattle.std.specs.Prelude.{◌≡◌, ℕ, List, Option, Some, IfSome, MatchOption}
use mathlib.Core.Option.{some}
use mathlib.Core.List.{IsPrefix}
use lib.ListN.{get_elem?}
use Rattle.account_steps.specs.declared.facts.RealmFacts.{RealmFacts}
use Rattle.logbook.specs.Pages.{Book}
use Rattle.published_account.specs.Pairs.{Shown}

-- y goes on where x ends: it has further pairs at most
pub record GoesOn (x y : Shown) : Type 0 where
  pub pairs : IsPrefix x.whole.pairs y.whole.pairs
  pub book : y.book ≡ x.book
  pub facts : y.whole.facts ≡ x.whole.facts
  pub passes : y.whole.passes ≡ x.whole.passes
  pub loaded : y.whole.loaded ≡ x.whole.loaded

-- what is published goes on where the view ends. A view is what its seat saw last, if anything
abbrev pub Fits : Shown → Option Shown → Type 0
Fits x v = IfSome v (λ u. GoesOn u x)

abbrev pub Keeps : Shown → List (Option Shown) → Type 0
Keeps x views = (seat : ℕ) (v : Option Shown) → get_elem? views seat ≡ some v → Fits x v

-- after the step the seat has seen y, which goes on where its view ended
abbrev pub Looks : Option Shown → Shown → Shown → Option Shown → Type 0
Looks v x y w = (w ≡ Some y) × Fits y v

-- what is published is of this book, with these facts, so many passes and so many entries that were loaded
abbrev pub Names : Book → RealmFacts → ℕ → ℕ → Shown → Type 0
Names b f n k x = (x.book ≡ b) × (x.whole.facts ≡ f) × (x.whole.passes ≡ n) × (x.whole.loaded ≡ k)

-- the seat has seen something of this book, with these facts, so many passes and so many entries that were loaded
abbrev pub Knows : Book → RealmFacts → ℕ → ℕ → Option Shown → Type 0
Knows b f n k v = MatchOption v ⊥ (λ x. Names b f n k x)
