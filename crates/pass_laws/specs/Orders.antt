-- In which order passes made their calls.
use Rattle.std.specs.Prelude.{◌≡◌, ℕ, ◌==◌, cond, List, [], ◌∷◌, ◌++◌, length, drop}
use mathlib.Core.List.{IsPrefix}
use Rattle.account_steps.specs.declared.facts.RealmFacts.{RealmFacts}
use Rattle.account_steps.specs.History.{Entry}
use Rattle.published_account.specs.Pairs.{IsHistory, loaded_pairs}
use Rattle.publish_pass.specs.Pass.{Pass, fresh_pass}
use Rattle.pass_laws.specs.Machine.{IsNumber, places_of_maker}
use Rattle.pass_laws.specs.Calls.{Calls, no_call, one_more, Together, opened, looks, publishes}

-- of each of these calls, in order, the history that it met, and the pass as it left it
abbrev pub steps_of : {first last : Pass} → Calls first last → List (List (Entry × ℕ) × Pass)
steps_of no_call = []
steps_of (one_more {new = new} met calls call) = steps_of calls ++ (met, new) ∷ []

-- the same of those calls that the pass of this number made, among all that were made together
abbrev pub steps_in : {facts : RealmFacts} {p : ℕ} {loaded : List Entry} {passes : ℕ → Pass} {published : List (Entry × ℕ)} → ℕ → Together facts p loaded passes published
    → List (List (Entry × ℕ) × Pass)
steps_in m opened = []
steps_in m (looks n met new before is call same begins) = cond (m == n) (steps_in m before ++ (met, new) ∷ []) (steps_in m before)
steps_in m (publishes n met new before is call all) = cond (m == n) (steps_in m before ++ (met, new) ∷ []) (steps_in m before)

-- A history of the passes 1 to p of a service that began with these entries, which it begins with: what each pass holds begins it, and each pass's own entries are exactly those
-- behind the loaded ones that bear its number
pub record IsMadeBy (facts : RealmFacts) (p : ℕ) (loaded : List Entry) (last : ℕ → Pass) (history : List (Entry × ℕ)) : Type 0 where
  pub is_history : IsHistory facts p (length loaded) history
  pub loads : IsPrefix (loaded_pairs loaded) history
  pub begins : (n : ℕ) → IsNumber p n → IsPrefix (last n).history history
  pub own : (n : ℕ) → IsNumber p n → (last n).own ≡ places_of_maker n (length loaded) (drop (length loaded) history)

-- All these calls were made together, in some order, and this is published at last: the order leaves each of the passes 1 to p as its own calls left it, and the calls that
-- the pass made in it are those, one by one
pub record HaveOneOrder (facts : RealmFacts) (p : ℕ) (loaded : List Entry) (last : ℕ → Pass) (calls : (n : ℕ) → Calls (fresh_pass facts p loaded n) (last n))
    (history : List (Entry × ℕ)) : Type 0 where
  pub passes : ℕ → Pass
  pub together : Together facts p loaded passes history
  pub last_are : (n : ℕ) → IsNumber p n → passes n ≡ last n
  pub calls_are : (n : ℕ) → IsNumber p n → steps_in n together ≡ steps_of (calls n)

-- whatever calls the passes of a service made, each from its beginning on: if one history is made by all of them, the calls have one order
abbrev pub CallsHaveOneOrder : Type 0
CallsHaveOneOrder =
    (facts : RealmFacts) (p : ℕ) (loaded : List Entry) (last : ℕ → Pass) (calls : (n : ℕ) → Calls (fresh_pass facts p loaded n) (last n)) (history : List (Entry × ℕ))
    → IsMadeBy facts p loaded last history → HaveOneOrder facts p loaded last calls history
