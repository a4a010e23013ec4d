-- What is kept of a history beyond the process, so that a crash leaves it.
use Rattle.std.specs.Prelude.{◌≡◌, ◌⊎◌, ◌≤◌, ℕ, List, [], ◌∷◌, ◌++◌, length, take, Bool, true, false}
use mathlib.Core.List.{IsPrefix}
use Rattle.account_rows.specs.declared.entries.Entry.{Entry}

-- a crash at some moment since an earlier one may have left a file that it might have left before, or else one that has P
pub record LeavesAlso {K : Type 0} (moment : K → ℕ) (left_since : K → ℕ → List ℕ → Type 0) (old new : K) (P : List ℕ → Type 0) : Type 0 where
  pub later : moment old ≤ moment new
  pub also : (t : ℕ) (file : List ℕ) → t ≤ moment old → left_since new t file → left_since old t file ⊎ P file

-- a file that is read as this history or as that with one entry more
abbrev pub IsWithOrWithout : (List ℕ → List Entry → Type 0) → List Entry → Entry → List ℕ → Type 0
IsWithOrWithout reads history entry file = reads file history ⊎ reads file (history ++ entry ∷ [])

-- a file that is read as a history that goes on from one to another
pub record IsBetween (reads : List ℕ → List Entry → Type 0) (first last : List Entry) (file : List ℕ) : Type 0 where
  pub history : List Entry
  pub read : reads file history
  pub from : IsPrefix first history
  pub to : IsPrefix history last

-- a file that is read as a history that begins with this one
pub record Holds (reads : List ℕ → List Entry → Type 0) (first : List Entry) (file : List ℕ) : Type 0 where
  pub history : List Entry
  pub read : reads file history
  pub from : IsPrefix first history

-- since some moment each crash leaves a file that holds this history
pub record KeptFrom {K : Type 0} (moment : K → ℕ) (left_since : K → ℕ → List ℕ → Type 0) (reads : List ℕ → List Entry → Type 0) (keeper : K) (history : List Entry) : Type 0 where
  pub since : ℕ
  pub passed : since ≤ moment keeper
  pub each : (file : List ℕ) → left_since keeper since file → Holds reads history file

-- so it is of each beginning of a history
abbrev pub EachKept : {K : Type 0} → (K → ℕ) → (K → ℕ → List ℕ → Type 0) → (List ℕ → List Entry → Type 0) → K → List Entry → Type 0
EachKept moment left_since reads keeper history = (n : ℕ) → n ≤ length history → KeptFrom moment left_since reads keeper (take n history)

-- a file that is read as a history with one more entry
pub record IsOneMore (reads : List ℕ → List Entry → Type 0) (history : List Entry) (file : List ℕ) : Type 0 where
  pub entry : Entry
  pub read : reads file (history ++ entry ∷ [])

-- A crash since the start leaves a file that is read as a beginning of this history, in which all that was loaded stands; or, once the keeper is shut, as the
-- history and one entry more, which wasn't made.
abbrev pub IsLeft : (List ℕ → List Entry → Type 0) → Bool → ℕ → List Entry → List ℕ → Type 0
IsLeft reads opened loaded history file = IsBetween reads (take loaded history) history file ⊎ ((opened ≡ false) × IsOneMore reads history file)

-- What was kept since a moment, from which on the history began with so many loaded entries: while the keeper is open it was told exactly this history; each
-- beginning of it is kept since some moment; and no crash leaves anything else.
pub record IsKept {K : Type 0} (tells : K → List Entry → Type 0) (is_open : K → Bool) (moment : K → ℕ) (left_since : K → ℕ → List ℕ → Type 0) (reads : List ℕ → List Entry → Type 0)
    (started loaded : ℕ) (keeper : K) (history : List Entry) : Type 0 where
  pub whole : is_open keeper ≡ true → tells keeper history
  pub each : EachKept moment left_since reads keeper history
  pub later : started ≤ moment keeper
  pub only : (file : List ℕ) → left_since keeper started file → IsLeft reads (is_open keeper) loaded history file
