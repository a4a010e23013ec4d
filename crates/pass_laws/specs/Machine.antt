-- The machine of events: one history that all passes make, and what each pass has seen, made and used.
use Rattle.std.specs.Prelude.{◌≡◌, ◌≢◌, ℕ, ◌+◌, ◌^◌, ◌==◌, ◌<◌, ◌≤◌, true, false, cond, max, List, [], ◌∷◌, ◌++◌, length, take, drop, Option, Some, None}
use Rattle.kms_names.specs.Moment.{year_10000}
use Rattle.std.specs.List.Sorted.{IsNonDecreasingBy}
use mathlib.Core.List.{IsPrefix}
use Rattle.kms_json.specs.declared.asks.Ask.{Ask}
use Rattle.kms_json.specs.declared.replies.Reply.TheVariants.{Decrypted}
use Rattle.kms_json.specs.Asks.{changes_account}
use Rattle.authority.specs.Setting.{callers_policies}
use Rattle.authority.specs.Allowed.{AreIdentityPolicies}
use Rattle.account_steps.specs.declared.facts.RealmFacts.{RealmFacts}
use Rattle.account_steps.specs.History.{Entry}
use Rattle.account_steps.specs.declared.places.Places.{Places}
use Rattle.account_steps.specs.Places.{IsUpTo}
use Rattle.grant_table.specs.Grants.{grant_with}
use Rattle.account_rows.specs.declared.entries.What.TheVariants as what
use Rattle.account_rows.specs.History.{replay}
use Rattle.account_steps.specs.History.{housekeeping_of}
use Rattle.account_core.specs.Decide.{decide, IsProper}
use Rattle.account_laws.specs.Laws.{IsOpened, Sealing, HasSealed, AsksToOpen, reply_to, iv_in, PassGoesOn, exception_of, unless_excepted}
use Rattle.published_account.specs.Pairs.{IsHistory, entries_of, loaded_pairs}

-- the published history, each entry with the number of the pass that made it; and of the pass of each number how many entries it has
-- seen, the places of its own, and what it has used of its random stream and of its initialization vectors
pub record State : Type 0 where
  pub history : List (Entry × ℕ)
  pub seen : ℕ → ℕ
  pub own : ℕ → List ℕ
  pub places : ℕ → Places

-- What the pass of a number does: housekeeping at a clock's answer; a request that changes the account; a request that doesn't,
-- at the first so many entries; one for which memory lacks, which leaves the pass at these places; and learning so many entries
pub data Event : Type 0 where
  house : ℕ → ℕ → Event
  change : ℕ → Ask → Event
  read : ℕ → Ask → ℕ → Event
  starved : ℕ → Ask → ℕ → Places → Event
  learn : ℕ → ℕ → Event

-- these entries were loaded, of which none is a pass's own. Each pass has seen them, and nothing was made or used
abbrev pub start : List Entry → State
start loaded = record { history = loaded_pairs loaded; seen = λ m. length loaded; own = λ m. []; places = λ m. record { number = m; words = 0; ivs = 0 } }

-- the entry is appended by the pass, which then has seen all
abbrev pub made : State → ℕ → Entry → State
made s n entry = record {
  history = s.history ++ (entry, n) ∷ [];
  seen = λ m. cond (m == n) (length s.history + 1) (s.seen m);
  own = λ m. cond (m == n) (s.own m ++ length s.history ∷ []) (s.own m);
  places = s.places;
}

-- the pass has seen so many entries
abbrev pub looked : State → ℕ → ℕ → State
looked s n k = record { history = s.history; seen = λ m. cond (m == n) k (s.seen m); own = s.own; places = s.places }

-- and is at these places
abbrev pub looked_at : State → ℕ → ℕ → Places → State
looked_at s n k places =
    record { history = s.history; seen = λ m. cond (m == n) k (s.seen m); own = s.own; places = λ m. cond (m == n) places (s.places m) }

abbrev pub made_any : State → ℕ → Option Entry → State
made_any s n None = looked s n (length s.history)
made_any s n (Some entry) = made s n entry

-- the number of one of the passes 1 to p
abbrev pub IsNumber : ℕ → ℕ → Type 0
IsNumber p n = (0 < n) × (n ≤ p)

-- the places of the pass after the request at the first k entries
abbrev pub places_after : RealmFacts → State → ℕ → Ask → ℕ → Places
places_after facts s n x k = (decide facts (entries_of (take k s.history)) x (s.places n)).places

-- the request can be asked at the first k entries: it doesn't change the account, and the pass has seen no more
pub record MayRead (facts : RealmFacts) (s : State) (n : ℕ) (x : Ask) (k : ℕ) : Type 0 where
  pub proper : IsProper facts x
  pub reads : changes_account x.body ≡ false
  pub from : s.seen n ≤ k
  pub to : k ≤ length s.history

-- one event of a machine of p passes
abbrev pub Step : RealmFacts → ℕ → State → Event → State → Type 0
Step facts p s (house n clock) t =
    IsNumber p n × (clock < year_10000) × ((entry : Entry) × (housekeeping_of (entries_of s.history) clock ≡ Some entry) × (t ≡ made s n entry))
Step facts p s (change n x) t =
    IsNumber p n × IsProper facts x × (changes_account x.body ≡ true) × (t ≡ made_any s n (decide facts (entries_of s.history) x (s.places n)).entry)
Step facts p s (read n x k) t = IsNumber p n × MayRead facts s n x k × (t ≡ looked_at s n k (places_after facts s n x k))
Step facts p s (starved n x k left) t = IsNumber p n × MayRead facts s n x k × IsUpTo (s.places n) left (places_after facts s n x k) × (t ≡ looked_at s n k left)
Step facts p s (learn n k) t = IsNumber p n × (k ≤ length s.history) × (t ≡ looked s n (max (s.seen n) k))

-- the events one after another
abbrev pub Runs : RealmFacts → ℕ → State → List Event → State → Type 0
Runs facts p s [] t = t ≡ s
Runs facts p s (event ∷ events) t = (u : State) × Step facts p s event u × Runs facts p u events t

-- the places from k on at which a history has this maker
abbrev pub places_of_maker : ℕ → ℕ → List (Entry × ℕ) → List ℕ
places_of_maker n k [] = []
places_of_maker n k (pair ∷ pairs) = cond (n == pair.1) (k ∷ places_of_maker n (k + 1) pairs) (places_of_maker n (k + 1) pairs)

-- what holds of a state of a service that began with these entries, or with none: they begin the history, each entry behind them may come next after those before it, and its
-- maker is one of the passes; so it is a history that an opened account holds. Its times never fall, a pass's own places are exactly those of its number behind what was
-- loaded, no pass has seen more than there is, and a pass's places bear its number
pub record Holds (facts : RealmFacts) (p : ℕ) (loaded : List Entry) (s : State) : Type 0 where
  pub begins : IsPrefix (loaded_pairs loaded) s.history
  pub history : IsHistory facts p (length loaded) s.history
  pub opened : IsOpened facts (entries_of s.history)
  pub times : IsNonDecreasingBy (λ entry. entry.time) (entries_of s.history)
  pub own : (m : ℕ) → s.own m ≡ places_of_maker m (length loaded) (drop (length loaded) s.history)
  pub seen : (m : ℕ) → s.seen m ≤ length s.history
  pub number : (m : ℕ) → (s.places m).number ≡ m

-- what holds of a state and a later one: the history only grows, no pass has seen less, and places only go on
pub record Grows (facts : RealmFacts) (s t : State) : Type 0 where
  pub history : IsPrefix s.history t.history
  pub seen : (m : ℕ) → s.seen m ≤ t.seen m
  pub places : (m : ℕ) → PassGoesOn facts (s.places m) (t.places m)

-- at each moment of each run, and from each to each later one
abbrev pub HoldsAlways : Type 0
HoldsAlways =
    (facts : RealmFacts) (p : ℕ) (loaded : List Entry) (before after : List Event) (s t : State)
    → IsOpened facts loaded → Runs facts p (start loaded) before s → Runs facts p s after t → Holds facts p loaded t × Grows facts s t

-- what a request sealed at the first k entries is what Decrypt answers for its blob at the first j entries, then or later, where k
-- are no more than j
abbrev pub SealedStaysReadable : Type 0
SealedStaysReadable =
    (facts : RealmFacts) (p : ℕ) (loaded : List Entry) (before after : List Event) (s t : State) (k j : ℕ) (x y : Ask) (places others : Places) (sealing : Sealing)
    → IsOpened facts loaded → Runs facts p (start loaded) before s → Runs facts p s after t → k ≤ length s.history → k ≤ j → j ≤ length t.history
    → IsProper facts x → HasSealed facts (entries_of (take k s.history)) x places sealing
    → AreIdentityPolicies (callers_policies facts.identities y.caller) → (asks : AsksToOpen facts (entries_of (take j t.history)) y others sealing.blob sealing.context)
    → reply_to facts (entries_of (take j t.history)) y others ≡ unless_excepted (exception_of sealing.arn asks.held.stored) (Decrypted sealing.plaintext sealing.arn)

-- a grant that is dropped in what a pass has seen stays away: at every history that the pass may be answered at, then or later, no grant
-- has its id
abbrev pub DroppedStaysAway : Type 0
DroppedStaysAway =
    (facts : RealmFacts) (p n j : ℕ) (loaded : List Entry) (before after : List Event) (s t : State) (history more : List Entry) (entry : Entry) (grant : List ℕ)
    → IsOpened facts loaded → Runs facts p (start loaded) before s → Runs facts p s after t
    → entries_of (take (s.seen n) s.history) ≡ (history ++ entry ∷ []) ++ more → entry.what ≡ what.GrantDrop grant
    → t.seen n ≤ j → j ≤ length t.history
    → grant_with (replay (entries_of (take j t.history))).grants grant ≡ None

-- two requests of one pass that each sealed a text have given them different initialization vectors
abbrev pub NoVectorTwice : Type 0
NoVectorTwice =
    (facts : RealmFacts) (p n k j : ℕ) (loaded : List Entry) (before between : List Event) (s t u v : State) (x y : Ask) (one other : Sealing)
    → IsOpened facts loaded → Runs facts p (start loaded) before s → Step facts p s (read n x k) t → Runs facts p t between u → Step facts p u (read n y j) v
    → HasSealed facts (entries_of (take k s.history)) x (s.places n) one → HasSealed facts (entries_of (take j u.history)) y (u.places n) other
    → iv_in one.blob ≢ iv_in other.blob

-- two requests of two passes that each sealed a text, at any moments of a run, have given them different initialization vectors
abbrev pub NoVectorShared : Type 0
NoVectorShared =
    (facts : RealmFacts) (p n m k j : ℕ) (loaded : List Entry) (before between : List Event) (s u : State) (x y : Ask) (one other : Sealing)
    → IsOpened facts loaded → Runs facts p (start loaded) before s → Runs facts p s between u → n < 2 ^ 16 → m < 2 ^ 16 → n ≢ m
    → HasSealed facts (entries_of (take k s.history)) x (s.places n) one → HasSealed facts (entries_of (take j u.history)) y (u.places m) other
    → iv_in one.blob ≢ iv_in other.blob

-- two requests that each sealed a text, in two runs of services at different boots, have given them different initialization vectors
abbrev pub NoVectorOverBoots : Type 0
NoVectorOverBoots =
    (facts later_facts : RealmFacts) (p q n m k j : ℕ) (loaded reloaded : List Entry) (before later : List Event) (s u : State) (x y : Ask) (one other : Sealing)
    → IsOpened facts loaded → IsOpened later_facts reloaded → Runs facts p (start loaded) before s → Runs later_facts q (start reloaded) later u
    → facts.boot < 2 ^ 32 → later_facts.boot < 2 ^ 32 → facts.boot ≢ later_facts.boot
    → HasSealed facts (entries_of (take k s.history)) x (s.places n) one → HasSealed later_facts (entries_of (take j u.history)) y (u.places m) other
    → iv_in one.blob ≢ iv_in other.blob
