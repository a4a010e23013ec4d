-- What passes do, call by call, and what follows for all that they are answered.
use Rattle.std.specs.Prelude.{◌≡◌, ◌≢◌, ℕ, ◌^◌, ◌==◌, ◌<◌, true, false, cond, List, [], ◌∷◌, ◌++◌, None}
use mathlib.Core.List.{IsPrefix}
use Rattle.kms_names.specs.Moment.{year_10000}
use Rattle.kms_json.specs.declared.asks.Ask.{Ask}
use Rattle.kms_json.specs.declared.replies.Reply.{Reply}
use Rattle.kms_json.specs.Asks.{changes_account}
use Rattle.account_steps.specs.declared.facts.RealmFacts.{RealmFacts}
use Rattle.account_steps.specs.History.{Entry}
use Rattle.account_rows.specs.declared.entries.What.TheVariants as what
use Rattle.account_rows.specs.History.{replay}
use Rattle.grant_table.specs.Grants.{grant_with}
use Rattle.account_core.specs.Decide.{IsProper, IsLawful}
use Rattle.account_core.specs.Fitting.{IsHeld}
use Rattle.account_laws.specs.Laws.{IsOpened, Sealing, HasSealed, iv_in}
use Rattle.published_account.specs.Pairs.{entries_of, loaded_pairs}
use Rattle.publish_pass.specs.Pass.{Pass, Learns, Reads, Wants, Misses, Changes, WantsChange, Decides, KeepsHouse, WantsHouse, LeavesAtMost, keeping_house, fresh_pass}
use Rattle.pass_laws.specs.Machine.{IsNumber}

-- what a call of a pass does to it, and the history that it met: each of these is what some call of a pass ensures, or of the desk for a pass that
-- holds the desk's history. To settle, and to catch up, are to learn
pub data Call (old : Pass) (met : List (Entry × ℕ)) (new : Pass) : Type 0 where
  read : (x : Ask) (reply : Reply) → IsProper old.facts x → changes_account x.body ≡ false → (is : Reads old x reply new) → met ≡ is.met.history → Call old met new
  wanted_to_read : (x : Ask) → IsProper old.facts x → changes_account x.body ≡ false → (is : Wants old x new) → met ≡ is.met.history → Call old met new
  missed : Misses old new → met ≡ old.history → Call old met new
  changed : (x : Ask) (reply : Reply) → IsProper old.facts x → changes_account x.body ≡ true → (is : Changes old x reply new) → met ≡ is.met.history → Call old met new
  wanted_to_change : (x : Ask) → IsProper old.facts x → (is : WantsChange old x new) → met ≡ is.met.history → Call old met new
  kept_house : (clock : ℕ) → clock < year_10000 → (is : KeepsHouse old clock new) → met ≡ is.met.history → Call old met new
  wanted_to_keep_house : (clock : ℕ) → clock < year_10000 → (is : WantsHouse old clock new) → met ≡ is.met.history → Call old met new
  learnt : Learns old new → met ≡ new.history → Call old met new
  changed_at_desk : (x : Ask) (reply : Reply) → IsProper old.facts x → changes_account x.body ≡ true → Decides (keeping_house old x.moment) x reply new → met ≡ old.history → Call old met new
  kept_house_at_desk : (clock : ℕ) → clock < year_10000 → LeavesAtMost old clock new → met ≡ old.history → Call old met new

-- calls one after another
pub data Calls (first : Pass) : Pass → Type 0 where
  no_call : Calls first first
  one_more : {old new : Pass} (met : List (Entry × ℕ)) → Calls first old → Call old met new → Calls first new

-- The passes 1 to p of a service that began with these entries, or with none, each at a point of its calls, and the history that is published: at first nothing was called, and
-- what was loaded is published. A call by which nothing is published meets some front of what is; any other meets all of it, and what its pass then holds is published.
pub data Together (facts : RealmFacts) (p : ℕ) (loaded : List Entry) : (ℕ → Pass) → List (Entry × ℕ) → Type 0 where
  opened : Together facts p loaded (fresh_pass facts p loaded) (loaded_pairs loaded)
  looks : {passes : ℕ → Pass} {published : List (Entry × ℕ)} (n : ℕ) (met : List (Entry × ℕ)) (new : Pass)
      → Together facts p loaded passes published → IsNumber p n → Call (passes n) met new → new.history ≡ met → IsPrefix met published
      → Together facts p loaded (λ m. cond (m == n) new (passes m)) published
  publishes : {passes : ℕ → Pass} {published : List (Entry × ℕ)} (n : ℕ) (met : List (Entry × ℕ)) (new : Pass)
      → Together facts p loaded passes published → IsNumber p n → Call (passes n) met new → met ≡ published
      → Together facts p loaded (λ m. cond (m == n) new (passes m)) new.history

-- ---- laws

-- the number of entries that a pass holds never falls: what it held begins what it holds
abbrev pub FrontsNeverFall : Type 0
FrontsNeverFall = (first last : Pass) → Calls first last → IsPrefix first.history last.history

-- a lawful history stays lawful
abbrev pub CallsKeepLawful : Type 0
CallsKeepLawful =
    (first last : Pass) → Calls first last → IsLawful first.facts (entries_of first.history) → (last.facts ≡ first.facts) × IsLawful last.facts (entries_of last.history)

-- and so does a history that an opened account holds
abbrev pub CallsKeepOpened : Type 0
CallsKeepOpened =
    (first last : Pass) → Calls first last → IsOpened first.facts (entries_of first.history) → (last.facts ≡ first.facts) × IsOpened last.facts (entries_of last.history)

-- a call answers a request at this history
pub data AnswersAt (old : Pass) (history : List Entry) (new : Pass) : Type 0 where
  at_front : (x : Ask) (reply : Reply) → (is : Reads old x reply new) → history ≡ entries_of is.met.history → AnswersAt old history new
  at_desk : (x : Ask) (reply : Reply) → IsProper old.facts x → (is : Changes old x reply new) → history ≡ entries_of (keeping_house is.met x.moment).history → AnswersAt old history new

-- a pass that holds the drop of a grant is answered from then on, by its own calls, at no history where a grant has its id, and holds no such history
abbrev pub DroppedStaysAwayFromPasses : Type 0
DroppedStaysAwayFromPasses =
    (first old new : Pass) (history more answered : List Entry) (entry : Entry) (grant : List ℕ)
    → IsHeld first.facts (entries_of first.history) → entries_of first.history ≡ (history ++ entry ∷ []) ++ more → entry.what ≡ what.GrantDrop grant
    → Calls first old → (grant_with (replay (entries_of old.history)).grants grant ≡ None)
    × (AnswersAt old answered new → grant_with (replay answered).grants grant ≡ None)

-- a call that was answered with this sealed text
pub record Seals (old new : Pass) (sealing : Sealing) : Type 0 where
  pub request : Ask
  pub reply : Reply
  pub reads : Reads old request reply new
  pub sealed : HasSealed reads.met.facts (entries_of reads.met.history) request reads.met.places sealing

-- two calls of one pass that each sealed a text, with any calls between them, have given them different initialization vectors
abbrev pub NoVectorOfOnePassTwice : Type 0
NoVectorOfOnePassTwice =
    (s t u v : Pass) (one other : Sealing) → IsOpened s.facts (entries_of s.history)
    → Seals s t one → Calls t u → Seals u v other → iv_in one.blob ≢ iv_in other.blob

-- and so have two calls of two passes of one service
abbrev pub NoVectorOfTwoPasses : Type 0
NoVectorOfTwoPasses =
    (facts : RealmFacts) (p n m : ℕ) (loaded : List Entry) (s t u v : Pass) (one other : Sealing) → IsOpened facts loaded → n < 2 ^ 16 → m < 2 ^ 16 → n ≢ m
    → Calls (fresh_pass facts p loaded n) s → Seals s t one → Calls (fresh_pass facts p loaded m) u → Seals u v other → iv_in one.blob ≢ iv_in other.blob

-- and of passes of two services whose boots differ
abbrev pub NoVectorOfTwoBoots : Type 0
NoVectorOfTwoBoots =
    (facts later_facts : RealmFacts) (p q n m : ℕ) (loaded reloaded : List Entry) (s t u v : Pass) (one other : Sealing) → IsOpened facts loaded → IsOpened later_facts reloaded
    → facts.boot < 2 ^ 32 → later_facts.boot < 2 ^ 32 → facts.boot ≢ later_facts.boot
    → Calls (fresh_pass facts p loaded n) s → Seals s t one → Calls (fresh_pass later_facts q reloaded m) u → Seals u v other → iv_in one.blob ≢ iv_in other.blob
