-- What holds of the histories that accounts hold, however their entries came.
use Rattle.std.proofs.Common.{◌≡◌, ◌⊎◌, inl, inr, ℕ, ◌+◌, ◌<◌, ◌≤◌, true, false, List, [], ◌∷◌, ◌++◌, length, take, codes, Option, Some, None, refl, sym, ap, ◌∙◌, subst, arith, length-append, length-take}
use Rattle.std.specs.Prelude.{All, is_some, option_and_then}
use Rattle.std.proofs.lemmas.Bool.Decides.{nat_tests}
use Rattle.std.proofs.lemmas.List.{take_at, take_all, take-append-le, get_or_push}
use Rattle.std.proofs.lemmas.List.Elements.{All-push, All-take}
use Rattle.std.proofs.lemmas.Slice.Eq.{bytes_eq-Decides}
use Rattle.kms_names.specs.Moment.{year_10000}
use Rattle.mac_sha.specs.Hmac.{hmac_sha256}
use Rattle.mac_sha.proofs.HmacFacts.{hmac_length}
use Rattle.grant_table.specs.Grants.{has_id, grant_with}
use Rattle.grant_table.specs.declared.rows.GrantRow.{GrantRow}
use Rattle.key_states.specs.declared.rows.KeyRow.{KeyRow}
use Rattle.account_rows.specs.declared.entries.Entry.{Entry}
use Rattle.account_rows.specs.declared.entries.What.{What}
use Rattle.account_rows.specs.declared.entries.What.TheVariants as what
use Rattle.account_rows.specs.History.{replay, latest_of, IsMadeHere, IsFitting, IsGrantOf, AreRows}
use Rattle.account_rows.proofs.RowFacts.{rows_after, no_rows, replay-push, latest-push, length-push, IsNew, all_after}
use Rattle.account_rows.proofs.GrantFacts.{grants_rise, grants-push}
use Rattle.account_rows.proofs.VersionFacts.{AreMadeFrom, made_push}
use Rattle.account_rows.proofs.HouseFacts.{GivesDays, RowsHaveDays, days_after_entry}
use Rattle.account_steps.specs.declared.facts.RealmFacts.{RealmFacts}
use Rattle.account_steps.specs.Ids.{key_id_at, be32, be48}
use Rattle.account_steps.specs.View.{View, if_live, grant_held}
use Rattle.account_steps.proofs.Done.{IsMadeAt, HoldsDropped}
use Rattle.account_core.specs.Decide.{IsNext, empty, longer}
use Rattle.account_core.specs.Fitting.{view_at, is_formed, is_there, Fits, IsHeld, no_entry, appended_to, fitted_to}
use Rattle.account_core.proofs.Fitting.{comes_next}
use Rattle.account_core.proofs.Histories.{fitting_of}
use Rattle.account_laws.specs.Laws.{HasKeySize, IsOpened, IsSameAccount, LawfulHistoriesAreOpened, NextEntriesKeepOpened}
use Rattle.account_laws.proofs.HeldFacts.{passes}

-- ---- an entry that came

pub record Came (history : List Entry) (entry : Entry) : Type 0 where
  pub fits : IsFitting history entry
  pub gives : GivesDays entry.what
  pub holds : HoldsDropped (replay history).grants entry.what
  pub later : latest_of history ≤ entry.time

pub came_next : (facts : RealmFacts) (history : List Entry) (entry : Entry) → latest_of history < year_10000 → IsNext facts history entry → Came history entry
came_next facts history entry latest next =
    let comes = comes_next facts history entry latest next in
    record { fits = comes.fits; gives = comes.gives; holds = comes.holds; later = comes.later }

gives_of : (w : What) → is_formed w ≡ true → GivesDays w
gives_of (what.RotationOn key period) e = grind (arith, nat_tests, e)
gives_of _ e = tt

holds_of : (view : View) (w : What) → is_there view w ≡ true → HoldsDropped view.grants w
holds_of view (what.GrantDrop grant) e = by_row (grant_with view.grants grant) refl e
  where
    named : (row : GrantRow) → grant_with view.grants grant ≡ Some row → row.grant ≡ grant
    named row found = (bytes_eq-Decides row.grant grant).0 (passes (has_id grant) view.grants row found)

    by_row : (o : Option GrantRow) → grant_with view.grants grant ≡ o → is_some (grant_held view grant) ≡ true → HoldsDropped view.grants (what.GrantDrop grant)
    by_row (Some row) found is = (grant, row, found, named row found)
    by_row None found is = none (subst (λ (o : Option GrantRow). is_some (option_and_then (if_live view) o) ≡ true) found is)
      where
        none : false ≡ true → HoldsDropped view.grants (what.GrantDrop grant)
        none e = cc
holds_of view _ e = tt

pub came_fitting : (facts : RealmFacts) (history : List Entry) (entry : Entry) → Fits facts history entry → Came history entry
came_fitting facts history entry fits = record {
  fits = fitting_of facts history entry fits;
  gives = gives_of entry.what fits.formed;
  holds = holds_of (view_at facts history entry.time) entry.what fits.placed.there;
  later = fits.later;
}

-- ---- held histories

pub record HeldLaws (history : List Entry) : Type 0 where
  pub latest : latest_of history < year_10000
  pub few : length history ≤ 1000000
  pub rows : AreRows (length history) (replay history).keys
  pub made : AreMadeFrom 0 history
  pub days : RowsHaveDays (replay history).keys
  pub grants : All (IsGrantOf (length history)) (replay history).grants

from_zero : (n : ℕ) → n ≡ 0 + n
from_zero n = omega arith

with_one : (history : List Entry) (entry : Entry) → HeldLaws history → Came history entry → HeldLaws (history ++ entry ∷ [])
with_one history entry laws came =
    let keys : List KeyRow = (replay history).keys in
    let replayed = sym (replay-push history entry) in
    let few : length history < 1000000 = came.fits.few in
    record {
      latest = subst (λ (t : ℕ). t < year_10000) (sym (latest-push history entry)) came.fits.bound;
      few = omega (arith, few, length-push history entry);
      rows = subst (λ (n : ℕ). AreRows n (replay (history ++ entry ∷ [])).keys) (sym (length-push history entry))
          (subst (AreRows (length history + 1)) replayed (rows_after (length history) entry.time entry.what keys came.fits.made laws.rows));
      made = made_push 0 history entry laws.made (subst (λ (n : ℕ). IsMadeHere n entry.what) (from_zero (length history)) came.fits.made);
      days = subst RowsHaveDays replayed (days_after_entry (length history) entry.time entry.what keys came.gives laws.days);
      grants = subst (λ (n : ℕ). All (IsGrantOf n) (replay (history ++ entry ∷ [])).grants) (sym (length-push history entry))
          (subst (All (IsGrantOf (length history + 1))) (sym (grants-push history entry)) (grants_rise (length history) entry.time entry.what keys (replay history).grants came.fits.made laws.grants));
    }

pub held_laws : (facts : RealmFacts) (history : List Entry) → IsHeld facts history → HeldLaws history
held_laws facts history no_entry = record {
  latest = omega arith;
  few = omega arith;
  rows = no_rows 0 [] refl;
  made = tt;
  days = λ k d lt. absurd (omega (arith, lt));
  grants = λ k d lt. absurd (omega (arith, lt));
}
held_laws facts history (appended_to {history = before} entry held next) =
    let laws = held_laws facts before held in
    with_one before entry laws (came_next facts before entry laws.latest next)
held_laws facts history (fitted_to {history = before} entry held fits) = with_one before entry (held_laws facts before held) (came_fitting facts before entry fits)

-- what came last to a held history
pub came_last : (facts : RealmFacts) (history : List Entry) (entry : Entry) → IsHeld facts history → IsNext facts history entry → Came history entry
came_last facts history entry held next = came_next facts history entry (held_laws facts history held).latest next

front_or_whole : (facts : RealmFacts) (before : List Entry) (entry : Entry) (n : ℕ) → IsHeld facts (take n before) → IsHeld facts (before ++ entry ∷ [])
    → IsHeld facts (take n (before ++ entry ∷ []))
front_or_whole facts before entry n front whole = by_side (sides n (length before))
  where
    sides : (i j : ℕ) → (i ≤ j) ⊎ (j < i)
    sides i j = grind arith

    by_side : (n ≤ length before) ⊎ (length before < n) → IsHeld facts (take n (before ++ entry ∷ []))
    by_side (inl inside) = subst (IsHeld facts) (sym (take-append-le n before (entry ∷ []) inside)) front
    by_side (inr all) = subst (IsHeld facts) (sym (take_all n (before ++ entry ∷ []) (omega (arith, all, length-append before (entry ∷ []))))) whole

-- the front of a held history is held
pub held_take : (facts : RealmFacts) (history : List Entry) (n : ℕ) → IsHeld facts history → IsHeld facts (take n history)
held_take facts history n no_entry = subst (IsHeld facts) (sym (take_all n [] (omega arith))) no_entry
held_take facts history n (appended_to {history = before} entry held next) = front_or_whole facts before entry n (held_take facts before n held) (appended_to entry held next)
held_take facts history n (fitted_to {history = before} entry held fits) = front_or_whole facts before entry n (held_take facts before n held) (fitted_to entry held fits)

pub held_front : (facts : RealmFacts) (history more : List Entry) → IsHeld facts (history ++ more) → IsHeld facts history
held_front facts history more held =
    subst (IsHeld facts) (take_at history more (length history) refl) (held_take facts (history ++ more) (length history) held)

-- a run is one of its own account
pub same_account : (facts : RealmFacts) → IsSameAccount facts facts
same_account facts = record { account = refl; region = refl; root = refl }

-- ---- opened histories

pub opened_take : (facts : RealmFacts) (history : List Entry) (n : ℕ) → IsOpened facts history → IsOpened facts (take n history)
opened_take facts history n opened = record { held = held_take facts history n opened.held; sized = All-take HasKeySize n history opened.sized }

pub opened_front : (facts : RealmFacts) (history more : List Entry) → IsOpened facts (history ++ more) → IsOpened facts history
opened_front facts history more opened =
    subst (IsOpened facts) (take_at history more (length history) refl) (opened_take facts (history ++ more) (length history) opened)

id_size : (facts : RealmFacts) (place : ℕ) → length (key_id_at facts place) ≡ 16
id_size facts place =
    let text : List ℕ = codes "key" ++ be32 facts.boot ++ be48 place in
    omega (arith, length-append (take 10 (hmac_sha256 facts.root text)) (be48 place), length-take 10 (hmac_sha256 facts.root text), hmac_length facts.root text)

made_sized : (facts : RealmFacts) (place time : ℕ) (w : What) → IsMadeAt facts place w → HasKeySize (record { time = time; what = w })
made_sized facts place time (what.CreateKey key kind description policy tags) made = ap length made ∙ id_size facts place
made_sized facts place time _ made = tt

next_sized : (facts : RealmFacts) (history : List Entry) (entry : Entry) → latest_of history < year_10000 → IsNext facts history entry → HasKeySize entry
next_sized facts history entry latest next = made_sized facts (length history) entry.time entry.what (comes_next facts history entry latest next).made

pub opened_push : NextEntriesKeepOpened
opened_push facts history entry opened next = record {
  held = appended_to entry opened.held next;
  sized = All-push HasKeySize history entry opened.sized (next_sized facts history entry (held_laws facts history opened.held).latest next);
}

pub lawful_opened : LawfulHistoriesAreOpened
lawful_opened facts history empty = record { held = no_entry; sized = λ k d lt. absurd (omega (arith, lt)) }
lawful_opened facts history (longer {history = before} entry lawful next) = opened_push facts before entry (lawful_opened facts before lawful) next

-- the keys of an opened history have ids of 16 bytes
new_sized : (place time : ℕ) (w : What) → HasKeySize (record { time = time; what = w }) → IsNew (λ (row : KeyRow). length row.key ≡ 16) place time w
new_sized place time (what.CreateKey key kind description policy tags) sized = sized
new_sized place time _ sized = tt

sizes_after : (history : List Entry) (entry : Entry) → HasKeySize entry → All (λ (row : KeyRow). length row.key ≡ 16) (replay history).keys
    → All (λ (row : KeyRow). length row.key ≡ 16) (replay (history ++ entry ∷ [])).keys
sizes_after history entry sized all =
    subst (All (λ (row : KeyRow). length row.key ≡ 16)) (sym (replay-push history entry))
    (all_after (λ (row : KeyRow). length row.key ≡ 16) (λ row new follows is. ap length follows.key ∙ is) (length history) entry.time entry.what (replay history).keys
    (new_sized (length history) entry.time entry.what sized) all)

last_of : (P : Entry → Type 0) (history : List Entry) (entry : Entry) → All P (history ++ entry ∷ []) → P entry
last_of P history entry all =
    subst P (get_or_push history entry entry (length history) refl) (all (length history) entry (omega (arith, length-append history (entry ∷ []))))

front_all : (P : Entry → Type 0) (history more : List Entry) → All P (history ++ more) → All P history
front_all P history more all = subst (All P) (take_at history more (length history) refl) (All-take P (length history) (history ++ more) all)

sizes_by : (facts : RealmFacts) (history : List Entry) → IsHeld facts history → All HasKeySize history → All (λ (row : KeyRow). length row.key ≡ 16) (replay history).keys
sizes_by facts history no_entry sized = λ k d lt. absurd (omega (arith, lt))
sizes_by facts history (appended_to {history = before} entry held next) sized =
    sizes_after before entry (last_of HasKeySize before entry sized) (sizes_by facts before held (front_all HasKeySize before (entry ∷ []) sized))
sizes_by facts history (fitted_to {history = before} entry held fits) sized =
    sizes_after before entry (last_of HasKeySize before entry sized) (sizes_by facts before held (front_all HasKeySize before (entry ∷ []) sized))

pub key_sizes : (facts : RealmFacts) (history : List Entry) → IsOpened facts history → All (λ (row : KeyRow). length row.key ≡ 16) (replay history).keys
key_sizes facts history opened = sizes_by facts history opened.held opened.sized
