-- An entry that may come next fits the rows, and what holds of lawful histories.
use Rattle.std.proofs.Common.{◌≡◌, ◌⊎◌, inl, inr, ℕ, ◌+◌, ◌<◌, ◌≤◌, ◌^◌, ◌&&◌, max, nat_le, nat_lt, Bool, true, false, List, [], ◌∷◌, ◌++◌, length, take, drop, get_or, codes, Option, Some, None, refl, sym, ap, ap₂, ◌∙◌, subst, if◌then◌else◌, arith, length-append, length-take}
use Rattle.kms_names.specs.Moment.{year_10000}
use Rattle.std.specs.Prelude.{All}
use Rattle.std.specs.Int.{w64, to_be_bytes, from_be_bytes}
use Rattle.std.proofs.lemmas.Bool.Decides.{nat_tests}
use Rattle.std.proofs.lemmas.List.{drop_at, take_at, take_all, take-append-le}
use Rattle.std.proofs.lemmas.Nat.{from_be_bytes-to_be_bytes_8}
use Rattle.mac_sha.specs.Hmac.{hmac_sha256}
use Rattle.mac_sha.proofs.HmacFacts.{hmac_length}
use Rattle.kms_json.specs.declared.refusals.Refusal.{Refusal}
use Rattle.kms_json.specs.declared.refusals.Refusal.TheVariants as refusal
use Rattle.kms_json.specs.declared.refusals.Limit.TheVariants as limit
use Rattle.key_states.specs.declared.rows.KeyRow.{KeyRow}
use Rattle.account_rows.specs.declared.entries.Entry.{Entry}
use Rattle.account_rows.specs.declared.entries.What.{What}
use Rattle.account_rows.specs.declared.entries.What.TheVariants as what
use Rattle.account_rows.specs.Changes.{wants_house}
use Rattle.account_rows.specs.History.{replay, latest_of, moment_of, most_entries, most_bytes, has_room, housekeeping_of, place_in, place_in_grant, IsMadeHere, TagsFit, IsFitting, IsGrantOf, AreRows}
use Rattle.account_rows.specs.Sizes.{size_of, bytes_in}
use Rattle.account_rows.proofs.RowFacts.{rows_after, no_rows, replay-push, latest-push, length-push, IsNew, all_after}
use Rattle.account_rows.proofs.GrantFacts.{grants_rise, grants-push}
use Rattle.grant_table.specs.declared.rows.GrantRow.{GrantRow}
use Rattle.account_rows.proofs.VersionFacts.{AreMadeFrom, made_push}
use Rattle.account_rows.proofs.HouseFacts.{GivesDays, RowsHaveDays, days_after_entry}
use Rattle.account_steps.specs.declared.facts.RealmFacts.{RealmFacts}
use Rattle.account_steps.specs.Ids.{key_id_at, grant_id_at, be32, be48}
use Rattle.account_steps.specs.Places.{no_places}
use Rattle.account_steps.specs.Steps.{or_else}
use Rattle.account_steps.specs.View.{view_of}
use Rattle.account_steps.specs.Parts.{full, entries_full, bytes_full}
use Rattle.account_core.specs.Decide.{IsNext, appended, kept, IsLawful, empty, longer}
use Rattle.account_steps.proofs.Done.{IsMadeAt, HoldsDropped}
use Rattle.account_core.proofs.EntryFacts.{next_entry}

-- ---- the place that an id ends with

pub id_ends : (facts : RealmFacts) (place : ℕ) → drop 10 (key_id_at facts place) ≡ be48 place
id_ends facts place =
    let text : List ℕ = codes "key" ++ be32 facts.boot ++ be48 place in
    let digest : List ℕ = hmac_sha256 facts.root text in
    drop_at (take 10 digest) (be48 place) 10 (omega (arith, length-take 10 digest, hmac_length facts.root text))

first_byte : (p : ℕ) → p < 2 ^ 48 → 0 ≡ get_or (to_be_bytes w64 p) 0 0
first_byte p fits = omega (arith, fits)

second_byte : (p : ℕ) → p < 2 ^ 48 → 0 ≡ get_or (to_be_bytes w64 p) 1 0
second_byte p fits = omega (arith, fits)

pub id_place : (facts : RealmFacts) (p : ℕ) → p < 2 ^ 48 → place_in (key_id_at facts p) ≡ p
id_place facts p fits =
    let whole : 0 ∷ 0 ∷ be48 p ≡ to_be_bytes w64 p = ap₂ (λ (a b : ℕ). a ∷ b ∷ be48 p) (first_byte p fits) (second_byte p fits) in
    ap (λ (bytes : List ℕ). from_be_bytes w64 (0 ∷ 0 ∷ bytes)) (id_ends facts p) ∙ ap (from_be_bytes w64) whole ∙ from_be_bytes-to_be_bytes_8 p (omega (arith, fits))

pub grant_ends : (facts : RealmFacts) (place : ℕ) → drop 26 (grant_id_at facts place) ≡ be48 place
grant_ends facts place =
    let text : List ℕ = codes "grant" ++ be32 facts.boot ++ be48 place in
    let digest : List ℕ = hmac_sha256 facts.root text in
    drop_at (take 26 digest) (be48 place) 26 (omega (arith, length-take 26 digest, hmac_length facts.root text))

grant_place : (facts : RealmFacts) (p : ℕ) → p < 2 ^ 48 → place_in_grant (grant_id_at facts p) ≡ p
grant_place facts p fits =
    let whole : 0 ∷ 0 ∷ be48 p ≡ to_be_bytes w64 p = ap₂ (λ (a b : ℕ). a ∷ b ∷ be48 p) (first_byte p fits) (second_byte p fits) in
    ap (λ (bytes : List ℕ). from_be_bytes w64 (0 ∷ 0 ∷ bytes)) (grant_ends facts p) ∙ ap (from_be_bytes w64) whole ∙ from_be_bytes-to_be_bytes_8 p (omega (arith, fits))

made_here : (facts : RealmFacts) (place : ℕ) (w : What) → place < 2 ^ 48 → IsMadeAt facts place w → IsMadeHere place w
made_here facts place (what.CreateKey key kind description policy tags) fits made = ap place_in made ∙ id_place facts place fits
made_here facts place (what.GrantAdd grant key grantee retiring operations constraint name) fits made = ap place_in_grant made ∙ grant_place facts place fits
made_here facts place _ fits made = tt

-- ---- room

pub both_none : (first second : Option Refusal) → or_else first second ≡ None → (first ≡ None) × (second ≡ None)
both_none None second e = (refl, e)
both_none (Some why) second e = cc

below : (b : Bool) (why : Refusal) → (if b then Some why else None) ≡ None → b ≡ false
below true why e = cc
below false why e = refl

pub few_of : (n : ℕ) → entries_full n ≡ None → n < most_entries
few_of n e = let no = below (nat_le most_entries n) (refusal.LimitExceeded limit.Entries) e in grind (arith, nat_tests, no)

pub fits_of : (bytes size : ℕ) → bytes_full bytes size ≡ None → bytes + size ≤ most_bytes
fits_of bytes size e = let no = below (nat_lt most_bytes (bytes + size)) (refusal.LimitExceeded limit.Bytes) e in grind (arith, nat_tests, no)

-- ---- an entry of housekeeping

record IsKept (history : List Entry) (clock : ℕ) (entry : Entry) : Type 0 where
  time : entry.time ≡ moment_of history clock
  house : entry.what ≡ what.House
  room : has_room history (size_of what.House) ≡ true

kept_by : (history : List Entry) (clock : ℕ) (entry : Entry) (a b : Bool) → has_room history (size_of what.House) ≡ b
    → (if a && b then Some (record { time = moment_of history clock; what = what.House }) else None) ≡ Some entry → IsKept history clock entry
kept_by history clock entry true true room e =
    let same : record { time = moment_of history clock; what = what.House } ≡ entry = cc in
    record { time = ap (λ (x : Entry). x.time) (sym same); house = ap (λ (x : Entry). x.what) (sym same); room = room }
kept_by history clock entry true false room e = cc
kept_by history clock entry false b room e = cc

kept_is : (history : List Entry) (clock : ℕ) (entry : Entry) → housekeeping_of history clock ≡ Some entry → IsKept history clock entry
unfolding housekeeping_of
kept_is history clock entry e = kept_by history clock entry (wants_house (moment_of history clock) (replay history).keys) (has_room history (size_of what.House)) refl e

both_true : (a b : Bool) → (a && b) ≡ true → (a ≡ true) × (b ≡ true)
both_true true true e = (refl, refl)
both_true true false e = cc
both_true false b e = cc

room_few : (history : List Entry) (size : ℕ) → has_room history size ≡ true → (length history < most_entries) × (bytes_in history + size ≤ most_bytes)
room_few history size e =
    let both = both_true (nat_lt (length history) most_entries) (nat_le (bytes_in history + size) most_bytes) e in
    (grind (arith, nat_tests, both.0), grind (arith, nat_tests, both.1))

-- ---- what comes next

pub record ComesNext (facts : RealmFacts) (history : List Entry) (entry : Entry) : Type 0 where
  pub fits : IsFitting history entry
  pub made : IsMadeAt facts (length history) entry.what
  pub gives : GivesDays entry.what
  pub holds : HoldsDropped (replay history).grants entry.what
  pub later : latest_of history ≤ entry.time

house_made : (facts : RealmFacts) (place : ℕ) (w : What) → w ≡ what.House → IsMadeAt facts place w × IsMadeHere place w × GivesDays w × ((grants : List GrantRow) → HoldsDropped grants w)
house_made facts place w is = subst (λ (v : What). IsMadeAt facts place v × IsMadeHere place v × GivesDays v × ((grants : List GrantRow) → HoldsDropped grants v)) (sym is) (tt, tt, tt, λ grants. tt)

pub comes_next : (facts : RealmFacts) (history : List Entry) (entry : Entry) → latest_of history < year_10000 → IsNext facts history entry → ComesNext facts history entry
comes_next facts history entry latest (appended x proper is) =
    let at = next_entry facts history x entry proper is in
    let limits = both_none (full (view_of facts history x no_places) entry.what) _ at.left in
    let rest = both_none (entries_full (length history)) _ limits.1 in
    let few : length history < 1000000 = few_of (length history) rest.0 in
    let time : entry.time ≡ max x.moment (latest_of history) = at.time in
    let moment : x.moment < year_10000 = proper.moment in
    record {
      fits = record {
        bound = omega (arith, time, moment, latest);
        made = made_here facts (length history) entry.what (omega (arith, few)) at.done.made;
        few = few;
        fits = fits_of (bytes_in history) (size_of entry.what) rest.1;
        tagged = at.done.tagged;
      };
      made = at.done.made;
      gives = at.done.gives;
      holds = at.done.holds;
      later = omega (arith, time);
    }
comes_next facts history entry latest (kept clock bound is) =
    let at = kept_is history clock entry is in
    let room = room_few history (size_of what.House) at.room in
    let made = house_made facts (length history) entry.what at.house in
    let time : entry.time ≡ max clock (latest_of history) = at.time in
    record {
      fits = record {
        bound = omega (arith, time, bound, latest);
        made = made.1;
        few = room.0;
        fits = subst (λ (w : What). bytes_in history + size_of w ≤ most_bytes) (sym at.house) room.1;
        tagged = subst (TagsFit (replay history).keys) (sym at.house) tt;
      };
      made = made.0;
      gives = made.2;
      holds = made.3 (replay history).grants;
      later = omega (arith, time);
    }

-- ---- lawful histories

pub record HasLaws (facts : RealmFacts) (history : List Entry) : Type 0 where
  pub latest : latest_of history < year_10000
  pub few : length history ≤ 1000000
  pub rows : AreRows (length history) (replay history).keys
  pub made : AreMadeFrom 0 history
  pub days : RowsHaveDays (replay history).keys
  pub sizes : All (λ (row : KeyRow). length row.key ≡ 16) (replay history).keys
  pub grants : All (IsGrantOf (length history)) (replay history).grants

id_size : (facts : RealmFacts) (place : ℕ) → length (key_id_at facts place) ≡ 16
id_size facts place =
    let digest : List ℕ = hmac_sha256 facts.root (codes "key" ++ be32 facts.boot ++ be48 place) in
    omega (arith, length-append (take 10 digest) (be48 place), length-take 10 digest, hmac_length facts.root (codes "key" ++ be32 facts.boot ++ be48 place))

new_size : (facts : RealmFacts) (place time : ℕ) (w : What) → IsMadeAt facts place w → IsNew (λ (row : KeyRow). length row.key ≡ 16) place time w
new_size facts place time (what.CreateKey key kind description policy tags) made = ap length made ∙ id_size facts place
new_size facts place time _ made = tt

from_zero : (n : ℕ) → n ≡ 0 + n
from_zero n = omega arith

with_next : (facts : RealmFacts) (history : List Entry) (entry : Entry) → HasLaws facts history → ComesNext facts history entry → HasLaws facts (history ++ entry ∷ [])
with_next facts history entry laws next =
    let keys : List KeyRow = (replay history).keys in
    let replayed = sym (replay-push history entry) in
    let few : length history < 1000000 = next.fits.few in
    record {
      latest = subst (λ (t : ℕ). t < year_10000) (sym (latest-push history entry)) next.fits.bound;
      few = omega (arith, few, length-push history entry);
      rows = subst (λ (n : ℕ). AreRows n (replay (history ++ entry ∷ [])).keys) (sym (length-push history entry))
          (subst (AreRows (length history + 1)) replayed (rows_after (length history) entry.time entry.what keys next.fits.made laws.rows));
      made = made_push 0 history entry laws.made (subst (λ (n : ℕ). IsMadeHere n entry.what) (from_zero (length history)) next.fits.made);
      days = subst RowsHaveDays replayed (days_after_entry (length history) entry.time entry.what keys next.gives laws.days);
      sizes = subst (All (λ (row : KeyRow). length row.key ≡ 16)) replayed
          (all_after (λ (row : KeyRow). length row.key ≡ 16) (λ row new follows is. ap length follows.key ∙ is) (length history) entry.time entry.what keys (new_size facts (length history) entry.time entry.what next.made) laws.sizes);
      grants = subst (λ (n : ℕ). All (IsGrantOf n) (replay (history ++ entry ∷ [])).grants) (sym (length-push history entry))
          (subst (All (IsGrantOf (length history + 1))) (sym (grants-push history entry)) (grants_rise (length history) entry.time entry.what keys (replay history).grants next.fits.made laws.grants));
    }

pub laws_of : (facts : RealmFacts) (history : List Entry) → IsLawful facts history → HasLaws facts history
laws_of facts history empty = record {
  latest = omega arith;
  few = omega arith;
  rows = no_rows 0 [] refl;
  made = tt;
  days = λ k d lt. absurd (omega (arith, lt));
  sizes = λ k d lt. absurd (omega (arith, lt));
  grants = λ k d lt. absurd (omega (arith, lt));
}
laws_of facts history (longer {history = before} entry lawful next) =
    let laws = laws_of facts before lawful in
    with_next facts before entry laws (comes_next facts before entry laws.latest next)

-- the front of a lawful history is lawful
front_of : (facts : RealmFacts) (history : List Entry) (n : ℕ) → IsLawful facts history → n ≤ length history → IsLawful facts (take n history)
front_of facts history n empty le = subst (IsLawful facts) (sym (take_nil n)) empty
  where
    take_nil : (n : ℕ) → ◌≡◌ {A = List Entry} (take n []) []
    take_nil n = take_all n [] (omega arith)
front_of facts history n (longer {history = before} entry lawful next) le = by_side (λ inside. front_of facts before n lawful inside) (sides n (length before))
  where
    sides : (i j : ℕ) → (i ≤ j) ⊎ (j < i)
    sides i j = grind arith

    by_side : (n ≤ length before → IsLawful facts (take n before)) → (n ≤ length before) ⊎ (length before < n) → IsLawful facts (take n (before ++ entry ∷ []))
    by_side front (inl inside) = subst (IsLawful facts) (sym (take-append-le n before (entry ∷ []) inside)) (front inside)
    by_side front (inr whole) =
        subst (IsLawful facts) (sym (take_all n (before ++ entry ∷ []) (omega (arith, length-append before (entry ∷ []))))) (longer entry lawful next)

pub lawful_front : (facts : RealmFacts) (history more : List Entry) → IsLawful facts (history ++ more) → IsLawful facts history
lawful_front facts history more lawful =
    subst (IsLawful facts) (take_at history more (length history) refl) (front_of facts (history ++ more) (length history) lawful (omega (arith, length-append history more)))
