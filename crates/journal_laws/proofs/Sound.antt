-- Histories that accounts hold are sound, and the entries of lawful ones have their forms.
use Rattle.std.proofs.Common.{◌≡◌, ℕ, ◌≤◌, ◌<◌, ◌+◌, ◌^◌, ◌&&◌, nat_le, nat_lt, Bool, true, false, List, [], ◌∷◌, length, Option, Some, None, Result, Ok, Err, refl, sym, ap, ◌∙◌, subst, if◌then◌else◌, lit≤, arith}
use Rattle.std.proofs.lemmas.Bool.Decides.{nat_tests}
use Rattle.std.proofs.lemmas.List.Elements.{All-nil, All-cons, All-append}
use Rattle.kms_names.specs.Account.{IsAccountNumber}
use Rattle.kms_names.specs.Moment.{year_10000}
use Rattle.kms_names.specs.declared.principals.Principal.{Principal}
use Rattle.kms_names.specs.declared.principals.Principal.TheVariants.{Root}
use Rattle.kms_json.specs.declared.asks.Ask.{Ask}
use Rattle.kms_json.specs.declared.asks.AskBody.{AskBody}
use Rattle.kms_json.specs.declared.asks.AskBody.TheVariants as ask
use Rattle.kms_json.specs.declared.refusals.Refusal.{Refusal}
use Rattle.kms_json.specs.Asks.{IsSized}
use Rattle.kms_json.proofs.Sizes.{asked_sized}
use Rattle.key_states.specs.declared.rows.KeyRow.{KeyRow}
use Rattle.resource_tags.specs.declared.tags.Tag.{Tag as TagValue}
use Rattle.account_rows.specs.declared.entries.Entry.{Entry}
use Rattle.account_rows.specs.declared.entries.What.{What}
use Rattle.account_rows.specs.declared.entries.What.TheVariants as what
use Rattle.account_rows.specs.Changes.{wants_house}
use Rattle.account_rows.specs.History.{replay, moment_of, key_with, most_entries, most_bytes, has_room, housekeeping_of, is_made_here, IsMadeHere, tags_fit, tags_fit_on, TagsFit, TagsFitOn}
use Rattle.account_rows.specs.Sizes.{size_of, bytes_in}
use Rattle.account_steps.specs.declared.facts.RealmFacts.{RealmFacts}
use Rattle.account_steps.specs.declared.places.Places.{Places}
use Rattle.account_steps.specs.declared.places.Uses.{Uses}
use Rattle.account_steps.specs.Places.{no_places}
use Rattle.account_steps.specs.Parts.{Outcome, overfull, entries_full, bytes_full, decided_read, decided_change, entry_of}
use Rattle.account_steps.specs.Steps.{unless, or_else}
use Rattle.account_steps.specs.View.{View, view_of}
use Rattle.account_steps.proofs.Passing.{next_of}
use Rattle.account_core.specs.Decide.{lacking, decide_body, decide, IsProper, appended, kept, IsLawful, empty, longer}
use Rattle.account_core.specs.Fitting.{is_there, is_formed, is_dated, view_at, Fits, IsSound, nothing, one_more, IsHeld, no_entry, appended_to, fitted_to}
use Rattle.account_core.specs.Operations.{change_outcome, read_outcome}
use Rattle.account_core.proofs.EntryFacts.{next_entry}
use Rattle.account_core.proofs.Fitting.{ComesNext, comes_next}
use Rattle.account_core.proofs.Histories.{latest_held}
use Rattle.journal_laws.proofs.AskedForms.{HasForms, asked_formed}
use Rattle.journal_laws.proofs.AskedTexts.{HasTexts, asked_textual}
use Rattle.journal_laws.proofs.Doing.{IsWell, well}
use Rattle.journal_lines.specs.Forms.{IsEntry, IsWhat}
use Rattle.journal_laws.specs.Laws.{NextEntriesFit, HeldHistoriesAreSound, LawfulHistoriesAreSound, from_here, with_next, NextEntriesHaveForms, OpenedEntriesHaveForms, LawfulEntriesHaveForms}

-- ---- whose view it is doesn't matter

-- the rows of a history at a time, to whomever
abbrev seen : List Entry → ℕ → RealmFacts → Principal → Places → View
seen history time facts caller places = record {
  facts = facts;
  keys = (replay history).keys;
  aliases = (replay history).aliases;
  grants = (replay history).grants;
  place = length history;
  bytes = bytes_in history;
  moment = time;
  caller = caller;
  places = places;
}

module _ (history : List Entry) (time : ℕ) (facts other : RealmFacts) (caller another : Principal) (places others : Places) where
  same_there : (w : What) → is_there (seen history time facts caller places) w ≡ is_there (seen history time other another others) w
  same_there (what.CreateKey key kind description policy tags) = refl
  same_there (what.AliasPut name key) = refl
  same_there (what.AliasDrop name) = refl
  same_there (what.GrantAdd grant key grantee retiring operations constraint name) = refl
  same_there (what.GrantDrop grant) = refl
  same_there what.House = refl
  same_there _ = refl

  same_left : (w : What) → overfull (seen history time facts caller places) w ≡ overfull (seen history time other another others) w
  same_left (what.CreateKey key kind description policy tags) = refl
  same_left (what.RotateNow key) = refl
  same_left (what.AliasPut name key) = refl
  same_left (what.GrantAdd grant key grantee retiring operations constraint name) = refl
  same_left _ = refl

-- what the limits go by doesn't depend on the time
left_any_time : (facts : RealmFacts) (history : List Entry) (time other : ℕ) (w : What) → overfull (view_at facts history time) w ≡ overfull (view_at facts history other) w
left_any_time facts history time other (what.CreateKey key kind description policy tags) = refl
left_any_time facts history time other (what.RotateNow key) = refl
left_any_time facts history time other (what.AliasPut name key) = refl
left_any_time facts history time other (what.GrantAdd grant key grantee retiring operations constraint name) = refl
left_any_time facts history time other _ = refl

-- ---- what a request does

appends_nothing : (wanted : Result (Outcome Uses) Refusal) (places : Places) → (decided_read wanted places).entry ≡ None
appends_nothing (Ok outcome) places = refl
appends_nothing (Err why) places = refl

record Does (wanted : Result (Outcome (Option What)) Refusal) (did : What) : Type 0 where
  out : Outcome (Option What)
  is : wanted ≡ Ok out
  does_it : out.effect ≡ Some did

does_by : (wanted : Result (Outcome (Option What)) Refusal) (moment : ℕ) (places : Places) (entry : Entry) → (decided_change moment wanted places).entry ≡ Some entry → Does wanted entry.what
does_by (Err why) moment places entry e = cc
does_by (Ok out) moment places entry e = of_what out.effect refl e
  where
    of_what : (did : Option What) → out.effect ≡ did → entry_of moment did ≡ Some entry → Does (Ok out) entry.what
    of_what None is e = cc
    of_what (Some did) is e =
        let same : record { time = moment; what = did } ≡ entry = cc in
        record { out = out; is = refl; does_it = is ∙ ap (λ (it : Entry). Some it.what) same }

module _ (facts : RealmFacts) (history : List Entry) (x : Ask) (entry : Entry) (number : IsAccountNumber facts.account) (soon : moment_of history x.moment < year_10000) where
  of_body : (body : AskBody) → IsSized body → HasForms body → HasTexts body → (decide_body facts history x body no_places).entry ≡ Some entry → IsWell (view_of facts history x no_places) entry.what
  of_body (ask.Read body) sized formed texts e =
      let none = appends_nothing (unless (lacking (length history) x.after) (read_outcome (view_of facts history x no_places) body)) no_places in
      let no_entry_is : ◌≡◌ {A = Option Entry} None (Some entry) = sym none ∙ e in
      cc
  of_body (ask.Change body) sized formed texts e =
      let view : View = view_of facts history x no_places in
      let wanted : Result (Outcome (Option What)) Refusal = unless (lacking (length history) x.after) (change_outcome view body) in
      let by = does_by wanted view.moment no_places entry e in
      well view number soon body by.out entry.what sized formed texts (next_of (lacking (length history) x.after) (change_outcome view body) by.out by.is) by.does_it

  next_well : IsProper facts x → (decide facts history x no_places).entry ≡ Some entry → IsWell (view_of facts history x no_places) entry.what
  unfolding decide
  next_well proper e = of_body x.body (asked_sized proper.target proper.text x.body proper.body) (asked_formed proper.target proper.text x.body proper.body) (asked_textual proper.target proper.text x.body proper.body) e

-- ---- as tests

made_so : (place : ℕ) (w : What) → IsMadeHere place w → is_made_here place w ≡ true
made_so place (what.CreateKey key kind description policy tags) e = grind (arith, nat_tests, e)
made_so place (what.GrantAdd grant key grantee retiring operations constraint name) e = grind (arith, nat_tests, e)
made_so place _ e = refl

few_on : (row : Option KeyRow) (tags : List TagValue) → TagsFitOn row tags → tags_fit_on row tags ≡ true
few_on None tags few = refl
few_on (Some row) tags few = grind (arith, nat_tests, few)

tagged_so : (keys : List KeyRow) (w : What) → TagsFit keys w → tags_fit keys w ≡ true
tagged_so keys (what.CreateKey key kind description policy tags) few = grind (arith, nat_tests, few)
tagged_so keys (what.Tag key tags) few = few_on (key_with keys key) tags few
tagged_so keys _ few = refl

-- ---- what housekeeping does

record KeepsHouse (history : List Entry) (clock : ℕ) (entry : Entry) : Type 0 where
  is : entry ≡ record { time = moment_of history clock; what = what.House }
  wanted : wants_house (moment_of history clock) (replay history).keys ≡ true

keeps_by : (history : List Entry) (clock : ℕ) (entry : Entry) (a b : Bool) → wants_house (moment_of history clock) (replay history).keys ≡ a
    → (if a && b then Some (record { time = moment_of history clock; what = what.House }) else None) ≡ Some entry → KeepsHouse history clock entry
keeps_by history clock entry true true wanted e = record { is = cc; wanted = wanted }
keeps_by history clock entry true false wanted e = cc
keeps_by history clock entry false b wanted e = cc

keeps : (history : List Entry) (clock : ℕ) (entry : Entry) → housekeeping_of history clock ≡ Some entry → KeepsHouse history clock entry
unfolding housekeeping_of
keeps history clock entry e = keeps_by history clock entry (wants_house (moment_of history clock) (replay history).keys) (has_room history (size_of what.House)) refl e

passes_over : (b : Bool) (why : Refusal) → b ≡ false → (if b then Some why else None) ≡ None
passes_over true why e = cc
passes_over false why e = refl

room_left : (entries bytes : ℕ) → entries < most_entries → bytes + 64 ≤ most_bytes → or_else (entries_full entries) (bytes_full bytes 64) ≡ None
room_left entries bytes few fits =
    let first : entries_full entries ≡ None = passes_over (nat_le most_entries entries) _ (grind (arith, nat_tests, few)) in
    ap (λ (o : Option Refusal). or_else o (bytes_full bytes 64)) first ∙ passes_over (nat_lt most_bytes (bytes + 64)) _ (grind (arith, nat_tests, fits))

-- ---- an entry that comes next fits

module _ (facts : RealmFacts) (history : List Entry) where
  with_well : (entry : Entry) (time : ℕ) → entry.time ≡ time → ComesNext facts history entry → is_there (view_at facts history time) entry.what ≡ true
      → overfull (view_at facts history time) entry.what ≡ None → is_formed entry.what ≡ true → is_dated time entry.what ≡ true → Fits facts history entry
  with_well entry time at next there left formed dated = record {
    later = next.later;
    bound = next.fits.bound;
    made = made_so (length history) entry.what next.fits.made;
    placed = record {
      there = subst (λ (t : ℕ). is_there (view_at facts history t) entry.what ≡ true) (sym at) there;
      left = left_any_time facts history entry.time time entry.what ∙ left;
    };
    formed = formed;
    dated = subst (λ (t : ℕ). is_dated t entry.what ≡ true) (sym at) dated;
    tagged = tagged_so (replay history).keys entry.what next.fits.tagged;
  }

pub next_fits : NextEntriesFit
next_fits facts history entry number held (appended x proper is) =
    let next = comes_next facts history entry (latest_held facts history held) (appended x proper is) in
    let at = next_entry facts history x entry proper is in
    let time : ℕ = moment_of history x.moment in
    let good = next_well facts history x entry number (subst (λ (t : ℕ). t < year_10000) at.time next.fits.bound) proper is in
    with_well facts history entry time at.time next
    (sym (same_there history time facts facts x.caller (Root facts.account) no_places no_places entry.what) ∙ good.there)
    (sym (same_left history time facts facts x.caller (Root facts.account) no_places no_places entry.what) ∙ at.left)
    good.formed good.dated
next_fits facts history entry number held (kept clock bound is) =
    let next = comes_next facts history entry (latest_held facts history held) (kept clock bound is) in
    let keeps_it = keeps history clock entry is in
    let time : ℕ = moment_of history clock in
    let house : entry.what ≡ what.House = ap (λ (it : Entry). it.what) keeps_it.is in
    let fits : bytes_in history + 64 ≤ most_bytes = subst (λ (w : What). bytes_in history + size_of w ≤ most_bytes) house next.fits.fits in
    with_well facts history entry time (ap (λ (it : Entry). it.time) keeps_it.is) next
    (subst (λ (w : What). is_there (view_at facts history time) w ≡ true) (sym house) keeps_it.wanted)
    (subst (λ (w : What). overfull (view_at facts history time) w ≡ None) (sym house) (room_left (length history) (bytes_in history) next.fits.few fits))
    (subst (λ (w : What). is_formed w ≡ true) (sym house) refl)
    (subst (λ (w : What). is_dated time w ≡ true) (sym house) refl)

-- ---- it has its forms

year_small : (time : ℕ) → time < year_10000 → time < 2 ^ 64
year_small time soon = let top : 253402300800 ≤ 2 ^ 64 = lit≤ tt in omega (arith, soon, top)

pub next_formed : NextEntriesHaveForms
next_formed facts history entry number held (appended x proper is) =
    let next = comes_next facts history entry (latest_held facts history held) (appended x proper is) in
    let at = next_entry facts history x entry proper is in
    (year_small entry.time next.fits.bound, (next_well facts history x entry number (subst (λ (t : ℕ). t < year_10000) at.time next.fits.bound) proper is).parts)
next_formed facts history entry number held (kept clock bound is) =
    let next = comes_next facts history entry (latest_held facts history held) (kept clock bound is) in
    (year_small entry.time next.fits.bound, subst IsWhat (sym (ap (λ (it : Entry). it.what) (keeps history clock entry is).is)) tt)

-- ---- histories

pub held_is_sound : HeldHistoriesAreSound
held_is_sound facts history number no_entry = nothing
held_is_sound facts history number (appended_to {history = front} entry held next) = one_more entry (held_is_sound facts front number held) (next_fits facts front entry number held next)
held_is_sound facts history number (fitted_to {history = front} entry held fits) = one_more entry (held_is_sound facts front number held) fits

pub lawful_is_held : (facts : RealmFacts) (history : List Entry) → IsLawful facts history → IsHeld facts history
lawful_is_held facts history empty = no_entry
lawful_is_held facts history (longer {history = front} entry lawful next) = appended_to entry (lawful_is_held facts front lawful) next

pub lawful_is_sound : LawfulHistoriesAreSound
lawful_is_sound facts history number lawful = held_is_sound facts history number (lawful_is_held facts history lawful)

pub lawful_is_formed : LawfulEntriesHaveForms
lawful_is_formed facts history number empty = All-nil IsEntry
lawful_is_formed facts history number (longer {history = front} entry lawful next) =
    All-append IsEntry front (entry ∷ []) (lawful_is_formed facts front number lawful)
    (All-cons IsEntry entry [] (next_formed facts front entry number (lawful_is_held facts front lawful) next) (All-nil IsEntry))

-- ---- histories that go on

pub sound_is_held : (facts : RealmFacts) (history : List Entry) → IsSound facts history → IsHeld facts history
sound_is_held facts history nothing = no_entry
sound_is_held facts history (one_more {history = front} entry sound fits) = fitted_to entry (sound_is_held facts front sound) fits

pub opened_is_formed : OpenedEntriesHaveForms
opened_is_formed facts front history number sound forms from_here = (sound_is_held facts front sound, forms)
opened_is_formed facts front history number sound forms (with_next {history = before} entry on next) =
    let so_far = opened_is_formed facts front before number sound forms on in (
      appended_to entry so_far.0 next,
      All-append IsEntry before (entry ∷ []) so_far.1 (All-cons IsEntry entry [] (next_formed facts before entry number so_far.0 next) (All-nil IsEntry)),
    )

-- a history that is sound under facts is sound under any
sound_fits : (facts other : RealmFacts) (history : List Entry) (entry : Entry) → Fits facts history entry → Fits other history entry
sound_fits facts other history entry fits = record {
  later = fits.later;
  bound = fits.bound;
  made = fits.made;
  placed = record {
    there = sym (same_there history entry.time facts other (Root facts.account) (Root other.account) no_places no_places entry.what) ∙ fits.placed.there;
    left = sym (same_left history entry.time facts other (Root facts.account) (Root other.account) no_places no_places entry.what) ∙ fits.placed.left;
  };
  formed = fits.formed;
  dated = fits.dated;
  tagged = fits.tagged;
}

pub sound_under : (facts other : RealmFacts) (history : List Entry) → IsSound facts history → IsSound other history
sound_under facts other history nothing = nothing
sound_under facts other history (one_more {history = front} entry sound fits) = one_more entry (sound_under facts other front sound) (sound_fits facts other front entry fits)
