-- The histories that accounts hold.
use Rattle.std.proofs.Common.{◌≡◌, ◌<◌, ◌≤◌, ◌+◌, nat_le, nat_lt, Bool, true, false, List, [], ◌∷◌, ◌++◌, length, Option, Some, None, refl, sym, subst, arith}
use Rattle.std.proofs.lemmas.Bool.Decides.{nat_tests}
use Rattle.kms_names.specs.Moment.{year_10000}
use Rattle.resource_tags.specs.Tags.{with_tags}
use Rattle.resource_tags.specs.declared.tags.Tag.{Tag as TagValue}
use Rattle.key_states.specs.declared.rows.KeyRow.{KeyRow}
use Rattle.account_rows.specs.declared.entries.Entry.{Entry}
use Rattle.account_rows.specs.declared.entries.What.{What}
use Rattle.account_rows.specs.declared.entries.What.TheVariants as what
use Rattle.account_rows.specs.History.{replay, latest_of, key_with, most_entries, most_bytes, most_tags, place_in, place_in_grant, is_made_here, IsMadeHere, tags_fit, tags_fit_on, TagsFit, TagsFitOn, IsFitting}
use Rattle.account_rows.specs.Sizes.{size_of, bytes_in}
use Rattle.account_rows.proofs.RowFacts.{latest-push}
use Rattle.account_steps.specs.declared.facts.RealmFacts.{RealmFacts}
use Rattle.account_steps.specs.Parts.{full, entries_full}
use Rattle.account_core.specs.Decide.{IsNext}
use Rattle.account_core.specs.Fitting.{view_at, Fits, IsHeld, no_entry, appended_to, fitted_to}
use Rattle.account_core.proofs.Fitting.{comes_next, both_none, few_of, fits_of}

-- what holds of an account's fields
pub held_nothing : (facts : RealmFacts) (entries : List Entry) → entries ≡ [] → IsHeld facts entries
held_nothing facts entries is = subst (IsHeld facts) (sym is) no_entry

pub held_more : (facts copied : RealmFacts) (history entries : List Entry) (entry : Entry) → copied ≡ facts → entries ≡ history ++ entry ∷ []
    → IsHeld facts (history ++ entry ∷ []) → IsHeld copied entries
held_more facts copied history entries entry same is held = subst (λ (f : RealmFacts). IsHeld f entries) (sym same) (subst (IsHeld facts) (sym is) held)

-- its last time is before the year 10000
pub latest_held : (facts : RealmFacts) (history : List Entry) → IsHeld facts history → latest_of history < year_10000
latest_held facts history no_entry = omega arith
latest_held facts history (appended_to {history = before} entry held next) =
    subst (λ t. t < year_10000) (sym (latest-push before entry)) (comes_next facts before entry (latest_held facts before held) next).fits.bound
latest_held facts history (fitted_to {history = before} entry held fits) = subst (λ t. t < year_10000) (sym (latest-push before entry)) fits.bound

-- ---- an entry that fits may be applied

made_of : (place : _) (w : What) → is_made_here place w ≡ true → IsMadeHere place w
made_of place (what.CreateKey key kind description policy tags) e = grind (arith, nat_tests, e)
made_of place (what.GrantAdd grant key grantee retiring operations constraint name) e = grind (arith, nat_tests, e)
made_of place _ e = tt

few_on : (row : Option KeyRow) (tags : List TagValue) → tags_fit_on row tags ≡ true → TagsFitOn row tags
few_on None tags e = tt
few_on (Some row) tags e = grind (arith, nat_tests, e)

tagged_of : (keys : List KeyRow) (w : What) → tags_fit keys w ≡ true → TagsFit keys w
tagged_of keys (what.CreateKey key kind description policy tags) e = grind (arith, nat_tests, e)
tagged_of keys (what.Tag key tags) e = few_on (key_with keys key) tags e
tagged_of keys _ e = tt

pub fitting_of : (facts : RealmFacts) (history : List Entry) (entry : Entry) → Fits facts history entry → IsFitting history entry
fitting_of facts history entry fits =
    let limits = both_none (full (view_at facts history entry.time) entry.what) _ fits.placed.left in
    let rest = both_none (entries_full (length history)) _ limits.1 in
    record {
      bound = fits.bound;
      made = made_of (length history) entry.what fits.made;
      tagged = tagged_of (replay history).keys entry.what fits.tagged;
      few = few_of (length history) rest.0;
      fits = fits_of (bytes_in history) (size_of entry.what) rest.1;
    }
