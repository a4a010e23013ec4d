-- A key that a request names is there.
use Rattle.std.proofs.Common.{◌≡◌, ℕ, List, Bool, true, false, Option, Some, None, Result, Ok, Err, refl, sym, ap, ◌∙◌, subst, if◌then◌else◌}
use Rattle.std.specs.Prelude.{option_and_then, ok_or}
use Rattle.kms_names.specs.declared.faults.NameFault.{NameFault}
use Rattle.kms_names.specs.declared.faults.NameFault.TheVariants as fault
use Rattle.kms_names.specs.declared.references.KeyRef.{KeyRef}
use Rattle.kms_names.specs.declared.references.KeyRef.TheVariants.{Key, Alias, Elsewhere}
use Rattle.kms_json.specs.declared.refusals.Missing.TheVariants as missing
use Rattle.kms_json.specs.declared.refusals.Refusal.TheVariants as refusal
use Rattle.key_states.specs.declared.rows.KeyRow.{KeyRow}
use Rattle.alias_map.specs.Aliases.{row_named}
use Rattle.alias_map.specs.declared.rows.AliasRow.{AliasRow}
use Rattle.account_rows.specs.Changes.{is_gone}
use Rattle.account_rows.specs.History.{key_with}
use Rattle.account_rows.proofs.RowFacts.{found_key}
use Rattle.account_steps.specs.Steps.{named_by_id, named_by, named_by_alias, key_of_alias, key_referred, reference_of, key_of, only_key_of}
use Rattle.account_steps.specs.View.{View, unless_gone, key_held, aliased}
use Rattle.account_steps.specs.declared.checks.Named.{Named}
use Rattle.account_steps.proofs.Passing.{found_of, ok_of, ok_same}

-- a key that counts as there is there, and isn't gone
pub there_of : (moment : ℕ) (o : Option KeyRow) (row : KeyRow) → unless_gone moment o ≡ Some row → o ≡ Some row
there_of moment (Some found) row e = by_test (is_gone moment found) e
  where
    by_test : (b : Bool) → (if b then None else Some found) ≡ Some row → Some found ≡ Some row
    by_test true e = cc
    by_test false e = e
there_of moment None row e = cc

-- nor is it gone
pub live_of : (moment : ℕ) (o : Option KeyRow) (row : KeyRow) → unless_gone moment o ≡ Some row → is_gone moment row ≡ false
live_of moment (Some found) row e = by_test (is_gone moment found) refl e
  where
    by_test : (b : Bool) → is_gone moment found ≡ b → (if b then None else Some found) ≡ Some row → is_gone moment row ≡ false
    by_test true is e = cc
    by_test false is e = let same : found ≡ row = cc in ap (is_gone moment) (sym same) ∙ is
live_of moment None row e = cc

-- a key that is there under an id is there under its own
abbrev IsHeld : View → KeyRow → Type 0
IsHeld view row = key_held view row.key ≡ Some row

held_itself : (view : View) (id : List ℕ) (row : KeyRow) → key_held view id ≡ Some row → IsHeld view row
held_itself view id row e =
    let found = there_of view.moment (key_with view.keys id) row e in
    subst (λ (key : List ℕ). key_held view key ≡ Some row) (sym (found_key view.keys id row found)) e

aliased_held : (view : View) (o : Option AliasRow) (row : KeyRow) → option_and_then (λ (a : AliasRow). key_held view a.key) o ≡ Some row → IsHeld view row
aliased_held view (Some a) row e = held_itself view a.key row e
aliased_held view None row e = cc

-- the key that a text refers to
referred : (view : View) (reference : Result KeyRef NameFault) (named : Named) → key_referred view named_by_id (named_by_alias view) reference ≡ Ok named → IsHeld view named.row
referred view (Ok (Key id)) named e =
    let row = found_of (ok_or (key_held view id) (refusal.NotFound missing.Key)) (λ (r : KeyRow). Ok (named_by_id r)) named e in
    subst (λ (n : Named). IsHeld view n.row) (ok_same (named_by_id row.value) named row.came) (held_itself view id row.value (ok_of (key_held view id) (refusal.NotFound missing.Key) row.value row.is))
referred view (Ok (Alias name)) named e =
    let row = found_of (key_of_alias view name) (λ (r : KeyRow). Ok (named_by name r)) named e in
    subst (λ (n : Named). IsHeld view n.row) (ok_same (named_by name row.value) named row.came)
    (aliased_held view (row_named view.aliases name) row.value (ok_of (aliased view name) (refusal.NotFound missing.Alias) row.value row.is))
referred view (Ok Elsewhere) named e = cc
referred view (Err fault.BadArn) named e = cc
referred view (Err fault.BadAlias) named e = cc
referred view (Err fault.BadId) named e = cc
referred view (Err fault.NoMemory) named e = cc

only_referred : (view : View) (reference : Result KeyRef NameFault) (row : KeyRow) → key_referred view (λ row. row) (λ name. Err refusal.InvalidArn) reference ≡ Ok row → IsHeld view row
only_referred view (Ok (Key id)) row e =
    let found = found_of (ok_or (key_held view id) (refusal.NotFound missing.Key)) (λ (r : KeyRow). Ok r) row e in
    subst (IsHeld view) (ok_same found.value row found.came) (held_itself view id found.value (ok_of (key_held view id) (refusal.NotFound missing.Key) found.value found.is))
only_referred view (Ok (Alias name)) row e = cc
only_referred view (Ok Elsewhere) row e = cc
only_referred view (Err fault.BadArn) row e = cc
only_referred view (Err fault.BadAlias) row e = cc
only_referred view (Err fault.BadId) row e = cc
only_referred view (Err fault.NoMemory) row e = cc

key_held_by : (view : View) (reference : List ℕ) (named : Named) → key_of view reference ≡ Ok named → IsHeld view named.row
unfolding key_of
key_held_by view reference named e = referred view (reference_of view.facts reference) named e

only_key_held_by : (view : View) (reference : List ℕ) (row : KeyRow) → only_key_of view reference ≡ Ok row → IsHeld view row
unfolding only_key_of
only_key_held_by view reference row e = only_referred view (reference_of view.facts reference) row e

-- the key that a request names is there, and isn't gone
pub key_there : (view : View) (reference : List ℕ) (named : Named) → key_of view reference ≡ Ok named → key_with view.keys named.row.key ≡ Some named.row
key_there view reference named e = there_of view.moment (key_with view.keys named.row.key) named.row (key_held_by view reference named e)

pub key_lives : (view : View) (reference : List ℕ) (named : Named) → key_of view reference ≡ Ok named → is_gone view.moment named.row ≡ false
key_lives view reference named e = live_of view.moment (key_with view.keys named.row.key) named.row (key_held_by view reference named e)

-- and so is one that it names by no alias
pub only_key_there : (view : View) (reference : List ℕ) (row : KeyRow) → only_key_of view reference ≡ Ok row → key_with view.keys row.key ≡ Some row
only_key_there view reference row e = there_of view.moment (key_with view.keys row.key) row (only_key_held_by view reference row e)
