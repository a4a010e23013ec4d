-- What the reader makes of a line's JSON value: an entry, before it is written again and compared.
use Rattle.std.specs.Prelude.{ℕ, List, if◌then◌else◌, codes, Option, Some, None, option_map}
use Rattle.std.specs.Str.{bytes_eq}
use Rattle.kms_names.specs.declared.principals.Principal.{Principal}
use Rattle.enc_context.specs.declared.pairs.Pair.{Pair}
use Rattle.grant_table.specs.declared.constraints.Constraint.{Constraint}
use Rattle.grant_table.specs.declared.constraints.Constraint.TheVariants.{Free, Equals, Subset}
use Rattle.serde_json.specs.Data.{Data}
use Rattle.serde_json.specs.Find.{get, as_str}
use Rattle.account_rows.specs.declared.entries.Entry.{Entry}
use Rattle.account_rows.specs.declared.entries.What.{What}
use Rattle.account_rows.specs.declared.entries.What.TheVariants as what
use Rattle.journal_lines.specs.Readings.{at, read_if, text_in, id_in, number_in, small_in, alias_in, principal_in, kind_in, tags_in, texts_in, operations_in, context_in}

-- what comes next is asked where there is something so far
infixl 10 ◌>>=◌
abbrev pub ◌>>=◌ : {A B : Type 0} → Option A → (A → Option B) → Option B
None >>= f = None
Some x >>= f = f x

abbrev pub key_at : Data → Option (List ℕ)
key_at d = at (id_in 16) (codes "key") d

abbrev pub grant_at : Data → Option (List ℕ)
grant_at d = at (id_in 32) (codes "grant") d

abbrev pub name_at : Data → Option (List ℕ)
name_at d = at alias_in (codes "name") d

abbrev pub create_key_of : Data → Option What
create_key_of d = do
  key ← key_at d
  kind ← at kind_in (codes "kind") d
  description ← at text_in (codes "description") d
  policy ← at text_in (codes "policy") d
  tags ← at tags_in (codes "tags") d
  Some (what.CreateKey key kind description policy tags)

abbrev pub schedule_of : Data → Option What
schedule_of d = do
  key ← key_at d
  date ← at number_in (codes "date") d
  days ← at small_in (codes "days") d
  Some (what.Schedule key date days)

abbrev pub rotation_on_of : Data → Option What
rotation_on_of d = do
  key ← key_at d
  period ← at small_in (codes "period") d
  Some (what.RotationOn key period)

-- another text of a key, as a policy or as a description
abbrev pub text_of_key : (List ℕ → List ℕ → What) → Data → Option What
text_of_key made d = do
  key ← key_at d
  text ← at text_in (codes "text") d
  Some (made key text)

abbrev pub tag_of_key : Data → Option What
tag_of_key d = do
  key ← key_at d
  tags ← at tags_in (codes "tags") d
  Some (what.Tag key tags)

abbrev pub untag_of : Data → Option What
untag_of d = do
  key ← key_at d
  keys ← at texts_in (codes "names") d
  Some (what.Untag key keys)

abbrev pub alias_put_of : Data → Option What
alias_put_of d = do
  name ← name_at d
  key ← key_at d
  Some (what.AliasPut name key)

-- what is to be equal, or what is to be there; not both
abbrev pub constraint_by : Option (List Pair) → Option (List Pair) → Option Constraint
constraint_by None None = Some Free
constraint_by (Some pairs) None = Some (Equals pairs)
constraint_by None (Some pairs) = Some (Subset pairs)
constraint_by (Some pairs) (Some others) = None

abbrev pub constraint_at : Data → Option Constraint
constraint_at d = do
  equals ← read_if context_in (get (codes "equals") d)
  subset ← read_if context_in (get (codes "subset") d)
  constraint_by equals subset

-- what a grant may have beside
abbrev pub terms_at : Data → Option (Option Principal × Constraint × Option (List ℕ))
terms_at d = do
  retiring ← read_if principal_in (get (codes "retiring") d)
  constraint ← constraint_at d
  name ← read_if text_in (get (codes "name") d)
  Some (retiring, constraint, name)

abbrev pub grant_add_of : Data → Option What
grant_add_of d = do
  grant ← grant_at d
  key ← key_at d
  grantee ← at principal_in (codes "grantee") d
  operations ← at operations_in (codes "operations") d
  terms ← terms_at d
  Some (what.GrantAdd grant key grantee terms.0 operations terms.1 terms.2)

-- what was done, by its name
unfoldable pub what_of : List ℕ → Data → Option What
what_of name d =
    if bytes_eq name (codes "CreateKey") then create_key_of d
    else if bytes_eq name (codes "Enable") then option_map what.Enable (key_at d)
    else if bytes_eq name (codes "Disable") then option_map what.Disable (key_at d)
    else if bytes_eq name (codes "Schedule") then schedule_of d
    else if bytes_eq name (codes "Cancel") then option_map what.Cancel (key_at d)
    else if bytes_eq name (codes "RotationOn") then rotation_on_of d
    else if bytes_eq name (codes "RotationOff") then option_map what.RotationOff (key_at d)
    else if bytes_eq name (codes "RotateNow") then option_map what.RotateNow (key_at d)
    else if bytes_eq name (codes "Policy") then text_of_key what.Policy d
    else if bytes_eq name (codes "Description") then text_of_key what.Description d
    else if bytes_eq name (codes "Tag") then tag_of_key d
    else if bytes_eq name (codes "Untag") then untag_of d
    else if bytes_eq name (codes "AliasPut") then alias_put_of d
    else if bytes_eq name (codes "AliasDrop") then option_map what.AliasDrop (name_at d)
    else if bytes_eq name (codes "GrantAdd") then grant_add_of d
    else if bytes_eq name (codes "GrantDrop") then option_map what.GrantDrop (grant_at d)
    else if bytes_eq name (codes "House") then Some what.House
    else None

unfoldable pub entry_in : Data → Option Entry
entry_in d = do
  time ← at number_in (codes "time") d
  name ← at as_str (codes "what") d
  what ← what_of name d
  Some (record { time = time; what = what })
