-- The JSON values of entries are plain, and nest three deep at most.
use Rattle.std.proofs.Common.{◌≡◌, ℕ, List, [], ◌∷◌, codes, Bool, false, Option, Some, None, refl, ap₂}
use Rattle.std.specs.Prelude.{◌||◌}
use Rattle.std.specs.Option.{option_map, IfSome}
use Rattle.kms_names.specs.declared.principals.Principal.{Principal}
use Rattle.kms_names.specs.declared.operations.GrantOp.{GrantOp}
use Rattle.kms_names.specs.GrantOps.{members, grant_op_name}
use Rattle.grant_table.specs.declared.constraints.Constraint.{Constraint}
use Rattle.grant_table.specs.declared.constraints.Constraint.TheVariants.{Free, Equals, Subset}
use Rattle.resource_tags.specs.declared.tags.Tag.{Tag}
use Rattle.serde_json.specs.Data.{Data, Members, string}
use Rattle.serde_json.specs.Written.{has_float, members_have_float}
use Rattle.kms_json.specs.Objects.{with_any, list_data}
use Rattle.kms_json.specs.GrantReplies.{operations_data}
use Rattle.account_rows.specs.declared.entries.Entry.{Entry}
use Rattle.account_rows.specs.declared.entries.What.{What}
use Rattle.account_rows.specs.declared.entries.What.TheVariants as what
use Rattle.journal_lines.specs.Values.{base64_data, principal_data, tag_data, tags_data, texts_data, equals_data, subset_data}
use Rattle.journal_lines.specs.Lines.{entry_members, entry_data}
use Rattle.journal_lines.specs.Building.{permit_members, with_terms}

-- ---- no float

both : (a b : Bool) → a ≡ false → b ≡ false → a || b ≡ false
both a b p q = ap₂ (λ x y. x || y) p q

with_any_exact : (k : List ℕ) (o : Option Data) (ms : Members) → IfSome o (λ d. has_float d ≡ false) → members_have_float ms ≡ false → members_have_float (with_any k o ms) ≡ false
with_any_exact k None ms p q = q
with_any_exact k (Some d) ms p q = both (has_float d) _ p q

mapped : {A : Type 0} (f : A → Data) → ((a : A) → has_float (f a) ≡ false) → (o : Option A) → IfSome (option_map f o) (λ d. has_float d ≡ false)
mapped f h None = tt
mapped f h (Some a) = h a

list_exact : {A : Type 0} (f : A → Data) → ((a : A) → has_float (f a) ≡ false) → (rows : List A) → has_float (list_data f rows) ≡ false
list_exact f h [] = refl
list_exact f h (row ∷ rows) = both (has_float (f row)) _ (h row) (list_exact f h rows)

tags_exact : (tags : List Tag) → has_float (tags_data tags) ≡ false
tags_exact tags = list_exact tag_data (λ _. refl) tags

equals_exact : (c : Constraint) → IfSome (equals_data c) (λ d. has_float d ≡ false)
equals_exact Free = tt
equals_exact (Equals pairs) = refl
equals_exact (Subset pairs) = tt

subset_exact : (c : Constraint) → IfSome (subset_data c) (λ d. has_float d ≡ false)
subset_exact Free = tt
subset_exact (Equals pairs) = tt
subset_exact (Subset pairs) = refl

operations_exact : (operations : ℕ) → has_float (operations_data operations) ≡ false
operations_exact operations = list_exact (λ (op : GrantOp). string (grant_op_name op)) (λ _. refl) (members operations)

members_exact : (time : ℕ) (w : What) → members_have_float (entry_members time w) ≡ false
members_exact time (what.CreateKey key kind description policy tags) = both (has_float (tags_data tags)) false (tags_exact tags) refl
members_exact time (what.Enable key) = refl
members_exact time (what.Disable key) = refl
members_exact time (what.Schedule key date days) = refl
members_exact time (what.Cancel key) = refl
members_exact time (what.RotationOn key period) = refl
members_exact time (what.RotationOff key) = refl
members_exact time (what.RotateNow key) = refl
members_exact time (what.Policy key text) = refl
members_exact time (what.Description key text) = refl
members_exact time (what.Tag key tags) = both (has_float (tags_data tags)) false (tags_exact tags) refl
members_exact time (what.Untag key keys) = both (has_float (texts_data keys)) false (list_exact base64_data (λ _. refl) keys) refl
members_exact time (what.AliasPut name key) = refl
members_exact time (what.AliasDrop name) = refl
members_exact time (what.GrantAdd grant key grantee retiring operations constraint name) =
    with_any_exact (codes "equals") (equals_data constraint) _ (equals_exact constraint)
    (with_any_exact (codes "name") (option_map base64_data name) _ (mapped base64_data (λ _. refl) name)
    (both (has_float (operations_data operations)) _ (operations_exact operations)
    (with_any_exact (codes "retiring") (option_map principal_data retiring) _ (mapped principal_data (λ _. refl) retiring)
    (with_any_exact (codes "subset") (subset_data constraint) _ (subset_exact constraint) refl))))
members_exact time (what.GrantDrop grant) = refl
members_exact time what.House = refl

pub exact : (entry : Entry) → has_float (entry_data entry) ≡ false
exact entry = members_exact entry.time entry.what

-- ---- the members of a grant, each put in its place

pub grant_members : (time : ℕ) (grant key : List ℕ) (grantee : Principal) (retiring : Option Principal) (operations : ℕ) (constraint : Constraint) (name : Option (List ℕ))
    → with_terms retiring constraint name (permit_members time grant key grantee operations) ≡ entry_members time (what.GrantAdd grant key grantee retiring operations constraint name)
grant_members time grant key grantee None operations Free None = refl
grant_members time grant key grantee None operations Free (Some name) = refl
grant_members time grant key grantee None operations (Equals pairs) None = refl
grant_members time grant key grantee None operations (Equals pairs) (Some name) = refl
grant_members time grant key grantee None operations (Subset pairs) None = refl
grant_members time grant key grantee None operations (Subset pairs) (Some name) = refl
grant_members time grant key grantee (Some p) operations Free None = refl
grant_members time grant key grantee (Some p) operations Free (Some name) = refl
grant_members time grant key grantee (Some p) operations (Equals pairs) None = refl
grant_members time grant key grantee (Some p) operations (Equals pairs) (Some name) = refl
grant_members time grant key grantee (Some p) operations (Subset pairs) None = refl
grant_members time grant key grantee (Some p) operations (Subset pairs) (Some name) = refl
