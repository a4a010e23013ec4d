-- Names of an object's members.
use Rattle.std.specs.Prelude.{ℕ, Bool, true, false, List, Option, Some, None, if◌then◌else◌}
use Rattle.std.specs.List.{list_any}
use Rattle.std.specs.Str.{bytes_eq}
use Rattle.serde_json.specs.Data.{Items, no_items, item, Members, no_members, member}
use Rattle.policy_doc.specs.declared.faults.PolicyFault.{PolicyFault}
use Rattle.policy_doc.specs.declared.faults.PolicyFault.TheVariants as fault
use Rattle.policy_doc.specs.Paths.{member_path}

abbrev pub is_known : List (List ℕ) → List ℕ → Bool
is_known names name = list_any (λ known. bytes_eq name known) names

-- the first member of another name than these; the members of a JSON value stand in byte order of their names
abbrev pub first_unknown : List (List ℕ) → Members → Option (List ℕ)
first_unknown names no_members = None
first_unknown names (member name d ms) = if is_known names name then first_unknown names ms else Some name

abbrev pub name_fault : List ℕ → Option (List ℕ) → Option PolicyFault
name_fault path None = None
name_fault path (Some name) = Some (fault.BadShape (member_path path name))

abbrev pub unknown_fault : List (List ℕ) → List ℕ → Members → Option PolicyFault
unknown_fault names path ms = name_fault path (first_unknown names ms)

abbrev pub has_members : Members → Bool
has_members no_members = false
has_members (member name d ms) = true

abbrev pub has_items : Items → Bool
has_items no_items = false
has_items (item d ds) = true
