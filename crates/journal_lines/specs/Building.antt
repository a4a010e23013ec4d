-- The members of a grant's line, put together in two steps.
use Rattle.std.specs.Prelude.{ℕ, List, codes, Option, option_map}
use Rattle.kms_names.specs.declared.principals.Principal.{Principal}
use Rattle.grant_table.specs.declared.constraints.Constraint.{Constraint}
use Rattle.serde_json.specs.Data.{Members, member}
use Rattle.kms_json.specs.Objects.{put_any}
use Rattle.kms_json.specs.GrantReplies.{operations_data}
use Rattle.journal_lines.specs.Values.{base64_data, hex_data, principal_data, equals_data, subset_data}
use Rattle.journal_lines.specs.Lines.{stamped}

-- what every grant has
abbrev pub permit_members : ℕ → List ℕ → List ℕ → Principal → ℕ → Members
permit_members time grant key grantee operations =
    member (codes "grant") (hex_data grant)
    (member (codes "grantee") (principal_data grantee)
    (member (codes "key") (hex_data key)
    (member (codes "operations") (operations_data operations) (stamped time (codes "GrantAdd")))))

-- what a grant may have beside, each in its place
abbrev pub with_terms : Option Principal → Constraint → Option (List ℕ) → Members → Members
with_terms retiring constraint name members =
    put_any (codes "equals") (equals_data constraint)
    (put_any (codes "name") (option_map base64_data name)
    (put_any (codes "retiring") (option_map principal_data retiring)
    (put_any (codes "subset") (subset_data constraint) members)))
