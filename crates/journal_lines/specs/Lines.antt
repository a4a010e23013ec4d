-- An entry's line: a JSON object with no space, members in byte order of their names, and a line feed.
use Rattle.std.specs.Prelude.{ℕ, List, [], ◌∷◌, ◌++◌, codes, option_map}
use Rattle.account_rows.specs.declared.entries.Entry.{Entry}
use Rattle.account_rows.specs.declared.entries.What.{What}
use Rattle.account_rows.specs.declared.entries.What.TheVariants as what
use Rattle.serde_json.specs.Data.{Data, object, Members, member, no_members}
use Rattle.serde_json.specs.Written.{compact_text}
use Rattle.kms_json.specs.Objects.{with_text, with_any, number_data}
use Rattle.kms_json.specs.GrantReplies.{operations_data}
use Rattle.journal_lines.specs.Values.{base64_data, hex_data, principal_data, kind_name, tags_data, texts_data, equals_data, subset_data}

-- when an entry was made and what it did, which end each object
abbrev pub stamped : ℕ → List ℕ → Members
stamped time name = member (codes "time") (number_data time) (with_text (codes "what") name no_members)

-- what was done to a key, and nothing more
abbrev pub key_alone : ℕ → List ℕ → List ℕ → Members
key_alone time name key = member (codes "key") (hex_data key) (stamped time name)

-- another text of a key
abbrev pub key_text : ℕ → List ℕ → List ℕ → List ℕ → Members
key_text time name key text = member (codes "key") (hex_data key) (member (codes "text") (base64_data text) (stamped time name))

abbrev pub entry_members : ℕ → What → Members
entry_members time (what.CreateKey key kind description policy tags) =
    member (codes "description") (base64_data description)
    (member (codes "key") (hex_data key)
    (with_text (codes "kind") (kind_name kind)
    (member (codes "policy") (base64_data policy)
    (member (codes "tags") (tags_data tags) (stamped time (codes "CreateKey"))))))
entry_members time (what.Enable key) = key_alone time (codes "Enable") key
entry_members time (what.Disable key) = key_alone time (codes "Disable") key
entry_members time (what.Schedule key date days) =
    member (codes "date") (number_data date)
    (member (codes "days") (number_data days)
    (member (codes "key") (hex_data key) (stamped time (codes "Schedule"))))
entry_members time (what.Cancel key) = key_alone time (codes "Cancel") key
entry_members time (what.RotationOn key period) =
    member (codes "key") (hex_data key) (member (codes "period") (number_data period) (stamped time (codes "RotationOn")))
entry_members time (what.RotationOff key) = key_alone time (codes "RotationOff") key
entry_members time (what.RotateNow key) = key_alone time (codes "RotateNow") key
entry_members time (what.Policy key text) = key_text time (codes "Policy") key text
entry_members time (what.Description key text) = key_text time (codes "Description") key text
entry_members time (what.Tag key tags) =
    member (codes "key") (hex_data key) (member (codes "tags") (tags_data tags) (stamped time (codes "Tag")))
entry_members time (what.Untag key keys) =
    member (codes "key") (hex_data key) (member (codes "names") (texts_data keys) (stamped time (codes "Untag")))
entry_members time (what.AliasPut name key) =
    member (codes "key") (hex_data key) (member (codes "name") (base64_data name) (stamped time (codes "AliasPut")))
entry_members time (what.AliasDrop name) = member (codes "name") (base64_data name) (stamped time (codes "AliasDrop"))
entry_members time (what.GrantAdd grant key grantee retiring operations constraint name) =
    with_any (codes "equals") (equals_data constraint)
    (member (codes "grant") (hex_data grant)
    (member (codes "grantee") (principal_data grantee)
    (member (codes "key") (hex_data key)
    (with_any (codes "name") (option_map base64_data name)
    (member (codes "operations") (operations_data operations)
    (with_any (codes "retiring") (option_map principal_data retiring)
    (with_any (codes "subset") (subset_data constraint) (stamped time (codes "GrantAdd")))))))))
entry_members time (what.GrantDrop grant) = member (codes "grant") (hex_data grant) (stamped time (codes "GrantDrop"))
entry_members time what.House = stamped time (codes "House")

abbrev pub entry_data : Entry → Data
entry_data entry = object (entry_members entry.time entry.what)

-- the line with its line feed
unfoldable pub entry_line : Entry → List ℕ
entry_line entry = compact_text (entry_data entry) ++ 10 ∷ []
