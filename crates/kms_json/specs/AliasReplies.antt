-- What the operations on aliases answer, with members in byte order of their names (AWS KMS API Reference, AliasListEntry).
use Rattle.std.specs.Prelude.{ℕ, List, codes}
use Rattle.uuid.specs.Text.{hyphenated_text, lower}
use Rattle.kms_names.specs.Reference.{alias_arn_text}
use Rattle.serde_json.specs.Data.{Data, object, member, no_members}
use Rattle.kms_json.specs.declared.replies.lists.ListedAlias.{ListedAlias}
use Rattle.kms_json.specs.declared.replies.lists.AliasPage.{AliasPage}
use Rattle.kms_json.specs.Objects.{with_text, number_data, list_data}
use Rattle.kms_json.specs.PageReplies.{page_data}

-- an alias of this ARN, and the printed id of its key
abbrev pub alias_by : List ℕ → ListedAlias → List ℕ → Data
alias_by arn alias key = object
    (with_text (codes "AliasArn") arn
    (with_text (codes "AliasName") alias.name
    (member (codes "CreationDate") (number_data alias.created)
    (member (codes "LastUpdatedDate") (number_data alias.updated)
    (with_text (codes "TargetKeyId") key no_members)))))

abbrev pub alias_data : List ℕ → List ℕ → ListedAlias → Data
alias_data account region alias = alias_by (alias_arn_text account region alias.name) alias (hyphenated_text lower alias.key)

abbrev pub aliases_data : AliasPage → Data
aliases_data page = page_data (codes "Aliases") (list_data (alias_data page.account page.region) page.aliases) page.next
