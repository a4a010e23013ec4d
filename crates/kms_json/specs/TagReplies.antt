-- What ListResourceTags answers, with members in byte order of their names (AWS KMS API Reference, ListResourceTags and Tag).
use Rattle.std.specs.Prelude.{codes, option_map}
use Rattle.serde_json.specs.Data.{Data, object, no_members, string}
use Rattle.resource_tags.specs.declared.tags.Tag.{Tag}
use Rattle.kms_json.specs.declared.replies.lists.TagPage.{TagPage}
use Rattle.kms_json.specs.Objects.{with_text, list_data}
use Rattle.kms_json.specs.PageReplies.{part_data}

abbrev pub tag_data : Tag → Data
tag_data tag = object (with_text (codes "TagKey") tag.key (with_text (codes "TagValue") tag.value no_members))

abbrev pub tags_data : TagPage → Data
tags_data page = part_data (codes "Tags") (list_data tag_data page.tags) (option_map string page.next)
