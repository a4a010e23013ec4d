-- The fields of the operations on tags, in the order in which they are judged, and what each asks by what is given to them (AWS KMS API Reference, TagResource, UntagResource and ListResourceTags).
use Rattle.std.specs.Prelude.{List, [], ◌∷◌, codes, ℕ}
use Rattle.kms_json.specs.declared.fields.Kind.TheVariants.{Tags, TagKeys}
use Rattle.kms_json.specs.declared.given.Given.{Given}
use Rattle.kms_json.specs.declared.asks.Changing.{Changing}
use Rattle.kms_json.specs.declared.asks.Changing.TheVariants as changing
use Rattle.kms_json.specs.declared.asks.Reading.{Reading}
use Rattle.kms_json.specs.declared.asks.Reading.TheVariants as reading
use Rattle.kms_json.specs.Given.{text_in, texts_in, tags_in}
use Rattle.kms_json.specs.Fields.{FieldRow, always, field, key_reference, page_of}
use Rattle.kms_json.specs.PageAsks.{page}

abbrev pub tag_resource_fields : List FieldRow
tag_resource_fields =
    key_reference (codes "KeyId") always ∷
    field (codes "Tags") Tags always ∷ []

abbrev pub untag_resource_fields : List FieldRow
untag_resource_fields =
    key_reference (codes "KeyId") always ∷
    field (codes "TagKeys") TagKeys always ∷ []

abbrev pub list_resource_tags_fields : List FieldRow
list_resource_tags_fields = key_reference (codes "KeyId") always ∷ page_of 50

abbrev pub tag_resource : (List ℕ → Given) → Changing
tag_resource at = changing.TagResource (text_in (at (codes "KeyId"))) (tags_in (at (codes "Tags")))

abbrev pub untag_resource : (List ℕ → Given) → Changing
untag_resource at = changing.UntagResource (text_in (at (codes "KeyId"))) (texts_in (at (codes "TagKeys")))

abbrev pub list_resource_tags : (List ℕ → Given) → Reading
list_resource_tags at = reading.ListResourceTags (text_in (at (codes "KeyId"))) (page 50 at)
