-- The fields of the operations on aliases, in the order in which they are judged, and what each asks by what is given to them (AWS KMS API Reference, CreateAlias, UpdateAlias, DeleteAlias and ListAliases).
use Rattle.std.specs.Prelude.{List, [], ◌∷◌, codes, ℕ}
use Rattle.kms_json.specs.declared.fields.Kind.TheVariants.{AliasName}
use Rattle.kms_json.specs.declared.given.Given.{Given}
use Rattle.kms_json.specs.declared.asks.Changing.{Changing}
use Rattle.kms_json.specs.declared.asks.Changing.TheVariants as changing
use Rattle.kms_json.specs.declared.asks.Reading.{Reading}
use Rattle.kms_json.specs.declared.asks.Reading.TheVariants as reading
use Rattle.kms_json.specs.Given.{text_if, text_in}
use Rattle.kms_json.specs.Fields.{FieldRow, always, maybe, field, key_reference, page_of}
use Rattle.kms_json.specs.PageAsks.{page}

-- CreateAlias and UpdateAlias
abbrev pub put_alias_fields : List FieldRow
put_alias_fields =
    field (codes "AliasName") AliasName always ∷
    key_reference (codes "TargetKeyId") always ∷ []

abbrev pub delete_alias_fields : List FieldRow
delete_alias_fields = field (codes "AliasName") AliasName always ∷ []

abbrev pub list_aliases_fields : List FieldRow
list_aliases_fields = key_reference (codes "KeyId") maybe ∷ page_of 100

abbrev pub create_alias : (List ℕ → Given) → Changing
create_alias at = changing.CreateAlias (text_in (at (codes "AliasName"))) (text_in (at (codes "TargetKeyId")))

abbrev pub update_alias : (List ℕ → Given) → Changing
update_alias at = changing.UpdateAlias (text_in (at (codes "AliasName"))) (text_in (at (codes "TargetKeyId")))

abbrev pub delete_alias : (List ℕ → Given) → Changing
delete_alias at = changing.DeleteAlias (text_in (at (codes "AliasName")))

abbrev pub list_aliases : (List ℕ → Given) → Reading
list_aliases at = reading.ListAliases (text_if (at (codes "KeyId"))) (page 50 at)
