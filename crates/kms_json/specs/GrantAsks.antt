-- The fields of the operations on grants, in the order in which they are judged, and what each asks by what is given to them (AWS KMS API Reference, CreateGrant, RetireGrant, RevokeGrant, ListGrants and ListRetirableGrants).
use Rattle.std.specs.Prelude.{List, [], ◌∷◌, codes, ℕ, if◌then◌else◌}
use Rattle.kms_json.specs.declared.fields.Kind.TheVariants.{AnyText, GrantOperations, GrantConstraint, GrantName, Whole, Text, Flag}
use Rattle.kms_json.specs.declared.given.Given.{Given}
use Rattle.kms_json.specs.declared.asks.grants.RetiredGrant.{RetiredGrant}
use Rattle.kms_json.specs.declared.asks.grants.RetiredGrant.TheVariants.{OfToken, OfKey}
use Rattle.kms_json.specs.declared.asks.Changing.{Changing}
use Rattle.kms_json.specs.declared.asks.Changing.TheVariants as changing
use Rattle.kms_json.specs.declared.asks.Reading.{Reading}
use Rattle.kms_json.specs.declared.asks.Reading.TheVariants as reading
use Rattle.kms_json.specs.Given.{is_absent, text_if, text_in, texts_in, constraint_in, flag_in, operations_named}
use Rattle.kms_json.specs.Fields.{FieldRow, always, maybe, instead_of_both, field, grant_tokens, key_reference, principal, page_of}
use Rattle.kms_json.specs.PageAsks.{page}

abbrev pub create_grant_fields : List FieldRow
create_grant_fields =
    key_reference (codes "KeyId") always ∷
    principal (codes "GranteePrincipal") always ∷
    principal (codes "RetiringPrincipal") maybe ∷
    field (codes "Operations") GrantOperations always ∷
    field (codes "Constraints") GrantConstraint maybe ∷
    grant_tokens ∷
    field (codes "Name") GrantName maybe ∷
    field (codes "DryRun") Flag maybe ∷ []

-- a grant to be retired is named by its token alone, or by its key and its id
abbrev pub retire_grant_fields : List FieldRow
retire_grant_fields =
    field (codes "GrantToken") AnyText (instead_of_both (codes "KeyId") (codes "GrantId")) ∷
    key_reference (codes "KeyId") maybe ∷
    field (codes "GrantId") AnyText maybe ∷
    field (codes "DryRun") Flag maybe ∷ []

abbrev pub revoke_grant_fields : List FieldRow
revoke_grant_fields =
    key_reference (codes "KeyId") always ∷
    field (codes "GrantId") AnyText always ∷
    field (codes "DryRun") Flag maybe ∷ []

abbrev pub list_grants_fields : List FieldRow
list_grants_fields =
    key_reference (codes "KeyId") always ∷
    field (codes "Limit") (Whole 1 100) maybe ∷
    field (codes "Marker") (Text 1 1024) maybe ∷
    field (codes "GrantId") AnyText maybe ∷
    principal (codes "GranteePrincipal") maybe ∷ []

abbrev pub list_retirable_grants_fields : List FieldRow
list_retirable_grants_fields = principal (codes "RetiringPrincipal") always ∷ page_of 100

abbrev pub create_grant : (List ℕ → Given) → Changing
create_grant at = changing.CreateGrant record {
  key_id = text_in (at (codes "KeyId"));
  grantee = text_in (at (codes "GranteePrincipal"));
  retiring = text_if (at (codes "RetiringPrincipal"));
  operations = operations_named (texts_in (at (codes "Operations")));
  constraint = constraint_in (at (codes "Constraints"));
  grant_tokens = texts_in (at (codes "GrantTokens"));
  name = text_if (at (codes "Name"));
  dry_run = flag_in (at (codes "DryRun"));
}

-- a grant is that of its token, where that is given, or the one of its id
abbrev pub retired : Given → Given → Given → RetiredGrant
retired token key_id grant_id = if is_absent token then OfKey (text_in key_id) (text_in grant_id) else OfToken (text_in token)

abbrev pub retire_grant : (List ℕ → Given) → Changing
retire_grant at = changing.RetireGrant (retired (at (codes "GrantToken")) (at (codes "KeyId")) (at (codes "GrantId"))) (flag_in (at (codes "DryRun")))

abbrev pub revoke_grant : (List ℕ → Given) → Changing
revoke_grant at = changing.RevokeGrant (text_in (at (codes "KeyId"))) (text_in (at (codes "GrantId"))) (flag_in (at (codes "DryRun")))

abbrev pub list_grants : (List ℕ → Given) → Reading
list_grants at = reading.ListGrants record {
  key_id = text_in (at (codes "KeyId"));
  page = page 50 at;
  grant_id = text_if (at (codes "GrantId"));
  grantee = text_if (at (codes "GranteePrincipal"));
}

abbrev pub list_retirable_grants : (List ℕ → Given) → Reading
list_retirable_grants at = reading.ListRetirableGrants (text_in (at (codes "RetiringPrincipal"))) (page 50 at)
