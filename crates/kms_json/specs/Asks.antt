-- What a request asks: its operation, the type of its body, its fields, in this order.
use Rattle.std.specs.Prelude.{ℕ, ◌≤◌, List, [], ◌∷◌, length, Bool, true, false, if◌then◌else◌, Option, Some, None, Result, Ok, Err, ◌≡◌}
use Rattle.std.specs.Str.{is_utf8}
use Rattle.std.specs.Option.{IfSome}
use Rattle.serde_json.specs.Data.{Data, object, no_members}
use Rattle.serde_json.specs.Read.{read as read_text}
use Rattle.kms_names.specs.Reading.{is_alias_text}
use Rattle.enc_context.specs.Encoding.{encoding_of}
use Rattle.kms_json.specs.declared.asks.AskBody.{AskBody}
use Rattle.kms_json.specs.declared.asks.AskBody.TheVariants as ask
use Rattle.kms_json.specs.declared.asks.Changing.{Changing}
use Rattle.kms_json.specs.declared.asks.Changing.TheVariants as changing
use Rattle.kms_json.specs.declared.asks.grants.CreateGrant.{CreateGrant as CreatedGrant}
use Rattle.kms_json.specs.declared.asks.grants.GrantConstraint.{GrantConstraint}
use Rattle.kms_json.specs.declared.asks.grants.GrantConstraint.TheVariants as constraint
use Rattle.kms_json.specs.declared.asks.pages.Page.{Page}
use Rattle.kms_json.specs.declared.asks.Reading.{Reading}
use Rattle.kms_json.specs.declared.asks.Reading.TheVariants as reading
use Rattle.kms_json.specs.declared.asks.JsonFault.{JsonFault}
use Rattle.kms_json.specs.declared.asks.JsonFault.TheVariants as fault
use Rattle.kms_json.specs.declared.given.Given.{Given}
use Rattle.kms_json.specs.declared.refusals.Refusal.{Refusal}
use Rattle.kms_json.specs.declared.refusals.Refusal.TheVariants as refusal
use Rattle.kms_json.specs.declared.operations.Operation.{Operation}
use Rattle.kms_json.specs.Fields.{values_of, given_by, first_invalid}
use Rattle.kms_json.specs.Operations.{operation_named, fields_of, built}

-- the operations that change the account
abbrev pub changes_account : AskBody → Bool
changes_account (ask.Change body) = true
changes_account (ask.Read body) = false

-- the JSON value of a body; no bytes stand for an object without members
abbrev pub body_data : List ℕ → Option Data
body_data [] = Some (object no_members)
body_data (byte ∷ bytes) = if is_utf8 (byte ∷ bytes) then read_text (byte ∷ bytes) else None

abbrev pub is_object : Data → Bool
is_object (object ms) = true
is_object _ = false

-- the operation with the fields that a body gives it
abbrev pub body_of : Operation → Data → AskBody
body_of operation body = built operation (given_by (fields_of operation) body)

-- the first field that isn't valid decides
abbrev pub asked_unless : Option Refusal → AskBody → Result AskBody Refusal
asked_unless (Some why) body = Err why
asked_unless None body = Ok body

-- the known members have their types, and the fields are valid
abbrev pub asked_of_values : Operation → Data → Option (List Given) → Result AskBody Refusal
asked_of_values operation body None = Err refusal.Serialization
asked_of_values operation body (Some values) = asked_unless (first_invalid (fields_of operation) body values) (body_of operation body)

-- the body is an object, its known members have their types, and its fields are valid
abbrev pub asked_by : Operation → Option Data → Result AskBody Refusal
asked_by operation None = Err refusal.Serialization
asked_by operation (Some body) =
    if is_object body then asked_of_values operation body (values_of (fields_of operation) body) else Err refusal.Serialization

abbrev pub asked_where : Option Operation → List ℕ → Result AskBody Refusal
asked_where None body = Err refusal.UnknownOperation
asked_where (Some operation) body = asked_by operation (body_data body)

-- what a request of this target and body asks
abbrev pub asked : List ℕ → List ℕ → Result AskBody Refusal
asked target body = asked_where (operation_named target) body

-- a part of a list has a row or more, and at most so many
abbrev pub IsPageOf : ℕ → Page → Type 0
IsPageOf most page = (1 ≤ page.limit) × (page.limit ≤ most)

-- plaintexts have 1 to 4,096 bytes, data keys and random bytes are 1 to 1,024, and parts of lists have at most 1,000, 100 or 50 rows; this is so of all that is asked
abbrev pub IsSizedReading : Reading → Type 0
IsSizedReading (reading.ListKeys page) = IsPageOf 1000 page
IsSizedReading (reading.ListKeyPolicies key_id page) = IsPageOf 1000 page
IsSizedReading (reading.ListKeyRotations key_id page) = IsPageOf 1000 page
IsSizedReading (reading.ListAliases key_id page) = IsPageOf 100 page
IsSizedReading (reading.ListGrants fields) = IsPageOf 100 fields.page
IsSizedReading (reading.ListRetirableGrants retiring page) = IsPageOf 100 page
IsSizedReading (reading.ListResourceTags key_id page) = IsPageOf 50 page
IsSizedReading (reading.Encrypt fields) = (1 ≤ length fields.plaintext) × (length fields.plaintext ≤ 4096)
IsSizedReading (reading.GenerateDataKey key recipient) = (1 ≤ key.size) × (key.size ≤ 1024)
IsSizedReading (reading.GenerateDataKeyWithoutPlaintext key) = (1 ≤ key.size) × (key.size ≤ 1024)
IsSizedReading (reading.GenerateRandom size custom_key_store recipient) = (1 ≤ size) × (size ≤ 1024)
IsSizedReading _ = Unit {0}

-- the context of a constraint has at most 4,096 encoded bytes
abbrev pub IsSizedConstraint : GrantConstraint → Type 0
IsSizedConstraint constraint.Free = Unit {0}
IsSizedConstraint (constraint.Equals pairs) = length (encoding_of pairs) ≤ 4096
IsSizedConstraint (constraint.Subset pairs) = length (encoding_of pairs) ≤ 4096

-- texts of principals and names of grants have at most 256 bytes
abbrev pub IsSizedGrant : CreatedGrant → Type 0
IsSizedGrant fields =
    (length fields.grantee ≤ 256) × IfSome fields.retiring (λ text. length text ≤ 256) × IfSome fields.name (λ text. length text ≤ 256)
    × IsSizedConstraint fields.constraint

-- descriptions have at most 8,192 bytes, tags are at most 50, a key waits 7 to 30 days for its deletion, and rotates each 90 to 2,560 days, and aliases have names of their form;
-- this is so of all that is asked
abbrev pub IsSizedChanging : Changing → Type 0
IsSizedChanging (changing.CreateKey fields) = (length fields.description ≤ 8192) × (length fields.tags ≤ 50)
IsSizedChanging (changing.UpdateKeyDescription key_id description) = length description ≤ 8192
IsSizedChanging (changing.ScheduleKeyDeletion key_id days) = (7 ≤ days) × (days ≤ 30)
IsSizedChanging (changing.EnableKeyRotation key_id period) = (90 ≤ period) × (period ≤ 2560)
IsSizedChanging (changing.CreateAlias alias key_id) = is_alias_text alias ≡ true
IsSizedChanging (changing.UpdateAlias alias key_id) = is_alias_text alias ≡ true
IsSizedChanging (changing.DeleteAlias alias) = is_alias_text alias ≡ true
IsSizedChanging (changing.CreateGrant fields) = IsSizedGrant fields
IsSizedChanging (changing.TagResource key_id tags) = length tags ≤ 50
IsSizedChanging _ = Unit {0}

abbrev pub IsSized : AskBody → Type 0
IsSized (ask.Change body) = IsSizedChanging body
IsSized (ask.Read body) = IsSizedReading body

-- the refusal that a fault stands for, if it isn't want of memory
abbrev pub refusal_of : JsonFault → Option Refusal
refusal_of fault.UnknownOperation = Some refusal.UnknownOperation
refusal_of fault.Serialization = Some refusal.Serialization
refusal_of (fault.Validation field) = Some (refusal.Validation field)
refusal_of fault.AliasName = Some refusal.InvalidAliasName
refusal_of fault.NoMemory = None

-- the answer is what is asked, or its refusal, or for want of memory neither
abbrev pub AnswersFor : Result AskBody Refusal → Result AskBody JsonFault → Type 0
AnswersFor wanted (Ok body) = wanted ≡ Ok body
AnswersFor wanted (Err fault.UnknownOperation) = wanted ≡ Err refusal.UnknownOperation
AnswersFor wanted (Err fault.Serialization) = wanted ≡ Err refusal.Serialization
AnswersFor wanted (Err (fault.Validation field)) = wanted ≡ Err (refusal.Validation field)
AnswersFor wanted (Err fault.AliasName) = wanted ≡ Err refusal.InvalidAliasName
AnswersFor wanted (Err fault.NoMemory) = Unit {0}
