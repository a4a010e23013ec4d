-- The steps that operations share. The first that refuses decides.
use Rattle.std.specs.Prelude.{◌≡◌, ℕ, List, length, codes, nat_le, Bool, if◌then◌else◌, Option, Some, None, Result, Ok, Err, ok_or, ⊤}
use Rattle.std.specs.Str.{bytes_eq}
use Rattle.draw_lines.specs.Draw.{draw_at}
use Rattle.draw_lines.specs.Iv.{iv_at}
use Rattle.enc_context.specs.declared.pairs.Pair.{Pair}
use Rattle.crypto_ops.specs.Sealed.{sealed, opened}
use Rattle.kms_names.specs.Reading.{key_ref_of}
use Rattle.kms_names.specs.Reference.{key_arn_text, alias_arn_text}
use Rattle.kms_names.specs.declared.faults.NameFault.{NameFault}
use Rattle.kms_names.specs.declared.faults.NameFault.TheVariants as fault
use Rattle.kms_names.specs.declared.references.KeyRef.{KeyRef}
use Rattle.kms_names.specs.declared.references.KeyRef.TheVariants.{Key, Alias, Elsewhere}
use Rattle.kms_names.specs.declared.actions.Action.{Action}
use Rattle.kms_json.specs.declared.refusals.Refusal.{Refusal}
use Rattle.kms_json.specs.declared.refusals.Refusal.TheVariants as refusal
use Rattle.kms_json.specs.declared.refusals.Missing.TheVariants as missing
use Rattle.kms_json.specs.declared.refusals.Unsupported.{Unsupported}
use Rattle.kms_json.specs.declared.refusals.Unsupported.TheVariants as field
use Rattle.resource_tags.specs.Proper.{are_proper}
use Rattle.resource_tags.specs.declared.tags.Tag.{Tag}
use Rattle.hmac_keys.specs.declared.kinds.KeyKind.{KeyKind}
use Rattle.hmac_keys.specs.declared.kinds.KeyKind.TheVariants.{Symmetric, Hmac256}
use Rattle.account_steps.specs.declared.facts.RealmFacts.{RealmFacts}
use Rattle.key_states.specs.declared.rows.KeyRow.{KeyRow}
use Rattle.account_steps.specs.declared.stops.Stop.{Stop}
use Rattle.account_steps.specs.declared.stops.Stop.TheVariants as stop
use Rattle.blob_format.specs.Names.{BlobName, named_in}
use Rattle.account_steps.specs.Ids.{draw_seed}
use Rattle.account_steps.specs.Places.{Places}
use Rattle.account_steps.specs.Source.{Source}
use Rattle.account_steps.specs.View.{View, key_held, aliased}
use Rattle.account_steps.specs.declared.checks.Named.{Named}

-- ---- one step after another

-- the refusal, or what comes after
abbrev pub unless : {A : Type 0} → Option Refusal → Result A Refusal → Result A Refusal
unless (Some why) next = Err why
unless None next = next

-- the first refusal, or the second
abbrev pub or_else : Option Refusal → Option Refusal → Option Refusal
or_else (Some why) next = Some why
or_else None next = next

-- what comes after what was found
abbrev pub and_then : {A B : Type 0} → Result A Refusal → (A → Result B Refusal) → Result B Refusal
and_then (Err why) next = Err why
and_then (Ok found) next = next found

-- the step is taken as it is asked for, or stops with its refusal, or without memory
abbrev pub Gives : {A : Type 0} → Result A Refusal → Result A Stop → Type 0
Gives wanted (Ok found) = wanted ≡ Ok found
Gives wanted (Err (stop.Refused why)) = wanted ≡ Err why
Gives wanted (Err stop.NoMemory) = Unit {0}

-- the same of what is seen of the code's value
abbrev pub GivesAs : {A B : Type 0} → (B → A) → Result A Refusal → Result B Stop → Type 0
GivesAs seen wanted (Ok found) = wanted ≡ Ok (seen found)
GivesAs seen wanted (Err (stop.Refused why)) = wanted ≡ Err why
GivesAs seen wanted (Err stop.NoMemory) = Unit {0}

-- a step that refuses or goes on, where it isn't without memory
abbrev pub Passes : Option Refusal → Result ⊤ Stop → Type 0
Passes wanted (Ok _) = wanted ≡ None
Passes wanted (Err (stop.Refused why)) = wanted ≡ Some why
Passes wanted (Err stop.NoMemory) = Unit {0}

-- the same without memory
abbrev pub stopping : Option Refusal → Result ⊤ Stop
stopping (Some why) = Err (stop.Refused why)
stopping None = Ok tt

-- ---- the steps

-- a key is of the kind that is wanted
abbrev pub other_kind : KeyKind → KeyKind → Option Refusal
other_kind Symmetric Symmetric = None
other_kind Symmetric Hmac256 = Some refusal.InvalidKeyUsage
other_kind Hmac256 Symmetric = Some refusal.InvalidKeyUsage
other_kind Hmac256 Hmac256 = None

-- an algorithm that is given is that of symmetric keys
abbrev pub unfit_algorithm : Option (List ℕ) → Option Refusal
unfit_algorithm None = None
unfit_algorithm (Some name) = if bytes_eq name (codes "SYMMETRIC_DEFAULT") then None else Some refusal.InvalidKeyUsage

-- a key that is to encrypt or decrypt is symmetric, and so is the algorithm that is given
abbrev pub unfit : KeyKind → Option (List ℕ) → Option Refusal
unfit kind algorithm = or_else (other_kind Symmetric kind) (unfit_algorithm algorithm)

-- a key that is to make or verify a MAC is an HMAC key, and so is the algorithm
abbrev pub unfit_mac : KeyKind → List ℕ → Option Refusal
unfit_mac kind algorithm = or_else (other_kind Hmac256 kind) (if bytes_eq algorithm (codes "HMAC_SHA_256") then None else Some refusal.InvalidKeyUsage)

-- the material of HMAC keys isn't rotated
abbrev pub unrotated : KeyKind → Option Refusal
unrotated Symmetric = None
unrotated Hmac256 = Some (refusal.UnsupportedOperation field.KeyId)

-- tags that are given to a key are proper
abbrev pub improper : List Tag → Option Refusal
improper tags = if are_proper tags then None else Some refusal.InvalidTags

abbrev pub unsupported : Bool → Unsupported → Option Refusal
unsupported given field = if given then Some (refusal.UnsupportedOperation field) else None

-- the key of an id, which no alias names
abbrev pub named_by_id : KeyRow → Named
named_by_id row = record { row = row; alias = None }

abbrev pub named_by : List ℕ → KeyRow → Named
named_by name row = record { row = row; alias = Some name }

-- the key that an alias names. One whose key is gone isn't there
abbrev pub key_of_alias : View → List ℕ → Result KeyRow Refusal
key_of_alias view name = ok_or (aliased view name) (refusal.NotFound missing.Alias)

abbrev pub named_by_alias : View → List ℕ → Result Named Refusal
named_by_alias view name = and_then (key_of_alias view name) (λ row. Ok (named_by name row))

-- the refusal of a text that refers to no key
abbrev pub no_key : Result KeyRef NameFault → Refusal
no_key (Ok (Key id)) = refusal.NotFound missing.Key
no_key (Ok (Alias name)) = refusal.NotFound missing.Alias
no_key (Ok Elsewhere) = refusal.NotFound missing.Key
no_key (Err fault.BadArn) = refusal.InvalidArn
no_key (Err fault.BadAlias) = refusal.NotFound missing.Alias
no_key (Err fault.BadId) = refusal.NotFound missing.Key
no_key (Err fault.NoMemory) = refusal.NotFound missing.Key

-- the key that a text refers to: by its id, by an alias, or by the ARN of either in this account and region. One that is gone isn't there. `by_alias`
-- says what an alias comes to
abbrev pub key_referred : {A : Type 0} → View → (KeyRow → A) → (List ℕ → Result A Refusal) → Result KeyRef NameFault → Result A Refusal
key_referred view by_id by_alias (Ok (Key id)) = and_then (ok_or (key_held view id) (no_key (Ok (Key id)))) (λ row. Ok (by_id row))
key_referred view by_id by_alias (Ok (Alias name)) = by_alias name
key_referred view by_id by_alias (Ok Elsewhere) = Err (no_key (Ok Elsewhere))
key_referred view by_id by_alias (Err why) = Err (no_key (Err why))

abbrev pub reference_of : RealmFacts → List ℕ → Result KeyRef NameFault
reference_of facts reference = key_ref_of reference facts.account facts.region

-- where an alias may stand: the key, and the alias that names it, if any
unfoldable pub key_of : View → List ℕ → Result Named Refusal
key_of view reference = key_referred view named_by_id (named_by_alias view) (reference_of view.facts reference)

-- where a key is wanted an alias is refused
unfoldable pub only_key_of : View → List ℕ → Result KeyRow Refusal
only_key_of view reference = key_referred view (λ row. row) (λ name. Err refusal.InvalidArn) (reference_of view.facts reference)

-- the key that a reference names, where one is given
abbrev pub key_if_given : View → Option (List ℕ) → Result (Option Named) Refusal
key_if_given view None = Ok None
key_if_given view (Some reference) = and_then (key_of view reference) (λ named. Ok (Some named))

-- a reference that is given names the key of the blob
abbrev pub other_key : Option Named → List ℕ → Option Refusal
other_key None key = None
other_key (Some named) key = if bytes_eq named.row.key key then None else Some refusal.IncorrectKey

-- the alias that the request names a key by
abbrev pub alias_of : Option Named → Option (List ℕ)
alias_of None = None
alias_of (Some named) = named.alias

-- the ARN of a key
abbrev pub arn_of : RealmFacts → List ℕ → List ℕ
arn_of facts key = key_arn_text facts.account facts.region key

-- the ARN of an alias
abbrev pub alias_arn_of : RealmFacts → List ℕ → List ℕ
alias_arn_of facts name = alias_arn_text facts.account facts.region name

-- the key of a blob; one that isn't there is refused as to a caller who may not use it
abbrev pub held_key : View → Action → List ℕ → Result KeyRow Refusal
held_key view action key = ok_or (key_held view key) (refusal.AccessDenied view.caller action (arn_of view.facts key))

-- the form of a blob
abbrev pub blob_name : List ℕ → Result BlobName Refusal
blob_name blob = ok_or (named_in blob) refusal.InvalidCiphertext

abbrev pub source_in : View → Action → Option (List ℕ) → List ℕ → BlobName → Result Source Refusal
source_in view action alias blob name =
    and_then (held_key view action name.key) (λ row. Ok (record { row = row; alias = alias; version = name.version; bytes = blob }))

-- the reference is looked up, then the blob is read, then the two are compared, then the blob's key is looked up
abbrev pub source_of : View → Action → Option (List ℕ) → List ℕ → Result Source Refusal
source_of view action reference blob =
    and_then (key_if_given view reference)
    (λ named. and_then (blob_name blob)
    (λ name. unless (other_key named name.key) (source_in view action (alias_of named) blob name)))

-- versions are counted from 1
abbrev pub newest_version : KeyRow → ℕ
newest_version row = length row.versions

-- the version is one of the key's, and the blob opens under the context
abbrev pub opens : RealmFacts → Source → List Pair → Result (List ℕ) Refusal
opens facts source pairs =
    if nat_le source.version (newest_version source.row) then ok_or (opened facts.root source.bytes pairs) refusal.InvalidCiphertext else Err refusal.InvalidCiphertext

-- a text sealed under the newest version of a key, with the pass's next initialization vector
unfoldable pub seals : RealmFacts → KeyRow → List Pair → List ℕ → Places → List ℕ
seals facts row pairs text places = sealed facts.root row.key (newest_version row) (iv_at facts.boot places.number places.ivs) pairs text

-- the next bytes of the pass's random stream
unfoldable pub draws : RealmFacts → ℕ → Places → List ℕ
draws facts size places = draw_at (draw_seed facts places.number) places.words size
