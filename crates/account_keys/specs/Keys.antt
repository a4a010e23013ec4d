-- The operations on keys (AWS KMS API Reference, CreateKey, DescribeKey): what each says of the steps.
use Rattle.std.specs.Prelude.{ℕ, List, [], ◌∷◌, codes, Bool, false, if◌then◌else◌, Option, Some, None, Result, Ok, Err, ⊤}
use Rattle.std.specs.Str.{bytes_eq}
use Rattle.kms_names.specs.declared.actions.Action.TheVariants as action
use Rattle.hmac_keys.specs.Asked.{kind_of, spec_meant, usage_meant}
use Rattle.hmac_keys.specs.declared.kinds.KeyKind.{KeyKind}
use Rattle.hmac_keys.specs.declared.kinds.KindField.{KindField}
use Rattle.hmac_keys.specs.declared.kinds.KindField.TheVariants as kind_field
use Rattle.hmac_keys.specs.declared.kinds.KindRead.{KindRead}
use Rattle.hmac_keys.specs.declared.kinds.KindRead.TheVariants.{Kind, Unsupported}
use Rattle.resource_tags.specs.Tags.{with_tags}
use Rattle.tag_order.specs.Order.{in_order}
use Rattle.resource_tags.specs.declared.tags.Tag.{Tag}
use Rattle.authority.specs.Setting.{Particulars}
use Rattle.kms_json.specs.declared.asks.keys.CreateKey.{CreateKey}
use Rattle.kms_json.specs.declared.refusals.Refusal.{Refusal}
use Rattle.kms_json.specs.declared.refusals.Refusal.TheVariants as refusal
use Rattle.kms_json.specs.declared.refusals.Unsupported.{Unsupported as UnsupportedField}
use Rattle.kms_json.specs.declared.refusals.Unsupported.TheVariants as field
use Rattle.kms_json.specs.declared.replies.KeyMetadata.{KeyMetadata}
use Rattle.kms_json.specs.declared.states.KeyState.{KeyState}
use Rattle.kms_json.specs.declared.states.KeyState.TheVariants as state
use Rattle.kms_json.specs.declared.replies.Reply.TheVariants as reply
use Rattle.key_policies.specs.KeyPolicy.{default_text}
use Rattle.account_steps.specs.declared.facts.RealmFacts.{RealmFacts}
use Rattle.account_rows.specs.declared.entries.What.TheVariants as what
use Rattle.account_steps.specs.Ids.{key_id_at}
use Rattle.account_steps.specs.Places.{nothing_used}
use Rattle.account_steps.specs.Steps.{unless, and_then, or_else, improper, unsupported, key_of}
use Rattle.account_steps.specs.Authority.{Question, KeySaid, on_key, on_other, of_new_key, of_named}
use Rattle.account_steps.specs.View.{View}
use Rattle.account_steps.specs.declared.checks.Named.{Named}
use Rattle.account_steps.specs.Parts.{ReadParts, ChangeParts, told_state}
use Rattle.account_keys.specs.Policies.{policy_refused}

-- a key as replies describe it
abbrev pub description_of : RealmFacts → List ℕ → KeyKind → ℕ → List ℕ → KeyState → KeyMetadata
description_of facts key kind made description state = record {
  account = facts.account;
  region = facts.region;
  key = key;
  kind = kind;
  created = made;
  description = description;
  state = state;
}

-- a text that is given is this one
abbrev pub unsupported_unless : List ℕ → Option (List ℕ) → UnsupportedField → Option Refusal
unsupported_unless wanted None name = None
unsupported_unless wanted (Some given) name = if bytes_eq given wanted then None else Some (refusal.UnsupportedOperation name)

-- which kind of key is asked for
abbrev pub kind_asked : CreateKey → KindRead
kind_asked request = kind_of request.key_usage request.customer_master_key_spec request.key_spec

abbrev pub field_of : KindField → UnsupportedField
field_of kind_field.KeyUsage = field.KeyUsage
field_of kind_field.CustomerMasterKeySpec = field.CustomerMasterKeySpec
field_of kind_field.KeySpec = field.KeySpec

abbrev pub served_kind : KindRead → Result KeyKind Refusal
served_kind (Kind kind) = Ok kind
served_kind (Unsupported why) = Err (refusal.UnsupportedOperation (field_of why))

-- what isn't served of any kind: only keys that are made here and in one region, with proper tags
abbrev pub unserved_key : CreateKey → Option Refusal
unserved_key request =
    or_else (unsupported_unless (codes "AWS_KMS") request.origin field.Origin)
    (or_else (unsupported request.custom_key_store_id field.CustomKeyStoreId)
    (or_else (improper request.tags)
    (or_else (unsupported request.multi_region field.MultiRegion)
    (unsupported request.xks_key_id field.XksKeyId))))

-- what the request says of the key that it makes: the kind that it asks for, before that is judged, and the tags
abbrev pub of_creation : CreateKey → Particulars
of_creation request =
    record (of_new_key (record { spec = spec_meant request.customer_master_key_spec request.key_spec; usage = usage_meant request.key_usage })) {
      request_tags = request.tags;
      bypass = Some request.bypass_lockout_check;
    }

-- whoever gives tags to a key may do that too
abbrev pub questions_of_tags : List Tag → Particulars → List Question
questions_of_tags [] said = []
questions_of_tags (tag ∷ tags) said = on_other action.TagResource (codes "*") said ∷ []

-- the key that is to be made
abbrev pub said_new_key : View → KeyKind → List Tag → KeySaid
said_new_key view kind tags = record { key = key_id_at view.facts view.place; kind = kind; tags = with_tags [] tags }

-- the policy of the key: what is given, or the default policy
abbrev pub policy_or_default : List ℕ → Option (List ℕ) → List ℕ
policy_or_default account None = default_text account
policy_or_default account (Some text) = text

-- a policy that is given is one, and doesn't lock the caller out
abbrev pub refused_if_given : View → KeySaid → Option (List ℕ) → Bool → Option Refusal
refused_if_given view key None bypass = None
refused_if_given view key (Some text) bypass = policy_refused view key text bypass

-- CreateKey: a key whose id is that of the next place
abbrev pub creates_key : View → CreateKey → ChangeParts ⊤ KeyKind
creates_key view request = record {
  parts = record {
    found = Ok tt;
    questions = λ found. on_other action.CreateKey (codes "*") (of_creation request) ∷ questions_of_tags request.tags (of_creation request);
    tokens = [];
    uses = λ found. [];
    own = λ found.
        and_then (served_kind (kind_asked request))
        (λ kind. unless (unserved_key request)
        (unless (refused_if_given view (said_new_key view kind request.tags) request.policy request.bypass_lockout_check) (Ok kind)));
    dry_run = false;
    reply = λ found kind. reply.Metadata (description_of view.facts (key_id_at view.facts view.place) kind view.moment request.description state.Enabled);
  };
  does = λ found kind.
      Some (what.CreateKey (key_id_at view.facts view.place) kind request.description (policy_or_default view.facts.account request.policy) (in_order request.tags));
}

-- DescribeKey
abbrev pub describes_key : View → List ℕ → List (List ℕ) → ReadParts Named ⊤
describes_key view reference tokens = record {
  parts = record {
    found = key_of view reference;
    questions = λ named. on_key action.DescribeKey named.row (of_named view named.row named.alias) ∷ [];
    tokens = tokens;
    uses = λ named. record { action = action.DescribeKey; key = named.row } ∷ [];
    own = λ named. Ok tt;
    dry_run = false;
    reply = λ named ready. reply.Metadata (description_of view.facts named.row.key named.row.kind named.row.made named.row.description (told_state named.row.stored));
  };
  takes = nothing_used;
}
