-- Whether the caller may do what a request asks (IAM User Guide, "Policy evaluation logic"; AWS KMS Developer Guide, "Key policies" and "Grants in AWS KMS").
use Rattle.std.specs.Prelude.{◌≡◌, ◌==◌, ◌⊎◌, ℕ, find, List, [], ◌∷◌, ◌++◌, codes, Bool, true, false, ◌&&◌, ◌||◌, IsTrue, Option, Some, None, is_some, Any}
use Rattle.enc_context.specs.declared.pairs.Pair.{Pair}
use Rattle.kms_names.specs.declared.actions.Action.{Action}
use Rattle.kms_names.specs.declared.actions.Action.TheVariants as action
use Rattle.kms_names.specs.declared.operations.GrantOp.{GrantOp}
use Rattle.kms_names.specs.declared.operations.GrantOp.TheVariants as op
use Rattle.kms_names.specs.Action.{action_number}
use Rattle.kms_names.specs.GrantOps.{contains, action_of as granted_action}
use Rattle.kms_names.specs.declared.principals.Principal.{Principal}
use Rattle.kms_json.specs.declared.refusals.Refusal.{Refusal}
use Rattle.kms_json.specs.declared.refusals.Refusal.TheVariants as refusal
use Rattle.policy_doc.specs.declared.policies.Policy.{Policy}
use Rattle.key_policies.specs.KeyPolicy.{policy_in}
use Rattle.authority.specs.Setting.{Setting, KindSaid, Particulars, GrantSaid, Asked, callers_policies, is_root, names_of}
use Rattle.authority.specs.Facts.{request_of}
use Rattle.authority.specs.Allowed.{is_allowed, May}
use Rattle.hmac_keys.specs.Kind.{spec_text, usage_text}
use Rattle.hmac_keys.specs.declared.kinds.KeyKind.{KeyKind}
use Rattle.resource_tags.specs.Tags.{Tags}
use Rattle.key_states.specs.declared.rows.KeyRow.{KeyRow}
use Rattle.grant_table.specs.declared.rows.GrantRow.{GrantRow}
use Rattle.grant_table.specs.Grants.{Permits, IsChildOf, grant_permitting, parent_of, has_retiring}
use Rattle.grant_table.specs.Principals.{same_principal}
use Rattle.account_steps.specs.declared.questions.Asking.{Asking}
use Rattle.account_steps.specs.declared.questions.Asking.TheVariants as asking
use Rattle.account_steps.specs.declared.questions.Questions.{Questions}
use Rattle.account_steps.specs.declared.questions.OfGrants.{OfGrants}
use Rattle.account_steps.specs.declared.questions.OfGrants.TheVariants as of
use Rattle.account_steps.specs.declared.questions.Question.{Question as Posed}
use Rattle.account_steps.specs.Steps.{or_else, arn_of, alias_arn_of}
use Rattle.account_steps.specs.View.{View}

-- whether the caller may do this: on a key, with what the request says of itself; on a resource that is no key, which is `*` or the ARN of an alias;
-- or whether it may retire a grant
pub data Question : Type 0 where
  on_key : Action → KeyRow → Particulars → Question
  on_other : Action → List ℕ → Particulars → Question
  retiring : GrantRow → Question

abbrev pub action_of : Question → Action
action_of (on_key action row said) = action
action_of (on_other action resource said) = action
action_of (retiring grant) = action.RetireGrant

-- the ARN of the key, or of the grant's key, or the other resource
abbrev pub resource_of : View → Question → List ℕ
resource_of view (on_key action row said) = arn_of view.facts row.key
resource_of view (on_other action resource said) = resource
resource_of view (retiring grant) = arn_of view.facts grant.key

-- who asks, when and where
abbrev pub setting_of : View → Setting
setting_of view = record {
  caller = view.caller;
  moment = view.moment;
  region = view.facts.region;
  policies = callers_policies view.facts.identities view.caller;
  ceiling = view.facts.ceiling;
}

-- ---- grants

-- the operations that a grant permits by actions of their names: all but RetireGrant, of which no policy and no grant of the key is asked
abbrev pub granting : List GrantOp
granting =
    op.Encrypt ∷ op.Decrypt ∷ op.GenerateDataKey ∷ op.GenerateDataKeyWithoutPlaintext ∷ op.ReEncryptFrom ∷ op.ReEncryptTo ∷ op.CreateGrant ∷ op.DescribeKey
    ∷ op.GenerateMac ∷ op.VerifyMac ∷ []

-- the operation that a grant permits by an action, if any
abbrev pub grant_op_of : Action → Option GrantOp
grant_op_of a = find (λ o. action_number (granted_action o) == action_number a) granting

-- some grant of the key permits the caller an operation under its encryption context, or CreateGrant of such a grant
abbrev pub granted_op : View → List ℕ → Particulars → Option GrantSaid → Option GrantOp → Bool
granted_op view key said made None = false
granted_op view key said (Some grant) (Some op) = is_some (parent_of view.grants key view.caller grant.operations grant.constraint)
granted_op view key said None (Some op) = is_some (grant_permitting view.grants key view.caller op said.context)

abbrev pub granted : View → Action → List ℕ → Particulars → Bool
granted view action key said = granted_op view key said said.grant (grant_op_of action)

-- ---- questions

abbrev pub asked_of : Action → List ℕ → Particulars → Asked
asked_of action resource said = record { action = action; resource = resource; particulars = said }

-- a grant is retired by the root, by its retiring principal, and by its grantee where RetireGrant is among its operations
abbrev pub may_retire : Principal → GrantRow → Bool
may_retire caller grant = is_root caller || (has_retiring caller grant || (same_principal grant.grantee caller && contains grant.operations op.RetireGrant))

unfoldable pub may_on_key : View → Policy → Action → List ℕ → Particulars → Bool
may_on_key view policy action key said = is_allowed (setting_of view) (Some policy) (asked_of action (arn_of view.facts key) said) (granted view action key said)

unfoldable pub may_on_other : View → Action → List ℕ → Particulars → Bool
may_on_other view action resource said = is_allowed (setting_of view) None (asked_of action resource said) false

abbrev pub may : View → Question → Bool
may view (on_key action row said) = may_on_key view (policy_in row.policy) action row.key said
may view (on_other action resource said) = may_on_other view action resource said
may view (retiring grant) = may_retire view.caller grant

-- the refusal of what isn't allowed
abbrev pub denied_at : Principal → Action → List ℕ → Bool → Option Refusal
denied_at caller action resource true = None
denied_at caller action resource false = Some (refusal.AccessDenied caller action resource)

abbrev pub denied_one : View → Question → Option Refusal
denied_one view q = denied_at view.caller (action_of q) (resource_of view q) (may view q)

-- the refusal of the first that isn't allowed
abbrev pub denied : View → List Question → Option Refusal
denied view [] = None
denied view (q ∷ questions) = or_else (denied_one view q) (denied view questions)

-- ---- what requests say of themselves

-- the kind of a key, by the texts that say so
abbrev pub kind_said : KeyKind → KindSaid
kind_said kind = record { spec = spec_text kind; usage = usage_text kind }

-- a key as requests are about it: its id, its kind and its tags
pub record KeySaid : Type 0 where
  pub key : List ℕ
  pub kind : KeyKind
  pub tags : Tags

abbrev pub said_key : KeyRow → KeySaid
said_key row = record { key = row.key; kind = row.kind; tags = row.tags }

-- nothing about a key
abbrev pub of_none : Particulars
of_none = record {
  kind = None;
  tags = [];
  request_tags = [];
  untagged = [];
  context = [];
  mac_algorithm = None;
  aliases = [];
  request_alias = None;
  grant = None;
  same_key = None;
  bypass = None;
  window = None;
  period = None;
}

-- about a key that is to be made, of this kind
abbrev pub of_new_key : KindSaid → Particulars
of_new_key kind = record of_none { kind = Some kind }

-- about a key with its tags and its aliases
abbrev pub of_said : View → KeySaid → Particulars
of_said view said = record of_none { kind = Some (kind_said said.kind); tags = said.tags; aliases = names_of said.key view.aliases }

abbrev pub of_key : View → KeyRow → Particulars
of_key view row = of_said view (said_key row)

-- the same where the request may name it by an alias
abbrev pub of_named : View → KeyRow → Option (List ℕ) → Particulars
of_named view row alias = record (of_key view row) { request_alias = alias }

-- what a request under an encryption context says of itself
abbrev pub of_context : View → KeyRow → Option (List ℕ) → List Pair → Particulars
of_context view row alias context = record (of_named view row alias) { context = context }

-- and one that makes a MAC by an algorithm, or verifies one
abbrev pub of_mac : View → KeyRow → Option (List ℕ) → List ℕ → Particulars
of_mac view row alias algorithm = record (of_named view row alias) { mac_algorithm = Some algorithm }

-- ---- questions as operations lend them

-- a question in the form in which an operation lends it
abbrev pub asked_one : View → Asking → Question
asked_one view (asking.OnKey action key said) = on_key action key said
asked_one view (asking.OnAll action said) = on_other action (codes "*") said
asked_one view (asking.OnAlias action alias) = on_other action (alias_arn_of view.facts alias) of_none
asked_one view (asking.Retiring grant) = retiring grant

abbrev pub asked_if : View → Option Asking → List Question
asked_if view None = []
asked_if view (Some asking) = asked_one view asking ∷ []

-- all that an operation asks, in order
abbrev pub all_asked : View → Questions → List Question
all_asked view questions = asked_one view questions.first ∷ (asked_if view questions.second ++ asked_if view questions.third)

-- one question, and no other
abbrev pub alone : Asking → Questions
alone asking = record { first = asking; second = None; third = None }

-- ---- questions as policies and grants are asked them

-- what the grants of the key are asked, where the action is an operation that grants permit: of CreateGrant that the new grant would be a child of one
abbrev pub of_grants : Option GrantOp → Option GrantSaid → List Pair → OfGrants
of_grants None made context = of.Nothing
of_grants (Some op) (Some grant) context = of.Child grant.operations grant.constraint
of_grants (Some op) None context = of.Permit context

-- with all that the request says to conditions; who may retire a grant is asked of the grant alone
abbrev pub posed_on_key : View → Action → List ℕ → Particulars → Posed
posed_on_key view action key said = record {
  key = Some key;
  facts = request_of (setting_of view) (asked_of action (arn_of view.facts key) said);
  op = grant_op_of action;
  grants = of_grants (grant_op_of action) said.grant said.context;
}

abbrev pub posed : View → Question → Posed
posed view (on_key action row said) = posed_on_key view action row.key said
posed view (on_other action resource said) = record {
  key = None;
  facts = request_of (setting_of view) (asked_of action resource said);
  op = None;
  grants = of.Nothing;
}
posed view (retiring grant) = record {
  key = Some grant.key;
  facts = request_of (setting_of view) (asked_of action.RetireGrant (arn_of view.facts grant.key) of_none);
  op = Some op.RetireGrant;
  grants = of.Retire grant.grant;
}

-- ---- in terms of statements and grants

-- the grant permits the caller CreateGrant, and such a grant would be a child of it
abbrev pub IsParent : List ℕ → Principal → GrantSaid → GrantRow → Type 0
IsParent key caller said grant = Permits grant key caller op.CreateGrant [] × IsChildOf grant said.operations said.constraint

abbrev pub GrantedOp : View → List ℕ → Particulars → Option GrantSaid → Option GrantOp → Type 0
GrantedOp view key said made None = ⊥
GrantedOp view key said (Some grant) (Some op) = Any (IsParent key view.caller grant) view.grants
GrantedOp view key said None (Some op) = Any (λ grant. Permits grant key view.caller op said.context) view.grants

-- some grant of the key permits it
abbrev pub IsGranted : View → Action → List ℕ → Particulars → Type 0
IsGranted view action key said = GrantedOp view key said said.grant (grant_op_of action)

-- who may retire a grant
abbrev pub MayRetire : Principal → GrantRow → Type 0
MayRetire caller grant = IsTrue (is_root caller) ⊎ ((grant.retiring ≡ Some caller) ⊎ ((grant.grantee ≡ caller) × (contains grant.operations op.RetireGrant ≡ true)))

-- the account's ceiling lets the question pass and no statement denies it, and statements allow it, or a grant of the key does; who may retire a grant
-- is asked neither of statements nor of the ceiling
abbrev pub MayAsk : View → Question → Type 0
MayAsk view (on_key action row said) =
    May (setting_of view) (Some (policy_in row.policy)) (granted view action row.key said) (request_of (setting_of view) (asked_of action (arn_of view.facts row.key) said))
MayAsk view (on_other action resource said) = May (setting_of view) None false (request_of (setting_of view) (asked_of action resource said))
MayAsk view (retiring grant) = MayRetire view.caller grant
