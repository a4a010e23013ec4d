-- What a request says to conditions of policies (AWS KMS Developer Guide, "Condition keys for AWS KMS"; IAM User Guide, "AWS
-- global condition context keys").
use Rattle.std.specs.Prelude.{ℕ, ◌==◌, Bool, true, false, if◌then◌else◌, List, [], ◌∷◌, ◌++◌, map, fold, codes, decimal, Option, Some, None, option_map}
use Rattle.kms_names.specs.Action.{is_among}
use Rattle.kms_names.specs.GrantOps.{grant_op_name, members}
use Rattle.kms_names.specs.Principal.{principal_text, account_of}
use Rattle.kms_names.specs.declared.actions.Action.{Action}
use Rattle.kms_names.specs.declared.actions.Action.TheVariants as action
use Rattle.kms_names.specs.declared.principals.Principal.{Principal}
use Rattle.kms_names.specs.declared.principals.Principal.TheVariants.{Root, User, Role}
use Rattle.enc_context.specs.declared.pairs.Pair.{Pair}
use Rattle.grant_table.specs.declared.constraints.Constraint.{Constraint}
use Rattle.grant_table.specs.declared.constraints.Constraint.TheVariants.{Free, Equals, Subset}
use Rattle.cond_ops.specs.declared.facts.Fact.{Fact}
use Rattle.cond_ops.specs.declared.facts.RequestFacts.{RequestFacts}
use Rattle.policy_doc.specs.Texts.{truth_text}
use Rattle.authority.specs.Times.{moment_text}
use Rattle.resource_tags.specs.declared.tags.Tag.{Tag}
use Rattle.authority.specs.Setting.{Setting, KindSaid, GrantSaid, Particulars, Asked}

-- a condition key with these values
abbrev pub several : List ℕ → List (List ℕ) → Fact
several key values = record { key = key; values = values }

-- a condition key with one value
abbrev pub single : List ℕ → List ℕ → Fact
single key value = several key (value ∷ [])

-- the same, where there are any, and where there is one
abbrev pub several_facts : List ℕ → List (List ℕ) → List Fact
several_facts key [] = []
several_facts key (value ∷ values) = several key (value ∷ values) ∷ []

abbrev pub text_facts : List ℕ → Option (List ℕ) → List Fact
text_facts key None = []
text_facts key (Some text) = single key text ∷ []

abbrev pub truth_facts : List ℕ → Option Bool → List Fact
truth_facts key truth = text_facts key (option_map truth_text truth)

abbrev pub number_facts : List ℕ → Option ℕ → List Fact
number_facts key number = text_facts key (option_map decimal number)

-- what stands behind the last `/` (47)
abbrev pub behind_slash : List ℕ → List ℕ
behind_slash name = fold (λ (kept : List ℕ) (c : ℕ). if c == 47 then [] else kept ++ c ∷ []) [] name

-- ---- of every request

abbrev pub user_facts : Principal → List Fact
user_facts (Root account) = []
user_facts (User account name) = single (codes "aws:username") (behind_slash name) ∷ []
user_facts (Role account name) = []

abbrev pub caller_facts : Principal → List Fact
caller_facts caller =
    (single (codes "aws:PrincipalArn") (principal_text caller) ∷ single (codes "aws:PrincipalAccount") (account_of caller) ∷ single (codes "kms:CallerAccount") (account_of caller) ∷ [])
    ++ user_facts caller

abbrev pub time_facts : ℕ → List Fact
time_facts moment = single (codes "aws:CurrentTime") (moment_text moment) ∷ single (codes "aws:EpochTime") (decimal moment) ∷ []

abbrev pub service_facts : List ℕ → List Fact
service_facts region = single (codes "aws:RequestedRegion") region ∷ single (codes "aws:SecureTransport") (codes "false") ∷ []

-- ---- of some

-- the kind of a key; keys are made here and in one region
abbrev pub kind_facts : KindSaid → List Fact
kind_facts kind =
    single (codes "kms:KeySpec") kind.spec ∷ single (codes "kms:KeyUsage") kind.usage
    ∷ single (codes "kms:KeyOrigin") (codes "AWS_KMS") ∷ single (codes "kms:MultiRegion") (codes "false") ∷ []

abbrev pub key_facts : Option KindSaid → List Fact
key_facts None = []
key_facts (Some kind) = kind_facts kind

-- a pair of the encryption context
abbrev pub pair_fact : Pair → Fact
pair_fact pair = single (codes "kms:EncryptionContext:" ++ pair.key) pair.value

abbrev pub keys_fact : List Pair → List Fact
keys_fact pairs = several_facts (codes "kms:EncryptionContextKeys") (map (λ (p : Pair). p.key) pairs)

abbrev pub context_facts : List Pair → List Fact
context_facts pairs = map pair_fact pairs ++ keys_fact pairs

-- the actions by which texts are sealed or opened
abbrev pub sealing : List Action
sealing = action.Encrypt ∷ action.Decrypt ∷ action.ReEncryptFrom ∷ action.ReEncryptTo ∷ action.GenerateDataKey ∷ action.GenerateDataKeyWithoutPlaintext ∷ []

abbrev pub algorithm_facts : Bool → List Fact
algorithm_facts false = []
algorithm_facts true = single (codes "kms:EncryptionAlgorithm") (codes "SYMMETRIC_DEFAULT") ∷ []

-- ---- of tags

-- a tag of the key, and one that the request gives to it
abbrev pub resource_tag : List ℕ × List ℕ → Fact
resource_tag tag = single (codes "aws:ResourceTag/" ++ tag.0) tag.1

abbrev pub request_tag : Tag → Fact
request_tag tag = single (codes "aws:RequestTag/" ++ tag.key) tag.value

-- the keys of the tags that the request gives to the key or takes from it
abbrev pub tag_keys : Particulars → List (List ℕ)
tag_keys particulars = map (λ (tag : Tag). tag.key) particulars.request_tags ++ particulars.untagged

abbrev pub tag_facts : Particulars → List Fact
tag_facts particulars =
    map resource_tag particulars.tags
    ++ (map request_tag particulars.request_tags
    ++ several_facts (codes "aws:TagKeys") (tag_keys particulars))

-- ---- of a grant

-- the name of the member of a constraint
abbrev pub constraint_type : Constraint → Option (List ℕ)
constraint_type Free = None
constraint_type (Equals pairs) = Some (codes "EncryptionContextEquals")
constraint_type (Subset pairs) = Some (codes "EncryptionContextSubset")

-- the grant that is asked for
abbrev pub said_facts : GrantSaid → List Fact
said_facts grant =
    (several (codes "kms:GrantOperations") (map grant_op_name (members grant.operations)) ∷ single (codes "kms:GranteePrincipal") (principal_text grant.grantee) ∷ [])
    ++ (text_facts (codes "kms:RetiringPrincipal") (option_map principal_text grant.retiring)
    ++ text_facts (codes "kms:GrantConstraintType") (constraint_type grant.constraint))

abbrev pub grant_facts : Option GrantSaid → List Fact
grant_facts None = []
grant_facts (Some grant) = said_facts grant

-- the actions on the grants of a key by which a service of AWS may act for a caller
abbrev pub on_grants : List Action
on_grants = action.CreateGrant ∷ action.ListGrants ∷ action.RevokeGrant ∷ []

-- no service of AWS acts for a caller
abbrev pub for_service_facts : Bool → List Fact
for_service_facts false = []
for_service_facts true = single (codes "kms:GrantIsForAWSResource") (codes "false") ∷ []

-- ---- all of them, in order

-- who asks, when and where
abbrev pub setting_facts : Setting → List Fact
setting_facts setting = caller_facts setting.caller ++ (time_facts setting.moment ++ service_facts setting.region)

-- which key it is about, and by which name
abbrev pub named_facts : Particulars → List Fact
named_facts particulars =
    key_facts particulars.kind
    ++ (several_facts (codes "kms:ResourceAliases") particulars.aliases
    ++ text_facts (codes "kms:RequestAlias") particulars.request_alias)

-- what is sealed or opened, and how a MAC is made
abbrev pub sealing_facts : Action → Particulars → List Fact
sealing_facts op particulars =
    context_facts particulars.context
    ++ (algorithm_facts (is_among sealing op)
    ++ (text_facts (codes "kms:MacAlgorithm") particulars.mac_algorithm
    ++ truth_facts (codes "kms:ReEncryptOnSameKey") particulars.same_key))

-- which grant is made, or whose
abbrev pub granting_facts : Action → Particulars → List Fact
granting_facts op particulars = grant_facts particulars.grant ++ for_service_facts (is_among on_grants op)

-- how the key is changed
abbrev pub changing_facts : Particulars → List Fact
changing_facts particulars =
    truth_facts (codes "kms:BypassPolicyLockoutSafetyCheck") particulars.bypass
    ++ (number_facts (codes "kms:ScheduleKeyDeletionPendingWindowInDays") particulars.window
    ++ number_facts (codes "kms:RotationPeriodInDays") particulars.period)

abbrev pub facts_of : Setting → Action → Particulars → List Fact
facts_of setting op particulars =
    setting_facts setting ++ (named_facts particulars ++ (sealing_facts op particulars ++ (granting_facts op particulars ++ (changing_facts particulars ++ tag_facts particulars))))

-- what policies are asked about a request
unfoldable pub request_of : Setting → Asked → RequestFacts
request_of setting asked = record {
  caller = setting.caller;
  action = asked.action;
  resource = asked.resource;
  facts = facts_of setting asked.action asked.particulars;
}
