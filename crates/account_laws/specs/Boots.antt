-- What the boot number changes in an account's answers: ids, initialization vectors and random bytes that are made, and nothing
-- else. So an account that was loaded answers as the one that wrote it.
use Rattle.std.specs.Prelude.{◌≡◌, ◌⊎◌, ℕ, List, length, true, Option, Some, None, ⊤}
use Rattle.enc_context.specs.declared.pairs.Pair.{Pair}
use Rattle.kms_names.specs.declared.principals.Principal.{Principal}
use Rattle.hmac_keys.specs.declared.kinds.KeyKind.{KeyKind}
use Rattle.resource_tags.specs.declared.tags.Tag.{Tag}
use Rattle.grant_table.specs.declared.constraints.Constraint.{Constraint}
use Rattle.key_states.specs.declared.rows.KeyRow.{KeyRow}
use Rattle.kms_json.specs.declared.asks.Ask.{Ask}
use Rattle.kms_json.specs.declared.asks.AskBody.{AskBody}
use Rattle.kms_json.specs.declared.asks.AskBody.TheVariants as ask
use Rattle.kms_json.specs.declared.asks.Changing.TheVariants as changing
use Rattle.kms_json.specs.declared.replies.Reply.{Reply}
use Rattle.kms_json.specs.declared.replies.Reply.TheVariants as reply
use Rattle.kms_json.specs.declared.states.KeyState.TheVariants as state
use Rattle.account_rows.specs.declared.entries.Entry.{Entry}
use Rattle.account_rows.specs.declared.entries.What.{What}
use Rattle.account_rows.specs.declared.entries.What.TheVariants as what
use Rattle.account_steps.specs.declared.facts.RealmFacts.{RealmFacts}
use Rattle.account_steps.specs.declared.places.Places.{Places}
use Rattle.account_steps.specs.Ids.{key_id_at, grant_id_at}
use Rattle.account_steps.specs.Places.{no_places}
use Rattle.account_steps.specs.Parts.{Decided}
use Rattle.account_steps.specs.Steps.{seals, draws}
use Rattle.account_steps.specs.View.{View, view_of}
use Rattle.account_keys.specs.Keys.{description_of, said_new_key, refused_if_given}
use Rattle.account_core.specs.Decide.{decide}

-- the facts of another run of the account: all but the boot number are the same
pub record IsAnotherRun (facts later : RealmFacts) : Type 0 where
  pub account : later.account ≡ facts.account
  pub region : later.region ≡ facts.region
  pub root : later.root ≡ facts.root
  pub identities : later.identities ≡ facts.identities
  pub ceiling : later.ceiling ≡ facts.ceiling

-- the replies are the same, or differ in what is made for the entry of a place, or at these places of a pass: the id of a key or of
-- a grant, the initialization vector of a sealed text, and random bytes
pub data IsSameReply (facts later : RealmFacts) (place : ℕ) (places : Places) : Reply → Reply → Type 0 where
  same_reply : (told : Reply) → IsSameReply facts later place places told told
  key_told : (kind : KeyKind) (made : ℕ) (description : List ℕ)
      → IsSameReply facts later place places (reply.Metadata (description_of facts (key_id_at facts place) kind made description state.Enabled))
      (reply.Metadata (description_of later (key_id_at later place) kind made description state.Enabled))
  grant_told : IsSameReply facts later place places (reply.Granted (grant_id_at facts place)) (reply.Granted (grant_id_at later place))
  text_sealed : (row : KeyRow) (context : List Pair) (text arn : List ℕ)
      → IsSameReply facts later place places (reply.Encrypted (seals facts row context text places) arn) (reply.Encrypted (seals later row context text places) arn)
  text_sealed_again : (row : KeyRow) (context : List Pair) (text to from : List ℕ)
      → IsSameReply facts later place places (reply.ReEncrypted (seals facts row context text places) to from) (reply.ReEncrypted (seals later row context text places) to from)
  data_key_told : (row : KeyRow) (context : List Pair) (size : ℕ) (arn : List ℕ)
      → IsSameReply facts later place places (reply.DataKey (seals facts row context (draws facts size places) places) (draws facts size places) arn)
      (reply.DataKey (seals later row context (draws later size places) places) (draws later size places) arn)
  data_key_sealed : (row : KeyRow) (context : List Pair) (size : ℕ) (arn : List ℕ)
      → IsSameReply facts later place places (reply.SealedDataKey (seals facts row context (draws facts size places) places) arn)
      (reply.SealedDataKey (seals later row context (draws later size places) places) arn)
  bytes_drawn : (size : ℕ) → IsSameReply facts later place places (reply.Random (draws facts size places)) (reply.Random (draws later size places))

-- what is done is the same, or differs in the id that is made for the entry
pub data IsSameDoing (facts later : RealmFacts) (place : ℕ) : Option What → Option What → Type 0 where
  same_doing : (did : Option What) → IsSameDoing facts later place did did
  makes_key : (kind : KeyKind) (description policy : List ℕ) (tags : List Tag)
      → IsSameDoing facts later place (Some (what.CreateKey (key_id_at facts place) kind description policy tags)) (Some (what.CreateKey (key_id_at later place) kind description policy tags))
  makes_grant : (key : List ℕ) (grantee : Principal) (retiring : Option Principal) (operations : ℕ) (constraint : Constraint) (name : Option (List ℕ))
      → IsSameDoing facts later place (Some (what.GrantAdd (grant_id_at facts place) key grantee retiring operations constraint name))
      (Some (what.GrantAdd (grant_id_at later place) key grantee retiring operations constraint name))

-- so are the entries, at one time
pub data IsSameEntry (facts later : RealmFacts) (place : ℕ) : Option Entry → Option Entry → Type 0 where
  neither : IsSameEntry facts later place None None
  both : {did done : What} (time : ℕ) → IsSameDoing facts later place (Some did) (Some done)
      → IsSameEntry facts later place (Some (record { time = time; what = did })) (Some (record { time = time; what = done }))

-- the decisions are the same but for what is made
pub record IsSameDecision (facts later : RealmFacts) (place : ℕ) (places : Places) (one other : Decided) : Type 0 where
  pub reply : IsSameReply facts later place places one.reply other.reply
  pub entry : IsSameEntry facts later place one.entry other.entry
  pub left : other.places ≡ one.places

-- a policy that comes with a new key passes the lockout check alike for the two ids that the key would have. Only a policy that speaks of the
-- key's own id, which nobody knows before, tells them apart
abbrev pub PassesAlike : View → View → AskBody → Type 0
PassesAlike one other (ask.Change (changing.CreateKey request)) =
    (kind : KeyKind) → refused_if_given one (said_new_key one kind request.tags) request.policy request.bypass_lockout_check
    ≡ refused_if_given other (said_new_key other kind request.tags) request.policy request.bypass_lockout_check
PassesAlike one other body = ⊤

-- whatever is asked, at every history and at the same places of a pass, another run of the account decides the same but for what is made
abbrev pub RunsDecideTheSame : Type 0
RunsDecideTheSame =
    (facts later : RealmFacts) (history : List Entry) (x : Ask) (places : Places) → IsAnotherRun facts later
    → PassesAlike (view_of facts history x no_places) (view_of later history x no_places) x.body
    → IsSameDecision facts later (length history) places (decide facts history x places) (decide later history x places)

-- a policy is checked where it comes with a new key, and the check isn't passed over
abbrev pub IsUnchecked : AskBody → Type 0
IsUnchecked (ask.Change (changing.CreateKey request)) = (request.policy ≡ None) ⊎ (request.bypass_lockout_check ≡ true)
IsUnchecked body = ⊤

-- where nothing is checked, it comes to the same
abbrev pub UncheckedPassAlike : Type 0
UncheckedPassAlike = (one other : View) (body : AskBody) → IsUnchecked body → PassesAlike one other body
