-- The operations on grants (AWS KMS API Reference, CreateGrant, RetireGrant, RevokeGrant): what each says of the steps.
use Rattle.std.specs.Prelude.{ℕ, List, [], ◌∷◌, Bool, if◌then◌else◌, Option, Some, None, option_and_then, ok_or, Result, Ok, ⊤}
use Rattle.std.specs.Str.{bytes_eq}
use Rattle.enc_context.specs.declared.pairs.Pair.{Pair}
use Rattle.kms_names.specs.declared.actions.Action.TheVariants as action
use Rattle.kms_json.specs.declared.asks.grants.CreateGrant.{CreateGrant}
use Rattle.kms_json.specs.declared.asks.grants.GrantConstraint.{GrantConstraint}
use Rattle.kms_json.specs.declared.asks.grants.GrantConstraint.TheVariants as given
use Rattle.kms_json.specs.declared.asks.grants.RetiredGrant.{RetiredGrant}
use Rattle.kms_json.specs.declared.asks.grants.RetiredGrant.TheVariants as retired
use Rattle.kms_json.specs.declared.refusals.Refusal.{Refusal}
use Rattle.kms_json.specs.declared.refusals.Refusal.TheVariants as refusal
use Rattle.kms_json.specs.declared.refusals.Missing.TheVariants as missing
use Rattle.kms_json.specs.declared.replies.Reply.TheVariants as reply
use Rattle.authority.specs.Setting.{GrantSaid, Particulars}
use Rattle.grant_table.specs.declared.constraints.Constraint.{Constraint}
use Rattle.grant_table.specs.declared.constraints.Constraint.TheVariants as constraint
use Rattle.grant_table.specs.declared.rows.GrantRow.{GrantRow}
use Rattle.grant_table.specs.Grants.{same_as}
use Rattle.key_states.specs.declared.rows.KeyRow.{KeyRow}
use Rattle.account_rows.specs.declared.entries.What.{What}
use Rattle.account_rows.specs.declared.entries.What.TheVariants as what
use Rattle.account_keys.specs.declared.grants.Granting.{Granting}
use Rattle.account_keys.specs.declared.grants.Revoking.{Revoking}
use Rattle.account_steps.specs.Ids.{grant_id_at}
use Rattle.account_steps.specs.Steps.{and_then, only_key_of}
use Rattle.account_steps.specs.Authority.{on_key, retiring, of_key}
use Rattle.account_steps.specs.View.{View, grant_held}
use Rattle.account_steps.specs.Given.{principal_in, principal_if_given, grant_id_in}
use Rattle.account_steps.specs.Parts.{ChangeParts, grant_of_token}

-- ---- what requests say

-- the constraint that a request gives
abbrev pub constraint_of : GrantConstraint → Constraint
constraint_of given.Free = constraint.Free
constraint_of (given.Equals pairs) = constraint.Equals pairs
constraint_of (given.Subset pairs) = constraint.Subset pairs

-- the encryption context that it says to conditions
abbrev pub pairs_of : Constraint → List Pair
pairs_of constraint.Free = []
pairs_of (constraint.Equals pairs) = pairs
pairs_of (constraint.Subset pairs) = pairs

-- ---- CreateGrant

abbrev pub granting_of : View → CreateGrant → Result Granting Refusal
granting_of view request =
    and_then (only_key_of view request.key_id)
    (λ row. and_then (principal_in request.grantee)
    (λ grantee. and_then (principal_if_given request.retiring)
    (λ retiring. Ok (record { row = row; grantee = grantee; retiring = retiring }))))

abbrev pub said_of : CreateGrant → Granting → GrantSaid
said_of request granting = record { operations = request.operations; grantee = granting.grantee; retiring = granting.retiring; constraint = constraint_of request.constraint }

abbrev pub of_grant : View → CreateGrant → Granting → Particulars
of_grant view request granting = record (of_key view granting.row) { context = pairs_of (constraint_of request.constraint); grant = Some (said_of request granting) }

-- the grant of the key that is the same, where the request names it
abbrev pub same_grant : View → CreateGrant → Granting → Option GrantRow
same_grant view request granting =
    option_and_then (λ name. same_as view.grants granting.row.key name granting.grantee granting.retiring request.operations (constraint_of request.constraint)) request.name

abbrev pub made_unless : Option GrantRow → View → CreateGrant → Granting → Option What
made_unless (Some grant) view request granting = None
made_unless None view request granting =
    Some (what.GrantAdd (grant_id_at view.facts view.place) granting.row.key granting.grantee granting.retiring request.operations (constraint_of request.constraint) request.name)

abbrev pub id_or : List ℕ → Option GrantRow → List ℕ
id_or id None = id
id_or id (Some grant) = grant.grant

-- CreateGrant: where the key has the grant of this name already, with all else the same, the reply is that grant's id
abbrev pub creates_grant : View → CreateGrant → ChangeParts Granting ⊤
creates_grant view request = record {
  parts = record {
    found = granting_of view request;
    questions = λ granting. on_key action.CreateGrant granting.row (of_grant view request granting) ∷ [];
    tokens = request.grant_tokens;
    uses = λ granting. record { action = action.CreateGrant; key = granting.row } ∷ [];
    own = λ granting. Ok tt;
    dry_run = request.dry_run;
    reply = λ granting ready. reply.Granted (id_or (grant_id_at view.facts view.place) (same_grant view request granting));
  };
  does = λ granting ready. made_unless (same_grant view request granting) view request granting;
}

-- ---- RetireGrant and RevokeGrant

-- the live grant of this id, where it is of this key
abbrev pub if_of_key : List ℕ → GrantRow → Option GrantRow
if_of_key key grant = if bytes_eq grant.key key then Some grant else None

abbrev pub grant_of : View → KeyRow → List ℕ → Result GrantRow Refusal
grant_of view row id = ok_or (option_and_then (if_of_key row.key) (grant_held view id)) (refusal.NotFound missing.Grant)

abbrev pub retired_of : View → RetiredGrant → Result GrantRow Refusal
retired_of view (retired.OfToken token) = ok_or (grant_of_token view token) refusal.InvalidGrantToken
retired_of view (retired.OfKey key_id id) = and_then (only_key_of view key_id) (λ row. and_then (grant_id_in id) (λ grant. grant_of view row grant))

-- RetireGrant
abbrev pub retires_grant : View → RetiredGrant → Bool → ChangeParts GrantRow ⊤
retires_grant view request dry_run = record {
  parts = record {
    found = retired_of view request;
    questions = λ grant. retiring grant ∷ [];
    tokens = [];
    uses = λ grant. [];
    own = λ grant. Ok tt;
    dry_run = dry_run;
    reply = λ grant ready. reply.Done;
  };
  does = λ grant ready. Some (what.GrantDrop grant.grant);
}

abbrev pub revoking_of : View → List ℕ → List ℕ → Result Revoking Refusal
revoking_of view key_id id = and_then (only_key_of view key_id) (λ row. and_then (grant_id_in id) (λ grant. Ok (record { row = row; grant = grant })))

-- RevokeGrant
abbrev pub revokes_grant : View → List ℕ → List ℕ → Bool → ChangeParts Revoking GrantRow
revokes_grant view key_id id dry_run = record {
  parts = record {
    found = revoking_of view key_id id;
    questions = λ revoking. on_key action.RevokeGrant revoking.row (of_key view revoking.row) ∷ [];
    tokens = [];
    uses = λ revoking. record { action = action.RevokeGrant; key = revoking.row } ∷ [];
    own = λ revoking. grant_of view revoking.row revoking.grant;
    dry_run = dry_run;
    reply = λ revoking grant. reply.Done;
  };
  does = λ revoking grant. Some (what.GrantDrop grant.grant);
}
