-- The operations on aliases (AWS KMS API Reference, CreateAlias, UpdateAlias, DeleteAlias): what each says of the steps.
use Rattle.std.specs.Prelude.{ℕ, List, [], ◌∷◌, ◌++◌, false, if◌then◌else◌, is_some, Option, Some, None, Result, Ok, ⊤}
use Rattle.kms_names.specs.declared.actions.Action.{Action}
use Rattle.kms_names.specs.declared.actions.Action.TheVariants as action
use Rattle.kms_json.specs.declared.refusals.Refusal.{Refusal}
use Rattle.kms_json.specs.declared.refusals.Refusal.TheVariants as refusal
use Rattle.kms_json.specs.declared.replies.Reply.TheVariants as reply
use Rattle.key_states.specs.declared.rows.KeyRow.{KeyRow}
use Rattle.account_rows.specs.declared.entries.What.{What}
use Rattle.account_rows.specs.declared.entries.What.TheVariants as what
use Rattle.account_keys.specs.declared.alias_changes.AliasChange.{AliasChange}
use Rattle.account_keys.specs.declared.alias_changes.AliasChange.TheVariants as change
use Rattle.account_keys.specs.declared.alias_changes.Moving.{Moving}
use Rattle.account_steps.specs.Steps.{unless, and_then, only_key_of, key_of_alias, alias_arn_of}
use Rattle.account_steps.specs.Authority.{Question, on_key, on_other, of_none, of_key}
use Rattle.account_steps.specs.View.{View, aliased}
use Rattle.account_steps.specs.Parts.{ChangeParts, Use}

abbrev pub action_of : AliasChange → Action
action_of (change.Create key_id) = action.CreateAlias
action_of (change.Update key_id) = action.UpdateAlias
action_of change.Delete = action.DeleteAlias

-- the key that the alias names before, and the key that it names then
abbrev pub moving_of : View → List ℕ → AliasChange → Result Moving Refusal
moving_of view name (change.Create key_id) = and_then (only_key_of view key_id) (λ row. Ok (record { old = None; new = Some row }))
moving_of view name (change.Update key_id) =
    and_then (key_of_alias view name) (λ old. and_then (only_key_of view key_id) (λ row. Ok (record { old = Some old; new = Some row })))
moving_of view name change.Delete = and_then (key_of_alias view name) (λ old. Ok (record { old = Some old; new = None }))

-- a question on a key, where there is one
abbrev pub question_on : View → Action → Option KeyRow → List Question
question_on view action None = []
question_on view action (Some row) = on_key action row (of_key view row) ∷ []

-- a key whose state counts, where there is one
abbrev pub use_of : Action → Option KeyRow → List Use
use_of action None = []
use_of action (Some row) = record { action = action; key = row } ∷ []

-- an alias whose key isn't gone is not made again
abbrev pub taken : View → List ℕ → AliasChange → Option Refusal
taken view name (change.Create key_id) = if is_some (aliased view name) then Some refusal.AlreadyExists else None
taken view name (change.Update key_id) = None
taken view name change.Delete = None

abbrev pub done_to : List ℕ → Option KeyRow → What
done_to name None = what.AliasDrop name
done_to name (Some row) = what.AliasPut name row.key

-- CreateAlias, UpdateAlias, DeleteAlias: the caller needs the operation on the alias, and on each key. Only the state of the key that the alias is to
-- name counts
abbrev pub changes_alias : View → List ℕ → AliasChange → ChangeParts Moving ⊤
changes_alias view name change = record {
  parts = record {
    found = moving_of view name change;
    questions = λ moving. on_other (action_of change) (alias_arn_of view.facts name) of_none ∷ (question_on view (action_of change) moving.old ++ question_on view (action_of change) moving.new);
    tokens = [];
    uses = λ moving. use_of (action_of change) moving.new;
    own = λ moving. unless (taken view name change) (Ok tt);
    dry_run = false;
    reply = λ moving ready. reply.Done;
  };
  does = λ moving ready. Some (done_to name moving.new);
}
