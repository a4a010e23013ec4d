-- The state of a key, as the code asks for it.
use Rattle.std.proofs.Common.{◌≡◌, Option, ap}
use Rattle.kms_names.specs.declared.actions.Action.{Action}
use Rattle.key_states.specs.declared.permissions.StateFault.{StateFault}
use Rattle.key_states.specs.declared.rows.KeyRow.{KeyRow}
use Rattle.key_states.specs.Permissions.{refusal_of, need_of}
use Rattle.key_states.specs.States.{state_of}
use Rattle.account_steps.specs.View.{View}
use Rattle.account_steps.specs.Parts.{refused_state, unfit_one}

pub fits_by : (view : View) (row : KeyRow) (action : Action) (found : Option StateFault) → found ≡ refusal_of (need_of action) (state_of row.stored view.moment)
    → refused_state view row found ≡ unfit_one view (record { action = action; key = row })
unfolding unfit_one
fits_by view row action found is = ap (refused_state view row) is
