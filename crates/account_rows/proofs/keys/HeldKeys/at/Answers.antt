use Rattle.std.proofs.Common.{List, ap, ◌∙◌}
use Rattle.key_states.specs.declared.rows.KeyRow.{KeyRow}
use Rattle.account_rows.specs.Keys.{row_at}
use Rattle.account_rows.proofs.KeyFacts.{row_at_place}
use Rattle.account_rows.proofs.keys.HeldKeys.at.Goals as goal

pub returns : goal.returns
returns c = c.value_in.ensures ∙ row_at_place c.self.inside.rows c.self.invariant.keyed c.args.place ∙ ap (λ (rows : List KeyRow). row_at rows c.args.place) c.self.view_is
