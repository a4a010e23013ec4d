use Rattle.std.proofs.Common.{Bor, List, ap, sym, ◌∙◌}
use Rattle.std.specs.Option.{option_map}
use Rattle.key_states.specs.declared.rows.KeyRow.{KeyRow}
use Rattle.account_rows.specs.History.{key_behind}
use Rattle.account_rows.proofs.KeyFacts.{behind_first}
use Rattle.account_rows.proofs.keys.HeldKeys.behind.Goals as goal

abbrev lent : Bor KeyRow → KeyRow
lent held = held.now

pub returns-in_err-held : goal.returns-in_err-held
returns-in_err-held c =
    ap (option_map lent) c.from_residual.ensures
    ∙ sym (ap (λ (rows : List KeyRow). key_behind rows c.args.after) (sym c.self.view_is) ∙ behind_first c.self.inside.rows c.self.invariant.keyed c.args.after _ (sym c.behind.ensures.pairs ∙ c.in_err-held.ensures.steps.0))

pub returns : goal.returns
returns c =
    sym (ap (λ (rows : List KeyRow). key_behind rows c.args.after) (sym c.self.view_is) ∙ behind_first c.self.inside.rows c.self.invariant.keyed c.args.after _ (sym c.behind.ensures.pairs ∙ c.in_ok-held.ensures.steps))
