use Rattle.std.proofs.Common.{sym, ap, Some, ◌∙◌}
use Rattle.std.specs.Option.{option_map}
use Rattle.alias_map.specs.Aliases.{row_after}
use Rattle.alias_map.proofs.Reading.{row_of_first}
use Rattle.alias_map.proofs.KeptFacts.{first_of_all}
use Rattle.alias_map.proofs.maps.AliasMap.of_all.Goals as goal

pub returns-in_err-row : goal.returns-in_err-row
returns-in_err-row c =
    ap (option_map (λ row. row.now)) c.from_residual.ensures
    ∙ ap row_of_first (sym (c.in_err-row.ensures.steps.0) ∙ c.behind.ensures.pairs)
    ∙ first_of_all c.self.inside.rows c.args.after c.self.invariant.placed
    ∙ ap (λ rows. row_after rows c.args.after) c.self.view_is

pub returns : goal.returns
returns c =
    ap Some c.value.ensures
    ∙ ap row_of_first (sym c.in_ok-row.ensures.steps ∙ c.behind.ensures.pairs)
    ∙ first_of_all c.self.inside.rows c.args.after c.self.invariant.placed
    ∙ ap (λ rows. row_after rows c.args.after) c.self.view_is
