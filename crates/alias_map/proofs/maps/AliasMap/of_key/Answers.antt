use Rattle.std.proofs.Common.{sym, ap, Some, ◌∙◌}
use Rattle.std.specs.Option.{option_map}
use Rattle.persist_map.specs.Groups.{pairs_behind}
use Rattle.alias_map.specs.Aliases.{row_of_key}
use Rattle.alias_map.proofs.Reading.{row_of_first}
use Rattle.alias_map.proofs.KeptFacts.{first_of_key}
use Rattle.alias_map.proofs.maps.AliasMap.of_key.Goals as goal

pub returns-in_err-row : goal.returns-in_err-row
returns-in_err-row c =
    ap (option_map (λ row. row.now)) c.from_residual.ensures
    ∙ ap row_of_first (sym (c.in_err-row.ensures.steps.0) ∙ c.group_behind.ensures.pairs ∙ ap (λ l. pairs_behind l c.args.after) (c.self.invariant.keyed c.args.key.now))
    ∙ first_of_key c.self.inside.rows c.args.after c.args.key.now c.self.invariant.placed
    ∙ ap (λ rows. row_of_key rows c.args.key.now c.args.after) c.self.view_is

pub returns : goal.returns
returns c =
    ap Some c.value.ensures
    ∙ ap row_of_first (sym c.in_ok-row.ensures.steps ∙ c.group_behind.ensures.pairs ∙ ap (λ l. pairs_behind l c.args.after) (c.self.invariant.keyed c.args.key.now))
    ∙ first_of_key c.self.inside.rows c.args.after c.args.key.now c.self.invariant.placed
    ∙ ap (λ rows. row_of_key rows c.args.key.now c.args.after) c.self.view_is
