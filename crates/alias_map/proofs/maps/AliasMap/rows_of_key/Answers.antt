use Rattle.std.proofs.Common.{filter, ap, ◌∙◌}
use Rattle.alias_map.specs.Aliases.{names_key}
use Rattle.alias_map.specs.Kept.{rows_in}
use Rattle.alias_map.proofs.Reading.{rows_in-filter}
use Rattle.alias_map.proofs.maps.AliasMap.rows_of_key.Goals as goal

pub returns : goal.returns
returns c =
    ap rows_in (c.group.ensures.pairs ∙ c.self.invariant.keyed c.args.key.now)
    ∙ rows_in-filter (names_key c.args.key.now) c.self.inside.rows
    ∙ ap (filter (names_key c.args.key.now)) c.self.view_is
