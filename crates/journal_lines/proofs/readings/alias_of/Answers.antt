use Rattle.std.proofs.Common.{◌∙◌, ap, Err}
use Rattle.journal_lines.proofs.NameFacts.{alias_found, no_alias}
use Rattle.journal_lines.proofs.readings.alias_of.Goals as goal

pub returns-in-Ok : goal.returns-in-Ok
returns-in-Ok c = alias_found c.args.name.now c.in-Ok.name c.in-Ok.ensures.ok.1 c.in-Ok.ensures.ok.0

pub returns-in-Err-BadAlias : goal.returns-in-Err-BadAlias
returns-in-Err-BadAlias c = no_alias c.args.name.now (c.read_alias.ensures.bad_alias (c.in-Err-BadAlias.is ∙ ap Err c.in-Err-BadAlias.field-0-is))
