use Rattle.std.proofs.lemmas.Bool.Decides.{same_from_decides}
use Rattle.kms_names.proofs.ReadingFacts.{alias_decides}
use Rattle.kms_json.proofs.fields.is_alias.Goals as goal

pub returns : goal.returns
returns c = same_from_decides _ _ c.is_alias_name.ensures (alias_decides c.args.name.now)
