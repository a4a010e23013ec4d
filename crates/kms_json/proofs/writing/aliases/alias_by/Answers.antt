use Rattle.std.proofs.Common.{sym}
use Rattle.kms_json.proofs.writing.aliases.alias_by.Goals as goal

pub returns : goal.returns
returns c = rw (sym c.as_str.ensures.value) c.write_object.ensures
