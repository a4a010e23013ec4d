use Rattle.std.proofs.Common.{sym}
use Rattle.kms_json.proofs.writing.grants.granted.Goals as goal

pub returns : goal.returns
returns c = rw (sym c.grant_text_into-id.ensures) c.write_object.ensures
