use Rattle.std.proofs.Common.{sym}
use Rattle.kms_json.proofs.writing.rotation.rotation.Goals as goal

pub returns-in-Some : goal.returns-in-Some
returns-in-Some c = rw (sym c.key_text_into.ensures) (rw c.in-Some.is (rw (sym c.from.ensures) c.write_object.ensures))
