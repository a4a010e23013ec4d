use Rattle.std.proofs.Common.{sym}
use Rattle.kms_json.proofs.writing.tags.TagRowsRowWriter.write_row.Goals as goal

pub returns : goal.returns
returns c = rw (sym c.as_str.ensures.value) (rw (sym c.as_str-2.ensures.value) c.write_object.ensures)
