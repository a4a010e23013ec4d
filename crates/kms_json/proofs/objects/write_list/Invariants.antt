use Rattle.std.proofs.Common.{◌≡◌, ◌++◌, drop, map}
use Rattle.kms_json.proofs.TextLemmas.{closing_items}
use Rattle.kms_json.proofs.objects.write_list.Given as goal

abbrev pub invariant-loop-row : goal.invariant-loop-row
invariant-loop-row g l =
    l.text ++ closing_items (map (g.R.RowWriter.row_data l.writer) (drop l.row-index l.rows)) ≡ l.initial.text ++ closing_items (map (g.R.RowWriter.row_data l.writer) l.rows)
