use Rattle.std.proofs.Common.{List, ap, ◌∙◌}
use Rattle.std.specs.Prelude.{slice_get}
use Rattle.account_rows.specs.declared.entries.Entry.{Entry}
use Rattle.account_rows.proofs.EntryFacts.{entry_at}
use Rattle.account_rows.proofs.rows.Rows.entry.Goals as goal

pub returns : goal.returns
returns c = c.value_in.ensures ∙ entry_at c.self.inside.entries c.self.invariant.counted c.args.place ∙ ap (λ (history : List Entry). slice_get history c.args.place) c.self.view_is
