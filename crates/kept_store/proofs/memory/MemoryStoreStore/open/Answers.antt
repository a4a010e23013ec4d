use Rattle.std.proofs.Common.{sym, ◌∙◌}
use Rattle.kept_store.proofs.Opened.{opens}
use Rattle.kept_store.proofs.memory.MemoryStoreStore.open.Goals as goal

pub returns-clause-opened : goal.returns-clause-opened
returns-clause-opened c =
    let read = c.in_ok-read.ensures in
    let begun = c.in_ok-journal.ensures in
    opens c.args.facts c.in_ok-facts.facts c.in_ok-read.read read.reading.0 _ _ c.in_ok-journal.journal c.in_ok-facts.ensures.later read.reading.1 read.held (c.deref-2.ensures.value ∙ sym c.deref-3.ensures.value) begun.open begun.keeps
