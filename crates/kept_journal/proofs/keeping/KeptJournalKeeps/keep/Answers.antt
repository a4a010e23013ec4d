use Rattle.kept_journal.proofs.Histories.{tells_more, leaves_entries}
use Rattle.kept_journal.proofs.keeping.KeptJournalKeeps.keep.Goals as goal

pub returns-in-Ok-clause-kept : goal.returns-in-Ok-clause-kept
returns-in-Ok-clause-kept g c keeps facts history tells =
    tells_more facts c.args.self.now c.keep_change.new.self history c.args.entry.now c.in-Ok.ensures.kept.2 tells

pub returns-in-Ok-clause-any_moment : goal.returns-in-Ok-clause-any_moment
returns-in-Ok-clause-any_moment g c keeps opened facts history tells =
    leaves_entries facts c.args.self.now c.keep_change.new.self history c.args.entry.now (λ head told before. c.keep_change.ensures.any_moment head told before opened) tells

pub returns-in-Err-Failed-clause-any_moment : goal.returns-in-Err-Failed-clause-any_moment
returns-in-Err-Failed-clause-any_moment g c keeps opened facts history tells =
    leaves_entries facts c.args.self.now c.keep_change.new.self history c.args.entry.now (λ head told before. c.keep_change.ensures.any_moment head told before opened) tells
