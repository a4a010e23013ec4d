use Rattle.journal_laws.proofs.Judged.{each_judged_once}
use Rattle.journal_laws.proofs.laws.journals_are_judged_once.Goals as goal

pub returns : goal.returns
returns c = each_judged_once
