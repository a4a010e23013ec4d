use Rattle.access_explain.proofs.LawFacts.{early_where}
use Rattle.access_explain.proofs.laws.early_where_nothing_is_asked.Goals as goal

pub returns : goal.returns
returns c = early_where
