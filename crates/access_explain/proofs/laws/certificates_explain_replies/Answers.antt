use Rattle.access_explain.proofs.LawFacts.{explain_replies}
use Rattle.access_explain.proofs.laws.certificates_explain_replies.Goals as goal

pub returns : goal.returns
returns c = explain_replies c.authority_asks_these_questions.ensures c.early_where_nothing_is_asked.ensures c.allowed_where_none_is_denied.ensures
