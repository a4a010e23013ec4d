use Rattle.access_explain.proofs.LawFacts.{allowed_where}
use Rattle.access_explain.proofs.laws.allowed_where_none_is_denied.Goals as goal

pub returns : goal.returns
returns c = allowed_where c.grants_permit.ensures c.authority_passes_where_statements_allow.ensures c.rows_stand_in_order.ensures
