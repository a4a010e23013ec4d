use Rattle.std.proofs.Common.{rules}
use Rattle.policy_eval.specs.Matching.{ResourceMatches}
use Rattle.access_explain.proofs.statements.resource_matches.Goals as goal

pub returns : goal.returns
unfolding ResourceMatches
returns c = search rules
