use Rattle.std.proofs.Common.{rules}
use Rattle.policy_eval.specs.Matching.{ActionMatches}
use Rattle.access_explain.proofs.statements.action_matches.Goals as goal

pub returns : goal.returns
unfolding ActionMatches
returns c = search rules
