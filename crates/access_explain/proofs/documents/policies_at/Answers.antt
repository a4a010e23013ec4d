use Rattle.std.proofs.Common.{rules}
use Rattle.authority.specs.Setting.{policies_of}
use Rattle.access_explain.proofs.documents.policies_at.Goals as goal

pub returns-in-Some : goal.returns-in-Some
unfolding policies_of
returns-in-Some c = search rules

pub returns : goal.returns
unfolding policies_of
returns c = search rules
