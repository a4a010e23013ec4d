use Rattle.std.proofs.Common.{length}
use Rattle.std.specs.Prelude.{Any, ◌↔◌}
use Rattle.account_rows.specs.History.{replay}
use Rattle.access_explain.specs.Findings.{IsRetirable}
use Rattle.access_explain.proofs.GrantWalk.{own, from}
use Rattle.access_explain.proofs.grants.retires.Given as goal

abbrev pub invariant-loop-row : goal.invariant-loop-row
invariant-loop-row l = Any (IsRetirable l.caller l.grant) (own l.key (replay l.account.entries).grants) ↔ Any (IsRetirable l.caller l.grant) (from l.at (own l.key (replay l.account.entries).grants))

abbrev pub decreases-loop-row : goal.decreases-loop-row
decreases-loop-row l = length (from l.at (own l.key (replay l.account.entries).grants))
