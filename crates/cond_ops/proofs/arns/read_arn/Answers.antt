use Rattle.cond_ops.proofs.ArnFacts.{no_cut, no_further_cut}
use Rattle.cond_ops.proofs.arns.read_arn.Goals as goal

pub returns-in_err-partition : goal.returns-in_err-partition
returns-in_err-partition c =
    rw c.from_residual-in_err-partition.ensures (no_further_cut 4 c.args.text.now _ _ c.in_ok-scheme.ensures (no_cut 3 _ c.in_err-partition.ensures))

pub returns-in_err-service : goal.returns-in_err-service
returns-in_err-service c =
    rw c.from_residual-in_err-service.ensures (no_further_cut 4 c.args.text.now _ _ c.in_ok-scheme.ensures (no_further_cut 3 _ _ _ c.in_ok-partition.ensures (no_cut 2 _ c.in_err-service.ensures)))

pub returns-in_err-region : goal.returns-in_err-region
returns-in_err-region c =
    rw c.from_residual-in_err-region.ensures
    (no_further_cut 4 c.args.text.now _ _ c.in_ok-scheme.ensures (no_further_cut 3 _ _ _ c.in_ok-partition.ensures (no_further_cut 2 _ _ _ c.in_ok-service.ensures (no_cut 1 _ c.in_err-region.ensures))))

pub returns-in_err-account : goal.returns-in_err-account
returns-in_err-account c =
    rw c.from_residual-in_err-account.ensures
    (no_further_cut 4 c.args.text.now _ _ c.in_ok-scheme.ensures
    (no_further_cut 3 _ _ _ c.in_ok-partition.ensures (no_further_cut 2 _ _ _ c.in_ok-service.ensures (no_further_cut 1 _ _ _ c.in_ok-region.ensures (no_cut 0 _ c.in_err-account.ensures)))))
