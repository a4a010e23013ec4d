use Rattle.account_keys.proofs.Refusing.{stops_at, then_lockout}
use Rattle.account_keys.proofs.policies.accept.Goals as goal

pub returns-in-Err : goal.returns-in-Err
returns-in-Err c = stops_at c.args.view.now c.args.key.now c.args.text.now c.args.bypass c.in-Err.stop c.in-Err.ensures.fault

pub returns-in-Ok : goal.returns-in-Ok
returns-in-Ok c = then_lockout c.args.view.now c.args.key.now c.args.text.now c.args.bypass c.in-Ok.policy c.keep_in.result c.in-Ok.ensures.ok c.keep_in.ensures
