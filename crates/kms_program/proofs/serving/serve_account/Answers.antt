use Rattle.std.proofs.Common.{map, refl}
use Rattle.kms_server.specs.Server.{surroundings}
use Rattle.kms_words.specs.Words.{serve_values_in}
use Rattle.kms_program.specs.Program.{wanted_of, serves, serves_unsaid, finds_shut, lacks}
use Rattle.kms_program.proofs.Outcomes.{done_served, done_shut, done_nothing}
use Rattle.kms_program.proofs.serving.serve_account.Goals as goal

pub returns-in-Ok : goal.returns-in-Ok
returns-in-Ok g c = λ shelf later.
    let done = c.serve-outcome.ensures in
    let said = c.in-Ok.ensures.said in
    serves done.0 c.in-Served.served c.in-Served.kept said.0 (done_served c.args.account c.args.trust.now _ _ _ done.0 c.serve-outcome.result.0 done.1 c.in-Served.served c.in-Served.kept c.in-Served.is) said.1 said.2

pub returns-in-Served : goal.returns-in-Served
returns-in-Served g c = λ shelf later.
    let done = c.serve-outcome.ensures in
    serves_unsaid done.0 c.in-Served.served c.in-Served.kept (done_served c.args.account c.args.trust.now _ _ _ done.0 c.serve-outcome.result.0 done.1 c.in-Served.served c.in-Served.kept c.in-Served.is) c.in-Err.ensures.nothing refl

pub returns-in-Shut : goal.returns-in-Shut
returns-in-Shut g c = λ shelf later.
    let done = c.serve-outcome.ensures in
    finds_shut (done_shut c.args.account c.args.trust.now _ _ _ done.0 c.serve-outcome.result.0 done.1 c.in-Shut.is) refl refl

pub returns : goal.returns
returns g c = λ shelf later.
    let done = c.serve-outcome.ensures in
    lacks (done_nothing c.args.account c.args.trust.now _ _ _ done.0 c.serve-outcome.result.0 done.1 c.in-NoMemory.is) refl refl
