use Rattle.std.proofs.Common.{refl, arith}
use Rattle.kms_server.specs.Work.{begins, goes_on, takes_all, gives_up}
use Rattle.kms_server.specs.States.{state_of}
use Rattle.kms_server.proofs.worker.work.Goals as goal

pub loop-worker-init : goal.loop-worker-init
loop-worker-init g c = record { run = begins; few = omega arith; is_in = c.requires.is_in }

pub returns-in_default : goal.returns-in_default
returns-in_default g c =
    let tired = c.in_default.ensures in
    gives_up c.loop-worker.invariant.run c.loop-worker-test.true (record { rose = tired.0; is_in = tired.1; keeps = tired.2; others = refl })

pub overflow_add-worker : goal.overflow_add-worker
overflow_add-worker g c = omega (arith, c.attend.ensures.taken)

pub loop-worker-preserved : goal.loop-worker-preserved
loop-worker-preserved g c =
    let heard = c.in-Some.ensures in
    record {
      run = goes_on c.loop-worker.invariant.run (record {
        heard = g.E.Ear.shows c.await_connection.new.ear;
        wire = g.E.Conn.Link.shows c.in-Some.connection;
        is_new = heard.0;
        is_out = heard.1;
        keeps = heard.2;
        served = state_of g.C.Clock.told g.E.Ear.shows c.attend.new.worker;
        attends = c.attend.ensures;
        one_more = refl;
      });
      few = omega (arith, c.attend.ensures.taken);
      is_in = c.attend.ensures.back.is_in;
    }

pub returns : goal.returns
returns g c = takes_all c.loop-worker.invariant.run (omega arith) c.loop-worker.invariant.is_in
