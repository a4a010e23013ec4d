use Rattle.std.proofs.Common.{arith}
use Rattle.kms_server.specs.Crew.{Settles}
use Rattle.kms_server.specs.States.{state_of}
use Rattle.kms_server.proofs.Crews.{pairwise_each, related_more, kept_more}
use Rattle.kms_server.proofs.crew.settle_all.Goals as goal

pub loop-worker-preserved : goal.loop-worker-preserved
loop-worker-preserved g c = record {
  below = related_more (λ old new. Settles (state_of g.C.Clock.told g.E.Ear.shows old) (state_of g.C.Clock.told g.E.Ear.shows new)) c.args.crew.now c.loop-worker.crew c.loop-worker.worker-index
      c.worker-item.result c.settle.new.worker (omega arith) c.loop-worker.invariant.below
      (λ d. c.loop-worker.invariant.above c.loop-worker.worker-index d (omega arith)) c.settle.ensures;
  above = kept_more c.args.crew.now c.loop-worker.crew c.loop-worker.worker-index c.settle.new.worker c.loop-worker.invariant.above;
}

pub returns : goal.returns
returns g c = pairwise_each Settles (state_of g.C.Clock.told g.E.Ear.shows) c.args.crew.now c.loop-worker.crew (omega arith) (λ i d h. c.loop-worker.invariant.below i d (omega arith))
