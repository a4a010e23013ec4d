use Rattle.kms_server.specs.Work.{Works}
use Rattle.kms_server.specs.States.{state_of}
use Rattle.kms_server.proofs.Crews.{pairwise_each}
use Rattle.kms_server.proofs.crew.work_all.Goals as goal

pub returns : goal.returns
returns g c =
    pairwise_each (Works g.K.Keeps.keeps c.args.host.now.trust.now c.args.host.now.connections) (state_of g.C.Clock.told g.E.Ear.shows) c.args.crew.now c.work_each.new.crew c.work_each.auto.crew c.work_each.ensures
