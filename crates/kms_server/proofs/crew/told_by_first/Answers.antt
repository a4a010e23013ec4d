use Rattle.kms_server.specs.States.{state_of}
use Rattle.kms_server.proofs.Crews.{told_first}
use Rattle.kms_server.proofs.crew.told_by_first.Goals as goal

pub returns : goal.returns
returns g c = told_first (state_of g.C.Clock.told g.E.Ear.shows) c.args.crew.now c.index-crew-0.result c.tell.result c.requires c.tell.ensures
