use Rattle.kms_server.specs.States.{state_of}
use Rattle.kms_server.proofs.Crews.{longest_first}
use Rattle.kms_server.proofs.crew.front_of.Goals as goal

pub returns : goal.returns
returns g c =
    longest_first (state_of g.C.Clock.told g.E.Ear.shows) g.R.Realm.facts g.R.Realm.passes g.R.Realm.loaded c.seen.result c.args.crew.now c.index-crew-0.result c.requires.some c.requires.longest
    c.seen.ensures.history c.seen.ensures.number
