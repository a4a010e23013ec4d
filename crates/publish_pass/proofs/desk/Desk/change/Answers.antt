use Rattle.publish_pass.proofs.Between.{leaves_first, leaves_both}
use Rattle.publish_pass.proofs.desk.Desk.change.Goals as goal

pub returns-in_err-keep_house-clause-any_moment : goal.returns-in_err-keep_house-clause-any_moment
returns-in_err-keep_house-clause-any_moment g c = λ keeps.
    leaves_first g.K.Keeps.moment g.K.Keeps.left_since (g.K.Keeps.reads g.R.Realm.facts) c.args.self.now.keeper c.keep_house.new.self.keeper c.args.pass.now c.args.self.now.pairs c.args.ask.now.moment c.args.ask.now (c.keep_house.ensures.any_moment keeps)

pub returns-clause-any_moment : goal.returns-clause-any_moment
returns-clause-any_moment g c = λ keeps.
    leaves_both g.K.Keeps.moment g.K.Keeps.left_since (g.K.Keeps.reads g.R.Realm.facts) c.args.self.now.keeper c.keep_house.new.self.keeper c.decide.new.self.keeper c.args.pass.now c.keep_house.new.pass c.args.self.now.pairs c.keep_house.new.self.pairs
    c.args.ask.now.moment c.args.ask.now c.requires.met c.in_ok-keep_house.ensures.ok.0 c.in_ok-keep_house.ensures.ok.1 (c.keep_house.ensures.any_moment keeps) (c.decide.ensures.any_moment keeps)
