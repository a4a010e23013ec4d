use Rattle.std.proofs.Common.{[], subst, sym}
use Rattle.std.specs.Prelude.{IsTrue}
use Rattle.access_explain.specs.Grounds.{IsFirst, rows_for}
use Rattle.access_explain.specs.Tests.{fits}
use Rattle.access_explain.proofs.grounds.Tested.ground.Goals as goal

pub returns-in-Key : goal.returns-in-Key
returns-in-Key c =
    subst (λ subject. IsFirst (λ g. IsTrue (fits c.args.self.now g)) (rows_for subject) c.key_ground.result) (sym c.in-Key.is) (c.key_ground.ensures [])

pub returns-in-Retiring : goal.returns-in-Retiring
returns-in-Retiring c =
    subst (λ subject. IsFirst (λ g. IsTrue (fits c.args.self.now g)) (rows_for subject) c.retiring_ground.result) (sym c.in-Retiring.is)
    (c.retiring_ground.ensures [] [])
