use Rattle.std.proofs.Common.{subst, Result}
use Rattle.kms_names.specs.declared.faults.NoMemory.{NoMemory}
use Rattle.published_account.specs.declared.answered.Answered.{Answered}
use Rattle.published_account.specs.Pairs.{entries_of}
use Rattle.published_account.specs.Reading.{Settles}
use Rattle.publish_pass.proofs.Lookups.{answers_read, wants_read, lacks_where}
use Rattle.publish_pass.proofs.pass.Pass.read.Goals as goal

pub returns-clause-answer : goal.returns-clause-answer
returns-clause-answer g c =
    let i = c.self.inside in
    let after = c.in-Some.found.prefix in
    let here = subst (λ (r : Result Answered NoMemory). Settles g.R.Realm.facts (entries_of after) c.args.ask.now i.draws r c.enter.new.draws) c.in_ok-answered.was c.in-Some.ensures.found in
    answers_read g.R.Realm.facts i.number i.own.items i.entrance i.prefix after i.draws c.enter.new.draws c.args.ask.now g.R.Realm.passes g.R.Realm.loaded c.in-Some.ensures.begins.0 c.self.invariant.history c.in-Some.ensures.begins.1
    c.args.self.now c.enter.new.self c.in_ok-answered.answered c.self.view_is c.in-Some.ensures.entered here

pub returns-in_err-answered-clause-lacks : goal.returns-in_err-answered-clause-lacks
returns-in_err-answered-clause-lacks g c =
    let i = c.self.inside in
    let after = c.in-Some.found.prefix in
    let here = subst (λ (r : Result Answered NoMemory). Settles g.R.Realm.facts (entries_of after) c.args.ask.now i.draws r c.enter.new.draws) c.in_err-answered.was c.in-Some.ensures.found in
    let wants = wants_read g.R.Realm.facts i.number i.own.items i.entrance i.prefix after i.draws c.enter.new.draws c.args.ask.now g.R.Realm.passes g.R.Realm.loaded c.in-Some.ensures.begins.0 c.self.invariant.history c.in-Some.ensures.begins.1
    c.args.self.now c.enter.new.self c.self.view_is c.in-Some.ensures.entered here in
    lacks_where c.from_residual.result _ _ _ c.from_residual.ensures.1 wants
