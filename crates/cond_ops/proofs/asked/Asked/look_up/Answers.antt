use Rattle.std.proofs.Common.{sym, ◌∙◌}
use Rattle.cond_ops.specs.Asked.{condition_of}
use Rattle.cond_ops.proofs.MatchingFacts.{none_looked_up, found_one, passed_named, passed_other, present_without, missing}
use Rattle.cond_ops.proofs.asked.Asked.look_up.Goals as goal
use Rattle.cond_ops.proofs.asked.Asked.look_up.Goals.{then-has_name+else-some_match, else-has_name}

pub loop-fact-init : goal.loop-fact-init
loop-fact-init c = none_looked_up (condition_of c.args.self.now) c.args.wanted c.args.facts.now

pub returns-then-some_match : goal.returns-then-some_match
returns-then-some_match c =
    let named = c.has_name.ensures in
    found_one (condition_of c.args.self.now) c.args.wanted c.args.facts.now c.loop-fact.fact-index c.fact-item.result c.loop-fact-test.true c.fact-item.is (sym named ∙ c.if-has_name.true)
    (rw (c.as_slice.ensures, c.if-some_match.true) at c.some_match.ensures)

pub loop-fact-preserved : goal.loop-fact-preserved
loop-fact-preserved c =
    let condition = condition_of c.args.self.now in
    let facts = c.args.facts.now in
    let index = c.loop-fact.fact-index in
    let within = c.loop-fact-test.true in
    let named = c.has_name.ensures in
    elim c.if-has_name.branch [
      | then-has_name+else-some_match w ↦
          rw w.is_present-is
          (passed_named condition c.args.wanted facts index c.fact-item.result within c.fact-item.is c.loop-fact.is_present (sym named ∙ w.if-has_name.true)
          (rw (w.as_slice.ensures, w.if-some_match.false) at w.some_match.ensures) c.loop-fact.invariant)
      | else-has_name w ↦
          rw w.is_present-is
          (passed_other condition c.args.wanted facts index c.fact-item.result within c.fact-item.is c.loop-fact.is_present (sym named ∙ w.if-has_name.false) c.loop-fact.invariant)
    ]

pub returns-then-is_present : goal.returns-then-is_present
returns-then-is_present c =
    present_without (condition_of c.args.self.now) c.args.wanted c.args.facts.now c.loop-fact.fact-index c.loop-fact.is_present c.loop-fact-test.false c.loop-fact.invariant c.if-is_present.true

pub returns-else-is_present : goal.returns-else-is_present
returns-else-is_present c =
    missing (condition_of c.args.self.now) c.args.wanted c.args.facts.now c.loop-fact.fact-index c.loop-fact.is_present c.loop-fact-test.false c.loop-fact.invariant c.if-is_present.false
