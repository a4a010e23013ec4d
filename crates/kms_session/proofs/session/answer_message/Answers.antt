use Rattle.std.proofs.Common.{◌≡◌, List, ℕ, subst, Ok, Err}
use Rattle.std.specs.Prelude.{IfOk, OnErr}
use Rattle.publish_pass.proofs.PassLemmas.{on_err}
use Rattle.session_front.specs.Items.{whole}
use Rattle.session_front.specs.declared.refused.Early.{Early}
use Rattle.session_front.specs.Early.{ask_of, IsAskOrWants}
use Rattle.kms_session.specs.Run.{Plan, Wanting, Unkept, plan_of}
use Rattle.kms_session.specs.Replying.{Gives}
use Rattle.kms_session.proofs.ReplyLemmas.{wanting_none, plan_asks, plan_refuses}
use Rattle.kms_session.proofs.Proper.{proper_at}
use Rattle.kms_session.proofs.session.answer_message.Goals as goal

pub answer_ask-requires : goal.answer_ask-requires
answer_ask-requires g c = proper_at c.args.pass.now.facts c.args.now c.in-Ok.ask c.requires.now (c.in-Ok.ensures.proper c.args.pass.now.facts.account c.requires.trust)

pub returns-in-Ok-clause-answer : goal.returns-in-Ok-clause-answer
returns-in-Ok-clause-answer g c = λ m is.
    let found = subst (λ (region : List ℕ). ask_of c.args.host.now.trust.now region m c.args.now ≡ Ok c.in-Ok.ask) c.region_of-region.ensures (c.in-Ok.ensures.ask m is) in
    let plan = plan_asks c.args.host.now.trust.now c.args.pass.now.facts.region m c.args.now c.in-Ok.ask found in
    subst (λ (p : Plan). IfOk c.answer_ask.result (λ a. Gives c.args.pass.now p a c.answer_ask.new.pass)) plan c.answer_ask.ensures.answer

pub returns-in-Ok-clause-wants : goal.returns-in-Ok-clause-wants
returns-in-Ok-clause-wants g c = λ m is.
    let found = subst (λ (region : List ℕ). ask_of c.args.host.now.trust.now region m c.args.now ≡ Ok c.in-Ok.ask) c.region_of-region.ensures (c.in-Ok.ensures.ask m is) in
    let plan = plan_asks c.args.host.now.trust.now c.args.pass.now.facts.region m c.args.now c.in-Ok.ask found in
    subst (λ (p : Plan). OnErr c.answer_ask.result (Wanting c.args.pass.now p c.answer_ask.new.pass)) plan c.answer_ask.ensures.wants

pub returns-in-Ok-clause-unkept : goal.returns-in-Ok-clause-unkept
returns-in-Ok-clause-unkept g c = λ m is why.
    let found = subst (λ (region : List ℕ). ask_of c.args.host.now.trust.now region m c.args.now ≡ Ok c.in-Ok.ask) c.region_of-region.ensures (c.in-Ok.ensures.ask m is) in
    let plan = plan_asks c.args.host.now.trust.now c.args.pass.now.facts.region m c.args.now c.in-Ok.ask found in
    subst (λ (p : Plan). Unkept g.K.Keeps.keeps c.args.pass.now p c.answer_ask.new.pass) plan (c.answer_ask.ensures.unkept why)

pub returns-in_ok-answer_refusal-in-Err-Fault-clause-answer : goal.returns-in_ok-answer_refusal-in-Err-Fault-clause-answer
returns-in_ok-answer_refusal-in-Err-Fault-clause-answer g c = λ m is.
    let there : ask_of c.args.host.now.trust.now c.region_of-region.result.now m c.args.now ≡ Err c.in-Err-Fault.refusal
    = subst (λ (e : Early). IsAskOrWants (ask_of c.args.host.now.trust.now c.region_of-region.result.now m c.args.now) (Err e)) c.in-Err-Fault.field-0-is (c.in-Err-Fault.ensures.ask m is) in
    let why = subst (λ (region : List ℕ). ask_of c.args.host.now.trust.now region m c.args.now ≡ Err c.in-Err-Fault.refusal) c.region_of-region.ensures there in
    let plan = plan_refuses c.args.host.now.trust.now c.args.pass.now.facts.region m c.args.now c.in-Err-Fault.refusal why in
    subst (λ (p : Plan). Gives c.args.pass.now p c.in_ok-answer_refusal-in-Err-Fault.field-0 c.args.pass.now) plan c.in_ok-answer_refusal-in-Err-Fault.ensures

pub returns-in_err-answer_refusal-in-Err-Fault-clause-wants : goal.returns-in_err-answer_refusal-in-Err-Fault-clause-wants
returns-in_err-answer_refusal-in-Err-Fault-clause-wants g c = λ m is.
    on_err c.from_residual.result (wanting_none c.args.pass.now (plan_of c.args.host.now.trust.now c.args.pass.now.facts.region (whole m) c.args.now))

pub returns-in-Err-NoMemory-clause-wants : goal.returns-in-Err-NoMemory-clause-wants
returns-in-Err-NoMemory-clause-wants g c = λ m is. wanting_none c.args.pass.now (plan_of c.args.host.now.trust.now c.args.pass.now.facts.region (whole m) c.args.now)
