use Rattle.std.proofs.Common.{◌≡◌, sym, ◌∙◌, arith}
use Rattle.std.proofs.lemmas.Bool.{eqb-true, eqb-false}
use Rattle.kms_workload.proofs.ReplyLemmas.{left_more, left_all}
use Rattle.kms_workload.proofs.replies.count_served.Goals as goal
use Rattle.kms_workload.proofs.replies.count_served.Goals.{then-reply, else-reply}

pub loop-preserved : goal.loop-preserved
loop-preserved c = record {
  bound = elim c.if-reply.branch [ then-reply w ↦ omega (arith, w.served-is, c.loop.invariant.bound) | else-reply w ↦ omega (arith, w.served-is, c.loop.invariant.bound) ];
  left = λ statuses are. left_more statuses c.loop.rest.now c.reply_in-reply.result.rest.now c.loop.counter c.loop.served c.if-reply.served c.reply_in-reply.result.served
      (c.loop.invariant.left statuses are) (eqb-false _ _ (sym c.if-is_empty.ensures)) c.reply_in-reply.ensures
      (λ yes. elim c.if-reply.branch [ then-reply w ↦ w.served-is | else-reply w ↦ absurd (cc (yes, w.if-reply.false)) ])
      (λ no. elim c.if-reply.branch [ then-reply w ↦ absurd (cc (no, w.if-reply.true)) | else-reply w ↦ w.served-is ]);
}

pub returns-then-is_empty-2-clause-counted : goal.returns-then-is_empty-2-clause-counted
returns-then-is_empty-2-clause-counted c = λ statuses are. let all = left_all statuses c.loop.rest.now c.loop.counter c.loop.served (c.loop.invariant.left statuses are) (eqb-true _ _ (sym c.if-is_empty-2.ensures)) in
    let count : c.loop.counter ≡ c.args.requests = omega arith in
    (all.0 ∙ count, all.1)
