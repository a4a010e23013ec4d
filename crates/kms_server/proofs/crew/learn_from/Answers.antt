use Rattle.std.proofs.Common.{ℕ, ◌<◌, ◌≡◌, List, get_or, subst, below_more, arith, length}
use Rattle.std.proofs.lemmas.List.{get_or_default}
use mathlib.Core.List.{IsPrefix}
use Rattle.account_steps.specs.History.{Entry}
use Rattle.published_account.proofs.Lists.{prefix_trans}
use Rattle.publish_pass.proofs.Meeting.{learns_self, learns_trans}
use Rattle.kms_server.proofs.crew.learn_from.Goals as goal

pub loop-worker-init : goal.loop-worker-init
loop-worker-init g c = record { learns = learns_self _; begins = λ k d lt. absurd (omega (arith, lt)) }

pub loop-worker-preserved : goal.loop-worker-preserved
loop-worker-preserved g c =
    let after = c.learn-in-loop-worker.new.self.history in
    let longer = c.learn-in-loop-worker.ensures.longer in
    record {
      learns = learns_trans _ _ _ c.loop-worker.invariant.learns c.learn-in-loop-worker.ensures.learns;
      begins = λ k d lt. below_more (λ (j : ℕ). IsPrefix (get_or c.args.crew.now j d).pass.history after) c.loop-worker.worker-index
          (λ j h. prefix_trans _ _ _ (c.loop-worker.invariant.begins j d h) longer.first)
          (let within : c.loop-worker.worker-index < length c.args.crew.now = omega arith in
          let here : get_or c.args.crew.now c.loop-worker.worker-index c.worker-item.result ≡ get_or c.args.crew.now c.loop-worker.worker-index d = get_or_default c.args.crew.now c.loop-worker.worker-index c.worker-item.result d within in
          subst (λ w. IsPrefix w.pass.history after) here (subst (λ w. IsPrefix w.pass.history after) c.worker-item.is (subst (λ (h : List (Entry × ℕ)). IsPrefix h after) c.tell.ensures longer.second)))
          k lt;
    }
