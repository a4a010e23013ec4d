use Rattle.std.proofs.Common.{◌++◌, refl, ap, sym, arith}
use Rattle.gcm_seal.proofs.GctrFacts.{counter_block-none, counter_block-more, front_output-none, gctr_more_whole, gctr_rest, gctr_done}
use Rattle.gcm_seal.proofs.counter.gctr.Goals as goal

pub loop-i-init : goal.loop-i-init
loop-i-init c = (
  counter_block-none c.args.initial,
  sym (ap (λ f. f ++ c.args.text.now) (front_output-none c.args.key.now c.args.initial c.args.text.now)),
)

pub loop-i-preserved : goal.loop-i-preserved
loop-i-preserved c = (
  counter_block-more c.args.initial c.loop-i.counter c.inc32-counter.result c.loop-i.i c.loop-i.invariant.0 c.inc32-counter.ensures,
  gctr_more_whole c.args.key.now c.args.initial c.args.text.now c.loop-i.text c.loop-i.counter c.encrypt.result _ c.loop-i.i _
      (omega arith) (omega arith) c.loop-i.invariant.0 c.loop-i.invariant.1 c.encrypt.ensures c.xor_block.ensures,
)

pub returns-then-end-text : goal.returns-then-end-text
returns-then-end-text c =
    gctr_rest c.args.key.now c.args.initial c.args.text.now c.loop-i.text c.loop-i.counter c.encrypt-then-end-text.result _ c.loop-i.i _ _
    (omega arith) refl (omega arith) c.loop-i.auto.text c.loop-i.invariant.0 c.loop-i.invariant.1 c.encrypt-then-end-text.ensures refl c.xor_into.ensures

pub returns-else-end-text : goal.returns-else-end-text
returns-else-end-text c =
    gctr_done c.args.key.now c.args.initial c.args.text.now c.loop-i.text c.loop-i.i (omega arith) c.loop-i.invariant.1
