use Rattle.std.proofs.Common.{◌+◌, ◌∙◌, sym, ap, subst, arith, ℕ}
use Rattle.sha2.specs.declared.Sha256.{Sha256}
use Rattle.sigv4_check.specs.Canonical.{begins_with_spaces}
use Rattle.sigv4_check.proofs.ValueFacts.{Reaches, past_space, past_other}
use Rattle.sigv4_check.proofs.canonical.add_value.Goals.{then-begins_with_spaces, else-begins_with_spaces}
use Rattle.sigv4_check.proofs.canonical.add_value.Goals as goal

pub loop-i-preserved : goal.loop-i-preserved
loop-i-preserved c =
    let value = c.args.value.now in
    let from = c.args.hasher.now in
    let i = c.loop-i.i in
    elim c.if-begins_with_spaces.branch [
      | then-begins_with_spaces w ↦
          let next = past_space from c.loop-i.hasher w.update.new.self value c.loop-i.start i c.loop-i-test.true c.loop-i.invariant.0 c.loop-i.invariant.1
          (w.if-begins_with_spaces.ensures ∙ ap begins_with_spaces c.behind.ensures) w.update.ensures in
          (omega (arith, w.start-is), subst (λ (h : Sha256). Reaches from h value c.if-begins_with_spaces.start (i + 1)) (sym w.hasher-is) (subst (λ (n : ℕ). Reaches from w.update.new.self value n (i + 1)) (sym w.start-is) next))
      | else-begins_with_spaces w ↦
          let next = past_other from c.loop-i.hasher c.loop-i.hasher value c.loop-i.start i c.loop-i-test.true c.loop-i.invariant.0 c.loop-i.invariant.1
          (w.if-begins_with_spaces.ensures ∙ ap begins_with_spaces c.behind.ensures) in
          (omega (arith, w.start-is, c.loop-i.invariant.0), subst (λ (h : Sha256). Reaches from h value c.if-begins_with_spaces.start (i + 1)) (sym w.hasher-is) (subst (λ (n : ℕ). Reaches from c.loop-i.hasher value n (i + 1)) (sym w.start-is) next))
    ]
