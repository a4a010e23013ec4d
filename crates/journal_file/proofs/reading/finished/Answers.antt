use Rattle.std.proofs.Common.{◌≡◌, ◌+◌, ◌<◌, ◌≤◌, ℕ, Bool, true, false, length, sym, subst, ◌∙◌, arith}
use Rattle.account_steps.specs.declared.facts.RealmFacts.{RealmFacts}
use Rattle.std.proofs.lemmas.Bool.{eqb-true, eqb-false}
use Rattle.journal_file.specs.Faults.{IsEndFault}
use Rattle.journal_file.specs.declared.faults.JournalFault.TheVariants.{At}
use Rattle.journal_file.proofs.reading.finished.Goals as goal
use Rattle.journal_file.proofs.reading.finished.Goals.{then-end-number-via-then-end-number, then-end-number-via-else-end-number+then-not-are_equal}

unlike : (b : Bool) → b ≡ false → b ≡ true → ⊥
unlike true e f = cc
unlike false e f = cc

pub returns-then-not-is_empty-clause-fault : goal.returns-then-not-is_empty-clause-fault
returns-then-not-is_empty-clause-fault c =
    let some : 0 < length c.args.behind.now = omega (arith, eqb-false (length c.args.behind.now) 0 (sym c.is_empty.ensures ∙ c.if-not-is_empty.true)) in
    subst (λ (n : ℕ). IsEndFault c.args.account c.args.boot c.args.seal.now c.args.end.now.number c.args.end.now.seal c.args.behind.now (At (n + 3))) (sym c.entries-number.ensures.number)
    (IsEndFault.followed some)

pub returns-then-end-number-clause-fault : goal.returns-then-end-number-clause-fault
returns-then-end-number-clause-fault c =
    let none : length c.args.behind.now ≡ 0 = eqb-true (length c.args.behind.now) 0 (sym c.is_empty.ensures ∙ c.if-not-is_empty.false) in
    subst (λ (n : ℕ). IsEndFault c.args.account c.args.boot c.args.seal.now c.args.end.now.number c.args.end.now.seal c.args.behind.now (At (n + 2))) (sym c.entries-number.ensures.number)
    (IsEndFault.wrong none (elim c.then-end-number.branch [
      | then-end-number-via-then-end-number w ↦ λ number. absurd (w.if-end-number.true (number ∙ sym c.entries-number.ensures.number))
      | then-end-number-via-else-end-number+then-not-are_equal w ↦ λ number same. unlike w.are_equal.result w.if-not-are_equal.true (w.are_equal.ensures.1 (sym same))
    ]))

pub returns-then-facts-boot-clause-fault : goal.returns-then-facts-boot-clause-fault
returns-then-facts-boot-clause-fault c =
    let none : length c.args.behind.now ≡ 0 = eqb-true (length c.args.behind.now) 0 (sym c.is_empty.ensures ∙ c.if-not-is_empty.false) in
    IsEndFault.old none (c.if-end-number.false ∙ c.entries-number.ensures.number) (sym (c.are_equal.ensures.0 c.if-not-are_equal.false))
    (subst (λ (f : RealmFacts). f.boot ≤ c.args.boot) c.facts.ensures c.if-facts-boot.true)
