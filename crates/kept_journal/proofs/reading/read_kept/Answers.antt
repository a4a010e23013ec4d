use Rattle.std.proofs.Common.{rules, ◌≡◌, ◌+◌, ℕ, length, sym, ap, ◌∙◌, subst}
use Rattle.std.specs.Prelude.{IfErr}
use Rattle.kept_log.specs.Log.{lines, recovered}
use Rattle.kept_journal.specs.declared.faults.KeptFault.TheVariants.{At, NoMemory}
use Rattle.kept_journal.specs.Lost.{IsFileFault, HasLost, of_lines, lost_line}
use Rattle.kept_journal.specs.Reading.{no_memory}
use Rattle.kept_journal.proofs.Following.{err_fault}
use Rattle.kept_journal.proofs.reading.read_kept.Goals as goal

pub returns-in_err-read-clause-fault : goal.returns-in_err-read-clause-fault
returns-in_err-read-clause-fault c =
    let same : IfErr c.from_residual.result (λ e. e ≡ c.in_err-read.field-0.0) = search rules in
    err_fault c.args.facts c.args.bytes.now c.in_err-read.field-0.0 c.from_residual.result (of_lines c.in_err-read.ensures.fault) same

pub returns-in_err-has_lost-clause-fault : goal.returns-in_err-has_lost-clause-fault
returns-in_err-has_lost-clause-fault c =
    let memory : IfErr c.from_residual-in_err-has_lost.result (λ fault. fault ≡ NoMemory) = search rules in
    err_fault c.args.facts c.args.bytes.now NoMemory c.from_residual-in_err-has_lost.result (of_lines no_memory) memory

pub returns-then-branch-clause-fault : goal.returns-then-branch-clause-fault
returns-then-branch-clause-fault c =
    let facts = c.args.facts in
    let bytes = c.args.bytes.now in
    let lost = subst (λ k. HasLost k bytes) c.key_of-key.ensures (c.in_ok-has_lost.ensures.0 c.if-branch.true) in
    subst (λ (n : ℕ). IsFileFault facts bytes (At (n + 1))) (sym c.count_lines.ensures.number) (lost_line c.in_ok-read.ensures.ok.1 lost)
