use Rattle.std.specs.Prelude.{IfErr}
use Rattle.kept_journal.specs.declared.faults.KeptFault.TheVariants.{NoMemory}
use Rattle.std.proofs.Common.{rules, ◌≡◌, ◌<◌, ◌++◌, ◌+◌, ℕ, List, length, sym, ◌∙◌, ap, ap₂, arith, length-take}
use Rattle.std.proofs.lemmas.Bool.{eqb-true, eqb-false}
use Rattle.journal_lines.specs.Cuts.{place_of}
use Rattle.journal_lines.proofs.CutFacts.{cut_whole}
use Rattle.kept_journal.specs.Reading.{IsOddLine, IsOneMore}
use Rattle.kept_journal.proofs.Readings.{at_first, at_next, read_whole, odd_line, one_more_of, when_some, when_none, err_memory}
use Rattle.kept_journal.proofs.reading.Read.with_lines.Goals as goal

pub loop-rest-init : goal.loop-rest-init
loop-rest-init c = at_first c.args.self c.args.text.now c.requires.none

pub loop-rest-preserved : goal.loop-rest-preserved
loop-rest-preserved c =
    let facts = c.args.self.account.facts in
    let read = c.loop-rest.read in
    let rest = c.loop-rest.rest.now in
    let line = c.cut_line.result.0.now in
    let behind = c.cut_line.result.1.now in
    let i = c.loop-rest.invariant in
    let some : 0 < length rest = omega (arith, eqb-false (length rest) 0 (sym c.is_empty.ensures ∙ c.loop-rest-test.true)) in
    let cut : line ++ behind ≡ rest = ap₂ (λ (a b : List ℕ). a ++ b) c.cut_line.ensures.line c.cut_line.ensures.rest ∙ cut_whole rest in
    let full : 0 < length line = omega (arith, ap length c.cut_line.ensures.line, length-take (place_of 10 rest + 1) rest, some) in
    let more = when_some (IsOddLine facts i.told line) (IsOneMore facts i.told line read) c.in_ok-longer.field-0 c.in-Some.longer c.in-Some.is
    (one_more_of facts i.told read c.args.key.now line c.in_ok-longer.field-0 i.so_far c.requires.key c.in_ok-longer.ensures.with) in
    at_next facts c.args.text.now c.args.self read c.in-Some.longer rest line behind c.loop-rest.place i full cut more

pub returns-clause-ok : goal.returns-clause-ok
returns-clause-ok c =
    let facts = c.args.self.account.facts in
    let rest = c.loop-rest.rest.now in
    let i = c.loop-rest.invariant in
    let none : length rest ≡ 0 = eqb-true (length rest) 0 (sym c.is_empty.ensures ∙ c.loop-rest-test.false) in
    ((i.told, read_whole facts c.args.text.now c.args.self c.loop-rest.read rest c.loop-rest.place i none), i.new)

pub returns-in_default-clause-fault : goal.returns-in_default-clause-fault
returns-in_default-clause-fault c =
    let facts = c.args.self.account.facts in
    let read = c.loop-rest.read in
    let rest = c.loop-rest.rest.now in
    let line = c.cut_line.result.0.now in
    let i = c.loop-rest.invariant in
    let some : 0 < length rest = omega (arith, eqb-false (length rest) 0 (sym c.is_empty.ensures ∙ c.loop-rest-test.true)) in
    let odd = when_none (IsOddLine facts i.told line) (IsOneMore facts i.told line read) c.in_ok-longer.field-0 c.in_default.is
    (one_more_of facts i.told read c.args.key.now line c.in_ok-longer.field-0 i.so_far c.requires.key c.in_ok-longer.ensures.with) in
    odd_line facts c.args.text.now c.args.self read rest line c.loop-rest.place i some c.cut_line.ensures.line odd

pub returns-in_err-longer-clause-fault : goal.returns-in_err-longer-clause-fault
returns-in_err-longer-clause-fault c =
    let memory : IfErr c.from_residual.result (λ fault. fault ≡ NoMemory) = search rules in
    err_memory c.args.self.account.facts _ c.from_residual.result memory
