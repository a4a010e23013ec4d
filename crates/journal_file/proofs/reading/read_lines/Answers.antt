use Rattle.std.proofs.Common.{◌≡◌, ◌+◌, ◌<◌, ◌++◌, ℕ, List, codes, length, inr, refl, sym, ap, subst, ◌∙◌, arith}
use Rattle.std.specs.Option.{option_map}
use Rattle.std.proofs.lemmas.Bool.{eqb-true, eqb-false}
use Rattle.account_steps.specs.declared.facts.RealmFacts.{RealmFacts}
use Rattle.mac_sha.specs.Running.{IsMac}
use Rattle.account_core.specs.Account.{Account}
use Rattle.account_core.specs.Fitting.{Fits}
use Rattle.journal_lines.specs.Cuts.{first_line}
use Rattle.journal_lines.specs.Frames.{end_in}
use Rattle.journal_lines.specs.FrameLines.{IsEnd}
use Rattle.journal_lines.proofs.EndFacts.{end_read, no_end}
use Rattle.journal_lines.proofs.LineReadingFacts.{line_told}
use Rattle.journal_file.specs.Faults.{IsFaultBehind, IsEndFault, IsReadOf, IsWithLine}
use Rattle.journal_file.specs.Journal.{before_end}
use Rattle.journal_file.specs.declared.faults.JournalFault.TheVariants.{At}
use Rattle.journal_file.proofs.Awaited.{IsAhead, begin, step_on, not_early, not_strange, comes_to}
use Rattle.journal_file.proofs.Endings.{ok_is, err_is, when_none, when_some, read_of, end_fault}
use Rattle.journal_file.proofs.ReadingSoFar.{IsSoFar, begun, early, strange, longer}
use Rattle.journal_file.proofs.reading.read_lines.Goals as goal

pub loop-rest-init : goal.loop-rest-init
loop-rest-init c = (
  begun c.args.account.facts c.args.boot c.args.text.now c.args.account c.args.mac refl c.requires.none c.requires.mac,
  λ history expected. begin c.args.account.facts c.args.boot c.args.text.now history expected c.args.account c.requires.none,
)

pub returns-clause-fault : goal.returns-clause-fault
returns-clause-fault c =
    let facts = c.args.account.facts in
    let none : length c.loop-rest.rest.now ≡ 0 = eqb-true (length c.loop-rest.rest.now) 0 (sym c.is_empty.ensures ∙ c.loop-rest-test.false) in
    inr (subst (λ (n : ℕ). IsFaultBehind facts c.args.boot c.args.text.now (At (n + 2))) (sym c.entries-2.ensures.number)
    (early facts c.args.boot c.args.text.now c.loop-rest.account c.loop-rest.mac c.loop-rest.rest.now c.loop-rest.invariant.0 none))

pub loop-rest-preserved : goal.loop-rest-preserved
loop-rest-preserved c =
    let facts = c.args.account.facts in
    let account = c.loop-rest.account in
    let rest = c.loop-rest.rest.now in
    let after = c.in-Some-2.longer in
    let some : 0 < length rest = omega (arith, eqb-false (length rest) 0 (sym c.is_empty.ensures ∙ c.loop-rest-test.true)) in
    let with = when_some _ _ c.in_ok-longer.field-0 after c.in_ok-longer.ensures.more c.in-Some-2.is in
    let with_first = subst (λ (l : List ℕ). IsWithLine account l after) c.cut_line.ensures.line with in
    let not_read = sym c.end_in.ensures ∙ ap (λ o. option_map (λ e. (e.number, e.seal)) o) c.in_default.is in
    let ends_not = no_end (first_line rest) (ap end_in (sym c.cut_line.ensures.line) ∙ not_read) in (
      subst (λ (t : List ℕ). IsSoFar facts c.args.boot c.args.text.now after c.add.new.self t) (sym c.cut_line.ensures.rest)
          (longer facts c.args.boot c.args.text.now account c.loop-rest.mac rest after c.add.new.self c.loop-rest.invariant.0 some with_first
          (λ key message holds. subst (λ (l : List ℕ). IsMac c.add.new.self key (message ++ l)) c.cut_line.ensures.line (c.add.ensures key message holds))),
      λ history expected. subst (λ (t : List ℕ). IsAhead facts c.args.boot history after.entries t) (sym c.cut_line.ensures.rest)
          (step_on facts c.args.boot c.args.text.now history expected account.entries rest (c.loop-rest.invariant.1 history expected) ends_not account after refl with_first),
    )

pub returns-clause-taken : goal.returns-clause-taken
returns-clause-taken c = λ history expected.
    let none : length c.loop-rest.rest.now ≡ 0 = eqb-true (length c.loop-rest.rest.now) 0 (sym c.is_empty.ensures ∙ c.loop-rest-test.false) in
    absurd (not_early c.args.account.facts c.args.boot c.args.text.now history expected c.loop-rest.account.entries c.loop-rest.rest.now (c.loop-rest.invariant.1 history expected) none)

pub returns-in_default-2-clause-taken : goal.returns-in_default-2-clause-taken
returns-in_default-2-clause-taken c = λ history expected.
    let facts = c.args.account.facts in
    let account = c.loop-rest.account in
    let rest = c.loop-rest.rest.now in
    let not_read = sym c.end_in.ensures ∙ ap (λ o. option_map (λ e. (e.number, e.seal)) o) c.in_default.is in
    let ends_not = no_end (first_line rest) (ap end_in (sym c.cut_line.ensures.line) ∙ not_read) in
    let none_fits = when_none _ _ c.in_ok-longer.field-0 c.in_ok-longer.ensures.more c.in_default-2.is in
    absurd (not_strange facts c.args.boot c.args.text.now history expected account.entries rest (c.loop-rest.invariant.1 history expected) ends_not
    (λ entry form fits is. none_fits entry (line_told entry form) (subst (λ (f : RealmFacts). Fits f account.entries entry) (sym c.loop-rest.invariant.0.same) fits) (c.cut_line.ensures.line ∙ is)))

pub returns-in-Some-clause-taken : goal.returns-in-Some-clause-taken
returns-in-Some-clause-taken c = λ history expected.
    let facts = c.args.account.facts in
    let account = c.loop-rest.account in
    let rest = c.loop-rest.rest.now in
    let read = sym c.end_in.ensures ∙ ap (λ o. option_map (λ e. (e.number, e.seal)) o) c.in-Some.is in
    comes_to facts c.args.boot c.args.text.now history expected account rest (c.loop-rest.invariant.1 history expected) c.loop-rest.invariant.0.same
    c.in-Some.end.number c.in-Some.end.seal c.end.result (ap end_in (sym c.cut_line.ensures.line) ∙ read)
    (c.end.ensures facts.root (codes "journal" ++ before_end facts.account facts.region c.args.boot account.entries) c.loop-rest.invariant.0.holds)
    _ (λ a parts. parts.0) c.finished.result c.finished.ensures.ok
    (err_is _ _ c.finished.result (λ fault is. subst (λ (t : List ℕ). IsEndFault account c.args.boot c.end.result c.in-Some.end.number c.in-Some.end.seal t fault) c.cut_line.ensures.rest is) c.finished.ensures.fault)

pub returns-in_default-2-clause-fault : goal.returns-in_default-2-clause-fault
returns-in_default-2-clause-fault c =
    let facts = c.args.account.facts in
    let account = c.loop-rest.account in
    let rest = c.loop-rest.rest.now in
    let some : 0 < length rest = omega (arith, eqb-false (length rest) 0 (sym c.is_empty.ensures ∙ c.loop-rest-test.true)) in
    let not_read = sym c.end_in.ensures ∙ ap (λ o. option_map (λ e. (e.number, e.seal)) o) c.in_default.is in
    let none_fits = when_none _ _ c.in_ok-longer.field-0 c.in_ok-longer.ensures.more c.in_default-2.is in
    inr (subst (λ (n : ℕ). IsFaultBehind facts c.args.boot c.args.text.now (At (n + 2))) (sym c.entries.ensures.number)
    (strange facts c.args.boot c.args.text.now account c.loop-rest.mac rest c.loop-rest.invariant.0 some
    (no_end (first_line rest) (ap end_in (sym c.cut_line.ensures.line) ∙ not_read))
    (λ entry back fits is. none_fits entry back (subst (λ (f : RealmFacts). Fits f account.entries entry) (sym c.loop-rest.invariant.0.same) fits) (c.cut_line.ensures.line ∙ is))))

pub returns-in-Some-clause-ok : goal.returns-in-Some-clause-ok
returns-in-Some-clause-ok c =
    let facts = c.args.account.facts in
    let account = c.loop-rest.account in
    let rest = c.loop-rest.rest.now in
    let some : 0 < length rest = omega (arith, eqb-false (length rest) 0 (sym c.is_empty.ensures ∙ c.loop-rest-test.true)) in
    let read = sym c.end_in.ensures ∙ ap (λ o. option_map (λ e. (e.number, e.seal)) o) c.in-Some.is in
    let is_end : IsEnd (first_line rest) c.in-Some.end.number c.in-Some.end.seal = end_read (first_line rest) (c.in-Some.end.number, c.in-Some.end.seal) (ap end_in (sym c.cut_line.ensures.line) ∙ read) in
    ok_is _ _ c.finished.result (λ a parts. subst (λ (b : Account). IsReadOf facts c.args.boot c.args.text.now b) (sym parts.0)
    (read_of facts c.args.boot c.args.text.now account c.loop-rest.mac rest c.loop-rest.invariant.0 some c.in-Some.end.number c.in-Some.end.seal c.end.result is_end
    (c.end.ensures facts.root (codes "journal" ++ before_end facts.account facts.region c.args.boot account.entries) c.loop-rest.invariant.0.holds)
    (ap (λ (t : List ℕ). length t) (sym c.cut_line.ensures.rest) ∙ parts.1) parts.2 parts.3 parts.4)) c.finished.ensures.ok

pub returns-in-Some-clause-fault : goal.returns-in-Some-clause-fault
returns-in-Some-clause-fault c =
    let facts = c.args.account.facts in
    let account = c.loop-rest.account in
    let rest = c.loop-rest.rest.now in
    let some : 0 < length rest = omega (arith, eqb-false (length rest) 0 (sym c.is_empty.ensures ∙ c.loop-rest-test.true)) in
    let read = sym c.end_in.ensures ∙ ap (λ o. option_map (λ e. (e.number, e.seal)) o) c.in-Some.is in
    let is_end : IsEnd (first_line rest) c.in-Some.end.number c.in-Some.end.seal = end_read (first_line rest) (c.in-Some.end.number, c.in-Some.end.seal) (ap end_in (sym c.cut_line.ensures.line) ∙ read) in
    err_is _ _ c.finished.result (λ fault is. inr (end_fault facts c.args.boot c.args.text.now account c.loop-rest.mac rest c.loop-rest.invariant.0 some
    c.in-Some.end.number c.in-Some.end.seal c.end.result is_end (c.end.ensures facts.root (codes "journal" ++ before_end facts.account facts.region c.args.boot account.entries) c.loop-rest.invariant.0.holds)
    fault (subst (λ (t : List ℕ). IsEndFault account c.args.boot c.end.result c.in-Some.end.number c.in-Some.end.seal t fault) c.cut_line.ensures.rest is))) c.finished.ensures.fault
