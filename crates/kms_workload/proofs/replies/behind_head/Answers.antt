use Rattle.std.proofs.Common.{sym}
use Rattle.std.proofs.lemmas.Bool.{eqb-true, eqb-false}
use Rattle.kms_workload.proofs.LineLemmas.{behind_none, behind_two, behind_three}
use Rattle.kms_workload.proofs.replies.behind_head.Goals as goal

pub returns-then-is_empty : goal.returns-then-is_empty
returns-then-is_empty c = λ more is.
    behind_none c.args.text.now c.line_in-first.result.text.now c.line_in-first.result.rest.now more c.line_in-first.ensures (eqb-true _ _ (sym c.if-is_empty.ensures)) is

pub returns-then-is_empty-2 : goal.returns-then-is_empty-2
returns-then-is_empty-2 c = λ more is.
    behind_two c.args.text.now c.line_in-first.result.text.now c.line_in-first.result.rest.now c.line_in.result.text.now c.line_in.result.rest.now
    c.line_in-third.result.text.now c.line_in-third.result.rest.now more c.line_in-first.ensures (eqb-false _ _ (sym c.if-is_empty.ensures)) c.line_in.ensures c.line_in-third.ensures
    (eqb-true _ _ (sym c.if-is_empty-2.ensures)) is

pub returns : goal.returns
returns c = λ more is.
    behind_three c.args.text.now c.line_in-first.result.text.now c.line_in-first.result.rest.now c.line_in.result.text.now c.line_in.result.rest.now
    c.line_in-third.result.text.now c.line_in-third.result.rest.now c.line_in-2.result.text.now c.line_in-2.result.rest.now more c.line_in-first.ensures (eqb-false _ _ (sym c.if-is_empty.ensures))
    c.line_in.ensures c.line_in-third.ensures (eqb-false _ _ (sym c.if-is_empty-2.ensures)) c.line_in-2.ensures is
