use Rattle.std.proofs.Common.{◌∙◌, ℕ, List, ◌++◌, length, drop, ap, ap₂, sym, subst, arith, drop_at, refl}
use Rattle.std.specs.Prelude.{nat_eq}
use Rattle.std.specs.Cmp.Lexicographic.{pointwise}
use Rattle.kms_workload.specs.Lines.{IsRest}
use Rattle.kms_workload.proofs.ReplyLemmas.{reply_cut, status_line, size_line, status_plain, size_plain, status_tells}
use Rattle.kms_workload.proofs.replies.reply_in.Goals as goal

pub returns : goal.returns
returns c = λ status reply more is split.
    let cut = reply_cut status reply c.args.text.now more is split in
    let size = length cut.body in
    let first = c.line_in-status.ensures (status_line status) _ (status_plain status) cut.is in
    let second = c.line_in.ensures cut.second _ cut.second_plain first.1 in
    let third = c.line_in-size.ensures (size_line size) cut.rest (size_plain size) second.1 in
    let behind = c.behind_head-body.ensures (cut.body ++ more) (subst (λ (t : List ℕ). IsRest t (cut.body ++ more)) (sym third.1) cut.behind) in
    let number = c.number_in.ensures size (omega (arith, cut.short)) (c.after.ensures ∙ ap (drop 16) third.0) in (
      c.eq.ensures ∙ ap₂ (pointwise nat_eq) first.0 c.as_slice.ensures ∙ status_tells status,
      c.after-2.ensures ∙ ap₂ (λ (n : ℕ) (t : List ℕ). drop n t) number behind ∙ drop_at cut.body more size refl,
    )
