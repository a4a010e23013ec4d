use Rattle.std.proofs.Common.{◌∙◌, ap, drop}
use Rattle.kms_workload.proofs.LineLemmas.{line_cut}
use Rattle.kms_workload.proofs.replies.line_in.Goals as goal

pub returns : goal.returns
returns c = λ line more one split.
    let cut = line_cut c.args.text.now line more c.line_size-size.result c.line_size-size.ensures.value one split in
    (cut.0, c.after-2.ensures ∙ ap (drop 2) c.after.ensures ∙ cut.1)
