use Rattle.std.proofs.lemmas.Str.Pattern.{split_parts}
use Rattle.cond_ops.proofs.CutFacts.{cut_of_split}
use Rattle.cond_ops.proofs.cuts.cut_at.Goals as goal

pub returns : goal.returns
returns c =
    cut_of_split c.args.mark c.args.text.now c.split_once.result
    (split_parts c.args.mark c.args.text.now c.split_once.result c.split_once.ensures.cases c.requires)
