use Rattle.std.proofs.Common.{◌++◌, ap, ◌∙◌}
use Rattle.authority.specs.Setting.{KindSaid}
use Rattle.authority.specs.Facts.{kind_facts}
use Rattle.authority.proofs.facts.put_kind.Goals as goal

pub returns : goal.returns
returns c = c.in_ok-put_all.ensures ∙ ap (λ (kind : KindSaid). c.args.facts.now.items ++ kind_facts kind) c.kind.view_is
