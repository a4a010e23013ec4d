use Rattle.std.proofs.Common.{sym, ap, ◌∙◌}
use Rattle.policy_doc.specs.Forms.{takes_count}
use Rattle.policy_doc.proofs.TextFacts.{items_len-view}
use Rattle.policy_doc.proofs.texts.takes_items.Goals as goal

pub returns : goal.returns
returns c = c.takes_count.ensures ∙ ap (λ n. takes_count c.args.form n) (sym (items_len-view c.args.items.now))
