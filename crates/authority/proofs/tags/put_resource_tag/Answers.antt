use Rattle.std.proofs.Common.{◌++◌, codes, ap, ◌∙◌}
use Rattle.authority.proofs.FactFacts.{resource_tag_is}
use Rattle.authority.proofs.tags.put_resource_tag.Goals as goal

pub returns : goal.returns
returns c =
    resource_tag_is c.args.facts.now.items c.put.new.facts.items c.args.key.now c.args.value.now _ _
    (c.from_string-key.ensures ∙ c.in_ok-format.ensures.ok ∙ ap (λ text. codes "aws:ResourceTag/" ++ text) c.as_str-name.ensures.value) c.in_ok-value.ensures c.in_ok-put.ensures
