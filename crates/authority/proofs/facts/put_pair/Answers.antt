use Rattle.std.proofs.Common.{◌++◌, codes, ap, ◌∙◌}
use Rattle.authority.proofs.FactFacts.{pair_is}
use Rattle.authority.proofs.facts.put_pair.Goals as goal

pub returns : goal.returns
returns c =
    pair_is c.args.facts.now.items c.put.new.facts.items c.args.pair.now _ _
    (c.from_string-key.ensures ∙ c.in_ok-format.ensures.ok ∙ ap (λ text. codes "kms:EncryptionContext:" ++ text) c.as_str-name.ensures.value) c.in_ok-value.ensures c.in_ok-put.ensures
