use Rattle.std.proofs.Common.{◌≡◌, List, [], ap, ◌∙◌, Err, arith, length, ◌<◌, ◌≤◌}
use Rattle.resource_tags.specs.Tags.{Tags, with_tags}
use Rattle.resource_tags.specs.declared.tags.Tag.{Tag}
use Rattle.resource_tags.specs.declared.maps.TagFault.{TagFault}
use Rattle.resource_tags.proofs.TagFacts.{few_from_none}
use Rattle.account_keys.proofs.keys.tags_of.Goals as goal

pub unreachable-requires : goal.unreachable-requires
unreachable-requires c =
    let tags = c.args.tags.now in
    let few : length (with_tags [] tags) ≤ 50 = few_from_none tags c.requires in
    let same : length (with_tags c.new.result c.as_slice.result.now) ≡ length (with_tags [] tags)
    = ap (λ (t : Tags). length (with_tags t c.as_slice.result.now)) c.new.ensures ∙ ap (λ (t : List Tag). length (with_tags [] t)) c.as_slice.ensures in
    let many = c.in-Err-TooMany.ensures.many (ap (λ (f : TagFault). Err f) c.in-Err-TooMany.field-0-is) in
    absurd (omega (arith, few, same, many))
