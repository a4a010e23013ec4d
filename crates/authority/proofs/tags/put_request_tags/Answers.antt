use Rattle.authority.specs.Facts.{request_tag}
use Rattle.authority.proofs.FactFacts.{one_pushed}
use Rattle.authority.proofs.tags.put_request_tags.Goals as goal

pub loop-tag-preserved : goal.loop-tag-preserved
loop-tag-preserved c =
    one_pushed request_tag c.args.facts.now.items c.loop-tag.facts.items c.put_request_tag.new.facts.items c.args.tags.now c.loop-tag.tag-index c.tag-item.result c.loop-tag-test.true c.tag-item.is
    c.loop-tag.invariant c.in_ok-put_request_tag.ensures
