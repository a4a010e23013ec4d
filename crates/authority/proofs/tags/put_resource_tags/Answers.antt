use Rattle.authority.proofs.FactFacts.{next_pushed}
use Rattle.authority.proofs.tags.put_resource_tags.Goals as goal

pub loop-key-preserved : goal.loop-key-preserved
loop-key-preserved c = (
  tt,
  tt,
  next_pushed c.args.facts.now.items c.loop-key.facts.items c.put_resource_tag.new.facts.items c.args.tags.now c.loop-key.key-iterator c.next.new.self (c.in-Some.key.now, c.in-Some.value.now)
      c.in-Some.ensures.steps c.loop-key.invariant.2 c.in_ok-put_resource_tag.ensures,
)
