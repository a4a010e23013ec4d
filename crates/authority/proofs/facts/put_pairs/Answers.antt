use Rattle.authority.specs.Facts.{pair_fact}
use Rattle.authority.proofs.FactFacts.{one_pushed}
use Rattle.authority.proofs.facts.put_pairs.Goals as goal

pub loop-pair-preserved : goal.loop-pair-preserved
loop-pair-preserved c =
    one_pushed pair_fact c.args.facts.now.items c.loop-pair.facts.items c.put_pair.new.facts.items c.args.pairs.now c.loop-pair.pair-index c.pair-item.result c.loop-pair-test.true c.pair-item.is
    c.loop-pair.invariant c.in_ok-put_pair.ensures
