use Rattle.std.proofs.Common.{◌∙◌}
use Rattle.authority.proofs.FactFacts.{times_are}
use Rattle.authority.proofs.facts.put_times.Goals as goal

pub returns : goal.returns
returns c =
    times_are c.args.facts.now.items c.put_all.new.facts.items c.args.moment _ _
    (c.as_str.ensures.value ∙ c.in_ok-current.ensures) (c.as_str-2.ensures.value ∙ c.in_ok-seconds.ensures.ok)
    c.in_ok-put_all.ensures
