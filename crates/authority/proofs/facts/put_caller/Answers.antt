use Rattle.std.proofs.Common.{◌∙◌}
use Rattle.authority.proofs.FactFacts.{caller_is}
use Rattle.authority.proofs.facts.put_caller.Goals as goal

pub returns : goal.returns
returns c =
    caller_is c.args.facts.now.items c.put_all.new.facts.items c.put_user.new.facts.items c.args.caller.now _ _ _
    (c.as_str.ensures.value ∙ c.in_ok-arn.ensures) (c.as_str-2.ensures.value ∙ c.account-account.ensures) (c.as_str-3.ensures.value ∙ c.account-account.ensures)
    c.in_ok-put_all.ensures c.in_ok-put_user.ensures
