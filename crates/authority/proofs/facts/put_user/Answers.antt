use Rattle.std.proofs.Common.{ap, ◌∙◌}
use Rattle.authority.specs.Facts.{behind_slash}
use Rattle.authority.proofs.FactFacts.{user_is}
use Rattle.authority.proofs.facts.put_user.Goals as goal

pub returns-in_ok-put_text-in-User : goal.returns-in_ok-put_text-in-User
returns-in_ok-put_text-in-User c =
    user_is c.args.facts.now.items c.put_text.new.facts.items c.args.caller.now _ _ _ c.in-User.is (c.behind_slash.ensures ∙ ap behind_slash c.as_str.ensures.value) c.in_ok-put_text-in-User.ensures
