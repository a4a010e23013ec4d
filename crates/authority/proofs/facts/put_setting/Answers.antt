use Rattle.std.proofs.Common.{ap, ◌∙◌, ◌++◌}
use Rattle.authority.specs.Setting.{Setting}
use Rattle.authority.specs.Facts.{setting_facts}
use Rattle.authority.proofs.FactFacts.{three}
use Rattle.authority.proofs.facts.put_setting.Goals as goal

pub returns : goal.returns
returns c =
    three c.args.facts.now.items c.put_caller.new.facts.items c.put_times.new.facts.items c.put_service.new.facts.items _ _ _
    c.in_ok-put_caller.ensures c.in_ok-put_times.ensures c.in_ok-put_service.ensures
    ∙ ap (λ (s : Setting). c.args.facts.now.items ++ setting_facts s) c.setting.view_is
