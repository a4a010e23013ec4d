use Rattle.std.proofs.Common.{◌∙◌, ap, refl}
use Rattle.authority.specs.Setting.{Setting}
use Rattle.authority.specs.Facts.{request_of}
use Rattle.authority.proofs.settings.Setting.request.Goals as goal

pub returns : goal.returns
unfolding request_of
returns c =
    let caller = c.in_ok-caller.ensures ∙ ap (λ (s : Setting). s.caller) c.self.view_is in
    record {
      caller = caller;
      action = refl;
      resource = c.in_ok-resource.ensures;
      facts = λ wanted. λ i. record {
        caller = caller i;
        action = c.args.action;
        resource = c.in_ok-resource.ensures i;
        facts = c.in_ok-facts.ensures wanted i;
      };
    }
