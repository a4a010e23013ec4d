use Rattle.std.proofs.Common.{◌∙◌, ap, subst}
use Rattle.policy_eval.specs.Asking.{CeilingGoesWithout}
use Rattle.policy_eval.specs.CeilingOf.{CeilingGoesByQuestion}
use Rattle.authority.specs.Setting.{Setting, Asked}
use Rattle.authority.specs.Allowed.{bounded_standing}
use Rattle.authority.specs.Questions.{GoByQuestions, KeyGoesByQuestion, GoWithoutAliases, KeyGoesWithoutAliases, resource_aliases}
use Rattle.authority.proofs.QuestionFacts.{one_answer}
use Rattle.authority.proofs.settings.Setting.standing.Goals as goal

pub returns : goal.returns
returns c =
    let setting : Setting = c.args.self.now in
    let asked : Asked = record { action = c.args.action; resource = c.args.resource.now; particulars = c.args.particulars.now } in
    let seen = c.self.view_is in
    c.bounded_standing.ensures
    ∙ ap (λ policy. bounded_standing setting policy c.in_ok-request.request) c.compiled-policy.ensures
    ∙ one_answer setting asked _ c.in_ok-request.request c.some_wants-wanted.result c.some_wants_aliases-with_aliases.result
    (record {
      key = λ none. subst KeyGoesByQuestion c.compiled-policy.ensures (c.some_wants-wanted.ensures.key none);
      own = λ none. subst GoByQuestions (ap (λ (s : Setting). s.policies) seen) (c.some_wants-wanted.ensures.own none);
      bound = λ none. subst CeilingGoesByQuestion (ap (λ (s : Setting). s.ceiling) seen) (c.some_wants-wanted.ensures.bound none);
      aliases_key = λ none. subst KeyGoesWithoutAliases c.compiled-policy.ensures (c.some_wants_aliases-with_aliases.ensures.key none);
      aliases_own = λ none. subst GoWithoutAliases (ap (λ (s : Setting). s.policies) seen) (c.some_wants_aliases-with_aliases.ensures.own none);
      aliases_bound = λ none. subst (CeilingGoesWithout resource_aliases) (ap (λ (s : Setting). s.ceiling) seen) (c.some_wants_aliases-with_aliases.ensures.bound none);
    })
    c.in_ok-request.ensures
