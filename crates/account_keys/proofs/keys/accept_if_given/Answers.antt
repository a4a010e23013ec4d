use Rattle.std.proofs.Common.{◌≡◌, ℕ, List, [], Option, ap, ap₂, sym, ◌∙◌, subst}
use Rattle.resource_tags.specs.Tags.{Tags, with_tags}
use Rattle.account_steps.specs.declared.facts.RealmFacts.{RealmFacts}
use Rattle.account_steps.specs.Ids.{key_id_at}
use Rattle.account_steps.specs.Authority.{KeySaid}
use Rattle.account_steps.specs.Steps.{Passes}
use Rattle.account_keys.specs.Policies.{policy_refused}
use Rattle.account_keys.specs.Keys.{said_new_key, refused_if_given}
use Rattle.account_keys.proofs.keys.accept_if_given.Goals as goal

pub returns-in_ok-tags-in-Some : goal.returns-in_ok-tags-in-Some
returns-in_ok-tags-in-Some c =
    let view = c.args.view.now in
    let request = c.args.request.now in
    let id : c.key_id-id.result ≡ key_id_at view.facts view.place
    = c.key_id-id.ensures ∙ ap (λ (facts : RealmFacts). key_id_at facts c.place.result) c.facts.ensures ∙ ap (key_id_at view.facts) c.place.ensures in
    let tags : c.in_ok-tags-in-Some.tags ≡ with_tags [] request.tags = c.in_ok-tags-in-Some.ensures in
    let made : List ℕ → Tags → KeySaid = λ key tags. record { key = key; kind = c.args.kind; tags = tags } in
    let key : made c.key_id-id.result c.in_ok-tags-in-Some.tags ≡ said_new_key view c.args.kind request.tags = ap₂ made id tags in
    subst (λ (given : Option (List ℕ)). Passes (refused_if_given view (said_new_key view c.args.kind request.tags) given request.bypass_lockout_check) c.accept.result) (sym c.in-Some.is)
    (subst (λ (said : KeySaid). Passes (policy_refused view said c.in-Some.text request.bypass_lockout_check) c.accept.result) key c.accept.ensures)
