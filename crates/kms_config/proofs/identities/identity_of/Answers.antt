use Rattle.std.proofs.Common.{◌∙◌, sym}
use Rattle.serde_json.specs.View.{view, members_view}
use Rattle.policy_doc.specs.Names.{first_unknown}
use Rattle.policy_doc.specs.Paths.{path_text}
use Rattle.kms_config.specs.Identities.{identity_of, identity_names, new_principal, policies_in}
use Rattle.kms_config.proofs.IdentityFacts.{no_principal, no_policies, has_other, all_there}
use Rattle.kms_config.proofs.identities.identity_of.Goals as goal

pub returns-in_default : goal.returns-in_default
unfolding identity_of
returns-in_default c =
    let d = view c.args.value.now in
    let path = path_text c.args.place.now in
    no_principal path (new_principal c.args.account.now c.args.before.now d) (policies_in path d) (first_unknown identity_names (members_view c.args.members.now.entries)) c.refused.result
    (sym c.in_ok-principal.ensures ∙ c.in_default.is) c.refused.ensures

pub returns-in-Err : goal.returns-in-Err
unfolding identity_of
returns-in-Err c =
    let d = view c.args.value.now in
    let path = path_text c.args.place.now in
    no_policies path (new_principal c.args.account.now c.args.before.now d) (policies_in path d) (first_unknown identity_names (members_view c.args.members.now.entries))
    c.in-Some.principal c.in-Err.why (sym c.in_ok-principal.ensures ∙ c.in-Some.is) c.in-Err.ensures

pub returns-in-Some-first_unknown : goal.returns-in-Some-first_unknown
unfolding identity_of
returns-in-Some-first_unknown c =
    let d = view c.args.value.now in
    let path = path_text c.args.place.now in
    has_other path (new_principal c.args.account.now c.args.before.now d) (policies_in path d) (first_unknown identity_names (members_view c.args.members.now.entries)) c.refused-in-Some-first_unknown.result
    c.in-Some.principal c.in-Ok.policies c.in-Some-first_unknown.name.now
    (sym c.in_ok-principal.ensures ∙ c.in-Some.is) c.in-Ok.ensures (sym c.in-Some-first_unknown.ensures) c.refused-in-Some-first_unknown.ensures

pub returns : goal.returns
unfolding identity_of
returns c =
    let d = view c.args.value.now in
    let path = path_text c.args.place.now in
    all_there path (new_principal c.args.account.now c.args.before.now d) (policies_in path d) (first_unknown identity_names (members_view c.args.members.now.entries))
    c.in-Some.principal c.in-Ok.policies (sym c.in_ok-principal.ensures ∙ c.in-Some.is) c.in-Ok.ensures (sym c.in_default-first_unknown.ensures)
