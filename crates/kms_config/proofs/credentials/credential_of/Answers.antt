use Rattle.std.proofs.Common.{◌∙◌, sym}
use Rattle.serde_json.specs.View.{view, members_view}
use Rattle.policy_doc.specs.Names.{first_unknown}
use Rattle.kms_config.specs.Forms.{principal_at}
use Rattle.policy_doc.specs.Paths.{path_text}
use Rattle.kms_config.specs.Credentials.{credential_of, credential_names, id_in, secret_in}
use Rattle.kms_config.proofs.CredentialFacts.{no_id, no_secret, no_principal, has_other, all_there}
use Rattle.kms_config.proofs.credentials.credential_of.Goals as goal

pub returns-in_default-clause-answer : goal.returns-in_default-clause-answer
unfolding credential_of
returns-in_default-clause-answer c =
    let d = view c.args.value.now in
    let path = path_text c.args.place.now in
    no_id path (id_in c.args.before.now d) (secret_in d) (principal_at c.args.account.now d) (first_unknown credential_names (members_view c.args.members.now.entries)) c.refused.result
    (sym c.in_ok-id.ensures.value ∙ c.in_default.is) c.refused.ensures

pub returns-in_default-2-clause-answer : goal.returns-in_default-2-clause-answer
unfolding credential_of
returns-in_default-2-clause-answer c =
    let d = view c.args.value.now in
    let path = path_text c.args.place.now in
    no_secret path (id_in c.args.before.now d) (secret_in d) (principal_at c.args.account.now d) (first_unknown credential_names (members_view c.args.members.now.entries)) c.refused-in_default-2.result
    c.in-Some.id (sym c.in_ok-id.ensures.value ∙ c.in-Some.is) (sym c.in_ok-secret.ensures ∙ c.in_default-2.is) c.refused-in_default-2.ensures

pub returns-in_default-3-clause-answer : goal.returns-in_default-3-clause-answer
unfolding credential_of
returns-in_default-3-clause-answer c =
    let d = view c.args.value.now in
    let path = path_text c.args.place.now in
    no_principal path (id_in c.args.before.now d) (secret_in d) (principal_at c.args.account.now d) (first_unknown credential_names (members_view c.args.members.now.entries)) c.refused-in_default-3.result
    c.in-Some.id c.in-Some-2.secret (sym c.in_ok-id.ensures.value ∙ c.in-Some.is) (sym c.in_ok-secret.ensures ∙ c.in-Some-2.is) (sym c.in_ok-principal.ensures ∙ c.in_default-3.is) c.refused-in_default-3.ensures

pub returns-in-Some-first_unknown-clause-answer : goal.returns-in-Some-first_unknown-clause-answer
unfolding credential_of
returns-in-Some-first_unknown-clause-answer c =
    let d = view c.args.value.now in
    let path = path_text c.args.place.now in
    has_other path (id_in c.args.before.now d) (secret_in d) (principal_at c.args.account.now d) (first_unknown credential_names (members_view c.args.members.now.entries)) c.refused-in-Some-first_unknown.result
    c.in-Some.id c.in-Some-2.secret c.in-Some-3.principal c.in-Some-first_unknown.name.now
    (sym c.in_ok-id.ensures.value ∙ c.in-Some.is) (sym c.in_ok-secret.ensures ∙ c.in-Some-2.is) (sym c.in_ok-principal.ensures ∙ c.in-Some-3.is) (sym c.in-Some-first_unknown.ensures) c.refused-in-Some-first_unknown.ensures

pub returns-clause-answer : goal.returns-clause-answer
unfolding credential_of
returns-clause-answer c =
    let d = view c.args.value.now in
    let path = path_text c.args.place.now in
    all_there path (id_in c.args.before.now d) (secret_in d) (principal_at c.args.account.now d) (first_unknown credential_names (members_view c.args.members.now.entries))
    c.in-Some.id c.in-Some-2.secret c.in-Some-3.principal
    (sym c.in_ok-id.ensures.value ∙ c.in-Some.is) (sym c.in_ok-secret.ensures ∙ c.in-Some-2.is) (sym c.in_ok-principal.ensures ∙ c.in-Some-3.is) (sym c.in_default-first_unknown.ensures)
