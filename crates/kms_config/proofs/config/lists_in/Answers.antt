use Rattle.std.proofs.Common.{sym}
use Rattle.serde_json.specs.View.{view, members_view}
use Rattle.policy_doc.specs.Names.{first_unknown}
use Rattle.kms_config.specs.Config.{config_names, credentials_at, identities_at, ceiling_at, lists_in}
use Rattle.kms_config.proofs.ConfigFacts.{no_credentials, no_identities, no_ceiling, has_other, all_lists}
use Rattle.kms_config.proofs.config.lists_in.Goals as goal

pub returns-in-Err : goal.returns-in-Err
unfolding lists_in
returns-in-Err c =
    let d = view c.args.value.now in
    let basics = c.args.basics in
    no_credentials basics (credentials_at basics.account d) (identities_at basics.account d) (ceiling_at d) (first_unknown config_names (members_view c.args.members.now.entries)) c.in-Err.why c.in-Err.ensures

pub returns-in-Err-identities_at : goal.returns-in-Err-identities_at
unfolding lists_in
returns-in-Err-identities_at c =
    let d = view c.args.value.now in
    let basics = c.args.basics in
    no_identities basics (credentials_at basics.account d) (identities_at basics.account d) (ceiling_at d) (first_unknown config_names (members_view c.args.members.now.entries))
    c.in-Ok.credentials c.in-Err-identities_at.why c.in-Ok.ensures c.in-Err-identities_at.ensures

pub returns-in-Err-ceiling_at : goal.returns-in-Err-ceiling_at
unfolding lists_in
returns-in-Err-ceiling_at c =
    let d = view c.args.value.now in
    let basics = c.args.basics in
    no_ceiling basics (credentials_at basics.account d) (identities_at basics.account d) (ceiling_at d) (first_unknown config_names (members_view c.args.members.now.entries))
    c.in-Ok.credentials c.in-Ok-identities_at.identities c.in-Err-ceiling_at.why c.in-Ok.ensures c.in-Ok-identities_at.ensures c.in-Err-ceiling_at.ensures

pub returns-in-Some : goal.returns-in-Some
unfolding lists_in
returns-in-Some c =
    let d = view c.args.value.now in
    let basics = c.args.basics in
    has_other basics (credentials_at basics.account d) (identities_at basics.account d) (ceiling_at d) (first_unknown config_names (members_view c.args.members.now.entries))
    c.in-Ok.credentials c.in-Ok-identities_at.identities c.in-Ok-ceiling_at.ceiling c.in-Some.name.now c.refused.result c.in-Ok.ensures c.in-Ok-identities_at.ensures
    c.in-Ok-ceiling_at.ensures (sym c.in-Some.ensures) c.refused.ensures

pub returns : goal.returns
unfolding lists_in
returns c =
    let d = view c.args.value.now in
    let basics = c.args.basics in
    all_lists basics (credentials_at basics.account d) (identities_at basics.account d) (ceiling_at d) (first_unknown config_names (members_view c.args.members.now.entries))
    c.in-Ok.credentials c.in-Ok-identities_at.identities c.in-Ok-ceiling_at.ceiling c.in-Ok.ensures c.in-Ok-identities_at.ensures c.in-Ok-ceiling_at.ensures (sym c.in_default.ensures)
