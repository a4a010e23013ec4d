use Rattle.std.proofs.Common.{◌∙◌, sym, ap, codes}
use Rattle.serde_json.specs.Find.{get}
use Rattle.serde_json.specs.View.{view}
use Rattle.kms_config.specs.Forms.{account_in, region_in, root_in, boot_in}
use Rattle.kms_config.specs.Config.{basics_in}
use Rattle.kms_config.proofs.ConfigFacts.{no_account, no_region, no_root, no_boot, all_basics}
use Rattle.kms_config.proofs.config.basics_in.Goals as goal

pub returns-in_default : goal.returns-in_default
unfolding basics_in
returns-in_default c =
    let d = view c.args.value.now in
    no_account (account_in (get (codes "account") d)) (region_in (get (codes "region") d)) (root_in (get (codes "root") d)) (boot_in (get (codes "boot") d)) c.refused.result
    (sym (ap account_in c.member.ensures) ∙ sym c.account_in.ensures ∙ c.in_default.is) c.refused.ensures

pub returns-in_default-2 : goal.returns-in_default-2
unfolding basics_in
returns-in_default-2 c =
    let d = view c.args.value.now in
    no_region (account_in (get (codes "account") d)) (region_in (get (codes "region") d)) (root_in (get (codes "root") d)) (boot_in (get (codes "boot") d)) c.refused-in_default-2.result
    c.in-Some.account
    (sym (ap account_in c.member.ensures) ∙ sym c.account_in.ensures ∙ c.in-Some.is)
    (sym (ap region_in c.member-2.ensures) ∙ sym c.in_ok-region.ensures ∙ c.in_default-2.is) c.refused-in_default-2.ensures

pub returns-in_default-root_in : goal.returns-in_default-root_in
unfolding basics_in
returns-in_default-root_in c =
    let d = view c.args.value.now in
    no_root (account_in (get (codes "account") d)) (region_in (get (codes "region") d)) (root_in (get (codes "root") d)) (boot_in (get (codes "boot") d)) c.refused-in_default-root_in.result
    c.in-Some.account c.in-Some-2.region
    (sym (ap account_in c.member.ensures) ∙ sym c.account_in.ensures ∙ c.in-Some.is)
    (sym (ap region_in c.member-2.ensures) ∙ sym c.in_ok-region.ensures ∙ c.in-Some-2.is)
    (sym (ap root_in c.member-3.ensures) ∙ sym c.root_in.ensures ∙ c.in_default-root_in.is) c.refused-in_default-root_in.ensures

pub returns-in_default-boot_in : goal.returns-in_default-boot_in
unfolding basics_in
returns-in_default-boot_in c =
    let d = view c.args.value.now in
    no_boot (account_in (get (codes "account") d)) (region_in (get (codes "region") d)) (root_in (get (codes "root") d)) (boot_in (get (codes "boot") d)) c.refused-in_default-boot_in.result
    c.in-Some.account c.in-Some-2.region c.in-Some-root_in.root
    (sym (ap account_in c.member.ensures) ∙ sym c.account_in.ensures ∙ c.in-Some.is)
    (sym (ap region_in c.member-2.ensures) ∙ sym c.in_ok-region.ensures ∙ c.in-Some-2.is)
    (sym (ap root_in c.member-3.ensures) ∙ sym c.root_in.ensures ∙ c.in-Some-root_in.is)
    (sym (ap boot_in c.member-4.ensures) ∙ sym c.boot_in.ensures ∙ c.in_default-boot_in.is) c.refused-in_default-boot_in.ensures

pub returns : goal.returns
unfolding basics_in
returns c =
    let d = view c.args.value.now in
    all_basics (account_in (get (codes "account") d)) (region_in (get (codes "region") d)) (root_in (get (codes "root") d)) (boot_in (get (codes "boot") d))
    c.in-Some.account c.in-Some-2.region c.in-Some-root_in.root c.in-Some-boot_in.boot
    (sym (ap account_in c.member.ensures) ∙ sym c.account_in.ensures ∙ c.in-Some.is)
    (sym (ap region_in c.member-2.ensures) ∙ sym c.in_ok-region.ensures ∙ c.in-Some-2.is)
    (sym (ap root_in c.member-3.ensures) ∙ sym c.root_in.ensures ∙ c.in-Some-root_in.is)
    (sym (ap boot_in c.member-4.ensures) ∙ sym c.boot_in.ensures ∙ c.in-Some-boot_in.is)
