use Rattle.std.proofs.Common.{◌≡◌, ℕ, ◌<◌, ◌^◌, List, Option, SomeIff, ap, ◌∙◌, subst}
use Rattle.std.specs.Result.{IfOk}
use Rattle.draw_lines.specs.Iv.{iv_at}
use Rattle.crypto_ops.specs.Sealed.{sealed}
use Rattle.account_steps.specs.declared.facts.RealmFacts.{RealmFacts}
use Rattle.key_states.specs.declared.rows.KeyRow.{KeyRow}
use Rattle.account_steps.specs.Steps.{seals}
use Rattle.account_crypto.proofs.crypto.seal.Goals as goal

pub returns-clause-blob : goal.returns-clause-blob
unfolding seals
returns-clause-blob c =
    let line = c.args.line.now in
    let facts = c.args.view.now.facts in
    let row = c.args.lent.now in
    let told = subst (λ (taken : Option (List ℕ)). SomeIff taken (line.ivs < 2 ^ 48) (iv_at line.boot line.pass_number line.ivs)) c.unwrap-iv.ensures c.next_iv.ensures.iv in
    let iv : c.unwrap-iv.result ≡ iv_at facts.boot line.pass_number line.ivs =
    told.1 ∙ ap (λ (boot : ℕ). iv_at boot line.pass_number line.ivs) c.requires.line.boot in
    let made = subst (λ (v : List ℕ). IfOk c.seal_blob.result (λ b. b ≡ sealed c.facts.result.now.root c.row.result.now.key c.newest_version.result v c.args.context.now c.args.text.now)) iv c.seal_blob.ensures in
    let of_facts = subst (λ (f : RealmFacts). IfOk c.seal_blob.result (λ b. b ≡ sealed f.root c.row.result.now.key c.newest_version.result (iv_at facts.boot line.pass_number line.ivs) c.args.context.now c.args.text.now)) c.facts.ensures made in
    let of_row = subst (λ (r : KeyRow). IfOk c.seal_blob.result (λ b. b ≡ sealed facts.root r.key c.newest_version.result (iv_at facts.boot line.pass_number line.ivs) c.args.context.now c.args.text.now)) c.row.ensures.row of_facts in
    subst (λ (version : ℕ). IfOk c.seal_blob.result (λ b. b ≡ sealed facts.root row.key version (iv_at facts.boot line.pass_number line.ivs) c.args.context.now c.args.text.now)) c.newest_version.ensures of_row
