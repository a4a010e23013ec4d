use Rattle.std.proofs.Common.{◌≡◌, List, ℕ, length, drop, ◌∙◌, subst}
use Rattle.std.specs.Prelude.{IfOk}
use Rattle.std.proofs.lemmas.List.{take_at}
use Rattle.blob_format.specs.Blob.{form_one}
use Rattle.crypto_ops.proofs.OpeningFacts.{sealed_written, sealed_one_is}
use Rattle.crypto_ops.proofs.sealing.seal_blob_one.Goals as goal

pub returns : goal.returns
returns c =
    let ciphertext = c.seal-tag.new.text in
    let size : length ciphertext ≡ c.in_ok-text.text.len = c.seal-tag.auto.text ∙ c.deref_mut.ensures.len in
    let written : c.deref-2.result.now ≡ ciphertext =
    c.deref-2.ensures.value ∙ take_at ciphertext (drop (length ciphertext) c.in_ok-text.text.items) c.in_ok-text.text.len size in
    subst (λ (x : List ℕ). IfOk c.write_blob.result (λ bytes. bytes ≡ x))
    (sealed_written form_one c.material.result c.args.key.now c.args.version c.args.iv.now c.args.context.now c.args.text.now
    c.in_ok-additional.additional.items c.push_head.new.bytes.items c.encode_into.new.out.items c.deref.result.now
    c.deref_mut.result.now ciphertext c.deref-2.result.now c.seal-tag.result
    c.in_ok-additional.ensures.items c.in_ok-push_head.ensures.written c.in_ok-encode_into.ensures.written c.deref.ensures.value
    (c.deref_mut.ensures.value ∙ c.in_ok-text.ensures.items) c.seal-tag.ensures.ciphertext written c.seal-tag.ensures.tag
    ∙ sealed_one_is c.args.root.now c.args.key.now c.args.version c.args.iv.now c.args.context.now c.args.text.now c.material.result c.material.ensures)
    c.write_blob.ensures.written
