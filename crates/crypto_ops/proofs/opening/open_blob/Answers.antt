use Rattle.std.proofs.Common.{◌≡◌, ◌≤◌, List, ℕ, Bool, length, take, drop, Some, None, sym, ap, ◌∙◌, if◌then◌else◌, length-take, arith}
use Rattle.std.proofs.lemmas.List.{take_at, length-take-le}
use Rattle.blob_format.specs.Blob.{head_size}
use Rattle.blob_format.specs.Reading.{form_of}
use Rattle.gcm_seal.specs.Gcm.{open_of}
use Rattle.crypto_ops.specs.Sealed.{additional_data, opened}
use Rattle.crypto_ops.proofs.OpeningFacts.{opened_read, opened_nothing, head_within}
use Rattle.crypto_ops.proofs.opening.open_blob.Goals as goal

pub returns-then-not-has_commitment-clause-bad_blob : goal.returns-then-not-has_commitment-clause-bad_blob
returns-then-not-has_commitment-clause-bad_blob c same =
    opened_nothing c.args.root.now c.args.bytes.now c.args.blob.now c.args.context.now c.data_key-key.result c.has_commitment.result c.requires
    c.data_key-key.ensures c.has_commitment.ensures c.if-not-has_commitment.true

pub slice_bounds-additional_data-end : goal.slice_bounds-additional_data-end
slice_bounds-additional_data-end c =
    let within = head_within c.args.bytes.now c.args.blob.now c.requires in
    let fits : c.head_size.result ≤ length c.args.bytes.now = omega (arith, within.0, c.head_size.ensures) in
    sym (length-take-le c.head_size.result c.args.bytes.now fits)

pub additional_data-requires : goal.additional_data-requires
additional_data-requires c =
    let within = head_within c.args.bytes.now c.args.blob.now c.requires in
    omega (arith, within.1, c.head_size.ensures, length-take {A = ℕ})

pub returns-then-open-clause-opened : goal.returns-then-open-clause-opened
returns-then-open-clause-opened c =
    let text = c.open.new.text in
    let additional : c.deref.result.now ≡ additional_data (take (head_size (form_of c.args.blob.now)) c.args.bytes.now) c.args.context.now =
    c.deref.ensures.value ∙ c.in_ok-additional.ensures.written
    ∙ ap (λ (n : ℕ). additional_data (take n c.args.bytes.now) c.args.context.now) c.head_size.ensures in
    let answer : opened c.args.root.now c.args.bytes.now c.args.context.now ≡ Some text =
    opened_read c.args.root.now c.args.bytes.now c.args.blob.now c.args.context.now c.data_key-key.result c.deref.result.now
    c.deref_mut.result.now c.has_commitment.result c.requires c.data_key-key.ensures c.has_commitment.ensures additional
    (c.deref_mut.ensures.value ∙ c.in_ok-text.ensures.items)
    ∙ ap (λ (b : Bool). if b then open_of c.data_key-key.result c.args.blob.now.iv c.deref.result.now c.deref_mut.result.now c.args.blob.now.tag else None) c.if-not-has_commitment.false
    ∙ c.if-open.ensures.answer in
    let size : length text ≡ c.in_ok-text.text.len = c.open.auto.text ∙ c.deref_mut.ensures.len in
    let whole : c.new.result ≡ text =
    c.new.ensures ∙ take_at text (drop (length text) c.in_ok-text.text.items) c.in_ok-text.text.len size in
    answer ∙ ap (λ (bytes : List ℕ). Some bytes) (sym whole)

pub returns-clause-bad_blob : goal.returns-clause-bad_blob
returns-clause-bad_blob c same =
    let additional : c.deref.result.now ≡ additional_data (take (head_size (form_of c.args.blob.now)) c.args.bytes.now) c.args.context.now =
    c.deref.ensures.value ∙ c.in_ok-additional.ensures.written
    ∙ ap (λ (n : ℕ). additional_data (take n c.args.bytes.now) c.args.context.now) c.head_size.ensures in
    opened_read c.args.root.now c.args.bytes.now c.args.blob.now c.args.context.now c.data_key-key.result c.deref.result.now
    c.deref_mut.result.now c.has_commitment.result c.requires c.data_key-key.ensures c.has_commitment.ensures additional
    (c.deref_mut.ensures.value ∙ c.in_ok-text.ensures.items)
    ∙ ap (λ (b : Bool). if b then open_of c.data_key-key.result c.args.blob.now.iv c.deref.result.now c.deref_mut.result.now c.args.blob.now.tag else None) c.if-not-has_commitment.false
    ∙ c.if-open.ensures.answer
