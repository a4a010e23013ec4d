use Rattle.std.proofs.Common.{◌≡◌, ◌≤◌, ◌++◌, List, length, take, drop, sym, ap, ◌∙◌, subst, ℕ}
use Rattle.std.specs.Prelude.{IsPermutation}
use Rattle.std.proofs.lemmas.List.{take_at}
use Rattle.enc_context.specs.declared.pairs.Pair.{Pair}
use Rattle.enc_context.specs.declared.encoding.TheConstants.{LIMIT}
use Rattle.enc_context.specs.Encoding.{encoding_of}
use Rattle.enc_context.proofs.PairFacts.{in_one_order, same_from_permutation}
use Rattle.enc_context.proofs.EncodingFacts.{context_from_sort, size_from_permutation}
use Rattle.enc_context.proofs.contexts.Context.from_pairs.Goals as goal

-- what the vector has after the sort of its slice
items : (len : ℕ) (after before : List Pair) → length after ≡ len → take len (after ++ drop (length after) before) ≡ after
items len after before size = take_at after (drop (length after) before) len size

pub returns-clause-context : goal.returns-clause-context
returns-clause-context c =
    let before = c.args.pairs.items in
    let after = c.sort.new.self in
    let size : length after ≡ c.args.pairs.len = c.in_ok-sort.ensures.len ∙ c.as_mut_slice.ensures.len in
    let permuted : IsPermutation before after =
    subst (λ (pairs : List Pair). IsPermutation pairs after) c.as_mut_slice.ensures.value c.in_ok-sort.ensures.permutation in
    let fits : length (encoding_of c.deref.result.now) ≤ LIMIT = (rw c.in_ok-encoded_len.ensures.ok_part at c.size_within_limit.ensures).0 in
    rw (items c.args.pairs.len after before size)
    (context_from_sort before after c.requires permuted c.in_ok-sort.ensures.sorted
    (subst (λ (pairs : List Pair). length (encoding_of pairs) ≤ 8192) c.deref.ensures.value fits))

pub invariant_of-result : goal.invariant_of-result
invariant_of-result c =
    let before = c.args.pairs.items in
    let after = c.sort.new.self in
    let size : length after ≡ c.args.pairs.len = c.in_ok-sort.ensures.len ∙ c.as_mut_slice.ensures.len in
    let permuted : IsPermutation before after =
    subst (λ (pairs : List Pair). IsPermutation pairs after) c.as_mut_slice.ensures.value c.in_ok-sort.ensures.permutation in
    let told = rw c.in_ok-encoded_len.ensures.ok_part at c.size_within_limit.ensures in
    rw (items c.args.pairs.len after before size) (
      context_from_sort before after c.requires permuted c.in_ok-sort.ensures.sorted
          (subst (λ (pairs : List Pair). length (encoding_of pairs) ≤ 8192) c.deref.ensures.value told.0),
      told.1 ∙ ap (λ (pairs : List Pair). length (encoding_of pairs)) c.deref.ensures.value ∙ sym (size_from_permutation before after permuted),
    )

pub returns-clause-kept : goal.returns-clause-kept
returns-clause-kept c in_order =
    let before = c.args.pairs.items in
    let after = c.sort.new.self in
    let size : length after ≡ c.args.pairs.len = c.in_ok-sort.ensures.len ∙ c.as_mut_slice.ensures.len in
    let permuted : IsPermutation before after =
    subst (λ (pairs : List Pair). IsPermutation pairs after) c.as_mut_slice.ensures.value c.in_ok-sort.ensures.permutation in
    let told = rw c.in_ok-encoded_len.ensures.ok_part at c.size_within_limit.ensures in
    let context = context_from_sort before after c.requires permuted c.in_ok-sort.ensures.sorted
    (subst (λ (pairs : List Pair). length (encoding_of pairs) ≤ 8192) c.deref.ensures.value told.0) in
    items c.args.pairs.len after before size ∙ sym (in_one_order before after in_order context.in_order (same_from_permutation before after permuted))
