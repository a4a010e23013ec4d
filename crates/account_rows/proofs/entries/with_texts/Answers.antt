use Rattle.std.proofs.Common.{◌≤◌, List, ℕ, length, arith, subst}
use Rattle.std.proofs.lemmas.List.{at_drop_all}
use Rattle.account_rows.specs.Sizes.{texts_size}
use Rattle.account_rows.proofs.entries.with_texts.Goals as goal

pub returns : goal.returns
returns c =
    let at = c.loop-text.text-index in
    let past = subst (λ (l : List (List ℕ)). length l ≤ at) c.as_slice-text-items.ensures c.loop-text-test.false in
    omega (arith, at_drop_all texts_size c.args.texts.now at past, c.loop-text.invariant.0, c.loop-text.invariant.1)
