use Rattle.std.proofs.Common.{◌≤◌, List, length, arith, subst}
use Rattle.std.proofs.lemmas.List.{at_drop_all}
use Rattle.resource_tags.specs.declared.tags.Tag.{Tag}
use Rattle.account_rows.specs.Sizes.{tags_size}
use Rattle.account_rows.proofs.entries.with_tags.Goals as goal

pub returns : goal.returns
returns c =
    let at = c.loop-tag.tag-index in
    let past = subst (λ (l : List Tag). length l ≤ at) c.as_slice-tag-items.ensures c.loop-tag-test.false in
    omega (arith, at_drop_all tags_size c.args.tags.now at past, c.loop-tag.invariant.0, c.loop-tag.invariant.1)
