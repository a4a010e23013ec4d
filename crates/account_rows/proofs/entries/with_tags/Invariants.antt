use Rattle.std.proofs.Common.{◌≡◌, ◌+◌, ◌≤◌, drop, min}
use Rattle.account_rows.specs.Sizes.{tags_size}
use Rattle.account_rows.proofs.entries.with_tags.Given as goal

-- what is left to count leads to all
abbrev pub invariant-loop-tag : goal.invariant-loop-tag
invariant-loop-tag l = (min (l.all + tags_size (drop l.tag-index l.tags)) 18446744073709551615 ≡ min (l.bytes + tags_size l.tags) 18446744073709551615) × (l.all ≤ 18446744073709551615)
