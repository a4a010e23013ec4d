use Rattle.std.proofs.Common.{◌≡◌, ◌+◌, ◌≤◌, drop, min}
use Rattle.account_rows.specs.Sizes.{texts_size}
use Rattle.account_rows.proofs.entries.with_texts.Given as goal

-- what is left to count leads to all
abbrev pub invariant-loop-text : goal.invariant-loop-text
invariant-loop-text l = (min (l.all + texts_size (drop l.text-index l.texts)) 18446744073709551615 ≡ min (l.bytes + texts_size l.texts) 18446744073709551615) × (l.all ≤ 18446744073709551615)
