use Rattle.std.proofs.Common.{◌≡◌, ◌++◌}
use Rattle.account_tags.specs.Pages.{tags_behind}
use Rattle.account_tags.proofs.pages.tags_behind.Given as goal

-- what is found, and what is behind of the tags that are left, make all that is behind
abbrev pub invariant-loop-key : goal.invariant-loop-key
invariant-loop-key l =
    (goal.iterator-loop-key).can_next l.key-iterator × (goal.iterator-loop-key).is_finite l.key-iterator
    × (l.found.items ++ tags_behind l.after l.key-iterator ≡ tags_behind l.after l.tags)
