use Rattle.std.proofs.Common.{◌≡◌, ◌++◌, map, take}
use Rattle.authority.specs.Facts.{request_tag}
use Rattle.authority.proofs.tags.put_request_tags.Given as goal

abbrev pub invariant-loop-tag : goal.invariant-loop-tag
invariant-loop-tag l = l.facts.items ≡ l.fn.facts.items ++ map request_tag (take l.tag-index l.tags)
