-- The tags of a resource (AWS KMS API Reference, "Tag"): pairs of a key and a value, in ascending byte order of the keys, each key once.
use Rattle.std.specs.Prelude.{ℕ, List, [], ◌∷◌, Option, find}
use Rattle.std.specs.Cmp.Lexicographic.{slice_cmp}
use Rattle.std.specs.Ordering.{nat_cmp, is_gt}
use Rattle.std.specs.declared.cmp.Ordering.{Ordering}
use Rattle.persist_map.specs.Pairs.{with_pair, without_key}
use Rattle.resource_tags.specs.declared.tags.Tag.{Tag}

abbrev pub Tags : Type 0
Tags = List (List ℕ × List ℕ)

-- the order of keys, by their bytes
abbrev pub by_bytes : List ℕ → List ℕ → Ordering
by_bytes key other = slice_cmp nat_cmp key other

-- the tags once these were put, one after the other, each in place of the tag of its key, if there was one
abbrev pub with_tags : Tags → List Tag → Tags
with_tags tags [] = tags
with_tags tags (tag ∷ more) = with_tags (with_pair by_bytes tags tag.key tag.value) more

-- the tags of other keys than these
abbrev pub without_tags : Tags → List (List ℕ) → Tags
without_tags tags [] = tags
without_tags tags (key ∷ keys) = without_tags (without_key by_bytes tags key) keys

-- the first tag whose key is above the key
abbrev pub tag_after : Tags → List ℕ → Option (List ℕ × List ℕ)
tag_after tags key = find (λ tag. is_gt (by_bytes tag.0 key)) tags
