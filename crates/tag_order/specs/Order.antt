-- Tags in the order of their keys (AWS KMS API Reference, "Tag").
use Rattle.std.specs.Prelude.{ℕ, ◌&&◌, Bool, true, List, [], ◌∷◌, map}
use Rattle.std.specs.Ordering.{is_lt}
use Rattle.resource_tags.specs.declared.tags.Tag.{Tag}
use Rattle.resource_tags.specs.Tags.{by_bytes, with_tags}

abbrev pub tag_of : List ℕ × List ℕ → Tag
tag_of pair = record { key = pair.0; value = pair.1 }

-- the tags in ascending byte order of their keys, of those of one key the last
abbrev pub in_order : List Tag → List Tag
in_order tags = map tag_of (with_tags [] tags)

-- the key is below that of the first of these tags
abbrev pub is_below_first : List ℕ → List Tag → Bool
is_below_first key [] = true
is_below_first key (tag ∷ tags) = is_lt (by_bytes key tag.key)

-- each key is below the next one, so no key stands twice
abbrev pub are_in_order : List Tag → Bool
are_in_order [] = true
are_in_order (tag ∷ tags) = is_below_first tag.key tags && are_in_order tags
