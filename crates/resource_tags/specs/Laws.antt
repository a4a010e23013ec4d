-- What becomes of tags.
use Rattle.std.specs.Prelude.{◌≡◌, ℕ, List, [], ◌∷◌, Option, Some, None, if◌then◌else◌, ◌||◌, Bool, false}
use Rattle.std.specs.Option.{option_or}
use Rattle.std.specs.Ordering.{is_eq}
use Rattle.persist_map.specs.Pairs.{value_at}
use Rattle.resource_tags.specs.declared.tags.Tag.{Tag}
use Rattle.resource_tags.specs.Tags.{Tags, by_bytes, with_tags, without_tags}

-- the value of the last of these that has the key
abbrev pub last_value : List Tag → List ℕ → Option (List ℕ)
last_value [] key = None
last_value (tag ∷ more) key = option_or (last_value more key) (if is_eq (by_bytes tag.key key) then Some tag.value else None)

-- whether the key is one of these
abbrev pub is_among : List (List ℕ) → List ℕ → Bool
is_among [] key = false
is_among (other ∷ keys) key = is_eq (by_bytes key other) || is_among keys key

-- once tags were put, a key has the value of the last of them that has the key, and else the value that it had
abbrev pub PutTagsAreThere : Type 0
PutTagsAreThere = (tags : Tags) (more : List Tag) (key : List ℕ) → value_at by_bytes (with_tags tags more) key ≡ option_or (last_value more key) (value_at by_bytes tags key)

-- once keys were dropped, they have no value, and every other key has the value that it had
abbrev pub DroppedTagsAreGone : Type 0
DroppedTagsAreGone =
    (tags : Tags) (keys : List (List ℕ)) (key : List ℕ)
    → value_at by_bytes (without_tags tags keys) key ≡ (if is_among keys key then None else value_at by_bytes tags key)
