-- Which tags may be given to a resource (AWS General Reference, "Tag naming limits and requirements").
use Rattle.std.specs.Prelude.{ℕ, ◌==◌, ◌||◌, ◌&&◌, not, Bool, false, List, [], ◌∷◌}
use Rattle.std.specs.List.{list_any, list_all}
use Rattle.std.specs.Str.{bytes_eq}
use Rattle.resource_tags.specs.declared.tags.Tag.{Tag}

-- a key begins with `aws:` (97, 119, 115, 58) in any case
abbrev pub is_reserved : List ℕ → Bool
is_reserved (a ∷ w ∷ s ∷ colon ∷ rest) = (a == 97 || a == 65) && ((w == 119 || w == 87) && ((s == 115 || s == 83) && colon == 58))
is_reserved _ = false

abbrev pub is_unreserved : Tag → Bool
is_unreserved tag = not (is_reserved tag.key)

abbrev pub has_key : List ℕ → Tag → Bool
has_key key tag = bytes_eq tag.key key

-- a key stands twice
abbrev pub repeats : List Tag → Bool
repeats [] = false
repeats (tag ∷ tags) = list_any (has_key tag.key) tags || repeats tags

-- no key begins with `aws:`, and none stands twice
abbrev pub are_proper : List Tag → Bool
are_proper tags = list_all is_unreserved tags && not (repeats tags)
