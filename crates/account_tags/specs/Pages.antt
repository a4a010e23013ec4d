-- Parts of the list of a key's tags (AWS KMS API Reference, ListResourceTags, the members Limit, Marker, NextMarker and
-- Truncated).
use Rattle.std.specs.Prelude.{◌≡◌, ◌↔◌, ℕ, ◌≤◌, List, ◌++◌, length, take, map, filter, nat_lt, if◌then◌else◌, Bool, true, Option, Some, None, option_map, Result, Ok, Err}
use Rattle.std.specs.Char.{is_ascii_uppercase}
use Rattle.std.specs.List.{last_or, list_any}
use Rattle.std.specs.Ordering.{is_gt}
use Rattle.std.specs.Result.{result_ok}
use Rattle.hex.specs.Hex.{IsBytes, encode_lower, decode_of}
use Rattle.persist_map.specs.Pairs.{Ascends}
use Rattle.resource_tags.specs.Tags.{Tags, by_bytes}
use Rattle.resource_tags.specs.declared.tags.Tag.{Tag}
use Rattle.kms_json.specs.declared.refusals.Refusal.{Refusal}
use Rattle.kms_json.specs.declared.refusals.Refusal.TheVariants as refusal
use Rattle.kms_json.specs.declared.replies.lists.TagPage.{TagPage}

-- ---- the marker

-- the bytes that lower-case hexadecimal digits write, two a byte
unfoldable pub written : List ℕ → Option (List ℕ)
written text = if list_any is_ascii_uppercase text then None else result_ok (decode_of text)

abbrev pub behind_key : Option (List ℕ) → Result (Option (List ℕ)) Refusal
behind_key None = Err refusal.InvalidMarker
behind_key (Some key) = Ok (Some key)

-- the bytes behind which the keys of the part come, where a marker is given
abbrev pub behind_marker : Option (List ℕ) → Result (Option (List ℕ)) Refusal
behind_marker None = Ok None
behind_marker (Some text) = behind_key (written text)

-- the marker behind a tag: its key in lower-case hexadecimal digits
abbrev pub marker_of : Tag → List ℕ
marker_of tag = encode_lower tag.key

-- ---- the part

abbrev pub tag_of : List ℕ × List ℕ → Tag
tag_of pair = record { key = pair.0; value = pair.1 }

-- a key is above these bytes in byte order, or none are given
abbrev pub is_behind : Option (List ℕ) → List ℕ → Bool
is_behind None key = true
is_behind (Some bytes) key = is_gt (by_bytes key bytes)

-- the tags of such keys
abbrev pub tags_behind : Option (List ℕ) → Tags → List Tag
tags_behind after tags = map tag_of (filter (λ pair. is_behind after pair.0) tags)

-- the marker of the next part, where more tags remain
abbrev pub next_of : ℕ → List Tag → Option (List ℕ)
next_of limit tags = if nat_lt limit (length tags) then option_map marker_of (last_or None (take limit tags)) else None

-- at most so many of these, and the marker of the next part
abbrev pub first_of : ℕ → List Tag → TagPage
first_of limit tags = record { tags = take limit tags; next = next_of limit tags }

-- at most so many of the tags whose keys are above these bytes
abbrev pub part_of : Tags → ℕ → Option (List ℕ) → TagPage
part_of tags limit after = first_of limit (tags_behind after tags)

-- ---- the law of parts

-- the parts of a key's tags one after another, each behind the last key of the one before it, which that one's marker
-- gives, and all of their tags
pub data PartsFrom (tags : Tags) (limit : ℕ) : Option (List ℕ) → List Tag → Type 0 where
  last_part : {after : Option (List ℕ)} → (part_of tags limit after).next ≡ None → PartsFrom tags limit after (part_of tags limit after).tags
  one_more : {after : Option (List ℕ)} {rest : List Tag} (last : Tag) → last_or None (part_of tags limit after).tags ≡ Some last → (part_of tags limit after).next ≡ Some (marker_of last)
      → PartsFrom tags limit (Some last.key) rest → PartsFrom tags limit after ((part_of tags limit after).tags ++ rest)

-- parts that follow one another's markers come to an end and, joined, are exactly the tags behind the bytes where they
-- begin
abbrev pub PartsOfTagsMakeTheWhole : Type 0
PartsOfTagsMakeTheWhole =
    (tags : Tags) → Ascends by_bytes tags → (limit : ℕ) → 1 ≤ limit → (after : Option (List ℕ)) (joined : List Tag)
    → PartsFrom tags limit after joined ↔ (joined ≡ tags_behind after tags)

-- a marker gives the key that it was made of
abbrev pub MarkersReadBack : Type 0
MarkersReadBack = (tag : Tag) → IsBytes tag.key → behind_marker (Some (marker_of tag)) ≡ Ok (Some tag.key)
