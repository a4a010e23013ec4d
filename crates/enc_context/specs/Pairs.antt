-- The pairs of contexts, as plain lists.
use Rattle.std.specs.Prelude.{◌≡◌, ◌≢◌, ℕ, Bool, ◌&&◌, List, All, AllPairs, Contains}
use Rattle.std.specs.List.{list_any, list_all}
use Rattle.std.specs.Cmp.Lexicographic.{slice_cmp, pointwise}
use Rattle.std.specs.Ordering.{nat_cmp}
use Rattle.std.specs.Str.{bytes_eq}
use Rattle.std.specs.declared.cmp.Ordering.TheVariants.{Less}
use Rattle.enc_context.specs.declared.pairs.Pair.{Pair}

-- the bytes of one key come before those of the other: at the first place where they differ the lower
-- byte decides, and a key comes before those that it begins
abbrev pub ComesBefore : List ℕ → List ℕ → Type 0
ComesBefore a b = slice_cmp nat_cmp a b ≡ Less

-- no two pairs have one key
abbrev pub HasDistinctKeys : List Pair → Type 0
HasDistinctKeys pairs = AllPairs (λ p q. p.key ≢ q.key) pairs

-- each key comes before those of the later pairs, so that no two are one
abbrev pub IsInOrder : List Pair → Type 0
IsInOrder pairs = AllPairs (λ p q. ComesBefore p.key q.key) pairs

-- each of the asked pairs is among the held ones
abbrev pub Includes : List Pair → List Pair → Type 0
Includes held asked = All (Contains held) asked

-- whether two pairs have the same key and the same value
abbrev pub is_same_pair : Pair → Pair → Bool
is_same_pair p q = bytes_eq p.key q.key && bytes_eq p.value q.value

-- whether a pair is among those held
abbrev pub has_pair : List Pair → Pair → Bool
has_pair held pair = list_any (λ p. is_same_pair p pair) held

-- whether each of the asked pairs is among the held ones
abbrev pub includes : List Pair → List Pair → Bool
includes held asked = list_all (has_pair held) asked

-- whether two lists have the same pairs at the same places
abbrev pub same_pairs : List Pair → List Pair → Bool
same_pairs = pointwise is_same_pair
