-- A map as the list of its pairs, each a key and its value, in ascending order of the keys.
use Rattle.std.specs.Prelude.{◌≡◌, List, ◌∷◌, ◌++◌, Bool, not, Option, find, filter, AllPairs}
use Rattle.std.specs.Option.{option_map}
use Rattle.std.specs.declared.cmp.Ordering.{Ordering}
use Rattle.std.specs.declared.cmp.Ordering.TheVariants.{Less}
use Rattle.std.specs.Ordering.{is_lt, is_eq, is_gt}

module _ {K V : Type 0} (cmp : K → K → Ordering) where
  -- each key is below those behind it, so no key stands twice
  abbrev pub Ascends : List (K × V) → Type 0
  Ascends pairs = AllPairs (λ pair later. cmp pair.0 later.0 ≡ Less) pairs

  abbrev pub is_below : K → K × V → Bool
  is_below key pair = is_lt (cmp pair.0 key)

  abbrev pub is_above : K → K × V → Bool
  is_above key pair = is_gt (cmp pair.0 key)

  abbrev pub has_key : K → K × V → Bool
  has_key key pair = is_eq (cmp pair.0 key)

  -- the value of the pair with that key
  abbrev pub value_at : List (K × V) → K → Option V
  value_at pairs key = option_map (λ pair. pair.1) (find (has_key key) pairs)

  -- the pairs of the smaller keys, the pair, and the pairs of the greater keys
  abbrev pub with_pair : List (K × V) → K → V → List (K × V)
  with_pair pairs key value = filter (is_below key) pairs ++ (key, value) ∷ filter (is_above key) pairs

  -- the pairs of the other keys
  abbrev pub without_key : List (K × V) → K → List (K × V)
  without_key pairs key = filter (λ pair. not (has_key key pair)) pairs

  -- the pairs of the keys that aren't below the key
  abbrev pub pairs_from : List (K × V) → K → List (K × V)
  pairs_from pairs key = filter (λ pair. not (is_below key pair)) pairs

  -- the pairs of the keys that are above the key
  abbrev pub pairs_above : List (K × V) → K → List (K × V)
  pairs_above pairs key = filter (is_above key) pairs
