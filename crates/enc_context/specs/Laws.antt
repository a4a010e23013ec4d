-- Laws of contexts.
use Rattle.std.specs.Prelude.{◌≡◌, ◌↔◌, List, Contains}
use Rattle.enc_context.specs.declared.pairs.Pair.{Pair}
use Rattle.enc_context.specs.Encoding.{encoding_of, IsContext}
use Rattle.enc_context.specs.Pairs.{IsInOrder}

-- two lists have the same pairs, in whatever order: as maps from keys to values they are equal
abbrev pub HaveSamePairs : List Pair → List Pair → Type 0
HaveSamePairs a b = (pair : Pair) → Contains a pair ↔ Contains b pair

-- contexts with the same pairs have the same encoding, and no others have
abbrev pub EncodingsTellContexts : Type 0
EncodingsTellContexts =
    (a b : List Pair) → IsContext a → IsContext b → (encoding_of a ≡ encoding_of b) ↔ HaveSamePairs a b

-- lists of the same pairs that are in order are one list
abbrev pub OneOrder : Type 0
OneOrder = (a b : List Pair) → IsInOrder a → IsInOrder b → HaveSamePairs a b → a ≡ b
