-- Places in a JSON value, and the JSON pointers that lead to them (RFC 6901). Texts are bytes in UTF-8.
use Rattle.std.specs.Prelude.{◌≡◌, ◌≢◌, ◌⊎◌, ℕ, ◌==◌, ◌&&◌, List, [], ◌∷◌, ◌++◌, codes, decimal, chars, Some, IfSome, ⊤, if◌then◌else◌}
use Rattle.std.specs.List.{All}
use Rattle.std.specs.Str.{encode_utf8_all}
use Rattle.serde_json.specs.Data.{Data, null, boolean, number, string, array, object, Members, no_members, member}
use Rattle.serde_json.specs.Find.{get_item}
use Rattle.policy_doc.specs.declared.faults.PolicyFault.{PolicyFault}
use Rattle.policy_doc.specs.declared.faults.PolicyFault.TheVariants as fault
use Rattle.policy_doc.specs.declared.policies.PolicyKind.{PolicyKind}
use Rattle.policy_doc.specs.Documents.{first_fault}

-- ---- the syntax of pointers (section 3)

abbrev pub BeginsWithZeroOrOne : List ℕ → Type 0
BeginsWithZeroOrOne [] = ⊥
BeginsWithZeroOrOne (c ∷ text) = (c ≡ 48) ⊎ (c ≡ 49)

-- a reference token has no `/`, and `~` only in front of `0` or `1`
abbrev pub IsToken : List ℕ → Type 0
IsToken [] = ⊤
IsToken (c ∷ token) = (c ≢ 47) × (c ≡ 126 → BeginsWithZeroOrOne token) × IsToken token

-- a pointer is a `/` in front of each of its tokens
abbrev pub pointer_of : List (List ℕ) → List ℕ
pointer_of [] = []
pointer_of (token ∷ tokens) = codes "/" ++ (token ++ pointer_of tokens)

-- ---- what pointers lead to (section 4)

-- `~` and this digit are replaced by the character, wherever they stand
unfoldable pub replaced : ℕ → ℕ → List ℕ → List ℕ
replaced digit character [] = []
replaced digit character (c ∷ []) = c ∷ []
replaced digit character (c ∷ e ∷ text) = if c == 126 && e == digit then character ∷ replaced digit character text else c ∷ replaced digit character (e ∷ text)

-- a token is decoded: `~1` is replaced by `/` first, and then `~0` by `~`
unfoldable pub decoded : List ℕ → List ℕ
decoded token = replaced 48 126 (replaced 49 47 token)

-- a member of the object has this name and this value
abbrev pub HasMember : List ℕ → Data → Members → Type 0
HasMember name d no_members = ⊥
HasMember name d (member other e ms) = ((name ≡ other) × (d ≡ e)) ⊎ HasMember name d ms

-- what a token refers to: in an object the member whose name has the characters of the decoded token, so that a name
-- in UTF-8 is the decoded token; in an array the item whose index, counted from 0, the token is in decimal; and in
-- another value nothing
abbrev pub RefersTo : List ℕ → Data → Data → Type 0
RefersTo token null next = ⊥
RefersTo token (boolean b) next = ⊥
RefersTo token (number n) next = ⊥
RefersTo token (string s) next = ⊥
RefersTo token (array ds) next = (index : ℕ) × (token ≡ decimal index) × (get_item index ds ≡ Some next)
RefersTo token (object ms) next = (name : List ℕ) × (decoded token ≡ encode_utf8_all (chars name)) × HasMember name next ms

-- from the root, the first token leads to what it refers to there, and the others lead on from that
abbrev pub LeadsTo : List (List ℕ) → Data → Data → Type 0
LeadsTo [] root place = root ≡ place
LeadsTo (token ∷ tokens) root place = (next : Data) × RefersTo token root next × LeadsTo tokens next place

-- the pointer leads to this value, which stands in the root
abbrev pub PointsTo : List ℕ → Data → Data → Type 0
PointsTo path root place = (tokens : List (List ℕ)) × All IsToken tokens × (path ≡ pointer_of tokens) × LeadsTo tokens root place

-- ---- the places of faults

-- the pointer leads to a value that stands in the root
abbrev pub HasPlace : List ℕ → Data → Type 0
HasPlace path root = (place : Data) × PointsTo path root place

-- the pointer without its last token leads to an object in the root, which has no member of the last token's name
abbrev pub LacksMember : List ℕ → Data → Type 0
LacksMember path root =
    (front : List ℕ) × (token : List ℕ) × (ms : Members) × IsToken token
    × (path ≡ front ++ (codes "/" ++ token)) × PointsTo front root (object ms) × ((d : Data) → ¬ (HasMember (decoded token) d ms))

-- `Unsupported` is at a value in the root, and `BadShape` at a value or at a member that an object lacks; the other
-- faults are at no place
abbrev pub IsAtPlace : Data → PolicyFault → Type 0
IsAtPlace root fault.TooLong = ⊥
IsAtPlace root fault.NotJson = ⊥
IsAtPlace root (fault.BadShape path) = HasPlace path root ⊎ LacksMember path root
IsAtPlace root (fault.Unsupported path) = HasPlace path root
IsAtPlace root fault.NoMemory = ⊥

-- each first fault of a value is at a place of it, to which the fault's pointer leads
abbrev pub FirstFaultHasPlace : Type 0
FirstFaultHasPlace = (kind : PolicyKind) (root : Data) → IfSome (first_fault kind root) (IsAtPlace root)
