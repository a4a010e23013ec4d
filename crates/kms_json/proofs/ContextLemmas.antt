-- Members that are texts, as the pairs of a context.
use Rattle.std.proofs.Common.{◌≡◌, ℕ, List, [], ◌∷◌, ◌++◌, length, map, Option, Some, None, String, string_bytes, refl, sym, ap, ap₂, ◌∙◌, subst, append_assoc, arith}
use Rattle.std.specs.Option.{option_map, option_and_then}
use Rattle.std.specs.List.{AllByRecursion}
use Rattle.std.specs.List.Sorted.{IsStrictlySortedBy}
use Rattle.std.specs.Cmp.Lexicographic.{slice_cmp}
use Rattle.std.specs.Ordering.{nat_cmp}
use Rattle.std.specs.declared.alloc.Global.{Global}
use Rattle.std.specs.declared.cmp.Ordering.TheVariants.{Less}
use Rattle.std.proofs.lemmas.Map.Keys.{Less-from_sorted}
use Rattle.std.proofs.lemmas.List.{get_or-map, length-map}
use Rattle.serde_json.specs.Data.{Data, Members, member}
use Rattle.serde_json.specs.Find.{as_str}
use Rattle.serde_json.specs.View.{view, members_view}
use Rattle.serde_json.specs.declared.value.Value.{Value}
use Rattle.enc_context.specs.declared.pairs.Pair.{Pair}
use Rattle.enc_context.specs.Pairs.{IsInOrder}
use Rattle.kms_json.specs.Fields.{pairs_of}

abbrev pub pair : List ℕ → List ℕ → Pair
pair key value = record { key = key; value = value }

moved : (pairs : List Pair) (one : Pair) (rest : Option (List Pair))
    → option_map (λ more. pairs ++ more) (option_map (λ more. one ∷ more) rest) ≡ option_map (λ more. (pairs ++ one ∷ []) ++ more) rest
moved pairs one None = refl
moved pairs one (Some more) = ap Some (sym (append_assoc pairs (one ∷ []) more))

-- one more pair
pub one_more_pair : (pairs : List Pair) (key value : List ℕ) (d : Data) (more : Members) (whole : Option (List Pair))
    → as_str d ≡ Some value → whole ≡ option_map (λ rest. pairs ++ rest) (pairs_of (member key d more))
    → whole ≡ option_map (λ rest. (pairs ++ pair key value ∷ []) ++ rest) (pairs_of more)
one_more_pair pairs key value d more whole is so_far =
    so_far
    ∙ ap (λ (found : Option (List ℕ)). option_map (λ rest. pairs ++ rest) (option_and_then (λ v. option_map (λ ps. pair key v ∷ ps) (pairs_of more)) found)) is
    ∙ moved pairs (pair key value) (pairs_of more)

-- the keys of the pairs are the names of the members
abbrev names_of : List (String Global × Value) → List (List ℕ)
names_of ms = map (λ m. string_bytes m.0) ms

with_more : (name : List ℕ) (names : List (List ℕ)) (rest : Option (List Pair)) (value : List ℕ) (ps : List Pair)
    → ((qs : List Pair) → rest ≡ Some qs → map (λ p. p.key) qs ≡ names)
    → option_map (λ qs. pair name value ∷ qs) rest ≡ Some ps → map (λ p. p.key) ps ≡ name ∷ names
with_more name names None value ps keys e = cc
with_more name names (Some qs) value ps keys e =
    let is : pair name value ∷ qs ≡ ps = cc in
    ap (map (λ (p : Pair). p.key)) (sym is) ∙ ap (λ (rest : List (List ℕ)). name ∷ rest) (keys qs refl)

with_found : (name : List ℕ) (names : List (List ℕ)) (rest : Option (List Pair)) (found : Option (List ℕ)) (ps : List Pair)
    → ((qs : List Pair) → rest ≡ Some qs → map (λ p. p.key) qs ≡ names)
    → option_and_then (λ v. option_map (λ qs. pair name v ∷ qs) rest) found ≡ Some ps → map (λ p. p.key) ps ≡ name ∷ names
with_found name names rest None ps keys e = cc
with_found name names rest (Some value) ps keys e = with_more name names rest value ps keys e

keys_are : (ms : List (String Global × Value)) (ps : List Pair) → pairs_of (members_view ms) ≡ Some ps → map (λ p. p.key) ps ≡ names_of ms
keys_are [] ps e = let is : [] ≡ ps = cc in ap (map (λ (p : Pair). p.key)) (sym is)
keys_are (m ∷ ms) ps e = with_found (string_bytes m.0) (names_of ms) (pairs_of (members_view ms)) (as_str (view m.1)) ps (keys_are ms) e

-- names in order stay so as bytes
all_bytes : (key : List ℕ) (ms : List (String Global × Value))
    → AllByRecursion (λ name. slice_cmp nat_cmp key (string_bytes name) ≡ Less) (map (λ m. m.0) ms)
    → AllByRecursion (λ name. slice_cmp nat_cmp key name ≡ Less) (names_of ms)
all_bytes key [] all = tt
all_bytes key (m ∷ ms) all = (all.0, all_bytes key ms all.1)

names_sorted : (ms : List (String Global × Value))
    → IsStrictlySortedBy (λ a b. slice_cmp nat_cmp (string_bytes a) (string_bytes b)) (map (λ m. m.0) ms)
    → IsStrictlySortedBy (slice_cmp nat_cmp) (names_of ms)
unfolding IsStrictlySortedBy
names_sorted [] sorted = tt
names_sorted (m ∷ ms) sorted = (all_bytes (string_bytes m.0) ms sorted.0, names_sorted ms sorted.1)

-- pairs of members in order are in order
pub pairs_in_order : (ms : List (String Global × Value)) (ps : List Pair)
    → IsStrictlySortedBy (λ a b. slice_cmp nat_cmp (string_bytes a) (string_bytes b)) (map (λ m. m.0) ms)
    → pairs_of (members_view ms) ≡ Some ps → IsInOrder ps
pairs_in_order ms ps sorted is i j d below bound =
    let key : Pair → List ℕ = λ p. p.key in
    let same : map key ps ≡ names_of ms = keys_are ms ps is in
    let size : length (map key ps) ≡ length ps = length-map ps key in
    let keys_sorted : IsStrictlySortedBy (slice_cmp nat_cmp) (map key ps) = subst (IsStrictlySortedBy (slice_cmp nat_cmp)) (sym same) (names_sorted ms sorted) in
    let less = Less-from_sorted (slice_cmp nat_cmp) (map key ps) i j d.key keys_sorted below (omega arith) in
    sym (ap₂ (slice_cmp nat_cmp) (get_or-map key ps i d d.key (omega arith)) (get_or-map key ps j d d.key (omega arith))) ∙ less
