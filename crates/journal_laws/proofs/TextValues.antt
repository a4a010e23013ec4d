-- The strings and names of a JSON value are UTF-8, where its text is, and the members of its objects ascend in byte order of their names.
use Rattle.std.proofs.Common.{◌≡◌, ℕ, zero, suc, ◌<◌, ◌^◌, ◌&&◌, nat_lt, nat_le, Bool, true, false, if◌then◌else◌, List, [], ◌∷◌, length, drop, slice_index, Option, Some, None, IsUtf8, refl, ap, ◌∙◌, subst}
use Rattle.std.specs.Prelude.{⊤, ℤ, ◌==◌}
use Rattle.std.specs.Float.{binary64, float_is_finite}
use Rattle.std.specs.Option.{option_map, option_and_then}
use Rattle.std.specs.Cmp.Lexicographic.{slice_cmp}
use Rattle.std.specs.Ordering.{nat_cmp, match_ordering, ordering_reverse}
use Rattle.std.specs.declared.cmp.Ordering.{Ordering}
use Rattle.std.specs.declared.cmp.Ordering.TheVariants.{Less, Equal, Greater}
use Rattle.std.proofs.lemmas.Bool.{ltb-true}
use Rattle.std.proofs.lemmas.Cmp.{nat_list_cmp_total}
use Rattle.fast_float.specs.Text.{minus, Parts, scan, digits_of, nearest, with_sign}
use Rattle.json.specs.Token.{Token, begin_object, end_object, begin_array, end_array, key, string, number, boolean, null, bad}
use Rattle.json.specs.Lex.{tokens}
use Rattle.json.specs.Json as json
use Rattle.json.specs.Json.{Json, Parse, parse_map, after_end_array, read_key, items_step, members_step, items, members, value_with, value, if_last}
use Rattle.serde_json.specs.Data as datum
use Rattle.serde_json.specs.Data.{Num, unsigned, negative, float, Data, Items, no_items, item, Members, no_members, member, put}
use Rattle.serde_json.specs.Find.{get, get_member}
use Rattle.serde_json.specs.Read.{is_integer, number_from, number_of, float_of, of_json, of_items, of_members, read as read_text, max_depth}
use Rattle.journal_laws.proofs.TextBytes.{AreTexts, tokens_are_texts}

-- ---- what tokens make

abbrev mutual
  HasTexts : Json → Type 0
  HasTexts json.null = ⊤
  HasTexts (json.boolean b) = ⊤
  HasTexts (json.number s) = ⊤
  HasTexts (json.string s) = IsUtf8 s
  HasTexts (json.array js) = ItemsHaveTexts js
  HasTexts (json.object ms) = MembersHaveTexts ms

  ItemsHaveTexts : json.Items → Type 0
  ItemsHaveTexts json.no_items = ⊤
  ItemsHaveTexts (json.item j js) = HasTexts j × ItemsHaveTexts js

  MembersHaveTexts : json.Members → Type 0
  MembersHaveTexts json.no_members = ⊤
  MembersHaveTexts (json.member k j ms) = IsUtf8 k × HasTexts j × MembersHaveTexts ms

abbrev Gives : {A : Type 0} → (A → Type 0) → Option (A × List Token) → Type 0
Gives Q None = ⊤
Gives Q (Some p) = Q p.0 × AreTexts p.1

abbrev Keeps : {A : Type 0} → (A → Type 0) → Parse A → Type 0
Keeps Q p = (ts : List Token) → AreTexts ts → Gives Q (p ts)

mapped : {A B : Type 0} (P : A → Type 0) (Q : B → Type 0) (f : A → B) → ((a : A) → P a → Q (f a)) → (o : Option (A × List Token)) → Gives P o → Gives Q (parse_map f o)
mapped P Q f g None h = tt
mapped P Q f g (Some p) h = (g p.0 h.0, h.1)

and_more : {B : Type 0} (Q : B → Type 0) (f : Json → B → B) → ((j : Json) (b : B) → HasTexts j → Q b → Q (f j b)) → (more : Parse B) → Keeps Q more
    → (o : Option (Json × List Token)) → Gives HasTexts o → Gives Q (option_and_then (λ q. parse_map (f q.0) (more q.1)) o)
and_more Q f g more keeps None h = tt
and_more Q f g more keeps (Some q) h = mapped Q Q (f q.0) (λ b. g q.0 b h.0) _ (keeps q.1 h.1)

abbrev Rest : Option (List Token) → Type 0
Rest None = ⊤
Rest (Some r) = AreTexts r

closing : (ts : List Token) → AreTexts ts → Rest (after_end_array ts)
closing [] h = tt
closing (begin_object ∷ ts) h = tt
closing (end_object ∷ ts) h = tt
closing (begin_array ∷ ts) h = tt
closing (end_array ∷ ts) h = h.1
closing (key s ∷ ts) h = tt
closing (string s ∷ ts) h = tt
closing (number s ∷ ts) h = tt
closing (boolean v ∷ ts) h = tt
closing (null ∷ ts) h = tt
closing (bad ∷ ts) h = tt

abbrev IsKey : Option (List ℕ) → Type 0
IsKey None = ⊤
IsKey (Some k) = IsUtf8 k

naming : Keeps IsKey read_key
naming [] h = tt
naming (begin_object ∷ ts) h = tt
naming (end_object ∷ ts) h = (tt, h.1)
naming (begin_array ∷ ts) h = tt
naming (end_array ∷ ts) h = tt
naming (key s ∷ ts) h = (h.0, h.1)
naming (string s ∷ ts) h = tt
naming (number s ∷ ts) h = tt
naming (boolean v ∷ ts) h = tt
naming (null ∷ ts) h = tt
naming (bad ∷ ts) h = tt

module _ (p : Parse Json) (keeps : Keeps HasTexts p) where
  item_turn : (more : Parse json.Items) → Keeps ItemsHaveTexts more → (ts : List Token) → AreTexts ts → (o : Option (List Token)) → Rest o → Gives ItemsHaveTexts (items_step p more ts o)
  item_turn more again ts h (Some r) q = (tt, q)
  item_turn more again ts h None q = and_more ItemsHaveTexts json.item (λ j b x y. (x, y)) more again (p ts) (keeps ts h)

  keeps_items : (n : ℕ) → Keeps ItemsHaveTexts (items p n)
  unfolding items
  keeps_items zero ts h = tt
  keeps_items (suc n) ts h = item_turn (items p n) (keeps_items n) ts h (after_end_array ts) (closing ts h)

  member_turn : (more : Parse json.Members) → Keeps MembersHaveTexts more → (o : Option (Option (List ℕ) × List Token)) → Gives IsKey o
      → Gives MembersHaveTexts (option_and_then (λ q. members_step p more q.0 q.1) o)
  member_turn more again None h = tt
  member_turn more again (Some (None, s)) h = (tt, h.1)
  member_turn more again (Some (Some k, s)) h = and_more MembersHaveTexts (json.member k) (λ j b x y. (h.0, x, y)) more again (p s) (keeps s h.1)

  keeps_members : (n : ℕ) → Keeps MembersHaveTexts (members p n)
  unfolding members
  keeps_members zero ts h = tt
  keeps_members (suc n) ts h = member_turn (members p n) (keeps_members n) (read_key ts) (naming ts h)

keeps_value_with : (a : Parse json.Items) (o : Parse json.Members) → Keeps ItemsHaveTexts a → Keeps MembersHaveTexts o → Keeps HasTexts (value_with a o)
keeps_value_with a o p q [] h = tt
keeps_value_with a o p q (begin_object ∷ ts) h = mapped MembersHaveTexts HasTexts json.object (λ m x. x) _ (q ts h.1)
keeps_value_with a o p q (end_object ∷ ts) h = tt
keeps_value_with a o p q (begin_array ∷ ts) h = mapped ItemsHaveTexts HasTexts json.array (λ m x. x) _ (p ts h.1)
keeps_value_with a o p q (end_array ∷ ts) h = tt
keeps_value_with a o p q (key s ∷ ts) h = tt
keeps_value_with a o p q (string s ∷ ts) h = h
keeps_value_with a o p q (number s ∷ ts) h = (tt, h.1)
keeps_value_with a o p q (boolean v ∷ ts) h = (tt, h.1)
keeps_value_with a o p q (null ∷ ts) h = (tt, h.1)
keeps_value_with a o p q (bad ∷ ts) h = tt

keeps_value : (depth : ℕ) → Keeps HasTexts (value depth)
unfolding value
keeps_value zero = keeps_value_with (λ ts. None) (λ ts. None) (λ ts h. tt) (λ ts h. tt)
keeps_value (suc d) =
    keeps_value_with (λ ts. items (value d) (length ts) ts) (λ ts. members (value d) (length ts) ts)
    (λ ts. keeps_items (value d) (keeps_value d) (length ts) ts) (λ ts. keeps_members (value d) (keeps_value d) (length ts) ts)

abbrev IfFound : Option Json → Type 0
IfFound None = ⊤
IfFound (Some j) = HasTexts j

last : (o : Option (Json × List Token)) → Gives HasTexts o → IfFound (option_and_then (λ p. if_last p.0 p.1) o)
last None h = tt
last (Some (j, [])) h = h.0
last (Some (j, t ∷ ts)) h = tt

-- ---- what values are made of those

-- the name comes before those of the members
abbrev pub IsBelow : List ℕ → Members → Type 0
IsBelow own no_members = ⊤
IsBelow own (member name d ms) = (slice_cmp nat_cmp own name ≡ Less) × IsBelow own ms

-- a number without a sign has 64 bits
abbrev pub IsNumber : Num → Type 0
IsNumber (unsigned n) = n < 2 ^ 64
IsNumber (negative z) = ⊤
IsNumber (float x) = ⊤

abbrev mutual
  pub IsWell : Data → Type 0
  IsWell datum.null = ⊤
  IsWell (datum.boolean b) = ⊤
  IsWell (datum.number n) = IsNumber n
  IsWell (datum.string s) = IsUtf8 s
  IsWell (datum.array ds) = AreWell ds
  IsWell (datum.object ms) = AreMembersWell ms

  pub AreWell : Items → Type 0
  AreWell no_items = ⊤
  AreWell (item d ds) = IsWell d × AreWell ds

  pub AreMembersWell : Members → Type 0
  AreMembersWell no_members = ⊤
  AreMembersWell (member name d ms) = IsUtf8 name × IsWell d × IsBelow name ms × AreMembersWell ms

below_all : (own name : List ℕ) (ms : Members) → slice_cmp nat_cmp own name ≡ Less → IsBelow name ms → IsBelow own ms
below_all own name no_members before below = tt
below_all own name (member next d ms) before below = (nat_list_cmp_total.trans own name next before below.0, below_all own name ms before below.1)

turned : (own name : List ℕ) → slice_cmp nat_cmp own name ≡ Greater → slice_cmp nat_cmp name own ≡ Less
turned own name above = nat_list_cmp_total.antisymm name own ∙ ap ordering_reverse above

module _ (k : List ℕ) (d : Data) where
  below_step : (l name : List ℕ) (e : Data) (ms : Members) → slice_cmp nat_cmp l k ≡ Less → IsBelow l (member name e ms) → IsBelow l (put k d ms) → (o : Ordering)
      → IsBelow l (match_ordering o (member k d (member name e ms)) (member name d ms) (member name e (put k d ms)))
  below_step l name e ms before below later Less = (before, below)
  below_step l name e ms before below later Equal = below
  below_step l name e ms before below later Greater = (below.0, later)

  put_below : (l : List ℕ) (ms : Members) → slice_cmp nat_cmp l k ≡ Less → IsBelow l ms → IsBelow l (put k d ms)
  put_below l no_members before below = (before, tt)
  put_below l (member name e ms) before below = below_step l name e ms before below (put_below l ms before below.1) (slice_cmp nat_cmp k name)

  put_step : (name : List ℕ) (e : Data) (ms : Members) → IsUtf8 k → IsWell d → AreMembersWell (member name e ms) → AreMembersWell (put k d ms) → (o : Ordering) → slice_cmp nat_cmp k name ≡ o
      → AreMembersWell (match_ordering o (member k d (member name e ms)) (member name d ms) (member name e (put k d ms)))
  put_step name e ms text well all later Less is = (text, well, (is, below_all k name ms is all.2), all)
  put_step name e ms text well all later Equal is = (all.0, well, all.2, all.3)
  put_step name e ms text well all later Greater is = (all.0, all.1, put_below name ms (turned k name is) all.2, later)

  put_well : (ms : Members) → IsUtf8 k → IsWell d → AreMembersWell ms → AreMembersWell (put k d ms)
  put_well no_members text well all = (text, well, tt, tt)
  put_well (member name e ms) text well all = put_step name e ms text well all (put_well ms text well all.3) (slice_cmp nat_cmp k name) refl

abbrev IfWell : Option Data → Type 0
IfWell None = ⊤
IfWell (Some d) = IsWell d

abbrev IfAreWell : Option Items → Type 0
IfAreWell None = ⊤
IfAreWell (Some ds) = AreWell ds

abbrev IfMembersWell : Option Members → Type 0
IfMembersWell None = ⊤
IfMembersWell (Some ms) = AreMembersWell ms

abbrev IfNumber : Option Num → Type 0
IfNumber None = ⊤
IfNumber (Some n) = IsNumber n

of_number : (o : Option Num) → IfNumber o → IfWell (option_map datum.number o)
of_number None h = tt
of_number (Some n) h = h

float_well : (sign : Bool) (p : Parts) → IfNumber (float_of sign p)
float_well sign p = by_test (float_is_finite (nearest binary64 sign p))
  where
    by_test : (b : Bool) → IfNumber (if b then Some (float (nearest binary64 sign p)) else None)
    by_test true = tt
    by_test false = tt

without_sign : (a b : Bool) (n : ℕ) (o : Option Num) → nat_lt n (2 ^ 64) ≡ b → IfNumber o → IfNumber (if a && b then Some (unsigned n) else o)
without_sign true true n o is h = ltb-true n (2 ^ 64) is
without_sign true false n o is h = h
without_sign false b n o is h = h

signed : (b : Bool) (z : ℤ) (o : Option Num) → IfNumber o → IfNumber (if b then Some (negative z) else o)
signed true z o h = tt
signed false z o h = h

from_well : (sign : Bool) (p : Parts) → IfNumber (number_from sign p)
from_well false p = without_sign (is_integer p) (nat_lt (digits_of p) (2 ^ 64)) (digits_of p) (float_of false p) refl (float_well false p)
from_well true p = signed (is_integer p && nat_lt 0 (digits_of p) && nat_le (digits_of p) (2 ^ 63)) (with_sign true (digits_of p)) (float_of true p) (float_well true p)

number_well : (s : List ℕ) → IfNumber (number_of s)
unfolding number_of
number_well s = by_sign (slice_index s 0 == minus)
  where
    by_sign : (b : Bool) → IfNumber (if b then number_from true (scan (drop 1 s)) else number_from false (scan s))
    by_sign true = from_well true (scan (drop 1 s))
    by_sign false = from_well false (scan s)

of_array : (o : Option Items) → IfAreWell o → IfWell (option_map datum.array o)
of_array None h = tt
of_array (Some ds) h = h

of_object : (o : Option Members) → IfMembersWell o → IfWell (option_map datum.object o)
of_object None h = tt
of_object (Some ms) h = h

with_item : (d : Data) (o : Option Items) → IsWell d → IfAreWell o → IfAreWell (option_map (item d) o)
with_item d None h k = tt
with_item d (Some ds) h k = (h, k)

and_items : (o : Option Data) (rest : Option Items) → IfWell o → IfAreWell rest → IfAreWell (option_and_then (λ d. option_map (item d) rest) o)
and_items None rest h k = tt
and_items (Some d) rest h k = with_item d rest h k

and_members : (k : List ℕ) (found : Members) (o : Option Data) (more : Members → Option Members) → IsUtf8 k → AreMembersWell found → IfWell o → ((ms : Members) → AreMembersWell ms → IfMembersWell (more ms))
    → IfMembersWell (option_and_then (λ d. more (put k d found)) o)
and_members k found None more text all h later = tt
and_members k found (Some d) more text all h later = later (put k d found) (put_well k d found text h all)

mutual
  value_well : (j : Json) → HasTexts j → IfWell (of_json j)
  value_well json.null h = tt
  value_well (json.boolean b) h = tt
  value_well (json.number s) h = of_number (number_of s) (number_well s)
  value_well (json.string s) h = h
  value_well (json.array js) h = of_array (of_items js) (items_well js h)
  value_well (json.object ms) h = of_object (of_members ms no_members) (members_well ms no_members h tt)

  items_well : (js : json.Items) → ItemsHaveTexts js → IfAreWell (of_items js)
  items_well json.no_items h = tt
  items_well (json.item j js) h = and_items (of_json j) (of_items js) (value_well j h.0) (items_well js h.1)

  members_well : (ms : json.Members) (found : Members) → MembersHaveTexts ms → AreMembersWell found → IfMembersWell (of_members ms found)
  members_well json.no_members found h all = all
  members_well (json.member k j ms) found h all = and_members k found (of_json j) (of_members ms) h.0 all (value_well j h.1) (λ next is. members_well ms next h.2 is)

of_found : (o : Option Json) → IfFound o → IfWell (option_and_then of_json o)
of_found None h = tt
of_found (Some j) h = value_well j h

pub read_well : (text : List ℕ) (d : Data) → IsUtf8 text → read_text text ≡ Some d → IsWell d
read_well text d u e = subst IfWell e (of_found _ (last _ (keeps_value max_depth (tokens text) (tokens_are_texts text u))))

-- ---- members

abbrev pub IfGiven : Option Data → Type 0
IfGiven None = ⊤
IfGiven (Some d) = IsWell d

found_step : (o : Ordering) (rest : Option Data) (e : Data) → IsWell e → IfGiven rest → IfGiven (match_ordering o rest (Some e) rest)
found_step Less rest e h k = k
found_step Equal rest e h k = h
found_step Greater rest e h k = k

member_well : (name : List ℕ) (ms : Members) → AreMembersWell ms → IfGiven (get_member name ms)
member_well name no_members h = tt
member_well name (member l e ms) h = found_step (slice_cmp nat_cmp name l) (get_member name ms) e h.1 (member_well name ms h.3)

pub get_well : (name : List ℕ) (d : Data) → IsWell d → IfGiven (get name d)
get_well name datum.null h = tt
get_well name (datum.boolean b) h = tt
get_well name (datum.number n) h = tt
get_well name (datum.string s) h = tt
get_well name (datum.array ds) h = tt
get_well name (datum.object ms) h = member_well name ms h
