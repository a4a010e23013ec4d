-- The texts of plain JSON values: no floats and no negative numbers, and members in ascending order of their names. Each is
-- UTF-8 and reads back as its value.
use Rattle.std.proofs.Common.{◌≡◌, ℕ, suc, ◌<◌, ◌≤◌, ◌^◌, Bool, true, false, List, [], ◌∷◌, Option, Some, IsUtf8, decimal, refl, sym, ap, ap₂, ◌∙◌, append-nil, arith, max}
use Rattle.std.specs.Option.{option_map, option_and_then}
use Rattle.std.specs.Prelude.{⊤, ◌||◌}
use Rattle.std.specs.Cmp.Lexicographic.{slice_cmp}
use Rattle.std.specs.Ordering.{nat_cmp, match_ordering, ordering_reverse}
use Rattle.std.specs.declared.cmp.Ordering.{Ordering}
use Rattle.std.specs.declared.cmp.Ordering.TheVariants.{Less, Greater}
use Rattle.std.proofs.lemmas.Bool.{lt-ltb}
use Rattle.std.proofs.lemmas.Fmt.{IsAscii-decimal}
use Rattle.std.proofs.lemmas.Cmp.{nat_list_cmp_total}
use Rattle.std.proofs.lemmas.Str.{IsUtf8-append, IsUtf8-nil, IsUtf8-from_ascii}
use Rattle.json.specs.Json as json
use Rattle.json.specs.Tree as tree
use Rattle.json.proofs.Printed.Decimals.{IsNumber-decimal}
use Rattle.json.proofs.Printed.Trees.{ArePrintable-json_tokens, value-json_tokens}
use Rattle.json.proofs.Printed.Tokens.{tokens-print}
use Rattle.json.specs.Lex.{tokens}
use Rattle.json.specs.Token.{Token}
use Rattle.json.proofs.Printed.Utf8.{IsUtf8-are_ascii, IsUtf8-quoted}
use Rattle.serde_json.specs.Data.{unsigned, negative, float, Data, null, boolean, number, string, array, object, Items, no_items, item, Members, no_members, member, put, depth, items_depth, members_depth}
use Rattle.serde_json.specs.Read.{of_json, of_items, of_members, read, max_depth}
use Rattle.serde_json.specs.Written.{outline, items_outline, members_outline, has_float, items_have_float, members_have_float, comma_if, compact_text, items_text, members_text}
use Rattle.serde_json.proofs.Numbers.{number_of-decimal}
use Rattle.serde_json.proofs.Texts.{print-outline}

-- the name comes before those of the members
abbrev pub IsBelow : List ℕ → Members → Type 0
IsBelow key no_members = ⊤
IsBelow key (member name d ms) = (slice_cmp nat_cmp key name ≡ Less) × IsBelow key ms

abbrev mutual
  pub IsPlain : Data → Type 0
  IsPlain null = ⊤
  IsPlain (boolean b) = ⊤
  IsPlain (number (unsigned n)) = n < 2 ^ 64
  IsPlain (number (negative z)) = ⊥
  IsPlain (number (float x)) = ⊥
  IsPlain (string s) = IsUtf8 s
  IsPlain (array ds) = ArePlain ds
  IsPlain (object ms) = AreMembersPlain ms

  pub ArePlain : Items → Type 0
  ArePlain no_items = ⊤
  ArePlain (item d ds) = IsPlain d × ArePlain ds

  pub AreMembersPlain : Members → Type 0
  AreMembersPlain no_members = ⊤
  AreMembersPlain (member name d ms) = IsUtf8 name × IsPlain d × IsBelow name ms × AreMembersPlain ms

-- ---- no float, and numbers that are numbers

both : (a b : Bool) → a ≡ false → b ≡ false → a || b ≡ false
both a b p q = ap₂ (λ x y. x || y) p q

mutual
  pub no_float : (d : Data) → IsPlain d → has_float d ≡ false
  no_float null h = refl
  no_float (boolean b) h = refl
  no_float (number (unsigned n)) h = refl
  no_float (number (negative z)) h = absurd h
  no_float (number (float x)) h = absurd h
  no_float (string s) h = refl
  no_float (array ds) h = none_float ds h
  no_float (object ms) h = members_no_float ms h

  none_float : (ds : Items) → ArePlain ds → items_have_float ds ≡ false
  none_float no_items h = refl
  none_float (item d ds) h = both (has_float d) (items_have_float ds) (no_float d h.0) (none_float ds h.1)

  members_no_float : (ms : Members) → AreMembersPlain ms → members_have_float ms ≡ false
  members_no_float no_members h = refl
  members_no_float (member k d ms) h = both (has_float d) (members_have_float ms) (no_float d h.1) (members_no_float ms h.3)

mutual
  numbers : (d : Data) → IsPlain d → tree.HasNumbers (outline d)
  numbers null h = tt
  numbers (boolean b) h = tt
  numbers (number (unsigned n)) h = IsNumber-decimal n h
  numbers (number (negative z)) h = absurd h
  numbers (number (float x)) h = absurd h
  numbers (string s) h = tt
  numbers (array ds) h = items_numbers ds h
  numbers (object ms) h = members_numbers ms h

  items_numbers : (ds : Items) → ArePlain ds → tree.ItemsHaveNumbers (items_outline ds)
  items_numbers no_items h = tt
  items_numbers (item d ds) h = (numbers d h.0, items_numbers ds h.1)

  members_numbers : (ms : Members) → AreMembersPlain ms → tree.MembersHaveNumbers (members_outline ms)
  members_numbers no_members h = tt
  members_numbers (member k d ms) h = (numbers d h.1, members_numbers ms h.3)

mutual
  as_deep : (d : Data) → tree.depth (outline d) ≡ depth d
  as_deep null = refl
  as_deep (boolean b) = refl
  as_deep (number n) = refl
  as_deep (string s) = refl
  as_deep (array ds) = ap suc (items_as_deep ds)
  as_deep (object ms) = ap suc (members_as_deep ms)

  items_as_deep : (ds : Items) → tree.items_depth (items_outline ds) ≡ items_depth ds
  items_as_deep no_items = refl
  items_as_deep (item d ds) = ap₂ max (as_deep d) (items_as_deep ds)

  members_as_deep : (ms : Members) → tree.members_depth (members_outline ms) ≡ members_depth ms
  members_as_deep no_members = refl
  members_as_deep (member k d ms) = ap₂ max (as_deep d) (members_as_deep ms)

-- ---- reading

abbrev joined : Members → Members → Members
joined no_members ms = ms
joined (member l e found) ms = member l e (joined found ms)

-- the first members come before the others
abbrev AreBefore : Members → Members → Type 0
AreBefore no_members ms = ⊤
AreBefore (member l e found) ms = IsBelow l ms × AreBefore found ms

put_last : (k : List ℕ) (d : Data) (found : Members) → AreBefore found (member k d no_members) → put k d found ≡ joined found (member k d no_members)
put_last k d no_members h = refl
put_last k d (member l e found) h =
    let above : slice_cmp nat_cmp k l ≡ Greater = nat_list_cmp_total.antisymm k l ∙ ap ordering_reverse h.0.0 in
    ap (λ (o : Ordering). match_ordering o (member k d (member l e found)) (member l d found) (member l e (put k d found))) above
    ∙ ap (member l e) (put_last k d found h.1)

before_next : (found : Members) (k : List ℕ) (d : Data) (ms : Members) → AreBefore found (member k d ms) → IsBelow k ms → AreBefore (joined found (member k d no_members)) ms
before_next no_members k d ms h below = (below, tt)
before_next (member l e found) k d ms h below = (h.0.1, before_next found k d ms h.1 below)

before_first : (found : Members) (k : List ℕ) (d : Data) (ms : Members) → AreBefore found (member k d ms) → AreBefore found (member k d no_members)
before_first no_members k d ms h = tt
before_first (member l e found) k d ms h = ((h.0.0, tt), before_first found k d ms h.1)

joined_next : (found : Members) (k : List ℕ) (d : Data) (ms : Members) → joined (joined found (member k d no_members)) ms ≡ joined found (member k d ms)
joined_next no_members k d ms = refl
joined_next (member l e found) k d ms = ap (member l e) (joined_next found k d ms)

joined_none : (found : Members) → joined found no_members ≡ found
joined_none no_members = refl
joined_none (member l e found) = ap (member l e) (joined_none found)

mutual
  value_read : (d : Data) → IsPlain d → of_json (outline d) ≡ Some d
  value_read null h = refl
  value_read (boolean b) h = refl
  value_read (number (unsigned n)) h = ap (option_map number) (number_of-decimal n h)
  value_read (number (negative z)) h = absurd h
  value_read (number (float x)) h = absurd h
  value_read (string s) h = refl
  value_read (array ds) h = ap (option_map array) (items_read ds h)
  value_read (object ms) h = ap (option_map object) (members_read ms no_members h tt)

  items_read : (ds : Items) → ArePlain ds → of_items (items_outline ds) ≡ Some ds
  items_read no_items h = refl
  items_read (item d ds) h =
      ap (λ (o : Option Data). option_and_then (λ d. option_map (item d) (of_items (items_outline ds))) o) (value_read d h.0)
      ∙ ap (λ (o : Option Items). option_map (item d) o) (items_read ds h.1)

  members_read : (ms found : Members) → AreMembersPlain ms → AreBefore found ms → of_members (members_outline ms) found ≡ Some (joined found ms)
  members_read no_members found h before = ap Some (sym (joined_none found))
  members_read (member k d ms) found h before =
      let next : Members = joined found (member k d no_members) in
      ap (λ (o : Option Data). option_and_then (λ d. of_members (members_outline ms) (put k d found)) o) (value_read d h.1)
      ∙ ap (of_members (members_outline ms)) (put_last k d found (before_first found k d ms before))
      ∙ members_read ms next h.3 (before_next found k d ms before h.2)
      ∙ ap Some (joined_next found k d ms)

-- ---- UTF-8

comma_utf8 : (later : Bool) → IsUtf8 (comma_if later)
comma_utf8 true = IsUtf8-are_ascii (44 ∷ []) refl
comma_utf8 false = IsUtf8-nil

one_utf8 : (c : ℕ) → c < 128 → (text : List ℕ) → IsUtf8 text → IsUtf8 (c ∷ text)
one_utf8 c small text u = IsUtf8-append (c ∷ []) text (IsUtf8-are_ascii (c ∷ []) (rw (lt-ltb c 128 small))) u

mutual
  pub text_utf8 : (d : Data) → IsPlain d → IsUtf8 (compact_text d)
  text_utf8 null h = IsUtf8-are_ascii _ refl
  text_utf8 (boolean true) h = IsUtf8-are_ascii _ refl
  text_utf8 (boolean false) h = IsUtf8-are_ascii _ refl
  text_utf8 (number (unsigned n)) h = IsUtf8-from_ascii (decimal n) (IsAscii-decimal n h)
  text_utf8 (number (negative z)) h = absurd h
  text_utf8 (number (float x)) h = absurd h
  text_utf8 (string s) h = IsUtf8-quoted s h
  text_utf8 (array ds) h = one_utf8 91 (omega arith) _ (items_utf8 false ds h)
  text_utf8 (object ms) h = one_utf8 123 (omega arith) _ (members_utf8 false ms h)

  items_utf8 : (later : Bool) (ds : Items) → ArePlain ds → IsUtf8 (items_text later ds)
  items_utf8 later no_items h = IsUtf8-are_ascii (93 ∷ []) refl
  items_utf8 later (item d ds) h = IsUtf8-append _ _ (comma_utf8 later) (IsUtf8-append _ _ (text_utf8 d h.0) (items_utf8 true ds h.1))

  members_utf8 : (later : Bool) (ms : Members) → AreMembersPlain ms → IsUtf8 (members_text later ms)
  members_utf8 later no_members h = IsUtf8-are_ascii (125 ∷ []) refl
  members_utf8 later (member k d ms) h =
      IsUtf8-append _ _ (comma_utf8 later)
      (IsUtf8-append _ _ (IsUtf8-quoted k h.0)
      (one_utf8 58 (omega arith) _ (IsUtf8-append _ _ (text_utf8 d h.1) (members_utf8 true ms h.3))))

-- ---- the whole

abbrev whole : Option (json.Json × List Token) → Option Data
whole o = option_and_then of_json (option_and_then (λ p. json.if_last p.0 p.1) o)

pub text_reads : (d : Data) → IsPlain d → depth d ≤ max_depth → read (compact_text d) ≡ Some d
text_reads d h shallow =
    let ts = tree.json_tokens (outline d) in
    ap (λ (us : List Token). whole (json.value max_depth us))
    (ap tokens (sym (print-outline d)) ∙ tokens-print ts (ArePrintable-json_tokens (outline d) (numbers d h)) ∙ sym (append-nil ts))
    ∙ ap whole (value-json_tokens (outline d) max_depth [] (omega (arith, as_deep d)))
    ∙ value_read d h
