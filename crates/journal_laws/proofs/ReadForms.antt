-- What is read of a line has the forms of an entry.
use Rattle.std.proofs.Common.{◌≡◌, ℕ, zero, suc, ◌<◌, ◌^◌, List, [], ◌∷◌, length, take, drop, codes, Bool, true, false, Option, Some, None, Result, Ok, Err, nat_lt, nat_le, IsUtf8, refl, sym, subst, if◌then◌else◌, ltb-true, leb-true}
use Rattle.std.specs.Prelude.{⊤, All, MatchOption, ◌≢◌}
use Rattle.std.specs.Int.{w32, from_be_bytes}
use Rattle.std.specs.Option.{option_map, option_and_then}
use Rattle.std.specs.Result.{result_ok}
use Rattle.std.specs.Str.{bytes_eq, is_utf8}
use Rattle.std.proofs.lemmas.List.Elements.{All-nil, All-cons}
use Rattle.std.proofs.lemmas.Str.{IsUtf8-from_is_utf8}
use Rattle.hex.specs.Hex.{decode_sized}
use Rattle.hex.specs.declared.error.FromHexError.{FromHexError}
use Rattle.serde_json.specs.Data as datum
use Rattle.serde_json.specs.Data.{Num, unsigned, negative, float, Data, Items, no_items, item}
use Rattle.serde_json.specs.Find.{get, as_str, as_array, as_number, as_u64}
use Rattle.serde_json.specs.Read.{read as read_text}
use Rattle.kms_names.specs.Alias.{IsAliasName}
use Rattle.kms_names.specs.GrantOps.{those, is_named}
use Rattle.kms_names.specs.Identifier.{IsByteList}
use Rattle.kms_names.specs.Principal.{IsPrincipal, principal_text}
use Rattle.kms_names.specs.Reading.{some_if, is_alias_text, alias_of, principal_of}
use Rattle.kms_names.specs.declared.faults.NameFault.TheVariants as fault
use Rattle.kms_names.specs.declared.principals.Principal.{Principal}
use Rattle.kms_names.proofs.OperationFacts.{those_have}
use Rattle.kms_names.proofs.PrincipalReading.{principal_reads}
use Rattle.kms_names.proofs.ReadingFacts.{alias_decides}
use Rattle.kms_json.specs.Fields.{texts_in_items}
use Rattle.enc_context.specs.declared.pairs.Pair.{Pair}
use Rattle.enc_context.specs.Encoding.{encoding_of}
use Rattle.hmac_keys.specs.declared.kinds.KeyKind.{KeyKind}
use Rattle.grant_table.specs.declared.constraints.Constraint.{Constraint}
use Rattle.account_rows.specs.declared.entries.What.{What}
use Rattle.account_rows.specs.declared.entries.What.TheVariants as what
use Rattle.journal_lines.specs.Contexts.{cut_by, cut_text, pair_and, value_behind, cut_pair, pairs_within, pairs_of, ascend, context_by, context_of}
use Rattle.journal_lines.specs.Entries.{◌>>=◌, key_at, grant_at, name_at, create_key_of, schedule_of, rotation_on_of, text_of_key, tag_of_key, untag_of, alias_put_of, constraint_by, constraint_at, terms_at, grant_add_of, what_of, entry_in}
use Rattle.journal_lines.specs.Forms.{IsTag, IsPair, IsContextOfTexts, IsConstraint, IsIfAny, IsOperations, IsSmall, IsWhat, IsEntry}
use Rattle.journal_lines.specs.LineReading.{value_of, if_line_of, before_last, entry_of}
use Rattle.journal_lines.specs.Readings.{at, read_if, text_of, text_in, bytes_in, id_in, number_in, small_in, alias_in, principal_in, kind_in, tag_in, tags_of, tags_in, texts_of, texts_in, operations_in, context_in}
use Rattle.journal_lines.proofs.ContextFacts.{in_order}
use Rattle.journal_laws.proofs.AskedTexts.{mapped, chained, any}
use Rattle.journal_laws.proofs.Doing.{decoded}
use Rattle.journal_laws.proofs.TextValues.{IsWell, IfGiven, read_well, get_well}
use Rattle.journal_laws.specs.Laws.{ReadEntriesHaveForms}

-- one reading after another
and_so : {A B : Type 0} (P : A → Type 0) (Q : B → Type 0) (o : Option A) (f : A → Option B) → IsIfAny P o → ((a : A) → P a → IsIfAny Q (f a)) → IsIfAny Q (o >>= f)
and_so P Q None f h each = tt
and_so P Q (Some a) f h each = each a h

tested : {A : Type 0} (P : A → Type 0) (b : Bool) (x : A) → (b ≡ true → P x) → IsIfAny P (some_if b x)
tested P true x h = h refl
tested P false x h = tt

-- ---- values

number_is : (n : Num) → IsWell (datum.number n) → IsIfAny (λ n. n < 2 ^ 64) (as_u64 n)
number_is (unsigned n) h = h
number_is (negative z) h = tt
number_is (float x) h = tt

numbers : (d : Data) → IsWell d → IsIfAny (λ n. IsWell (datum.number n)) (as_number d)
numbers datum.null h = tt
numbers (datum.boolean b) h = tt
numbers (datum.number n) h = h
numbers (datum.string s) h = tt
numbers (datum.array ds) h = tt
numbers (datum.object ms) h = tt

number_formed : (d : Data) → IsWell d → IsIfAny (λ n. n < 2 ^ 64) (number_in d)
number_formed d h = chained (λ n. IsWell (datum.number n)) (λ n. n < 2 ^ 64) as_u64 number_is (as_number d) (numbers d h)

small_formed : (d : Data) → IsIfAny IsSmall (small_in d)
small_formed d = chained (λ (n : ℕ). ⊤) IsSmall (λ n. some_if (nat_lt n 4294967296) n) (λ n is. tested IsSmall (nat_lt n 4294967296) n (λ e. ltb-true n 4294967296 e)) (number_in d) (any (number_in d))

id_decoded : (size : ℕ) (text : List ℕ) (r : Result (List ℕ) FromHexError) → decode_sized text size ≡ r → IsIfAny (IsByteList size) (result_ok r)
id_decoded size text (Ok id) e = decoded size text id e
id_decoded size text (Err why) e = tt

id_formed : (size : ℕ) (d : Data) → IsIfAny (IsByteList size) (id_in size d)
id_formed size d = chained (λ (text : List ℕ). ⊤) (IsByteList size) (λ text. result_ok (decode_sized text size)) (λ text is. id_decoded size text (decode_sized text size) refl) (as_str d) (any (as_str d))

text_formed : (d : Data) → IsIfAny IsUtf8 (text_in d)
text_formed d = chained (λ (bytes : List ℕ). ⊤) IsUtf8 text_of (λ bytes is. tested IsUtf8 (is_utf8 bytes) bytes (IsUtf8-from_is_utf8 bytes)) (bytes_in d) (any (bytes_in d))

alias_named : (text : List ℕ) (b : Bool) → is_alias_text text ≡ b → IsIfAny IsAliasName (result_ok (if b then Ok text else Err fault.BadAlias))
alias_named text true e = (alias_decides text).0 e
alias_named text false e = tt

alias_formed : (d : Data) → IsIfAny IsAliasName (alias_in d)
alias_formed d = chained (λ (text : List ℕ). ⊤) IsAliasName (λ text. result_ok (alias_of text)) (λ text is. alias_named text (is_alias_text text) refl) (text_in d) (any (text_in d))

principal_named : (text : List ℕ) (o : Option Principal) → MatchOption o ((q : Principal) → IsPrincipal q → text ≢ principal_text q) (λ q. IsPrincipal q × (text ≡ principal_text q)) → IsIfAny IsPrincipal o
principal_named text None reads = tt
principal_named text (Some p) reads = reads.0

principal_formed : (d : Data) → IsIfAny IsPrincipal (principal_in d)
principal_formed d = chained (λ (text : List ℕ). ⊤) IsPrincipal principal_of (λ text is. principal_named text (principal_of text) (principal_reads text)) (text_in d) (any (text_in d))

at_formed : {A : Type 0} (P : A → Type 0) (read : Data → Option A) → ((d : Data) → IsIfAny P (read d)) → (name : List ℕ) (d : Data) → IsIfAny P (at read name d)
at_formed P read each name d = chained (λ (value : Data). ⊤) P read (λ value is. each value) (get name d) (any (get name d))

tag_formed : (d : Data) → IsIfAny IsTag (tag_in d)
tag_formed d =
    chained IsUtf8 IsTag (λ key. option_map (λ value. record { key = key; value = value }) (at text_in (codes "value") d))
    (λ key named. mapped IsUtf8 IsTag (λ value. record { key = key; value = value }) (λ value text. (named, text)) (at text_in (codes "value") d) (at_formed IsUtf8 text_in text_formed (codes "value") d))
    (at text_in (codes "key") d) (at_formed IsUtf8 text_in text_formed (codes "key") d)

tag_items : (ds : Items) → IsIfAny (All IsTag) (tags_of ds)
tag_items no_items = All-nil IsTag
tag_items (item d ds) =
    chained IsTag (All IsTag) (λ tag. option_map (λ tags. tag ∷ tags) (tags_of ds))
    (λ tag is. mapped (All IsTag) (All IsTag) (λ tags. tag ∷ tags) (λ tags all. All-cons IsTag tag tags is all) (tags_of ds) (tag_items ds)) (tag_in d) (tag_formed d)

tags_formed : (d : Data) → IsIfAny (All IsTag) (tags_in d)
tags_formed d = chained (λ (ds : Items). ⊤) (All IsTag) tags_of (λ ds is. tag_items ds) (as_array d) (any (as_array d))

text_items : (ds : Items) → IsIfAny (All IsUtf8) (texts_of ds)
text_items no_items = All-nil IsUtf8
text_items (item d ds) =
    chained IsUtf8 (All IsUtf8) (λ text. option_map (λ texts. text ∷ texts) (texts_of ds))
    (λ text is. mapped (All IsUtf8) (All IsUtf8) (λ texts. text ∷ texts) (λ texts all. All-cons IsUtf8 text texts is all) (texts_of ds) (text_items ds)) (text_in d) (text_formed d)

texts_formed : (d : Data) → IsIfAny (All IsUtf8) (texts_in d)
texts_formed d = chained (λ (ds : Items). ⊤) (All IsUtf8) texts_of (λ ds is. text_items ds) (as_array d) (any (as_array d))

operations_are : (names : List (List ℕ)) → IsOperations (those (is_named names))
operations_are names i = those (λ o. sym (those_have (is_named names) o) i)

operations_formed : (d : Data) → IsIfAny IsOperations (operations_in d)
operations_formed d = mapped (λ (names : List (List ℕ)). ⊤) IsOperations (λ names. those (is_named names)) (λ names is. operations_are names) _ (any (option_and_then texts_in_items (as_array d)))

-- ---- contexts

abbrev IsCut : List ℕ × List ℕ → Type 0
IsCut cut = IsUtf8 cut.0

cut_formed : (bytes : List ℕ) → IsIfAny IsCut (cut_text bytes)
cut_formed bytes = by_head (nat_le 4 (length bytes))
  where
    size : ℕ
    size = from_be_bytes w32 (take 4 bytes)

    by_size : (b : Bool) → IsIfAny IsCut (if b then some_if (is_utf8 (take size (drop 4 bytes))) (take size (drop 4 bytes), drop size (drop 4 bytes)) else None)
    by_size true = tested IsCut (is_utf8 (take size (drop 4 bytes))) (take size (drop 4 bytes), drop size (drop 4 bytes)) (IsUtf8-from_is_utf8 (take size (drop 4 bytes)))
    by_size false = tt

    by_head : (b : Bool) → IsIfAny IsCut (if b then cut_by size (drop 4 bytes) else None)
    by_head true = by_size (nat_le size (length (drop 4 bytes)))
    by_head false = tt

abbrev IsPairCut : Pair × List ℕ → Type 0
IsPairCut cut = IsPair cut.0

value_formed : (cut : List ℕ × List ℕ) → IsCut cut → IsIfAny IsPairCut (value_behind cut)
value_formed cut named = mapped IsCut IsPairCut (pair_and cut.0) (λ other text. (named, text)) (cut_text cut.1) (cut_formed cut.1)

pair_formed : (bytes : List ℕ) → IsIfAny IsPairCut (cut_pair bytes)
unfolding cut_pair
pair_formed bytes = chained IsCut IsPairCut value_behind value_formed (cut_text bytes) (cut_formed bytes)

pairs_formed : (n : ℕ) (bytes : List ℕ) → IsIfAny (All IsPair) (pairs_within n bytes)
pairs_formed zero [] = All-nil IsPair
pairs_formed (suc n) [] = All-nil IsPair
pairs_formed zero (b ∷ bytes) = tt
pairs_formed (suc n) (b ∷ bytes) =
    chained IsPairCut (All IsPair) (λ p. option_map (λ pairs. p.0 ∷ pairs) (pairs_within n p.1))
    (λ p is. mapped (All IsPair) (All IsPair) (λ pairs. p.0 ∷ pairs) (λ pairs all. All-cons IsPair p.0 pairs is all) (pairs_within n p.1) (pairs_formed n p.1)) (cut_pair (b ∷ bytes)) (pair_formed (b ∷ bytes))

all_pairs : (bytes : List ℕ) → IsIfAny (All IsPair) (pairs_of bytes)
unfolding pairs_of
all_pairs bytes = pairs_formed (length bytes) bytes

by_formed : (pairs : List Pair) → All IsPair pairs → IsIfAny IsContextOfTexts (context_by pairs)
by_formed pairs all = by_order (ascend pairs) refl
  where
    by_order : (b : Bool) → ascend pairs ≡ b → IsIfAny IsContextOfTexts (if b then some_if (nat_le (length (encoding_of pairs)) 8192) pairs else None)
    by_order true e = tested IsContextOfTexts (nat_le (length (encoding_of pairs)) 8192) pairs (λ fits. (record { in_order = in_order pairs e; fits = leb-true (length (encoding_of pairs)) 8192 fits }, all))
    by_order false e = tt

context_formed : (d : Data) → IsIfAny IsContextOfTexts (context_in d)
context_formed d =
    chained (λ (bytes : List ℕ). ⊤) IsContextOfTexts context_of
    (λ bytes is. chained (All IsPair) IsContextOfTexts context_by by_formed (pairs_of bytes) (all_pairs bytes)) (bytes_in d) (any (bytes_in d))

-- ---- entries

if_read : {A : Type 0} (P : A → Type 0) (read : Data → Option A) → ((d : Data) → IsIfAny P (read d)) → (o : Option Data) → IsIfAny (IsIfAny P) (read_if read o)
if_read P read each None = tt
if_read P read each (Some d) = mapped P (IsIfAny P) Some (λ a is. is) (read d) (each d)

constraint_formed : (equals subset : Option (List Pair)) → IsIfAny IsContextOfTexts equals → IsIfAny IsContextOfTexts subset → IsIfAny IsConstraint (constraint_by equals subset)
constraint_formed None None p q = tt
constraint_formed (Some pairs) None p q = p
constraint_formed None (Some pairs) p q = q
constraint_formed (Some pairs) (Some others) p q = tt

-- the first whose test is true
abbrev first_of : List (Bool × Option What) → Option What
first_of [] = None
first_of ((test, made) ∷ rows) = if test then made else first_of rows

abbrev AreFormed : List (Bool × Option What) → Type 0
AreFormed [] = ⊤
AreFormed ((test, made) ∷ rows) = IsIfAny IsWhat made × AreFormed rows

first_formed : (rows : List (Bool × Option What)) → AreFormed rows → IsIfAny IsWhat (first_of rows)
first_formed [] h = tt
first_formed ((true, made) ∷ rows) h = h.0
first_formed ((false, made) ∷ rows) h = first_formed rows h.1

module _ (d : Data) (h : IsWell d) where
  key : IsIfAny (IsByteList 16) (key_at d)
  key = at_formed (IsByteList 16) (id_in 16) (id_formed 16) (codes "key") d

  grant : IsIfAny (IsByteList 32) (grant_at d)
  grant = at_formed (IsByteList 32) (id_in 32) (id_formed 32) (codes "grant") d

  name : IsIfAny IsAliasName (name_at d)
  name = at_formed IsAliasName alias_in alias_formed (codes "name") d

  number : (name : List ℕ) → IsIfAny (λ n. n < 2 ^ 64) (at number_in name d)
  number name = chained IsWell (λ n. n < 2 ^ 64) number_in number_formed (get name d) (given_well (get name d) (get_well name d h))
    where
      given_well : (o : Option Data) → IfGiven o → IsIfAny IsWell o
      given_well None is = tt
      given_well (Some value) is = is

  small : (name : List ℕ) → IsIfAny IsSmall (at small_in name d)
  small name = at_formed IsSmall small_in small_formed name d

  text : (name : List ℕ) → IsIfAny IsUtf8 (at text_in name d)
  text name = at_formed IsUtf8 text_in text_formed name d

  key_alone : (made : List ℕ → What) → ((id : List ℕ) → IsByteList 16 id → IsWhat (made id)) → IsIfAny IsWhat (option_map made (key_at d))
  key_alone made each = mapped (IsByteList 16) IsWhat made each (key_at d) key

  create_key : IsIfAny IsWhat (create_key_of d)
  create_key =
      and_so (IsByteList 16) IsWhat (key_at d) _ key (λ k is_key.
      and_so (λ (kind : KeyKind). ⊤) IsWhat (at kind_in (codes "kind") d) _ (any (at kind_in (codes "kind") d)) (λ kind is_kind.
      and_so IsUtf8 IsWhat (at text_in (codes "description") d) _ (text (codes "description")) (λ description is_description.
      and_so IsUtf8 IsWhat (at text_in (codes "policy") d) _ (text (codes "policy")) (λ policy is_policy.
      and_so (All IsTag) IsWhat (at tags_in (codes "tags") d) _ (at_formed (All IsTag) tags_in tags_formed (codes "tags") d) (λ tags are. (is_key, is_description, is_policy, are))))))

  schedule : IsIfAny IsWhat (schedule_of d)
  schedule =
      and_so (IsByteList 16) IsWhat (key_at d) _ key (λ k is_key.
      and_so (λ n. n < 2 ^ 64) IsWhat (at number_in (codes "date") d) _ (number (codes "date")) (λ date is_date.
      and_so IsSmall IsWhat (at small_in (codes "days") d) _ (small (codes "days")) (λ days are. (is_key, is_date, are))))

  rotation_on : IsIfAny IsWhat (rotation_on_of d)
  rotation_on =
      and_so (IsByteList 16) IsWhat (key_at d) _ key (λ k is_key.
      and_so IsSmall IsWhat (at small_in (codes "period") d) _ (small (codes "period")) (λ period is. (is_key, is)))

  key_text : (made : List ℕ → List ℕ → What) → ((id t : List ℕ) → IsByteList 16 id → IsUtf8 t → IsWhat (made id t)) → IsIfAny IsWhat (text_of_key made d)
  key_text made each =
      and_so (IsByteList 16) IsWhat (key_at d) _ key (λ k is_key.
      and_so IsUtf8 IsWhat (at text_in (codes "text") d) _ (text (codes "text")) (λ t is. each k t is_key is))

  tag : IsIfAny IsWhat (tag_of_key d)
  tag =
      and_so (IsByteList 16) IsWhat (key_at d) _ key (λ k is_key.
      and_so (All IsTag) IsWhat (at tags_in (codes "tags") d) _ (at_formed (All IsTag) tags_in tags_formed (codes "tags") d) (λ tags are. (is_key, are)))

  untag : IsIfAny IsWhat (untag_of d)
  untag =
      and_so (IsByteList 16) IsWhat (key_at d) _ key (λ k is_key.
      and_so (All IsUtf8) IsWhat (at texts_in (codes "names") d) _ (at_formed (All IsUtf8) texts_in texts_formed (codes "names") d) (λ names are. (is_key, are)))

  alias_put : IsIfAny IsWhat (alias_put_of d)
  alias_put =
      and_so IsAliasName IsWhat (name_at d) _ name (λ n is_name.
      and_so (IsByteList 16) IsWhat (key_at d) _ key (λ k is_key. (is_name, is_key)))

  constraint : IsIfAny IsConstraint (constraint_at d)
  constraint =
      and_so (IsIfAny IsContextOfTexts) IsConstraint (read_if context_in (get (codes "equals") d)) _ (if_read IsContextOfTexts context_in context_formed (get (codes "equals") d)) (λ equals p.
      and_so (IsIfAny IsContextOfTexts) IsConstraint (read_if context_in (get (codes "subset") d)) _ (if_read IsContextOfTexts context_in context_formed (get (codes "subset") d)) (λ subset q.
      constraint_formed equals subset p q))

  abbrev AreTerms : Option Principal × Constraint × Option (List ℕ) → Type 0
  AreTerms terms = IsIfAny IsPrincipal terms.0 × IsConstraint terms.1 × IsIfAny IsUtf8 terms.2

  terms : IsIfAny AreTerms (terms_at d)
  terms =
      and_so (IsIfAny IsPrincipal) AreTerms (read_if principal_in (get (codes "retiring") d)) _ (if_read IsPrincipal principal_in principal_formed (get (codes "retiring") d)) (λ retiring p.
      and_so IsConstraint AreTerms (constraint_at d) _ constraint (λ c q.
      and_so (IsIfAny IsUtf8) AreTerms (read_if text_in (get (codes "name") d)) _ (if_read IsUtf8 text_in text_formed (get (codes "name") d)) (λ n r. (p, q, r))))

  grant_add : IsIfAny IsWhat (grant_add_of d)
  grant_add =
      and_so (IsByteList 32) IsWhat (grant_at d) _ grant (λ g is_grant.
      and_so (IsByteList 16) IsWhat (key_at d) _ key (λ k is_key.
      and_so IsPrincipal IsWhat (at principal_in (codes "grantee") d) _ (at_formed IsPrincipal principal_in principal_formed (codes "grantee") d) (λ grantee is_grantee.
      and_so IsOperations IsWhat (at operations_in (codes "operations") d) _ (at_formed IsOperations operations_in operations_formed (codes "operations") d) (λ operations are.
      and_so AreTerms IsWhat (terms_at d) _ terms (λ t is. (is_grant, is_key, is_grantee, is.0, are, is.1, is.2))))))

  -- what is made by the first name that is this
  rows : List ℕ → List (Bool × Option What)
  rows word =
      (bytes_eq word (codes "CreateKey"), create_key_of d) ∷
      (bytes_eq word (codes "Enable"), option_map what.Enable (key_at d)) ∷
      (bytes_eq word (codes "Disable"), option_map what.Disable (key_at d)) ∷
      (bytes_eq word (codes "Schedule"), schedule_of d) ∷
      (bytes_eq word (codes "Cancel"), option_map what.Cancel (key_at d)) ∷
      (bytes_eq word (codes "RotationOn"), rotation_on_of d) ∷
      (bytes_eq word (codes "RotationOff"), option_map what.RotationOff (key_at d)) ∷
      (bytes_eq word (codes "RotateNow"), option_map what.RotateNow (key_at d)) ∷
      (bytes_eq word (codes "Policy"), text_of_key what.Policy d) ∷
      (bytes_eq word (codes "Description"), text_of_key what.Description d) ∷
      (bytes_eq word (codes "Tag"), tag_of_key d) ∷
      (bytes_eq word (codes "Untag"), untag_of d) ∷
      (bytes_eq word (codes "AliasPut"), alias_put_of d) ∷
      (bytes_eq word (codes "AliasDrop"), option_map what.AliasDrop (name_at d)) ∷
      (bytes_eq word (codes "GrantAdd"), grant_add_of d) ∷
      (bytes_eq word (codes "GrantDrop"), option_map what.GrantDrop (grant_at d)) ∷
      (bytes_eq word (codes "House"), Some what.House) ∷
      []

  formed_rows : (word : List ℕ) → AreFormed (rows word)
  unfolding rows
  formed_rows word = (
    create_key,
    (
      key_alone what.Enable (λ id is. is),
      (
        key_alone what.Disable (λ id is. is),
        (
          schedule,
          (
            key_alone what.Cancel (λ id is. is),
            (
              rotation_on,
              (
                key_alone what.RotationOff (λ id is. is),
                (
                  key_alone what.RotateNow (λ id is. is),
                  (
                    key_text what.Policy (λ id t p q. (p, q)),
                    (
                      key_text what.Description (λ id t p q. (p, q)),
                      (
                        tag,
                        (
                          untag,
                          (
                            alias_put,
                            (
                              mapped IsAliasName IsWhat what.AliasDrop (λ n is. is) (name_at d) name,
                              (
                                grant_add,
                                (
                                  mapped (IsByteList 32) IsWhat what.GrantDrop (λ g is. is) (grant_at d) grant,
                                  (tt, tt),
                                ),
                              ),
                            ),
                          ),
                        ),
                      ),
                    ),
                  ),
                ),
              ),
            ),
          ),
        ),
      ),
    ),
  )

  done : (word : List ℕ) → IsIfAny IsWhat (what_of word d)
  unfolding what_of rows
  done word = first_formed (rows word) (formed_rows word)

  entry_formed : IsIfAny IsEntry (entry_in d)
  unfolding entry_in
  entry_formed =
      and_so (λ n. n < 2 ^ 64) IsEntry (at number_in (codes "time") d) _ (number (codes "time")) (λ time is_time.
      and_so (λ (word : List ℕ). ⊤) IsEntry (at as_str (codes "what") d) _ (any (at as_str (codes "what") d)) (λ word is_word.
      and_so IsWhat IsEntry (what_of word d) _ (done word) (λ w is. (is_time, is))))

-- ---- lines

value_well : (line : List ℕ) → IsIfAny IsWell (value_of line)
unfolding value_of
value_well line = by_test (is_utf8 line) refl
  where
    by_read : (o : Option Data) → read_text line ≡ o → is_utf8 line ≡ true → IsIfAny IsWell o
    by_read None e u = tt
    by_read (Some d) e u = read_well line d (IsUtf8-from_is_utf8 line u) e

    by_test : (b : Bool) → is_utf8 line ≡ b → IsIfAny IsWell (if b then read_text line else None)
    by_test true u = by_read (read_text line) refl u
    by_test false u = tt

line_formed : (line : List ℕ) → IsIfAny IsEntry (entry_of line)
unfolding entry_of
line_formed line =
    chained IsEntry IsEntry (if_line_of line) (λ entry is. tested IsEntry _ entry (λ e. is)) (option_and_then entry_in (value_of (before_last line)))
    (chained IsWell IsEntry entry_in entry_formed (value_of (before_last line)) (value_well (before_last line)))

pub read_formed : ReadEntriesHaveForms
read_formed line entry e = subst (IsIfAny IsEntry) e (line_formed line)
