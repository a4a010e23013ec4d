-- The texts of what a request asks are UTF-8, its contexts stand in order, and its sets of grant operations have no other bits.
use Rattle.std.proofs.Common.{◌≡◌, ℕ, List, [], ◌∷◌, length, Bool, true, false, codes, Option, Some, None, Ok, IsUtf8, refl, sym, subst, if◌then◌else◌, nat_le, unwrap_or, arith}
use Rattle.std.specs.Prelude.{⊤, All}
use Rattle.std.specs.Option.{option_and_then, option_map}
use Rattle.std.specs.Str.{is_utf8}
use Rattle.std.proofs.lemmas.List.Elements.{All-nil, All-cons}
use Rattle.std.proofs.lemmas.List.Kept.{AllPairs-cons}
use Rattle.std.proofs.lemmas.Str.{IsUtf8-nil, IsUtf8-from_is_utf8}
use Rattle.serde_json.specs.Data as datum
use Rattle.serde_json.specs.Data.{Data, Items, no_items, item, Members, no_members, member}
use Rattle.serde_json.specs.Find.{get, as_str, as_bool, as_array, as_object}
use Rattle.serde_json.specs.Read.{read as read_text}
use Rattle.kms_names.specs.GrantOps.{those, is_named}
use Rattle.kms_names.proofs.OperationFacts.{those_have}
use Rattle.enc_context.specs.declared.pairs.Pair.{Pair}
use Rattle.enc_context.specs.Encoding.{encoding_of}
use Rattle.enc_context.specs.Pairs.{ComesBefore, IsInOrder}
use Rattle.resource_tags.specs.declared.tags.Tag.{Tag}
use Rattle.kms_json.specs.declared.asks.AskBody.{AskBody}
use Rattle.kms_json.specs.declared.asks.AskBody.TheVariants as ask
use Rattle.kms_json.specs.declared.asks.Changing.{Changing}
use Rattle.kms_json.specs.declared.asks.Changing.TheVariants as changing
use Rattle.kms_json.specs.declared.asks.grants.GrantConstraint.{GrantConstraint}
use Rattle.kms_json.specs.declared.asks.grants.GrantConstraint.TheVariants as constraint
use Rattle.kms_json.specs.declared.fields.Kind.{Kind}
use Rattle.kms_json.specs.declared.fields.Kind.TheVariants as kind
use Rattle.kms_json.specs.declared.given.Given.{Given}
use Rattle.kms_json.specs.declared.given.Given.TheVariants as given
use Rattle.kms_json.specs.declared.operations.Operation.{Operation}
use Rattle.kms_json.specs.declared.operations.Operation.TheVariants as op
use Rattle.kms_json.specs.Given.{is_absent, is_there, text_if, text_in, texts_in, context_in, constraint_in, tags_in, operations_named}
use Rattle.kms_json.specs.Fields.{pairs_of, texts_of, fitting, context_of, context_given, constraint_by, constraint_at, constraint_of, texts_in_items, list_of_texts, bytes_of, whole_of, natural, text_given, tag_by, tag_at, tag_of, with_tag, tags_in_items, list_of_tags, value_of, value_given, given_by}
use Rattle.kms_json.specs.Operations.{fields_of, built}
use Rattle.kms_json.specs.Asks.{asked, body_data}
use Rattle.journal_lines.specs.Forms.{IsTag, IsPair, IsIfAny, IsOperations}
use Rattle.journal_laws.proofs.AskedForms.{asked_is}
use Rattle.journal_laws.proofs.TextValues.{IsBelow, IsWell, AreWell, AreMembersWell, IfGiven, read_well, get_well}

abbrev pub AreContext : List Pair → Type 0
AreContext pairs = IsInOrder pairs × All IsPair pairs

abbrev pub IsConstrained : GrantConstraint → Type 0
IsConstrained constraint.Free = ⊤
IsConstrained (constraint.Equals pairs) = AreContext pairs
IsConstrained (constraint.Subset pairs) = AreContext pairs

-- what is given to a field
abbrev IsGivenWell : Given → Type 0
IsGivenWell (given.Text s) = IsUtf8 s
IsGivenWell (given.Texts ts) = All IsUtf8 ts
IsGivenWell (given.Context o) = IsIfAny AreContext o
IsGivenWell (given.Constraint o) = IsIfAny IsConstrained o
IsGivenWell (given.Tags o) = IsIfAny (All IsTag) o
IsGivenWell _ = ⊤

abbrev IfGivenWell : Option Given → Type 0
IfGivenWell o = IsIfAny IsGivenWell o

pub mapped : {A B : Type 0} (P : A → Type 0) (Q : B → Type 0) (f : A → B) → ((a : A) → P a → Q (f a)) → (o : Option A) → IsIfAny P o → IsIfAny Q (option_map f o)
mapped P Q f each None h = tt
mapped P Q f each (Some a) h = each a h

pub chained : {A B : Type 0} (P : A → Type 0) (Q : B → Type 0) (f : A → Option B) → ((a : A) → P a → IsIfAny Q (f a)) → (o : Option A) → IsIfAny P o → IsIfAny Q (option_and_then f o)
chained P Q f each None h = tt
chained P Q f each (Some a) h = each a h

pub any : {A : Type 0} (o : Option A) → IsIfAny (λ (a : A). ⊤) o
any None = tt
any (Some a) = tt

-- ---- by the kind of value

text_well : (d : Data) → IsWell d → IsIfAny IsUtf8 (as_str d)
text_well datum.null h = tt
text_well (datum.boolean b) h = tt
text_well (datum.number n) h = tt
text_well (datum.string s) h = h
text_well (datum.array ds) h = tt
text_well (datum.object ms) h = tt

items_well : (d : Data) → IsWell d → IsIfAny AreWell (as_array d)
items_well datum.null h = tt
items_well (datum.boolean b) h = tt
items_well (datum.number n) h = tt
items_well (datum.string s) h = tt
items_well (datum.array ds) h = h
items_well (datum.object ms) h = tt

members_well : (d : Data) → IsWell d → IsIfAny AreMembersWell (as_object d)
members_well datum.null h = tt
members_well (datum.boolean b) h = tt
members_well (datum.number n) h = tt
members_well (datum.string s) h = tt
members_well (datum.array ds) h = tt
members_well (datum.object ms) h = h

-- texts
texts_well : (ds : Items) → AreWell ds → IsIfAny (All IsUtf8) (texts_in_items ds)
texts_well no_items h = All-nil IsUtf8
texts_well (item d ds) h =
    chained IsUtf8 (All IsUtf8) (λ text. option_map (λ texts. text ∷ texts) (texts_in_items ds))
    (λ text is. mapped (All IsUtf8) (All IsUtf8) (λ texts. text ∷ texts) (λ texts all. All-cons IsUtf8 text texts is all) (texts_in_items ds) (texts_well ds h.1))
    (as_str d) (text_well d h.0)

-- contexts
abbrev IsAbove : List ℕ → Pair → Type 0
IsAbove own pair = ComesBefore own pair.key

record ArePairs (ms : Members) (pairs : List Pair) : Type 0 where
  context : AreContext pairs
  above : (own : List ℕ) → IsBelow own ms → All (IsAbove own) pairs

with_pair : (name value : List ℕ) (d : Data) (ms : Members) (pairs : List Pair) → IsUtf8 name → IsUtf8 value → IsBelow name ms → ArePairs ms pairs → ArePairs (member name d ms) (record { key = name; value = value } ∷ pairs)
with_pair name value d ms pairs named text below rest =
    let pair : Pair = record { key = name; value = value } in record {
      context = (
        AllPairs-cons (λ (p q : Pair). ComesBefore p.key q.key) pair pairs (rest.above name below) rest.context.0,
        All-cons IsPair pair pairs (named, text) rest.context.1,
      );
      above = λ own under. All-cons (IsAbove own) pair pairs under.0 (rest.above own under.1);
    }

pairs_are : (ms : Members) → AreMembersWell ms → IsIfAny (ArePairs ms) (pairs_of ms)
pairs_are no_members h = record { context = ((λ i j d lt within. absurd (omega (arith, within))), All-nil IsPair); above = λ own under. All-nil (IsAbove own) }
pairs_are (member name d ms) h =
    chained IsUtf8 (ArePairs (member name d ms)) (λ value. option_map (λ pairs. record { key = name; value = value } ∷ pairs) (pairs_of ms))
    (λ value text. mapped (ArePairs ms) (ArePairs (member name d ms)) (λ pairs. record { key = name; value = value } ∷ pairs) (λ pairs rest. with_pair name value d ms pairs h.0 text h.2 rest) (pairs_of ms) (pairs_are ms h.3))
    (as_str d) (text_well d h.1)

pairs_well : (ms : Members) → AreMembersWell ms → IsIfAny AreContext (pairs_of ms)
pairs_well ms h = only (pairs_of ms) (pairs_are ms h)
  where
    only : (o : Option (List Pair)) → IsIfAny (ArePairs ms) o → IsIfAny AreContext o
    only None p = tt
    only (Some pairs) p = p.context

fitting_well : (most : ℕ) (pairs : List Pair) → AreContext pairs → IsIfAny AreContext (fitting most pairs)
fitting_well most pairs h = by_test (nat_le (length (encoding_of pairs)) most)
  where
    by_test : (b : Bool) → IsIfAny AreContext (if b then Some pairs else None)
    by_test true = h
    by_test false = tt

context_well : (d : Data) → IsWell d → IfGivenWell (context_of d)
context_well d h =
    mapped AreContext IsGivenWell (λ pairs. given.Context (fitting 8192 pairs)) (fitting_well 8192) (texts_of d)
    (chained AreMembersWell AreContext pairs_of pairs_well (as_object d) (members_well d h))

context_given_well : (o : Option Data) → IfGiven o → IfGivenWell (context_given o)
context_given_well None h = tt
context_given_well (Some datum.null) h = tt
context_given_well (Some (datum.boolean b)) h = context_well (datum.boolean b) h
context_given_well (Some (datum.number n)) h = context_well (datum.number n) h
context_given_well (Some (datum.string s)) h = context_well (datum.string s) h
context_given_well (Some (datum.array ds)) h = context_well (datum.array ds) h
context_given_well (Some (datum.object ms)) h = context_well (datum.object ms) h

-- constraints
held_context : (v : Given) → IsGivenWell v → IsIfAny AreContext (context_in v)
held_context (given.Context o) h = h
held_context v h = tt

chosen : (alone none two : Bool) (equals subset : Option (List Pair)) → IsIfAny AreContext equals → IsIfAny AreContext subset
    → IsIfAny IsConstrained (if alone then (if none then Some constraint.Free else option_map constraint.Equals equals) else if two then None else option_map constraint.Subset subset)
chosen true true two equals subset p q = tt
chosen true false two equals subset p q = mapped AreContext IsConstrained constraint.Equals (λ pairs h. h) equals p
chosen false none true equals subset p q = tt
chosen false none false equals subset p q = mapped AreContext IsConstrained constraint.Subset (λ pairs h. h) subset q

constraint_by_well : (equals subset : Given) → IsGivenWell equals → IsGivenWell subset → IsIfAny IsConstrained (constraint_by equals subset)
constraint_by_well equals subset p q =
    chosen (is_absent subset) (is_absent equals) (is_there equals) (option_and_then (fitting 4096) (context_in equals)) (option_and_then (fitting 4096) (context_in subset))
    (chained AreContext AreContext (fitting 4096) (fitting_well 4096) (context_in equals) (held_context equals p))
    (chained AreContext AreContext (fitting 4096) (fitting_well 4096) (context_in subset) (held_context subset q))

constraint_well : (d : Data) → IsWell d → IfGivenWell (constraint_of d)
constraint_well d h =
    chained (λ (ms : Members). ⊤) IsGivenWell (λ ms. constraint_at d)
    (λ ms is.
    chained IsGivenWell IsGivenWell (λ equals. option_map (λ subset. given.Constraint (constraint_by equals subset)) (context_given (get (codes "EncryptionContextSubset") d)))
    (λ equals p. mapped IsGivenWell IsGivenWell (λ subset. given.Constraint (constraint_by equals subset)) (λ subset q. constraint_by_well equals subset p q)
    (context_given (get (codes "EncryptionContextSubset") d)) (context_given_well _ (get_well (codes "EncryptionContextSubset") d h)))
    (context_given (get (codes "EncryptionContextEquals") d)) (context_given_well _ (get_well (codes "EncryptionContextEquals") d h)))
    (as_object d) (any (as_object d))

-- tags
text_given_well : (o : Option Data) → IfGiven o → IsIfAny (IsIfAny IsUtf8) (text_given o)
text_given_well None h = tt
text_given_well (Some datum.null) h = tt
text_given_well (Some (datum.boolean b)) h = tt
text_given_well (Some (datum.number n)) h = tt
text_given_well (Some (datum.string s)) h = h
text_given_well (Some (datum.array ds)) h = tt
text_given_well (Some (datum.object ms)) h = tt

tag_by_well : (key value : Option (List ℕ)) → IsIfAny IsUtf8 key → IsIfAny IsUtf8 value → IsIfAny IsTag (tag_by key value)
tag_by_well (Some key) (Some value) p q = (p, q)
tag_by_well (Some key) None p q = tt
tag_by_well None value p q = tt

tag_well : (d : Data) → IsWell d → IsIfAny (IsIfAny IsTag) (tag_of d)
tag_well d h =
    chained (λ (ms : Members). ⊤) (IsIfAny IsTag) (λ ms. tag_at d)
    (λ ms is.
    chained (IsIfAny IsUtf8) (IsIfAny IsTag) (λ key. option_map (tag_by key) (text_given (get (codes "TagValue") d)))
    (λ key p. mapped (IsIfAny IsUtf8) (IsIfAny IsTag) (tag_by key) (λ value q. tag_by_well key value p q) (text_given (get (codes "TagValue") d)) (text_given_well _ (get_well (codes "TagValue") d h)))
    (text_given (get (codes "TagKey") d)) (text_given_well _ (get_well (codes "TagKey") d h)))
    (as_object d) (any (as_object d))

with_tag_well : (tag : Option Tag) (tags : Option (List Tag)) → IsIfAny IsTag tag → IsIfAny (All IsTag) tags → IsIfAny (All IsTag) (with_tag tag tags)
with_tag_well (Some tag) (Some tags) p q = All-cons IsTag tag tags p q
with_tag_well (Some tag) None p q = tt
with_tag_well None tags p q = tt

tags_well : (ds : Items) → AreWell ds → IsIfAny (IsIfAny (All IsTag)) (tags_in_items ds)
tags_well no_items h = All-nil IsTag
tags_well (item d ds) h =
    chained (IsIfAny IsTag) (IsIfAny (All IsTag)) (λ tag. option_map (with_tag tag) (tags_in_items ds))
    (λ tag p. mapped (IsIfAny (All IsTag)) (IsIfAny (All IsTag)) (with_tag tag) (λ tags q. with_tag_well tag tags p q) (tags_in_items ds) (tags_well ds h.1))
    (tag_of d) (tag_well d h.0)

-- ---- by the kind of field

as_text : (d : Data) → IsWell d → IfGivenWell (option_map given.Text (as_str d))
as_text d h = mapped IsUtf8 IsGivenWell given.Text (λ s is. is) (as_str d) (text_well d h)

as_texts : (d : Data) → IsWell d → IfGivenWell (option_map given.Texts (list_of_texts d))
as_texts d h = mapped (All IsUtf8) IsGivenWell given.Texts (λ ts all. all) (list_of_texts d) (chained AreWell (All IsUtf8) texts_in_items texts_well (as_array d) (items_well d h))

as_tags : (d : Data) → IsWell d → IfGivenWell (option_map given.Tags (list_of_tags d))
as_tags d h =
    mapped (IsIfAny (All IsTag)) IsGivenWell given.Tags (λ tags all. all) (list_of_tags d)
    (chained AreWell (IsIfAny (All IsTag)) tags_in_items tags_well (as_array d) (items_well d h))

as_any : {A : Type 0} (f : A → Given) → ((a : A) → IsGivenWell (f a)) → (o : Option A) → IfGivenWell (option_map f o)
as_any {A} f each o = mapped (λ (a : A). ⊤) IsGivenWell f (λ a is. each a) o (any o)

value_well : (k : Kind) (d : Data) → IsWell d → IfGivenWell (value_of k d)
value_well (kind.Text least most) d h = as_text d h
value_well kind.SomeText d h = as_text d h
value_well kind.AnyText d h = as_text d h
value_well kind.AliasName d h = as_text d h
value_well kind.PolicyName d h = as_text d h
value_well kind.DataKeySpec d h = as_text d h
value_well kind.GrantName d h = as_text d h
value_well (kind.Texts most) d h = as_texts d h
value_well kind.GrantOperations d h = as_texts d h
value_well (kind.Bytes least most) d h = as_any given.Bytes (λ b. tt) (bytes_of d)
value_well kind.Context d h = context_well d h
value_well kind.GrantConstraint d h = constraint_well d h
value_well kind.Tags d h = as_tags d h
value_well kind.TagKeys d h = as_texts d h
value_well (kind.Whole least most) d h = as_any (λ z. given.Whole (natural z)) (λ z. tt) (whole_of d)
value_well kind.Flag d h = as_any given.Flag (λ b. tt) (as_bool d)
value_well kind.Object d h = as_any (λ (ms : Members). given.Something) (λ ms. tt) (as_object d)

value_given_well : (k : Kind) (o : Option Data) → IfGiven o → IfGivenWell (value_given k o)
value_given_well k None h = tt
value_given_well k (Some datum.null) h = tt
value_given_well k (Some (datum.boolean b)) h = value_well k (datum.boolean b) h
value_given_well k (Some (datum.number n)) h = value_well k (datum.number n) h
value_given_well k (Some (datum.string s)) h = value_well k (datum.string s) h
value_given_well k (Some (datum.array ds)) h = value_well k (datum.array ds) h
value_given_well k (Some (datum.object ms)) h = value_well k (datum.object ms) h

or_absent : (o : Option Given) → IfGivenWell o → IsGivenWell (unwrap_or o given.Absent)
or_absent None h = tt
or_absent (Some v) h = h

at_well : (k : Kind) (name : List ℕ) (d : Data) → IsWell d → IsGivenWell (unwrap_or (value_given k (get name d)) given.Absent)
at_well k name d h = or_absent (value_given k (get name d)) (value_given_well k (get name d) (get_well name d h))

-- ---- what is made of what is given

the_text : (v : Given) → IsGivenWell v → IsUtf8 (text_in v)
the_text (given.Text s) h = h
the_text v h = IsUtf8-nil

text_or_none : (v : Given) → IsGivenWell v → IsIfAny IsUtf8 (text_if v)
text_or_none (given.Text s) h = h
text_or_none v h = tt

the_texts : (v : Given) → IsGivenWell v → All IsUtf8 (texts_in v)
the_texts (given.Texts ts) h = h
the_texts v h = All-nil IsUtf8

all_tags : (o : Option (List Tag)) → IsIfAny (All IsTag) o → All IsTag (unwrap_or o [])
all_tags None h = All-nil IsTag
all_tags (Some tags) h = h

the_tags : (v : Given) → IsGivenWell v → All IsTag (tags_in v)
the_tags (given.Tags o) h = all_tags o h
the_tags v h = All-nil IsTag

one_constraint : (o : Option GrantConstraint) → IsIfAny IsConstrained o → IsConstrained (unwrap_or o constraint.Free)
one_constraint None h = tt
one_constraint (Some c) h = h

the_constraint : (v : Given) → IsGivenWell v → IsConstrained (constraint_in v)
the_constraint (given.Constraint o) h = one_constraint o h
the_constraint v h = tt

operations_are : (names : List (List ℕ)) → IsOperations (operations_named names)
operations_are names i = those (λ o. sym (those_have (is_named names) o) i)

-- ---- by the operation

abbrev pub IsTextual : Changing → Type 0
IsTextual (changing.CreateKey x) = IsIfAny IsUtf8 x.policy × IsUtf8 x.description × All IsTag x.tags
IsTextual (changing.PutKeyPolicy key_id text bypass) = IsUtf8 text
IsTextual (changing.UpdateKeyDescription key_id text) = IsUtf8 text
IsTextual (changing.TagResource key_id tags) = All IsTag tags
IsTextual (changing.UntagResource key_id keys) = All IsUtf8 keys
IsTextual (changing.CreateGrant x) = IsOperations x.operations × IsConstrained x.constraint × IsIfAny IsUtf8 x.name
IsTextual _ = ⊤

abbrev pub HasTexts : AskBody → Type 0
HasTexts (ask.Change body) = IsTextual body
HasTexts (ask.Read body) = ⊤

textual : (operation : Operation) (d : Data) → IsWell d → HasTexts (built operation (given_by (fields_of operation) d))
textual op.CreateKey d h =
    (text_or_none _ (at_well kind.SomeText (codes "Policy") d h), the_text _ (at_well (kind.Text 0 8192) (codes "Description") d h), the_tags _ (at_well kind.Tags (codes "Tags") d h))
textual op.PutKeyPolicy d h = the_text _ (at_well kind.SomeText (codes "Policy") d h)
textual op.UpdateKeyDescription d h = the_text _ (at_well (kind.Text 0 8192) (codes "Description") d h)
textual op.TagResource d h = the_tags _ (at_well kind.Tags (codes "Tags") d h)
textual op.UntagResource d h = the_texts _ (at_well kind.TagKeys (codes "TagKeys") d h)
textual op.CreateGrant d h =
    (operations_are (texts_in (given_by (fields_of op.CreateGrant) d (codes "Operations"))), the_constraint _ (at_well kind.GrantConstraint (codes "Constraints") d h), text_or_none _ (at_well kind.GrantName (codes "Name") d h))
textual _ d h = tt

-- ---- a request

utf8_only : (b : Bool) (o : Option Data) (d : Data) → (if b then o else None) ≡ Some d → (b ≡ true) × (o ≡ Some d)
utf8_only true o d e = (refl, e)
utf8_only false o d e = cc

body_well : (text : List ℕ) (d : Data) → body_data text ≡ Some d → IsWell d
body_well [] d e = let is : datum.object no_members ≡ d = cc in subst IsWell is tt
body_well (byte ∷ bytes) d e =
    let parts = utf8_only (is_utf8 (byte ∷ bytes)) (read_text (byte ∷ bytes)) d e in
    read_well (byte ∷ bytes) d (IsUtf8-from_is_utf8 (byte ∷ bytes) parts.0) parts.1

pub asked_textual : (target text : List ℕ) (body : AskBody) → asked target text ≡ Ok body → HasTexts body
asked_textual target text body e =
    let by = asked_is target text body e in
    subst HasTexts by.made (textual by.operation by.value (body_well text by.value by.is))
