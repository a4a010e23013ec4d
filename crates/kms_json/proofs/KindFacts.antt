-- What a valid value keeps to, by its field's kind.
use Rattle.std.proofs.Common.{◌≡◌, ℕ, ◌≤◌, ◌&&◌, List, [], length, codes, Bool, true, false, not, Option, Some, None, refl, ap, ◌∙◌, subst, if◌then◌else◌, nat_le, unwrap_or, leb-true, arith}
use Rattle.std.specs.Option.{IfSome, option_and_then, option_map}
use Rattle.std.specs.Str.{bytes_eq}
use Rattle.enc_context.specs.Encoding.{encoding_of}
use Rattle.enc_context.specs.declared.pairs.Pair.{Pair}
use Rattle.resource_tags.specs.declared.tags.Tag.{Tag}
use Rattle.serde_json.specs.Data.{Data, null, boolean, number, string, array, object}
use Rattle.serde_json.specs.Find.{get}
use Rattle.kms_names.specs.Reading.{is_alias_text}
use Rattle.kms_json.specs.declared.asks.grants.GrantConstraint.{GrantConstraint}
use Rattle.kms_json.specs.declared.asks.grants.GrantConstraint.TheVariants as constraint
use Rattle.kms_json.specs.declared.fields.Kind.TheVariants as kind
use Rattle.kms_json.specs.declared.given.Given.{Given}
use Rattle.kms_json.specs.declared.given.Given.TheVariants as given
use Rattle.kms_json.specs.Given.{is_absent, is_there, text_if, text_in, bytes_in, context_in, constraint_in, tags_if, tags_in, whole_in, number_or, number_in}
use Rattle.kms_json.specs.Fields.{value_given, is_given, is_between, is_some_between, context_given, constraint_by, fitting, is_grant_name, are_tags}
use Rattle.kms_json.specs.CryptographyAsks.{spec_size, data_key_size}
use Rattle.kms_json.specs.Asks.{IsSizedConstraint}

both : (a b : Bool) → a && b ≡ true → (a ≡ true) × (b ≡ true)
both true b e = (refl, e)
both false b e = cc

between : (least most n : ℕ) → is_between least most n ≡ true → (least ≤ n) × (n ≤ most)
between least most n e =
    let parts = both (nat_le least n) (nat_le n most) e in
    (leb-true least n parts.0, leb-true n most parts.1)

some_between : (least most default : ℕ) (o : Option ℕ) → is_some_between least most o ≡ true → (least ≤ unwrap_or o default) × (unwrap_or o default ≤ most)
some_between least most default None e = cc
some_between least most default (Some n) e = between least most n e

-- ---- where the value is to be given

there : (absent fit : Bool) → (if absent then false else fit) ≡ true → fit ≡ true
there true fit e = cc
there false fit e = e

pub text_there : (least most : ℕ) (value : Given) → (if is_absent value then false else is_between least most (length (text_in value))) ≡ true
    → (least ≤ length (text_in value)) × (length (text_in value) ≤ most)
text_there least most value e = between least most (length (text_in value)) (there (is_absent value) _ e)

pub bytes_there : (least most : ℕ) (value : Given) → (if is_absent value then false else is_between least most (length (bytes_in value))) ≡ true
    → (least ≤ length (bytes_in value)) × (length (bytes_in value) ≤ most)
bytes_there least most value e = between least most (length (bytes_in value)) (there (is_absent value) _ e)

pub number_there : (least most : ℕ) (value : Given) → (if is_absent value then false else is_some_between least most (whole_in value)) ≡ true
    → (least ≤ number_in value) × (number_in value ≤ most)
number_there least most value e = some_between least most 0 (whole_in value) (there (is_absent value) _ e)

pub alias_there : (value : Given) → (if is_absent value then false else is_alias_text (text_in value)) ≡ true → is_alias_text (text_in value) ≡ true
alias_there value e = there (is_absent value) _ e

-- ---- where it may be absent

-- a text keeps to its bound, where the empty text does
pub text_within : (most : ℕ) (value : Given) → (if is_absent value then true else is_between 0 most (length (text_in value))) ≡ true → length (text_in value) ≤ most
text_within most given.Absent e = omega arith
text_within most value e = (between 0 most (length (text_in value)) e).1

-- so does one that is told apart from none
pub text_if_within : (least most : ℕ) (value : Given) → (if is_absent value then true else is_between least most (length (text_in value))) ≡ true
    → IfSome (text_if value) (λ text. length text ≤ most)
text_if_within least most (given.Text text) e = (between least most (length text) e).1
text_if_within least most value e = tt

-- a number keeps to its bounds, where the one that stands for it does
pub number_within : (least most default : ℕ) → least ≤ default → default ≤ most → (value : Given)
    → (if is_absent value then true else is_some_between least most (whole_in value)) ≡ true
    → (least ≤ number_or value default) × (number_or value default ≤ most)
number_within least most default low high given.Absent e = (low, high)
number_within least most default low high value e = some_between least most default (whole_in value) e

pub name_within : (value : Given) → (if is_absent value then true else is_grant_name (text_in value)) ≡ true → IfSome (text_if value) (λ text. length text ≤ 256)
name_within (given.Text text) e = leb-true (length text) 256 (both (nat_le (length text) 256) _ (both (nat_le 1 (length text)) _ e).1).0
name_within value e = tt

-- ---- tags

few : (o : Option (List Tag)) → are_tags o ≡ true → length (unwrap_or o []) ≤ 50
few None e = cc
few (Some tags) e = leb-true (length tags) 50 (both (nat_le (length tags) 50) _ e).0

pub tags_there : (value : Given) → (if is_absent value then false else are_tags (tags_if value)) ≡ true → length (tags_in value) ≤ 50
tags_there value e = few (tags_if value) (there (is_absent value) _ e)

-- there are none where they are absent
pub tags_within : (value : Given) → (if is_absent value then true else are_tags (tags_if value)) ≡ true → length (tags_in value) ≤ 50
tags_within given.Absent e = omega arith
tags_within value e = few (tags_if value) e

-- ---- constraints

abbrev IsFit : Option (List Pair) → Type 0
IsFit o = IfSome o (λ pairs. length (encoding_of pairs) ≤ 4096)

fits_where : (pairs : List Pair) (b : Bool) → nat_le (length (encoding_of pairs)) 4096 ≡ b → IsFit (if b then Some pairs else None)
fits_where pairs true e = leb-true (length (encoding_of pairs)) 4096 e
fits_where pairs false e = tt

fit : (o : Option (List Pair)) → IsFit (option_and_then (fitting 4096) o)
fit None = tt
fit (Some pairs) = fits_where pairs (nat_le (length (encoding_of pairs)) 4096) refl

made : (make : List Pair → GrantConstraint) → ((pairs : List Pair) → length (encoding_of pairs) ≤ 4096 → IsSizedConstraint (make pairs)) → (o : Option (List Pair)) → IsFit o
    → IsSizedConstraint (unwrap_or (option_map make o) constraint.Free)
made make h None is = tt
made make h (Some pairs) is = h pairs is

chosen : (alone none two : Bool) (equals subset : Option (List Pair)) → IsFit equals → IsFit subset
    → IsSizedConstraint (unwrap_or (if alone then (if none then Some constraint.Free else option_map constraint.Equals equals) else if two then None else option_map constraint.Subset subset) constraint.Free)
chosen true true two equals subset p q = tt
chosen true false two equals subset p q = made constraint.Equals (λ pairs h. h) equals p
chosen false none true equals subset p q = tt
chosen false none false equals subset p q = made constraint.Subset (λ pairs h. h) subset q

two_sized : (equals subset : Option Given) (v : Given)
    → option_and_then (λ e. option_map (λ s. given.Constraint (constraint_by e s)) subset) equals ≡ Some v → IsSizedConstraint (constraint_in v)
two_sized None subset v e = cc
two_sized (Some equals) None v e = cc
two_sized (Some equals) (Some subset) v e =
    let is : given.Constraint (constraint_by equals subset) ≡ v = cc in
    let sized = chosen (is_absent subset) (is_absent equals) (is_there equals) (option_and_then (fitting 4096) (context_in equals)) (option_and_then (fitting 4096) (context_in subset))
    (fit (context_in equals)) (fit (context_in subset)) in
    subst (λ (g : Given). IsSizedConstraint (constraint_in g)) is sized

absent_sized : (v : Given) → Some given.Absent ≡ Some v → IsSizedConstraint (constraint_in v)
absent_sized v e = let is : given.Absent ≡ v = cc in subst (λ (g : Given). IsSizedConstraint (constraint_in g)) is tt

pub constraint_sized : (o : Option Data) (v : Given) → value_given kind.GrantConstraint o ≡ Some v → IsSizedConstraint (constraint_in v)
constraint_sized None v e = absent_sized v e
constraint_sized (Some null) v e = absent_sized v e
constraint_sized (Some (boolean b)) v e = cc
constraint_sized (Some (number n)) v e = cc
constraint_sized (Some (string s)) v e = cc
constraint_sized (Some (array items)) v e = cc
constraint_sized (Some (object ms)) v e =
    two_sized (context_given (get (codes "EncryptionContextEquals") (object ms))) (context_given (get (codes "EncryptionContextSubset") (object ms))) v e

-- ---- the size of a data key, by its spec or by its number of bytes

spec_sizes : (b : Bool) → (1 ≤ (if b then 32 else 16)) × ((if b then 32 else 16) ≤ 1024)
spec_sizes true = (omega arith, omega arith)
spec_sizes false = (omega arith, omega arith)

-- a value that may not be absent keeps to its kind's bounds
kept_where : (absent may_absent may_given fit : Bool) → may_absent ≡ false → (if absent then may_absent else (may_given && fit)) ≡ true → fit ≡ true
kept_where true may_absent may_given fit never e = cc
kept_where false may_absent may_given fit never e = (both may_given fit e).1

-- a spec that isn't there isn't given
spec_absent : (o : Option Data) (v : Given) → value_given kind.DataKeySpec o ≡ Some v → is_absent v ≡ true → is_given o ≡ false
spec_absent None v e absent = refl
spec_absent (Some null) v e absent = refl
spec_absent (Some (boolean b)) v e absent = cc
spec_absent (Some (number n)) v e absent = cc
spec_absent (Some (string s)) v e absent = let is : given.Text s ≡ v = cc in let bad : false ≡ true = ap is_absent is ∙ absent in cc
spec_absent (Some (array items)) v e absent = cc
spec_absent (Some (object ms)) v e absent = cc

-- a size by the number, where the spec isn't given, or by the spec
size_within : (b : Bool) (name : List ℕ) (n : ℕ) → (b ≡ true → (1 ≤ n) × (n ≤ 1024)) → (1 ≤ (if b then n else spec_size name)) × ((if b then n else spec_size name) ≤ 1024)
size_within true name n h = h refl
size_within false name n h = spec_sizes (bytes_eq name (codes "AES_256"))

pub sized_within : (d : Data) (spec value : Given) → value_given kind.DataKeySpec (get (codes "KeySpec") d) ≡ Some spec
    → (if is_absent value then is_given (get (codes "KeySpec") d) else (not (is_given (get (codes "KeySpec") d)) && is_some_between 1 1024 (whole_in value))) ≡ true
    → (1 ≤ data_key_size spec value) × (data_key_size spec value ≤ 1024)
sized_within d spec value read valid =
    size_within (is_absent spec) (text_in spec) (number_in value)
    (λ absent. some_between 1 1024 0 (whole_in value) (kept_where (is_absent value) _ _ _ (spec_absent (get (codes "KeySpec") d) spec read absent) valid))
