-- An operator's text tells the operator, its prefix and its suffix.
use Rattle.std.proofs.Common.{◌≡◌, ◌≢◌, ℕ, Bool, true, false, List, [], ◌∷◌, ◌++◌, get_or, refl, sym, ◌∙◌, ap, subst, if◌then◌else◌, nat_eq, arith}
use Rattle.std.proofs.lemmas.List.{append_cancel_left}
use Rattle.std.specs.Prelude.{codes}
use Rattle.std.specs.Str.{bytes_eq}
use Rattle.cond_ops.specs.declared.operators.Operator.{Operator}
use Rattle.cond_ops.specs.declared.operators.Operator.TheVariants.{StringEquals, StringNotEquals, StringEqualsIgnoreCase, StringNotEqualsIgnoreCase, StringLike, StringNotLike, NumericEquals, NumericNotEquals, NumericLessThan, NumericLessThanEquals, NumericGreaterThan, NumericGreaterThanEquals, DateEquals, DateNotEquals, DateLessThan, DateLessThanEquals, DateGreaterThan, DateGreaterThanEquals, BoolIs, ArnEquals, ArnNotEquals, ArnLike, ArnNotLike, NullIs}
use Rattle.cond_ops.specs.declared.qualified.Qualifier.{Qualifier}
use Rattle.cond_ops.specs.declared.qualified.Qualifier.TheVariants.{Plain, AllValues, AnyValue}
use Rattle.cond_ops.specs.declared.qualified.QualifiedOperator.{QualifiedOperator}
use Rattle.cond_ops.specs.Operator.{operator_name}
use Rattle.cond_ops.specs.Qualified.{prefix_of, suffix_of, operator_text, IsWellQualified, IsOperatorText, IsAfterPrefix}

-- the operator that a name is, and that a name with the suffix is
abbrev named : List ℕ → Operator
named text =
    if bytes_eq text (codes "StringEquals") then StringEquals else
    if bytes_eq text (codes "StringNotEquals") then StringNotEquals else
    if bytes_eq text (codes "StringEqualsIgnoreCase") then StringEqualsIgnoreCase else
    if bytes_eq text (codes "StringNotEqualsIgnoreCase") then StringNotEqualsIgnoreCase else
    if bytes_eq text (codes "StringLike") then StringLike else
    if bytes_eq text (codes "StringNotLike") then StringNotLike else
    if bytes_eq text (codes "NumericEquals") then NumericEquals else
    if bytes_eq text (codes "NumericNotEquals") then NumericNotEquals else
    if bytes_eq text (codes "NumericLessThan") then NumericLessThan else
    if bytes_eq text (codes "NumericLessThanEquals") then NumericLessThanEquals else
    if bytes_eq text (codes "NumericGreaterThan") then NumericGreaterThan else
    if bytes_eq text (codes "NumericGreaterThanEquals") then NumericGreaterThanEquals else
    if bytes_eq text (codes "DateEquals") then DateEquals else
    if bytes_eq text (codes "DateNotEquals") then DateNotEquals else
    if bytes_eq text (codes "DateLessThan") then DateLessThan else
    if bytes_eq text (codes "DateLessThanEquals") then DateLessThanEquals else
    if bytes_eq text (codes "DateGreaterThan") then DateGreaterThan else
    if bytes_eq text (codes "DateGreaterThanEquals") then DateGreaterThanEquals else
    if bytes_eq text (codes "Bool") then BoolIs else
    if bytes_eq text (codes "ArnEquals") then ArnEquals else
    if bytes_eq text (codes "ArnNotEquals") then ArnNotEquals else
    if bytes_eq text (codes "ArnLike") then ArnLike else
    if bytes_eq text (codes "ArnNotLike") then ArnNotLike else
    NullIs

abbrev named_with_suffix : List ℕ → Operator
named_with_suffix text =
    if bytes_eq text (codes "StringEqualsIfExists") then StringEquals else
    if bytes_eq text (codes "StringNotEqualsIfExists") then StringNotEquals else
    if bytes_eq text (codes "StringEqualsIgnoreCaseIfExists") then StringEqualsIgnoreCase else
    if bytes_eq text (codes "StringNotEqualsIgnoreCaseIfExists") then StringNotEqualsIgnoreCase else
    if bytes_eq text (codes "StringLikeIfExists") then StringLike else
    if bytes_eq text (codes "StringNotLikeIfExists") then StringNotLike else
    if bytes_eq text (codes "NumericEqualsIfExists") then NumericEquals else
    if bytes_eq text (codes "NumericNotEqualsIfExists") then NumericNotEquals else
    if bytes_eq text (codes "NumericLessThanIfExists") then NumericLessThan else
    if bytes_eq text (codes "NumericLessThanEqualsIfExists") then NumericLessThanEquals else
    if bytes_eq text (codes "NumericGreaterThanIfExists") then NumericGreaterThan else
    if bytes_eq text (codes "NumericGreaterThanEqualsIfExists") then NumericGreaterThanEquals else
    if bytes_eq text (codes "DateEqualsIfExists") then DateEquals else
    if bytes_eq text (codes "DateNotEqualsIfExists") then DateNotEquals else
    if bytes_eq text (codes "DateLessThanIfExists") then DateLessThan else
    if bytes_eq text (codes "DateLessThanEqualsIfExists") then DateLessThanEquals else
    if bytes_eq text (codes "DateGreaterThanIfExists") then DateGreaterThan else
    if bytes_eq text (codes "DateGreaterThanEqualsIfExists") then DateGreaterThanEquals else
    if bytes_eq text (codes "BoolIfExists") then BoolIs else
    if bytes_eq text (codes "ArnEqualsIfExists") then ArnEquals else
    if bytes_eq text (codes "ArnNotEqualsIfExists") then ArnNotEquals else
    if bytes_eq text (codes "ArnLikeIfExists") then ArnLike else
    if bytes_eq text (codes "ArnNotLikeIfExists") then ArnNotLike else
    NullIs

named_is : (o : Operator) → named (operator_name o) ≡ o
named_is StringEquals = refl
named_is StringNotEquals = refl
named_is StringEqualsIgnoreCase = refl
named_is StringNotEqualsIgnoreCase = refl
named_is StringLike = refl
named_is StringNotLike = refl
named_is NumericEquals = refl
named_is NumericNotEquals = refl
named_is NumericLessThan = refl
named_is NumericLessThanEquals = refl
named_is NumericGreaterThan = refl
named_is NumericGreaterThanEquals = refl
named_is DateEquals = refl
named_is DateNotEquals = refl
named_is DateLessThan = refl
named_is DateLessThanEquals = refl
named_is DateGreaterThan = refl
named_is DateGreaterThanEquals = refl
named_is BoolIs = refl
named_is ArnEquals = refl
named_is ArnNotEquals = refl
named_is ArnLike = refl
named_is ArnNotLike = refl
named_is NullIs = refl

named_with_suffix_is : (o : Operator) → named_with_suffix (operator_name o ++ suffix_of true) ≡ o
named_with_suffix_is StringEquals = refl
named_with_suffix_is StringNotEquals = refl
named_with_suffix_is StringEqualsIgnoreCase = refl
named_with_suffix_is StringNotEqualsIgnoreCase = refl
named_with_suffix_is StringLike = refl
named_with_suffix_is StringNotLike = refl
named_with_suffix_is NumericEquals = refl
named_with_suffix_is NumericNotEquals = refl
named_with_suffix_is NumericLessThan = refl
named_with_suffix_is NumericLessThanEquals = refl
named_with_suffix_is NumericGreaterThan = refl
named_with_suffix_is NumericGreaterThanEquals = refl
named_with_suffix_is DateEquals = refl
named_with_suffix_is DateNotEquals = refl
named_with_suffix_is DateLessThan = refl
named_with_suffix_is DateLessThanEquals = refl
named_with_suffix_is DateGreaterThan = refl
named_with_suffix_is DateGreaterThanEquals = refl
named_with_suffix_is BoolIs = refl
named_with_suffix_is ArnEquals = refl
named_with_suffix_is ArnNotEquals = refl
named_with_suffix_is ArnLike = refl
named_with_suffix_is ArnNotLike = refl
named_with_suffix_is NullIs = refl

-- the last letter but one of the suffix is none of a name
abbrev ends_as_suffix : List ℕ → Bool
ends_as_suffix [] = false
ends_as_suffix (c ∷ text) = if bytes_eq (c ∷ text) (codes "IfExists") then true else ends_as_suffix text

no_suffix : (o : Operator) → ends_as_suffix (operator_name o) ≡ false
no_suffix StringEquals = refl
no_suffix StringNotEquals = refl
no_suffix StringEqualsIgnoreCase = refl
no_suffix StringNotEqualsIgnoreCase = refl
no_suffix StringLike = refl
no_suffix StringNotLike = refl
no_suffix NumericEquals = refl
no_suffix NumericNotEquals = refl
no_suffix NumericLessThan = refl
no_suffix NumericLessThanEquals = refl
no_suffix NumericGreaterThan = refl
no_suffix NumericGreaterThanEquals = refl
no_suffix DateEquals = refl
no_suffix DateNotEquals = refl
no_suffix DateLessThan = refl
no_suffix DateLessThanEquals = refl
no_suffix DateGreaterThan = refl
no_suffix DateGreaterThanEquals = refl
no_suffix BoolIs = refl
no_suffix ArnEquals = refl
no_suffix ArnNotEquals = refl
no_suffix ArnLike = refl
no_suffix ArnNotLike = refl
no_suffix NullIs = refl

suffix_stands : (o : Operator) → ends_as_suffix (operator_name o ++ suffix_of true) ≡ true
suffix_stands StringEquals = refl
suffix_stands StringNotEquals = refl
suffix_stands StringEqualsIgnoreCase = refl
suffix_stands StringNotEqualsIgnoreCase = refl
suffix_stands StringLike = refl
suffix_stands StringNotLike = refl
suffix_stands NumericEquals = refl
suffix_stands NumericNotEquals = refl
suffix_stands NumericLessThan = refl
suffix_stands NumericLessThanEquals = refl
suffix_stands NumericGreaterThan = refl
suffix_stands NumericGreaterThanEquals = refl
suffix_stands DateEquals = refl
suffix_stands DateNotEquals = refl
suffix_stands DateLessThan = refl
suffix_stands DateLessThanEquals = refl
suffix_stands DateGreaterThan = refl
suffix_stands DateGreaterThanEquals = refl
suffix_stands BoolIs = refl
suffix_stands ArnEquals = refl
suffix_stands ArnNotEquals = refl
suffix_stands ArnLike = refl
suffix_stands ArnNotLike = refl
suffix_stands NullIs = refl

first_letter : (o : Operator) (e : Bool) → nat_eq (get_or (operator_name o ++ suffix_of e) 0 0) 70 ≡ false
first_letter StringEquals e = refl
first_letter StringNotEquals e = refl
first_letter StringEqualsIgnoreCase e = refl
first_letter StringNotEqualsIgnoreCase e = refl
first_letter StringLike e = refl
first_letter StringNotLike e = refl
first_letter NumericEquals e = refl
first_letter NumericNotEquals e = refl
first_letter NumericLessThan e = refl
first_letter NumericLessThanEquals e = refl
first_letter NumericGreaterThan e = refl
first_letter NumericGreaterThanEquals e = refl
first_letter DateEquals e = refl
first_letter DateNotEquals e = refl
first_letter DateLessThan e = refl
first_letter DateLessThanEquals e = refl
first_letter DateGreaterThan e = refl
first_letter DateGreaterThanEquals e = refl
first_letter BoolIs e = refl
first_letter ArnEquals e = refl
first_letter ArnNotEquals e = refl
first_letter ArnLike e = refl
first_letter ArnNotLike e = refl
first_letter NullIs e = refl

append_nil : (xs : List ℕ) → xs ++ [] ≡ xs
append_nil [] = refl
append_nil (x ∷ xs) = ap (λ ys. x ∷ ys) (append_nil xs)

apart : (o p : Operator) → operator_name o ++ [] ≡ operator_name p ++ suffix_of true → ⊥
apart o p h =
    let e : false ≡ true = sym (no_suffix o) ∙ (ap ends_as_suffix (sym (append_nil (operator_name o)) ∙ h) ∙ suffix_stands p) in cc

-- a name with or without the suffix is of one operator
pub one_name : (o p : Operator) (e f : Bool) → operator_name o ++ suffix_of e ≡ operator_name p ++ suffix_of f → (o ≡ p) × (e ≡ f)
one_name o p false false h =
    (sym (named_is o) ∙ (ap named (sym (append_nil (operator_name o)) ∙ (h ∙ append_nil (operator_name p))) ∙ named_is p), refl)
one_name o p true true h = (sym (named_with_suffix_is o) ∙ (ap named_with_suffix h ∙ named_with_suffix_is p), refl)
one_name o p false true h = absurd (apart o p h)
one_name o p true false h = absurd (apart p o (sym h))

letter_apart : (t : List ℕ) → nat_eq (get_or t 0 0) 70 ≡ false → get_or t 0 0 ≡ 70 → ⊥
letter_apart t differs is = let e : nat_eq 70 70 ≡ false = subst (λ c. nat_eq c 70 ≡ false) is differs in cc

-- what a prefix and what follows it tell of a text of a prefix and an operator's name
by_prefixes : (text rest : List ℕ) (q p : Qualifier) (o : Operator) (e : Bool) → IsAfterPrefix text q rest → text ≡ prefix_of p ++ (operator_name o ++ suffix_of e)
    → (p ≡ q) × (rest ≡ operator_name o ++ suffix_of e)
by_prefixes text rest Plain Plain o e at is = (refl, sym at.0 ∙ is)
by_prefixes text rest Plain AllValues o e at is = absurd ((at.1 refl _).0 is)
by_prefixes text rest Plain AnyValue o e at is = absurd ((at.1 refl _).1 is)
by_prefixes text rest AllValues Plain o e at is =
    absurd (letter_apart (operator_name o ++ suffix_of e) (first_letter o e) (ap (λ t. get_or t 0 0) (sym is ∙ at.0)))
by_prefixes text rest AllValues AllValues o e at is =
    let same : prefix_of AllValues ++ rest ≡ prefix_of AllValues ++ (operator_name o ++ suffix_of e) = sym at.0 ∙ is in (refl, append_cancel_left (prefix_of AllValues) _ _ same)
by_prefixes text rest AllValues AnyValue o e at is =
    let fifth : ◌≡◌ {A = ℕ} 108 110 = ap (λ t. get_or t 4 0) (sym at.0 ∙ is) in absurd (omega arith)
by_prefixes text rest AnyValue Plain o e at is =
    absurd (letter_apart (operator_name o ++ suffix_of e) (first_letter o e) (ap (λ t. get_or t 0 0) (sym is ∙ at.0)))
by_prefixes text rest AnyValue AllValues o e at is =
    let fifth : ◌≡◌ {A = ℕ} 110 108 = ap (λ t. get_or t 4 0) (sym at.0 ∙ is) in absurd (omega arith)
by_prefixes text rest AnyValue AnyValue o e at is =
    let same : prefix_of AnyValue ++ rest ≡ prefix_of AnyValue ++ (operator_name o ++ suffix_of e) = sym at.0 ∙ is in (refl, append_cancel_left (prefix_of AnyValue) _ _ same)

abbrev made : Operator → Qualifier → Bool → QualifiedOperator
made o q e = record { operator = o; qualifier = q; if_exists = e }

module _ (text rest : List ℕ) (q : Qualifier) (at : IsAfterPrefix text q rest) where
  one_prefix : (x : QualifiedOperator) → IsOperatorText text x → (x.qualifier ≡ q) × (rest ≡ operator_name x.operator ++ suffix_of x.if_exists)
  one_prefix x is = by_prefixes text rest q x.qualifier x.operator x.if_exists at is.1

  -- what follows the prefix is no name
  pub no_name : ((o : Operator) (e : Bool) → rest ≢ operator_name o ++ suffix_of e) → (x : QualifiedOperator) → ¬ (IsOperatorText text x)
  no_name none x is = none x.operator x.if_exists (one_prefix x is).1

  -- what stands there is one operator
  pub one_operator : (o : Operator) (e : Bool) → rest ≡ operator_name o ++ suffix_of e → (x : QualifiedOperator) → IsOperatorText text x
      → x ≡ made o q e
  one_operator o e name x is =
      let parts = one_prefix x is in
      let names = one_name x.operator o x.if_exists e (sym parts.1 ∙ name) in
      ap (λ (v : Operator). made v x.qualifier x.if_exists) names.0
      ∙ (ap (λ (v : Qualifier). made o v x.if_exists) parts.0 ∙ ap (λ (v : Bool). made o q v) names.1)

  -- and none where that one may not stand
  pub not_allowed : (o : Operator) (e : Bool) → rest ≡ operator_name o ++ suffix_of e → ¬ (IsWellQualified (made o q e))
      → (x : QualifiedOperator) → ¬ (IsOperatorText text x)
  not_allowed o e name wrong x is = wrong (subst IsWellQualified (one_operator o e name x is) is.0)

-- the prefix of an operator's text is read off
prefix_read : (p : Qualifier) (o : Operator) (e : Bool) → IsAfterPrefix (prefix_of p ++ (operator_name o ++ suffix_of e)) p (operator_name o ++ suffix_of e)
prefix_read Plain o e = (
  refl,
  λ plain other. (
    λ is. letter_apart (operator_name o ++ suffix_of e) (first_letter o e) (ap (λ t. get_or t 0 0) is),
    λ is. letter_apart (operator_name o ++ suffix_of e) (first_letter o e) (ap (λ t. get_or t 0 0) is),
  ),
)
prefix_read AllValues o e = (refl, λ plain. cc)
prefix_read AnyValue o e = (refl, λ plain. cc)

pub texts_differ : (x y : QualifiedOperator) → IsWellQualified x → IsWellQualified y → operator_text x ≡ operator_text y → x ≡ y
texts_differ x y well_x well_y same =
    one_operator (operator_text y) _ y.qualifier (prefix_read y.qualifier y.operator y.if_exists) y.operator y.if_exists refl x (well_x, sym same)
