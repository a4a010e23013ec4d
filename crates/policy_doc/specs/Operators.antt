-- The operators of conditions, and the forms of their values, as functions of texts.
use Rattle.std.specs.Prelude.{ℕ, zero, suc, Bool, true, false, not, ◌&&◌, ◌||◌, ◌==◌, List, [], ◌∷◌, ◌++◌, codes, find, Option, Result, Err, if◌then◌else◌}
use Rattle.std.specs.List.{flat_map}
use Rattle.std.specs.Option.{ok_or}
use Rattle.std.specs.Str.{bytes_eq, str_to_ascii_lowercase}
use Rattle.cond_ops.specs.declared.operators.Operator.{Operator}
use Rattle.cond_ops.specs.declared.operators.Operator.TheVariants.{StringEquals, StringNotEquals, StringEqualsIgnoreCase, StringNotEqualsIgnoreCase, StringLike, StringNotLike, NumericEquals, NumericNotEquals, NumericLessThan, NumericLessThanEquals, NumericGreaterThan, NumericGreaterThanEquals, DateEquals, DateNotEquals, DateLessThan, DateLessThanEquals, DateGreaterThan, DateGreaterThanEquals, BoolIs, ArnEquals, ArnNotEquals, ArnLike, ArnNotLike, NullIs}
use Rattle.cond_ops.specs.declared.operators.Kind.{Kind}
use Rattle.cond_ops.specs.declared.operators.Kind.TheVariants.{Text, TextIgnoringCase, Pattern, Number, Date, Truth, Arn, Absence}
use Rattle.cond_ops.specs.declared.qualified.Qualifier.{Qualifier}
use Rattle.cond_ops.specs.declared.qualified.Qualifier.TheVariants.{Plain, AllValues, AnyValue}
use Rattle.cond_ops.specs.declared.qualified.QualifiedOperator.{QualifiedOperator}
use Rattle.cond_ops.specs.Operator.{kind_of}
use Rattle.cond_ops.specs.Qualified.{operator_text}
use Rattle.policy_doc.specs.Names.{is_known}
use Rattle.policy_doc.specs.Values.{is_number_text, is_moment_text}
use Rattle.policy_doc.specs.declared.faults.Departure.{Departure}
use Rattle.policy_doc.specs.declared.faults.Departure.TheVariants.{BadShape, Unsupported}

abbrev pub is_absence : Kind → Bool
is_absence Text = false
is_absence TextIgnoringCase = false
is_absence Pattern = false
is_absence (Number order) = false
is_absence (Date order) = false
is_absence Truth = false
is_absence Arn = false
is_absence Absence = true

abbrev pub is_null : Operator → Bool
is_null operator = is_absence (kind_of operator)

-- so many colons, or more
abbrev pub has_colons : ℕ → List ℕ → Bool
has_colons zero text = true
has_colons (suc n) [] = false
has_colons (suc n) (c ∷ text) = if c == 58 then has_colons n text else has_colons (suc n) text

-- the form of a value, by what it is compared as
abbrev pub has_form : Kind → List ℕ → Bool
has_form Text text = true
has_form TextIgnoringCase text = true
has_form Pattern text = true
has_form (Number order) text = is_number_text text
has_form (Date order) text = is_moment_text text
has_form Truth text = bytes_eq (str_to_ascii_lowercase text) (codes "true") || bytes_eq (str_to_ascii_lowercase text) (codes "false")
has_form Arn text = has_colons 5 text
has_form Absence text = bytes_eq text (codes "true") || bytes_eq text (codes "false")

abbrev pub is_value_text : Operator → List ℕ → Bool
is_value_text operator text = has_form (kind_of operator) text

abbrev pub operators : List Operator
operators = StringEquals ∷ StringNotEquals ∷ StringEqualsIgnoreCase ∷ StringNotEqualsIgnoreCase ∷ StringLike ∷ StringNotLike ∷ NumericEquals ∷ NumericNotEquals ∷ NumericLessThan ∷ NumericLessThanEquals ∷ NumericGreaterThan ∷ NumericGreaterThanEquals ∷ DateEquals ∷ DateNotEquals ∷ DateLessThan ∷ DateLessThanEquals ∷ DateGreaterThan ∷ DateGreaterThanEquals ∷ BoolIs ∷ ArnEquals ∷ ArnNotEquals ∷ ArnLike ∷ ArnNotLike ∷ NullIs ∷ []

-- an operator with each prefix and suffix
abbrev pub forms_of : Operator → List QualifiedOperator
forms_of operator =
    record { operator = operator; qualifier = Plain; if_exists = false } ∷
    record { operator = operator; qualifier = Plain; if_exists = true } ∷
    record { operator = operator; qualifier = AllValues; if_exists = false } ∷
    record { operator = operator; qualifier = AllValues; if_exists = true } ∷
    record { operator = operator; qualifier = AnyValue; if_exists = false } ∷
    record { operator = operator; qualifier = AnyValue; if_exists = true } ∷
    []

abbrev pub is_plain : Qualifier → Bool
is_plain Plain = true
is_plain AllValues = false
is_plain AnyValue = false

-- Null takes neither prefix nor suffix
abbrev pub is_well_qualified : QualifiedOperator → Bool
is_well_qualified x = if is_null x.operator then is_plain x.qualifier && not x.if_exists else true

-- the operator whose text it is
unfoldable pub operator_of : List ℕ → Option QualifiedOperator
operator_of text = find (λ x. is_well_qualified x && bytes_eq text (operator_text x)) (flat_map forms_of operators)

-- the texts of the operators that aren't served, with each prefix and suffix
abbrev pub unserved : List (List ℕ)
unserved = codes "IpAddress" ∷ codes "NotIpAddress" ∷ codes "BinaryEquals" ∷ []

abbrev pub prefixes : List (List ℕ)
prefixes = [] ∷ codes "ForAllValues:" ∷ codes "ForAnyValue:" ∷ []

abbrev pub suffixes : List (List ℕ)
suffixes = [] ∷ codes "IfExists" ∷ []

abbrev pub unserved_texts : List (List ℕ)
unserved_texts = flat_map (λ prefix. flat_map (λ name. flat_map (λ suffix. (prefix ++ (name ++ suffix)) ∷ []) suffixes) unserved) prefixes

abbrev pub is_unserved : List ℕ → Bool
is_unserved name = is_known unserved_texts name

-- the operator that a member of Condition names
abbrev pub operator_or : Bool → Option QualifiedOperator → Result QualifiedOperator Departure
operator_or true operator = Err Unsupported
operator_or false operator = ok_or operator BadShape

unfoldable pub named_operator : List ℕ → Result QualifiedOperator Departure
named_operator name = operator_or (is_unserved name) (operator_of name)
