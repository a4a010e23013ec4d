-- An operator is found by its text.
use Rattle.std.proofs.Common.{◌≡◌, ℕ, Bool, true, false, List, [], ◌∷◌, ◌++◌, Option, Some, None, Err, refl, sym, ap, ◌∙◌, if◌then◌else◌}
use Rattle.std.specs.Prelude.{find, cond, MatchOption, ◌&&◌, ⊤, not}
use Rattle.std.specs.Bool.{Decides}
use Rattle.std.specs.List.{flat_map}
use Rattle.std.specs.Str.{bytes_eq}
use Rattle.std.proofs.lemmas.Bool.{and_parts, and_from}
use Rattle.std.proofs.lemmas.Bool.Decides.{Decides-and}
use Rattle.std.proofs.lemmas.Slice.Eq.{bytes_eq-Decides}
use Rattle.cond_ops.specs.declared.operators.Operator.{Operator}
use Rattle.cond_ops.specs.declared.operators.Operator.TheVariants.{StringEquals, StringNotEquals, StringEqualsIgnoreCase, StringNotEqualsIgnoreCase, StringLike, StringNotLike, NumericEquals, NumericNotEquals, NumericLessThan, NumericLessThanEquals, NumericGreaterThan, NumericGreaterThanEquals, DateEquals, DateNotEquals, DateLessThan, DateLessThanEquals, DateGreaterThan, DateGreaterThanEquals, BoolIs, ArnEquals, ArnNotEquals, ArnLike, ArnNotLike, NullIs}
use Rattle.cond_ops.specs.declared.qualified.Qualifier.{Qualifier}
use Rattle.cond_ops.specs.declared.qualified.Qualifier.TheVariants.{Plain, AllValues, AnyValue}
use Rattle.cond_ops.specs.declared.qualified.QualifiedOperator.{QualifiedOperator}
use Rattle.cond_ops.specs.Qualified.{operator_text, IsWellQualified, IsOperatorText}
use Rattle.cond_ops.proofs.OperatorFacts.{texts_differ}
use Rattle.policy_doc.specs.declared.faults.Departure.TheVariants.{Unsupported}
use Rattle.policy_doc.specs.Operators.{is_unserved, operator_or, named_operator, is_null, operators, forms_of, is_plain, is_well_qualified, operator_of}

-- each of a list, by recursion
abbrev Each : {A : Type 0} → (A → Type 0) → List A → Type 0
Each P [] = ⊤
Each P (x ∷ xs) = P x × Each P xs

each_left : {A : Type 0} (P : A → Type 0) (xs ys : List A) → Each P (xs ++ ys) → Each P xs
each_left P [] ys h = tt
each_left P (x ∷ xs) ys h = (h.0, each_left P xs ys h.1)

each_right : {A : Type 0} (P : A → Type 0) (xs ys : List A) → Each P (xs ++ ys) → Each P ys
each_right P [] ys h = h
each_right P (x ∷ xs) ys h = each_right P xs ys h.1

each_flat : {A B : Type 0} (P : B → Type 0) (f : A → List B) (xs : List A) → Each P (flat_map f xs) → Each (λ x. Each P (f x)) xs
each_flat P f [] h = tt
each_flat P f (x ∷ xs) h = (each_left P (f x) (flat_map f xs) h, each_flat P f xs (each_right P (f x) (flat_map f xs) h))

match_both : {A : Type 0} (P P' : Type 0) (Q Q' : A → Type 0) (o : Option A) → (P → P') → ((x : A) → Q x → Q' x) → MatchOption o P Q → MatchOption o P' Q'
match_both P P' Q Q' None f g h = f h
match_both P P' Q Q' (Some x) f g h = g x h

found : {A : Type 0} (p : A → Bool) (xs : List A) → MatchOption (find p xs) (Each (λ x. p x ≡ false) xs) (λ x. p x ≡ true)
found p [] = tt
found {A} p (x ∷ xs) = by_test (p x) refl (found p xs)
  where
    by_test : (b : Bool) → p x ≡ b → MatchOption (find p xs) (Each (λ x. p x ≡ false) xs) (λ x. p x ≡ true) → MatchOption (cond b (Some x) (find p xs)) (Each (λ x. p x ≡ false) (x ∷ xs)) (λ x. p x ≡ true)
    by_test true e later = e
    by_test false e later = match_both (Each (λ x. p x ≡ false) xs) (Each (λ x. p x ≡ false) (x ∷ xs)) (λ x. p x ≡ true) (λ x. p x ≡ true) (find p xs) (λ h. (e, h)) (λ x h. h) later

each_operator : (P : Operator → Type 0) → Each P operators → (operator : Operator) → P operator
each_operator P h StringEquals = h.0
each_operator P h StringNotEquals = h.1.0
each_operator P h StringEqualsIgnoreCase = h.1.1.0
each_operator P h StringNotEqualsIgnoreCase = h.1.1.1.0
each_operator P h StringLike = h.1.1.1.1.0
each_operator P h StringNotLike = h.1.1.1.1.1.0
each_operator P h NumericEquals = h.1.1.1.1.1.1.0
each_operator P h NumericNotEquals = h.1.1.1.1.1.1.1.0
each_operator P h NumericLessThan = h.1.1.1.1.1.1.1.1.0
each_operator P h NumericLessThanEquals = h.1.1.1.1.1.1.1.1.1.0
each_operator P h NumericGreaterThan = h.1.1.1.1.1.1.1.1.1.1.0
each_operator P h NumericGreaterThanEquals = h.1.1.1.1.1.1.1.1.1.1.1.0
each_operator P h DateEquals = h.1.1.1.1.1.1.1.1.1.1.1.1.0
each_operator P h DateNotEquals = h.1.1.1.1.1.1.1.1.1.1.1.1.1.0
each_operator P h DateLessThan = h.1.1.1.1.1.1.1.1.1.1.1.1.1.1.0
each_operator P h DateLessThanEquals = h.1.1.1.1.1.1.1.1.1.1.1.1.1.1.1.0
each_operator P h DateGreaterThan = h.1.1.1.1.1.1.1.1.1.1.1.1.1.1.1.1.0
each_operator P h DateGreaterThanEquals = h.1.1.1.1.1.1.1.1.1.1.1.1.1.1.1.1.1.0
each_operator P h BoolIs = h.1.1.1.1.1.1.1.1.1.1.1.1.1.1.1.1.1.1.0
each_operator P h ArnEquals = h.1.1.1.1.1.1.1.1.1.1.1.1.1.1.1.1.1.1.1.0
each_operator P h ArnNotEquals = h.1.1.1.1.1.1.1.1.1.1.1.1.1.1.1.1.1.1.1.1.0
each_operator P h ArnLike = h.1.1.1.1.1.1.1.1.1.1.1.1.1.1.1.1.1.1.1.1.1.0
each_operator P h ArnNotLike = h.1.1.1.1.1.1.1.1.1.1.1.1.1.1.1.1.1.1.1.1.1.1.0
each_operator P h NullIs = h.1.1.1.1.1.1.1.1.1.1.1.1.1.1.1.1.1.1.1.1.1.1.1.0

each_form : (P : QualifiedOperator → Type 0) (operator : Operator) → Each P (forms_of operator) → (qualifier : Qualifier) (if_exists : Bool) → P (record { operator = operator; qualifier = qualifier; if_exists = if_exists })
each_form P operator h Plain false = h.0
each_form P operator h Plain true = h.1.0
each_form P operator h AllValues false = h.1.1.0
each_form P operator h AllValues true = h.1.1.1.0
each_form P operator h AnyValue false = h.1.1.1.1.0
each_form P operator h AnyValue true = h.1.1.1.1.1.0

null_decides : (operator : Operator) → Decides (is_null operator) (operator ≡ NullIs)
null_decides StringEquals = (λ e. let bad : false ≡ true = e in absurd (cc), λ e. let bad : StringEquals ≡ NullIs = e in absurd (cc))
null_decides StringNotEquals = (λ e. let bad : false ≡ true = e in absurd (cc), λ e. let bad : StringNotEquals ≡ NullIs = e in absurd (cc))
null_decides StringEqualsIgnoreCase = (λ e. let bad : false ≡ true = e in absurd (cc), λ e. let bad : StringEqualsIgnoreCase ≡ NullIs = e in absurd (cc))
null_decides StringNotEqualsIgnoreCase = (λ e. let bad : false ≡ true = e in absurd (cc), λ e. let bad : StringNotEqualsIgnoreCase ≡ NullIs = e in absurd (cc))
null_decides StringLike = (λ e. let bad : false ≡ true = e in absurd (cc), λ e. let bad : StringLike ≡ NullIs = e in absurd (cc))
null_decides StringNotLike = (λ e. let bad : false ≡ true = e in absurd (cc), λ e. let bad : StringNotLike ≡ NullIs = e in absurd (cc))
null_decides NumericEquals = (λ e. let bad : false ≡ true = e in absurd (cc), λ e. let bad : NumericEquals ≡ NullIs = e in absurd (cc))
null_decides NumericNotEquals = (λ e. let bad : false ≡ true = e in absurd (cc), λ e. let bad : NumericNotEquals ≡ NullIs = e in absurd (cc))
null_decides NumericLessThan = (λ e. let bad : false ≡ true = e in absurd (cc), λ e. let bad : NumericLessThan ≡ NullIs = e in absurd (cc))
null_decides NumericLessThanEquals = (λ e. let bad : false ≡ true = e in absurd (cc), λ e. let bad : NumericLessThanEquals ≡ NullIs = e in absurd (cc))
null_decides NumericGreaterThan = (λ e. let bad : false ≡ true = e in absurd (cc), λ e. let bad : NumericGreaterThan ≡ NullIs = e in absurd (cc))
null_decides NumericGreaterThanEquals = (λ e. let bad : false ≡ true = e in absurd (cc), λ e. let bad : NumericGreaterThanEquals ≡ NullIs = e in absurd (cc))
null_decides DateEquals = (λ e. let bad : false ≡ true = e in absurd (cc), λ e. let bad : DateEquals ≡ NullIs = e in absurd (cc))
null_decides DateNotEquals = (λ e. let bad : false ≡ true = e in absurd (cc), λ e. let bad : DateNotEquals ≡ NullIs = e in absurd (cc))
null_decides DateLessThan = (λ e. let bad : false ≡ true = e in absurd (cc), λ e. let bad : DateLessThan ≡ NullIs = e in absurd (cc))
null_decides DateLessThanEquals = (λ e. let bad : false ≡ true = e in absurd (cc), λ e. let bad : DateLessThanEquals ≡ NullIs = e in absurd (cc))
null_decides DateGreaterThan = (λ e. let bad : false ≡ true = e in absurd (cc), λ e. let bad : DateGreaterThan ≡ NullIs = e in absurd (cc))
null_decides DateGreaterThanEquals = (λ e. let bad : false ≡ true = e in absurd (cc), λ e. let bad : DateGreaterThanEquals ≡ NullIs = e in absurd (cc))
null_decides BoolIs = (λ e. let bad : false ≡ true = e in absurd (cc), λ e. let bad : BoolIs ≡ NullIs = e in absurd (cc))
null_decides ArnEquals = (λ e. let bad : false ≡ true = e in absurd (cc), λ e. let bad : ArnEquals ≡ NullIs = e in absurd (cc))
null_decides ArnNotEquals = (λ e. let bad : false ≡ true = e in absurd (cc), λ e. let bad : ArnNotEquals ≡ NullIs = e in absurd (cc))
null_decides ArnLike = (λ e. let bad : false ≡ true = e in absurd (cc), λ e. let bad : ArnLike ≡ NullIs = e in absurd (cc))
null_decides ArnNotLike = (λ e. let bad : false ≡ true = e in absurd (cc), λ e. let bad : ArnNotLike ≡ NullIs = e in absurd (cc))
null_decides NullIs = (λ _. refl, λ _. refl)

plain_decides : (q : Qualifier) → Decides (is_plain q) (q ≡ Plain)
plain_decides Plain = (λ _. refl, λ _. refl)
plain_decides AllValues = (λ e. let bad : false ≡ true = e in absurd (cc), λ e. let bad : AllValues ≡ Plain = e in absurd (cc))
plain_decides AnyValue = (λ e. let bad : false ≡ true = e in absurd (cc), λ e. let bad : AnyValue ≡ Plain = e in absurd (cc))

not_decides : (b : Bool) → Decides (not b) (b ≡ false)
not_decides true = (λ e. let bad : false ≡ true = e in absurd (cc), λ e. let bad : true ≡ false = e in absurd (cc))
not_decides false = (λ _. refl, λ _. refl)

qualified_decides : (x : QualifiedOperator) → Decides (is_well_qualified x) (IsWellQualified x)
qualified_decides x = by_test (is_null x.operator) (null_decides x.operator)
  where
    by_test : (b : Bool) → Decides b (x.operator ≡ NullIs) → Decides (if b then is_plain x.qualifier && not x.if_exists else true) (IsWellQualified x)
    by_test true null = (
      λ t _. let parts = and_parts (is_plain x.qualifier) (not x.if_exists) t in ((plain_decides x.qualifier).0 parts.0, (not_decides x.if_exists).0 parts.1),
      λ well. let parts = well (null.0 refl) in and_from (is_plain x.qualifier) (not x.if_exists) ((plain_decides x.qualifier).1 parts.0) ((not_decides x.if_exists).1 parts.1),
    )
    by_test false null = (λ _ e. let bad : false ≡ true = null.1 e in absurd (cc), λ _. refl)

abbrev is_named : List ℕ → QualifiedOperator → Bool
is_named name x = is_well_qualified x && bytes_eq name (operator_text x)

named_decides : (name : List ℕ) (x : QualifiedOperator) → Decides (is_named name x) (IsOperatorText name x)
named_decides name x = Decides-and (is_well_qualified x) (bytes_eq name (operator_text x)) (qualified_decides x) (bytes_eq-Decides name (operator_text x))

unnamed : (name : List ℕ) → Each (λ x. is_named name x ≡ false) (flat_map forms_of operators) → (x : QualifiedOperator) → ¬ (IsOperatorText name x)
unnamed name each x named =
    let at : is_named name x ≡ false = each_form (λ x. is_named name x ≡ false) x.operator (each_operator (λ o. Each (λ x. is_named name x ≡ false) (forms_of o)) (each_flat (λ x. is_named name x ≡ false) forms_of operators each) x.operator) x.qualifier x.if_exists in
    let is : is_named name x ≡ true = (named_decides name x).1 named in
    let bad : false ≡ true = sym at ∙ is in
    cc

pub operator_reads : (name : List ℕ) → MatchOption (operator_of name) ((x : QualifiedOperator) → ¬ (IsOperatorText name x)) (IsOperatorText name)
unfolding operator_of
operator_reads name =
    match_both (Each (λ x. is_named name x ≡ false) (flat_map forms_of operators)) ((x : QualifiedOperator) → ¬ (IsOperatorText name x)) (λ x. is_named name x ≡ true) (IsOperatorText name)
    (find (is_named name) (flat_map forms_of operators)) (unnamed name) (λ x. (named_decides name x).0) (found (is_named name) (flat_map forms_of operators))

-- a text is that of one operator
pub one_operator : (name : List ℕ) (x y : QualifiedOperator) → IsOperatorText name x → IsOperatorText name y → x ≡ y
one_operator name x y is also = texts_differ x y is.0 also.0 (sym is.1 ∙ also.1)

pub operator_is : (name : List ℕ) (o : Option QualifiedOperator) → MatchOption o ((x : QualifiedOperator) → ¬ (IsOperatorText name x)) (IsOperatorText name) → o ≡ operator_of name
operator_is name o reads = same o (operator_of name) reads (operator_reads name)
  where
    same : (a b : Option QualifiedOperator) → MatchOption a ((x : QualifiedOperator) → ¬ (IsOperatorText name x)) (IsOperatorText name)
        → MatchOption b ((x : QualifiedOperator) → ¬ (IsOperatorText name x)) (IsOperatorText name) → a ≡ b
    same None None none also = refl
    same None (Some y) none is = absurd (none y is)
    same (Some x) None is none = absurd (none x is)
    same (Some x) (Some y) is also = ap Some (one_operator name x y is also)

pub unserved_error : (name : List ℕ) → is_unserved name ≡ true → Err Unsupported ≡ named_operator name
unfolding named_operator
unserved_error name is = ap (λ (b : Bool). operator_or b (operator_of name)) (sym is)
