-- Whether a condition holds of a request is decided.
use Rattle.std.proofs.Common.{◌≡◌, ◌≢◌, inl, inr, ℕ, zero, suc, Bool, true, false, List, [], ◌∷◌, ◌++◌, refl, sym, ◌∙◌, ap, subst}
use Rattle.std.specs.Prelude.{ℤ, ◌<ℤ◌, ◌≤ℤ◌, T, codes, MatchBool}
use Rattle.std.specs.Str.{chars, str_to_ascii_lowercase}
use Rattle.std.proofs.lemmas.Bool.Decides.{Decides-int_eq}
use Rattle.std.proofs.lemmas.List.Elements.{All-nil, All-cons, All-tail}
use Rattle.std.specs.Int.Signed.{lt_z, le_z}
use Rattle.std.specs.Ordering.{int_eq}
use Rattle.kms_names.specs.Parts.{HasNoColon}
use Rattle.kms_names.proofs.Decisions.{Decided, decided_by_test, decided_like, decided_not, decided_both, decided_any, decided_all, decided_contains, same_number, same_text}
use Rattle.kms_names.proofs.GlobDecision.{decided_globs}
use Rattle.kms_names.proofs.PartsFacts.{one_cut}
use Rattle.cond_ops.specs.declared.conditions.Condition.{Condition}
use Rattle.cond_ops.specs.declared.facts.Fact.{Fact}
use Rattle.cond_ops.specs.declared.facts.RequestFacts.{RequestFacts}
use Rattle.cond_ops.specs.declared.operators.Operator.TheVariants.{NumericEquals, DateEquals}
use Rattle.cond_ops.specs.declared.operators.Order.{Order}
use Rattle.cond_ops.specs.declared.operators.Order.TheVariants.{Equal, Less, LessOrEqual, Greater, GreaterOrEqual}
use Rattle.cond_ops.specs.declared.operators.Kind.{Kind}
use Rattle.cond_ops.specs.declared.operators.Kind.TheVariants.{Text, TextIgnoringCase, Pattern, Number, Date, Truth, Arn, Absence}
use Rattle.cond_ops.specs.declared.qualified.Qualifier.{Qualifier}
use Rattle.cond_ops.specs.declared.qualified.Qualifier.TheVariants.{Plain, AllValues, AnyValue}
use Rattle.cond_ops.specs.Holds.{is_present, request_values, ValueMatches, HoldsOfValues, HoldsOfNone, IfAbsence, HoldsOf, Holds}
use Rattle.cond_ops.specs.Moment.{IsMoment}
use Rattle.cond_ops.specs.Number.{IsNumber}
use Rattle.cond_ops.specs.Operator.{kind_of, is_negated}
use Rattle.cond_ops.specs.Relation.{Compares, IsLike, PartsAreLike, RelatesAs, Relates}
use Rattle.cond_ops.specs.Value.{IsTruth}
use Rattle.cond_ops.proofs.ReadingFacts.{one_number, one_moment}
use Rattle.policy_doc.specs.Operators.{is_value_text}
use Rattle.policy_doc.proofs.ValueFacts.{value_decides}

-- ---- comparisons

decided_test : (b : Bool) → Decided (T b)
decided_test true = inl tt
decided_test false = inr (λ h. h)

less : (x y : ℤ) → Decided (x <ℤ y)
less x y = decided_like (λ t. record { lt = t }) (λ h. h.lt) (decided_test (lt_z x y))

at_most : (x y : ℤ) → Decided (x ≤ℤ y)
at_most x y = decided_like (λ t. record { le = t }) (λ h. h.le) (decided_test (le_z x y))

decided_compares : (order : Order) (x y : ℤ) → Decided (Compares order x y)
decided_compares Equal x y = decided_by_test (int_eq x y) (Decides-int_eq x y)
decided_compares Less x y = less x y
decided_compares LessOrEqual x y = at_most x y
decided_compares Greater x y = less y x
decided_compares GreaterOrEqual x y = at_most y x

-- texts that are read as one number at most
module _ (IsRead : List ℕ → ℤ → Type 0) (one : (text : List ℕ) (x y : ℤ) → IsRead text x → IsRead text y → x ≡ y) (order : Order) where
  abbrev AreRelated : List ℕ → List ℕ → Type 0
  AreRelated request policy = (x : ℤ) × (y : ℤ) × IsRead request x × IsRead policy y × Compares order x y

  decided_related : (request policy : List ℕ) → Decided ((x : ℤ) × IsRead request x) → Decided ((y : ℤ) × IsRead policy y) → Decided (AreRelated request policy)
  decided_related request policy (inr not) b = inr (λ h. not (h.0, h.2))
  decided_related request policy (inl a) (inr not) = inr (λ h. not (h.1, h.3))
  decided_related request policy (inl (x, is_x)) (inl (y, is_y)) = decided_like to back (decided_compares order x y)
    where
      to : Compares order x y → AreRelated request policy
      to h = (x, y, is_x, is_y, h)

      back : AreRelated request policy → Compares order x y
      back (v, w, is_v, is_w, h) =
          subst (λ z. Compares order z y) (one request v x is_v is_x) (subst (λ z. Compares order v z) (one policy w y is_w is_y) h)

-- ---- ARNs

abbrev IsFront : List ℕ → Type 0
IsFront text = (part : List ℕ) × (rest : List ℕ) × HasNoColon part × (text ≡ part ++ 58 ∷ rest)

decided_front : (text : List ℕ) → Decided (IsFront text)
decided_front [] = inr none
  where
    none : ¬ (IsFront [])
    none ([], rest, h, e) = cc
    none (c ∷ part, rest, h, e) = cc
decided_front (c ∷ text) = by_first (same_number c 58) (decided_front text)
  where
    by_first : Decided (c ≡ 58) → Decided (IsFront text) → Decided (IsFront (c ∷ text))
    by_first (inl is) later = inl ([], text, All-nil (λ x. x ≢ 58), ap (λ x. x ∷ text) is)
    by_first (inr other) (inl (part, rest, none, e)) = inl (c ∷ part, rest, All-cons (λ x. x ≢ 58) c part other none, ap (λ t. c ∷ t) e)
    by_first (inr other) (inr not) = inr none
      where
        none : ¬ (IsFront (c ∷ text))
        none ([], rest, h, e) = let is : c ≡ 58 = cc in other is
        none (d ∷ part, rest, h, e) = let tails : text ≡ part ++ 58 ∷ rest = cc in not (part, rest, All-tail (λ x. x ≢ 58) d part h, tails)

pub decided_is_like : (text pattern : List ℕ) → Decided (IsLike text pattern)
decided_is_like text pattern = decided_globs (chars pattern) (chars text)

-- of the first parts and of what follows them
module _ (n : ℕ) (each : (text pattern : List ℕ) → Decided (PartsAreLike n text pattern)) (text pattern : List ℕ) where
  decided_by_fronts : Decided (IsFront text) → Decided (IsFront pattern) → Decided (PartsAreLike (suc n) text pattern)
  decided_by_fronts (inr not) b = inr (λ h. not (h.0, h.1, h.4, h.6))
  decided_by_fronts (inl a) (inr not) = inr (λ h. not (h.2, h.3, h.5, h.7))
  decided_by_fronts (inl (part, rest, none, e)) (inl (first, others, no_colon, f)) =
      decided_like to back (decided_both (decided_is_like part first) (each rest others))
    where
      to : IsLike part first × PartsAreLike n rest others → PartsAreLike (suc n) text pattern
      to (h, more) = (part, rest, first, others, none, no_colon, e, f, h, more)

      back : PartsAreLike (suc n) text pattern → IsLike part first × PartsAreLike n rest others
      back (p, r, q, s, none_p, none_q, e', f', h, more) =
          let texts = one_cut p part r rest none_p none (sym e' ∙ e) in
          let patterns = one_cut q first s others none_q no_colon (sym f' ∙ f) in (
            subst (λ x. IsLike part x) patterns.0 (subst (λ x. IsLike x q) texts.0 h),
            subst (λ x. PartsAreLike n rest x) patterns.1 (subst (λ x. PartsAreLike n x s) texts.1 more),
          )

decided_parts : (n : ℕ) (text pattern : List ℕ) → Decided (PartsAreLike n text pattern)
decided_parts zero text pattern = decided_is_like text pattern
decided_parts (suc n) text pattern = decided_by_fronts n (decided_parts n) text pattern (decided_front text) (decided_front pattern)

-- ---- relations

decided_number : (text : List ℕ) → Decided ((z : ℤ) × IsNumber text z)
decided_number text = decided_by_test (is_value_text NumericEquals text) (value_decides NumericEquals text)

decided_moment : (text : List ℕ) → Decided ((z : ℤ) × IsMoment text z)
decided_moment text = decided_by_test (is_value_text DateEquals text) (value_decides DateEquals text)

abbrev AreOneTruth : List ℕ → List ℕ → Type 0
AreOneTruth request policy = (b : Bool) × IsTruth request b × IsTruth policy b

decided_truths : (request policy : List ℕ) → Decided (AreOneTruth request policy)
decided_truths request policy = by_both (both (codes "true")) (both (codes "false"))
  where
    both : (word : List ℕ) → Decided ((str_to_ascii_lowercase request ≡ word) × (str_to_ascii_lowercase policy ≡ word))
    both word = decided_both (same_text (str_to_ascii_lowercase request) word) (same_text (str_to_ascii_lowercase policy) word)

    by_both : Decided (IsTruth request true × IsTruth policy true) → Decided (IsTruth request false × IsTruth policy false) → Decided (AreOneTruth request policy)
    by_both (inl (a, b)) others = inl (true, a, b)
    by_both (inr not) (inl (a, b)) = inl (false, a, b)
    by_both (inr not) (inr nor) = inr none
      where
        none : ¬ (AreOneTruth request policy)
        none (true, a, b) = not (a, b)
        none (false, a, b) = nor (a, b)

decided_relates_as : (kind : Kind) (request policy : List ℕ) → Decided (RelatesAs kind request policy)
decided_relates_as Text request policy = same_text request policy
decided_relates_as TextIgnoringCase request policy = same_text (str_to_ascii_lowercase request) (str_to_ascii_lowercase policy)
decided_relates_as Pattern request policy = decided_is_like request policy
decided_relates_as (Number order) request policy = decided_related IsNumber one_number order request policy (decided_number request) (decided_number policy)
decided_relates_as (Date order) request policy = decided_related IsMoment one_moment order request policy (decided_moment request) (decided_moment policy)
decided_relates_as Truth request policy = decided_truths request policy
decided_relates_as Arn request policy = decided_parts 5 request policy
decided_relates_as Absence request policy = inr (λ h. h)

decided_matches : (condition : Condition) (value : List ℕ) → Decided (ValueMatches condition value)
decided_matches condition value =
    decided_any (Relates condition.operator value) (λ policy. decided_relates_as (kind_of condition.operator) value policy) condition.values

-- ---- conditions

decided_of_values : (qualifier : Qualifier) (negated : Bool) (IsMatch : List ℕ → Type 0) → ((value : List ℕ) → Decided (IsMatch value))
    → (values : List (List ℕ)) → Decided (HoldsOfValues qualifier negated IsMatch values)
decided_of_values Plain false IsMatch each values = decided_any IsMatch each values
decided_of_values Plain true IsMatch each values = decided_not (decided_any IsMatch each values)
decided_of_values AllValues false IsMatch each values = decided_all IsMatch each values
decided_of_values AllValues true IsMatch each values = decided_all (λ value. ¬ (IsMatch value)) (λ value. decided_not (each value)) values
decided_of_values AnyValue false IsMatch each values = decided_any IsMatch each values
decided_of_values AnyValue true IsMatch each values = decided_any (λ value. ¬ (IsMatch value)) (λ value. decided_not (each value)) values

decided_of_none : (qualifier : Qualifier) (negated if_exists : Bool) → Decided (HoldsOfNone qualifier negated if_exists)
decided_of_none qualifier negated true = inl tt
decided_of_none Plain true false = inl refl
decided_of_none Plain false false = inr (λ e. cc)
decided_of_none AllValues negated false = inl tt
decided_of_none AnyValue negated false = inr (λ h. h)

decided_by_kind : (kind : Kind) {P Q : Type 0} → Decided P → Decided Q → Decided (IfAbsence kind P Q)
decided_by_kind Text p q = q
decided_by_kind TextIgnoringCase p q = q
decided_by_kind Pattern p q = q
decided_by_kind (Number order) p q = q
decided_by_kind (Date order) p q = q
decided_by_kind Truth p q = q
decided_by_kind Arn p q = q
decided_by_kind Absence p q = p

decided_by_bool : (b : Bool) {P Q : Type 0} → Decided P → Decided Q → Decided (MatchBool b P Q)
decided_by_bool true p q = p
decided_by_bool false p q = q

decided_of : (condition : Condition) (facts : List Fact) → Decided (HoldsOf condition facts)
decided_of condition facts =
    decided_by_bool (is_present condition.key facts)
    (
    decided_by_kind (kind_of condition.operator) (decided_contains same_text condition.values (codes "false"))
    (decided_of_values condition.qualifier (is_negated condition.operator) (ValueMatches condition) (decided_matches condition) (request_values condition.key facts))
    )
    (
    decided_by_kind (kind_of condition.operator) (decided_contains same_text condition.values (codes "true"))
    (decided_of_none condition.qualifier (is_negated condition.operator) condition.if_exists)
    )

pub decided_holds : (condition : Condition) (request : RequestFacts) → Decided (Holds condition request)
unfolding Holds
decided_holds condition request = decided_of condition request.facts
