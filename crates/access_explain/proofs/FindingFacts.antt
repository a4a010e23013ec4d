-- What is made of the runs and the ground is the finding, and there is one.
use Rattle.std.proofs.Common.{◌≡◌, inl, inr, List, [], ◌∷◌, Option, None, Some, Result, Ok, Err, IfOk, refl, sym, ◌∙◌, subst}
use Rattle.kms_names.specs.declared.operations.GrantOp.{GrantOp}
use Rattle.grant_table.specs.declared.rows.GrantRow.{GrantRow}
use Rattle.access_explain.specs.declared.marks.Mark.{Mark}
use Rattle.access_explain.specs.Marks.{IsMark, IsKeyMark, IsGrantMark}
use Rattle.access_explain.proofs.MarkFacts.{one_mark, one_key_mark, one_grant_mark}
use Rattle.access_explain.proofs.EqualFacts.{finding_is}
use Rattle.kms_names.specs.declared.faults.NoMemory.{NoMemory}
use Rattle.policy_doc.specs.declared.policies.PolicyKind.TheVariants.{Key, Identity}
use Rattle.account_steps.specs.declared.questions.Question.{Question}
use Rattle.access_explain.specs.declared.findings.Finding.{Finding}
use Rattle.access_explain.specs.declared.findings.Runs.{Runs}
use Rattle.access_explain.specs.declared.grounds.Ground.{Ground}
use Rattle.access_explain.specs.declared.subjects.Subject.{Subject}
use Rattle.access_explain.specs.Findings.{Basis, subject_of, of_the_key, of_the_caller, of_the_ceiling, Fits, grants_asked, AreGrantMarks, IsFindingOn, IsFinding}
use Rattle.access_explain.specs.Grounds.{rows_for, IsFirst}
use Rattle.access_explain.specs.Tests.{AreRuns, finding_of}
use Rattle.access_explain.proofs.RunFacts.{marks_alone, one_list}

module _ (basis : Basis) (q : Question) where
  made : (subject : Subject) (runs : Runs) (g : Ground) → AreRuns basis q subject runs → IsFirst (Fits basis q subject (finding_of q runs g)) (rows_for subject) g
      → IsFindingOn basis q subject (finding_of q runs g)
  made subject runs g are first = record {
    action = refl;
    resource = refl;
    key = marks_alone Key q.facts (of_the_key basis q subject) runs.key are.key;
    identity = marks_alone Identity q.facts (of_the_caller basis q subject) runs.identity are.identity;
    ceiling = marks_alone Identity q.facts (of_the_ceiling basis q subject) runs.ceiling are.ceiling;
    grant = are.grants;
    ground = first;
  }

  pub is_finding : (subject : Subject) → subject ≡ subject_of q → (runs : Runs) (g : Ground) → AreRuns basis q subject runs
      → IsFirst (Fits basis q subject (finding_of q runs g)) (rows_for subject) g → (r : Result Finding NoMemory) → IfOk r (λ f. f ≡ finding_of q runs g) → IfOk r (IsFinding basis q)
  is_finding subject about runs g are first (Ok f) is = subst (IsFinding basis q) (sym is) (subst (λ (s : Subject). IsFindingOn basis q s (finding_of q runs g)) about (made subject runs g are first))
  is_finding subject about runs g are first (Err e) is = tt

-- ---- there is one

one_first : (P : Ground → Type 0) (rows : List Ground) (g h : Ground) → IsFirst P rows g → IsFirst P rows h → g ≡ h
one_first P [] g h is also = absurd is
one_first P (r ∷ rows) g h (inl is) (inl also) = is.1 ∙ sym also.1
one_first P (r ∷ rows) g h (inl is) (inr later) = absurd (later.0 is.0)
one_first P (r ∷ rows) g h (inr later) (inl is) = absurd (later.0 is.0)
one_first P (r ∷ rows) g h (inr is) (inr also) = one_first P rows g h is.1 also.1

-- a finding with the marks of another
abbrev with_marks : Finding → Finding → Finding
with_marks f g = record {
  action = f.action;
  resource = f.resource;
  ground = f.ground;
  key_marks = g.key_marks;
  identity_marks = g.identity_marks;
  ceiling_marks = g.ceiling_marks;
  grant_marks = g.grant_marks;
}

module _ (basis : Basis) (q : Question) where
  one_grant_run : (op : Option GrantOp) (rows : List GrantRow) (ms ns : List Mark) → AreGrantMarks q.facts.caller op q.grants rows ms → AreGrantMarks q.facts.caller op q.grants rows ns → ms ≡ ns
  one_grant_run None rows ms ns is also = is ∙ sym also
  one_grant_run (Some op) rows ms ns is also = one_list (IsGrantMark q.facts.caller op q.grants) (one_grant_mark q.facts.caller op q.grants) rows ms ns is also

  one_on : (subject : Subject) (f g : Finding) → IsFindingOn basis q subject f → IsFindingOn basis q subject g → f ≡ g
  one_on subject f g is also =
      let key : f.key_marks ≡ g.key_marks = one_list (λ s m. IsKeyMark s q.facts m) (λ s. one_key_mark s q.facts) (of_the_key basis q subject) f.key_marks g.key_marks is.key also.key in
      let identity : f.identity_marks ≡ g.identity_marks =
      one_list (λ s m. IsMark s q.facts m) (λ s. one_mark s q.facts) (of_the_caller basis q subject) f.identity_marks g.identity_marks is.identity also.identity
      in
      let ceiling : f.ceiling_marks ≡ g.ceiling_marks =
      one_list (λ s m. IsMark s q.facts m) (λ s. one_mark s q.facts) (of_the_ceiling basis q subject) f.ceiling_marks g.ceiling_marks is.ceiling also.ceiling
      in
      let grant : f.grant_marks ≡ g.grant_marks = one_grant_run q.op (grants_asked basis.grants subject) f.grant_marks g.grant_marks is.grant also.grant in
      let same : f ≡ with_marks f g = λ i. record { action = f.action; resource = f.resource; ground = f.ground; key_marks = key i; identity_marks = identity i; ceiling_marks = ceiling i; grant_marks = grant i } in
      let first : IsFirst (Fits basis q subject g) (rows_for subject) f.ground = subst (λ (h : Finding). IsFirst (Fits basis q subject h) (rows_for subject) f.ground) same is.ground in
      finding_is f g (is.action ∙ sym also.action) (is.resource ∙ sym also.resource) (one_first (Fits basis q subject g) (rows_for subject) f.ground g.ground first also.ground) (key, identity, ceiling, grant)

  pub one_finding : (f g : Finding) → IsFinding basis q f → IsFinding basis q g → f ≡ g
  one_finding f g is also = one_on (subject_of q) f g is also
