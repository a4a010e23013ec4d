-- The ground that is found is the first that fits.
use Rattle.std.proofs.Common.{◌≡◌, inl, inr, ⊎_elim, Bool, true, false, not, ◌&&◌, List, [], ◌∷◌, refl, sym, ◌∙◌}
use Rattle.std.specs.Prelude.{◌↔◌, IsTrue, ⊤}
use Rattle.policy_doc.specs.declared.policies.Policy.{Policy}
use Rattle.policy_doc.specs.declared.policies.PolicyKind.TheVariants.{Key, Identity}
use Rattle.policy_eval.specs.Ceiling.{Under}
use Rattle.authority.specs.Setting.{is_root}
use Rattle.account_steps.specs.declared.questions.Question.{Question}
use Rattle.access_explain.specs.declared.findings.Finding.{Finding}
use Rattle.access_explain.specs.declared.findings.Runs.{Runs}
use Rattle.access_explain.specs.declared.grounds.Ground.{Ground}
use Rattle.access_explain.specs.declared.grounds.Ground.TheVariants as ground
use Rattle.access_explain.specs.declared.grounds.Tested.{Tested}
use Rattle.access_explain.specs.declared.marks.Mark.TheVariants as mark
use Rattle.access_explain.specs.declared.subjects.Subject.{Subject}
use Rattle.access_explain.specs.declared.subjects.Subject.TheVariants as about
use Rattle.access_explain.specs.Findings.{Basis, statements_of, of_the_key, of_the_caller, Retires, Fits}
use Rattle.access_explain.specs.Grounds.{rows_for, IsFirst}
use Rattle.access_explain.specs.Tests.{fits, IsRunOf, LetsPass, AreRuns, AreTested, marks_in, finding_of}
use Rattle.access_explain.proofs.HitFacts.{documents_deny, documents_allow}
use Rattle.access_explain.proofs.RunFacts.{marks_alone, some_alone}

-- ---- rows that fit alike

abbrev AllRows : (Ground → Type 0) → List Ground → Type 0
AllRows P [] = ⊤
AllRows P (g ∷ gs) = P g × AllRows P gs

same_first : (P Q : Ground → Type 0) (rows : List Ground) (g : Ground) → AllRows (λ r. P r ↔ Q r) rows → IsFirst P rows g → IsFirst Q rows g
same_first P Q [] g all is = absurd is
same_first P Q (r ∷ rows) g all (inl here) = inl (all.0.0 here.0, here.1)
same_first P Q (r ∷ rows) g all (inr later) = inr (λ q. later.0 (all.0.1 q), same_first P Q rows g all.1 later.1)

also : {A B C : Type 0} → A ↔ B → B ↔ C → A ↔ C
also ab bc = (λ a. bc.0 (ab.0 a), λ c. ab.1 (bc.1 c))

nots : {P : Type 0} (b : Bool) → IsTrue b ↔ P → IsTrue (not b) ↔ (¬ P)
nots true tells = (λ t. absurd (cc), λ no. absurd (no (tells.0 refl)))
nots false tells = (λ t p. let bad : false ≡ true = tells.1 p in cc, λ no. refl)

ands : {P Q : Type 0} (a b : Bool) → IsTrue a ↔ P → IsTrue b ↔ Q → IsTrue (a && b) ↔ (P × Q)
ands true b p q = (λ t. (p.0 refl, q.0 t), λ both. q.1 both.1)
ands false b p q = (λ t. absurd (cc), λ both. absurd (let bad : false ≡ true = p.1 both.0 in cc))

-- ---- under a ceiling

module _ (basis : Basis) (q : Question) (runs : Runs) (g : Ground) where
  lets_pass : (documents : List Policy) → IsRunOf Identity q.facts (statements_of documents) runs.ceiling → LetsPass documents runs.ceiling ↔ Under documents q.facts
  lets_pass documents run =
      let marks = marks_alone Identity q.facts (statements_of documents) runs.ceiling run in
      let denies = also (some_alone Identity q.facts false mark.Hit (statements_of documents) runs.ceiling run) (documents_deny q.facts documents (marks_in runs.ceiling) marks) in
      let allows = also (some_alone Identity q.facts true mark.Hit (statements_of documents) runs.ceiling run) (documents_allow q.facts documents (marks_in runs.ceiling) marks) in (
        λ passes. ⊎_elim (λ none. inl none) (λ both. inr (λ d. both.0 (denies.1 d), allows.0 both.1)) passes,
        λ under. ⊎_elim (λ none. inl none) (λ both. inr (λ d. both.0 (denies.0 d), allows.1 both.1)) under,
      )

  module _ (t : Tested) (may : Bool) (subject : Subject) (are : AreRuns basis q subject runs) (tested : AreTested runs basis.ceiling (is_root q.facts.caller) may t) where
    abbrev f : Finding
    f = finding_of q runs g

    key_deny : IsTrue t.key_denies ↔ Fits basis q subject f ground.KeyDeny
    key_deny = also tested.key_denies (some_alone Key q.facts false mark.Hit (of_the_key basis q subject) runs.key are.key)

    identity_deny : IsTrue t.identity_denies ↔ Fits basis q subject f ground.IdentityDeny
    identity_deny = also tested.identity_denies (some_alone Identity q.facts false mark.Hit (of_the_caller basis q subject) runs.identity are.identity)

    key_policy : IsTrue t.key_allows ↔ Fits basis q subject f ground.KeyPolicy
    key_policy = also tested.key_allows (some_alone Key q.facts true mark.Hit (of_the_key basis q subject) runs.key are.key)

    identity : IsTrue t.identity_allows ↔ Fits basis q subject f ground.Identity
    identity = also tested.identity_allows (some_alone Identity q.facts true mark.Hit (of_the_caller basis q subject) runs.identity are.identity)

    root_and_identity : IsTrue (t.key_allows_root && t.identity_allows) ↔ Fits basis q subject f ground.RootAndIdentity
    root_and_identity =
        ands t.key_allows_root t.identity_allows (also tested.key_allows_root (some_alone Key q.facts true mark.RootHit (of_the_key basis q subject) runs.key are.key)) identity

    root : IsTrue t.is_root ↔ Fits basis q subject f ground.Root
    root = (λ is. sym tested.root ∙ is, λ is. tested.root ∙ is)

    retire : IsTrue may ↔ Retires q.facts.caller basis.grants subject → IsTrue t.may_retire ↔ Fits basis q subject f ground.Retire
    retire tells = also (λ is. sym tested.retires ∙ is, λ is. tested.retires ∙ is) tells

  module _ (t : Tested) (may : Bool) where
    pub is_ground : (subject : Subject) → AreRuns basis q subject runs → AreTested runs basis.ceiling (is_root q.facts.caller) may t → IsTrue may ↔ Retires q.facts.caller basis.grants subject
        → IsFirst (λ row. IsTrue (fits t row)) (rows_for subject) g → IsFirst (Fits basis q subject (finding_of q runs g)) (rows_for subject) g
    is_ground (about.Key key) are tested tells is =
        same_first (λ row. IsTrue (fits t row)) (Fits basis q (about.Key key) (finding_of q runs g)) (rows_for (about.Key key)) g (
          key_deny t may (about.Key key) are tested,
          (
            identity_deny t may (about.Key key) are tested,
            (
              nots t.is_under (also tested.is_under (lets_pass basis.ceiling are.ceiling)),
              (
                key_policy t may (about.Key key) are tested,
                (root_and_identity t may (about.Key key) are tested, (tested.grant_permits, ((λ any. tt, λ any. refl), tt))),
              ),
            ),
          ),
        ) is
    is_ground about.Other are tested tells is =
        same_first (λ row. IsTrue (fits t row)) (Fits basis q about.Other (finding_of q runs g)) (rows_for about.Other) g (
          identity_deny t may about.Other are tested,
          (
            nots t.is_under (also tested.is_under (lets_pass basis.ceiling are.ceiling)),
            (identity t may about.Other are tested, (root t may about.Other are tested, ((λ any. tt, λ any. refl), tt))),
          ),
        ) is
    is_ground (about.Retiring key grant) are tested tells is =
        same_first (λ row. IsTrue (fits t row)) (Fits basis q (about.Retiring key grant) (finding_of q runs g)) (rows_for (about.Retiring key grant)) g
        (retire t may (about.Retiring key grant) are tested tells, ((λ any. tt, λ any. refl), tt)) is
