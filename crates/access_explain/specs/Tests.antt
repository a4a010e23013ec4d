-- What the code goes by to find a ground: a run with the effects of its statements, and what runs come to.
use Rattle.std.specs.Prelude.{◌≡◌, ◌↔◌, ◌⊎◌, Bool, true, false, IsTrue, List, [], map, Any, Contains, not, ◌&&◌}
use Rattle.cond_ops.specs.declared.facts.RequestFacts.{RequestFacts}
use Rattle.policy_doc.specs.declared.policies.PolicyKind.{PolicyKind}
use Rattle.policy_doc.specs.declared.policies.PolicyKind.TheVariants.{Key, Identity}
use Rattle.policy_doc.specs.declared.policies.Statement.{Statement}
use Rattle.access_explain.specs.declared.grounds.Ground.{Ground}
use Rattle.access_explain.specs.declared.grounds.Ground.TheVariants as ground
use Rattle.access_explain.specs.declared.grounds.Tested.{Tested}
use Rattle.access_explain.specs.declared.marks.Mark.{Mark}
use Rattle.access_explain.specs.declared.runs.Marked.{Marked}
use Rattle.access_explain.specs.declared.marks.Mark.TheVariants as mark
use Rattle.access_explain.specs.declared.findings.Finding.{Finding}
use Rattle.access_explain.specs.declared.findings.Runs.{Runs}
use Rattle.access_explain.specs.declared.subjects.Subject.{Subject}
use Rattle.policy_doc.specs.declared.policies.Policy.{Policy}
use Rattle.account_steps.specs.declared.questions.Question.{Question}
use Rattle.access_explain.specs.Findings.{Basis, of_the_key, of_the_caller, of_the_ceiling, grants_asked, AreGrantMarks}
use Rattle.access_explain.specs.Marks.{IsMark, IsKeyMark}
use Rattle.access_explain.specs.Runs.{OneByOne}

-- the mark of a statement of a policy of this kind
abbrev pub IsMarkBy : PolicyKind → Statement → RequestFacts → Mark → Type 0
IsMarkBy Key s request mark = IsKeyMark s request mark
IsMarkBy Identity s request mark = IsMark s request mark

-- the mark with the effect of the statement
abbrev pub IsMarkedBy : PolicyKind → RequestFacts → Statement → Marked → Type 0
IsMarkedBy kind request s m = (m.allow ≡ s.allow) × IsMarkBy kind s request m.mark

-- a run of statements
abbrev pub IsRunOf : PolicyKind → RequestFacts → List Statement → List Marked → Type 0
IsRunOf kind request statements run = OneByOne (IsMarkedBy kind request) statements run

-- some statement of this effect has this mark
abbrev pub SomeMarked : Bool → Mark → List Marked → Type 0
SomeMarked allow mark run = Any (λ (m : Marked). (m.allow ≡ allow) × (m.mark ≡ mark)) run

-- whether a row fits, by what runs come to
abbrev pub fits : Tested → Ground → Bool
fits t ground.KeyDeny = t.key_denies
fits t ground.IdentityDeny = t.identity_denies
fits t ground.Ceiling = not t.is_under
fits t ground.KeyPolicy = t.key_allows
fits t ground.RootAndIdentity = t.key_allows_root && t.identity_allows
fits t ground.Grant = t.grant_permits
fits t ground.Identity = t.identity_allows
fits t ground.Root = t.is_root
fits t ground.Retire = t.may_retire
fits t ground.Nothing = true

-- the runs of a question about this
pub record AreRuns (basis : Basis) (q : Question) (subject : Subject) (runs : Runs) : Type 0 where
  pub key : IsRunOf Key q.facts (of_the_key basis q subject) runs.key
  pub identity : IsRunOf Identity q.facts (of_the_caller basis q subject) runs.identity
  pub ceiling : IsRunOf Identity q.facts (of_the_ceiling basis q subject) runs.ceiling
  pub grants : AreGrantMarks q.facts.caller q.op q.grants (grants_asked basis.grants subject) runs.grants

-- what the run of a ceiling of these documents says
abbrev pub LetsPass : List Policy → List Marked → Type 0
LetsPass documents run = (documents ≡ []) ⊎ (¬ (SomeMarked false mark.Hit run) × SomeMarked true mark.Hit run)

-- what runs come to
pub record AreTested (runs : Runs) (documents : List Policy) (is_root may_retire : Bool) (t : Tested) : Type 0 where
  pub key_denies : IsTrue t.key_denies ↔ SomeMarked false mark.Hit runs.key
  pub identity_denies : IsTrue t.identity_denies ↔ SomeMarked false mark.Hit runs.identity
  pub is_under : IsTrue t.is_under ↔ LetsPass documents runs.ceiling
  pub key_allows : IsTrue t.key_allows ↔ SomeMarked true mark.Hit runs.key
  pub key_allows_root : IsTrue t.key_allows_root ↔ SomeMarked true mark.RootHit runs.key
  pub identity_allows : IsTrue t.identity_allows ↔ SomeMarked true mark.Hit runs.identity
  pub grant_permits : IsTrue t.grant_permits ↔ Contains runs.grants mark.Hit
  pub root : t.is_root ≡ is_root
  pub retires : t.may_retire ≡ may_retire

abbrev pub marks_in : List Marked → List Mark
marks_in run = map (λ (m : Marked). m.mark) run

-- the finding of these runs with this ground
abbrev pub finding_of : Question → Runs → (ground : Ground) → Finding
finding_of q runs g = record {
  action = q.facts.action;
  resource = q.facts.resource;
  ground = g;
  key_marks = marks_in runs.key;
  identity_marks = marks_in runs.identity;
  ceiling_marks = marks_in runs.ceiling;
  grant_marks = runs.grants;
}

-- two findings with the same marks
abbrev pub SameMarks : Finding → Finding → Type 0
SameMarks f g = (f.key_marks ≡ g.key_marks) × (f.identity_marks ≡ g.identity_marks) × (f.ceiling_marks ≡ g.ceiling_marks) × (f.grant_marks ≡ g.grant_marks)
