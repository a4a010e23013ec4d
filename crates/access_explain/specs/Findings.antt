-- What is found of a question: the mark of each statement and each grant that was asked, and the ground.
use Rattle.std.specs.Prelude.{◌≡◌, ℕ, true, false, IsTrue, List, [], filter, Option, Some, None, Any, Contains, ⊤}
use Rattle.std.specs.List.{flat_map}
use Rattle.kms_names.specs.declared.operations.GrantOp.{GrantOp}
use Rattle.kms_names.specs.declared.principals.Principal.{Principal}
use Rattle.policy_doc.specs.declared.policies.Policy.{Policy}
use Rattle.policy_doc.specs.declared.policies.Statement.{Statement}
use Rattle.policy_eval.specs.Ceiling.{Under}
use Rattle.authority.specs.declared.identities.Identity.{Identity}
use Rattle.key_policies.specs.KeyPolicy.{policy_in}
use Rattle.authority.specs.Setting.{callers_policies, is_root}
use Rattle.key_states.specs.declared.rows.KeyRow.{KeyRow}
use Rattle.grant_table.specs.Grants.{is_of_key}
use Rattle.grant_table.specs.declared.rows.GrantRow.{GrantRow}
use Rattle.account_rows.specs.History.{replay, key_with}
use Rattle.account_rows.specs.declared.entries.Entry.{Entry}
use Rattle.account_steps.specs.Authority.{MayRetire}
use Rattle.account_steps.specs.declared.facts.RealmFacts.{RealmFacts}
use Rattle.account_steps.specs.declared.questions.OfGrants.{OfGrants}
use Rattle.account_steps.specs.declared.questions.OfGrants.TheVariants as of_grants
use Rattle.account_steps.specs.declared.questions.Question.{Question}
use Rattle.access_explain.specs.declared.findings.Finding.{Finding}
use Rattle.access_explain.specs.declared.grounds.Ground.{Ground}
use Rattle.access_explain.specs.declared.grounds.Ground.TheVariants as ground
use Rattle.access_explain.specs.declared.marks.Mark.{Mark}
use Rattle.access_explain.specs.declared.marks.Mark.TheVariants as mark
use Rattle.access_explain.specs.declared.subjects.Subject.{Subject}
use Rattle.access_explain.specs.declared.subjects.Subject.TheVariants as about
use Rattle.access_explain.specs.Runs.{OneByOne, SomeIs}
use Rattle.access_explain.specs.Marks.{IsMark, IsKeyMark, IsGrantMark}
use Rattle.access_explain.specs.Grounds.{rows_for, IsFirst}

-- what findings go by beside the question: the principals with their own policies, the documents of the account's ceiling, the
-- rows of its keys, and its grants
pub record Basis : Type 0 where
  pub identities : List Identity
  pub ceiling : List Policy
  pub keys : List KeyRow
  pub grants : List GrantRow

-- those of an account
abbrev pub basis_of : RealmFacts → List Entry → Basis
basis_of facts entries = record {
  identities = facts.identities;
  ceiling = facts.ceiling;
  keys = (replay entries).keys;
  grants = (replay entries).grants;
}

-- ---- what a question is about

abbrev pub subject_by : Option (List ℕ) → OfGrants → Subject
subject_by None grants = about.Other
subject_by (Some key) (of_grants.Retire grant) = about.Retiring key grant
subject_by (Some key) of_grants.Nothing = about.Key key
subject_by (Some key) (of_grants.Permit context) = about.Key key
subject_by (Some key) (of_grants.Child operations constraint) = about.Key key

abbrev pub subject_of : Question → Subject
subject_of q = subject_by q.key q.grants

-- ---- what is asked for it

-- the statements of documents, one document after another
abbrev pub statements_of : List Policy → List Statement
statements_of documents = flat_map (λ (p : Policy). p.statements) documents

-- of a key's row, the statements of its policy
abbrev pub policy_statements : Option KeyRow → List Statement
policy_statements None = []
policy_statements (Some row) = (policy_in row.policy).statements

-- the policy of the key is asked where the question is about a key
abbrev pub key_asked : List KeyRow → Subject → List Statement
key_asked keys (about.Key key) = policy_statements (key_with keys key)
key_asked keys about.Other = []
key_asked keys (about.Retiring key grant) = []

-- documents are asked unless a grant is to be retired
abbrev pub documents_asked : List Policy → Subject → List Policy
documents_asked documents (about.Key key) = documents
documents_asked documents about.Other = documents
documents_asked documents (about.Retiring key grant) = []

-- the grants of the key, in order of making, are asked where the question is about a key
abbrev pub grants_asked : List GrantRow → Subject → List GrantRow
grants_asked grants (about.Key key) = filter (is_of_key key) grants
grants_asked grants about.Other = []
grants_asked grants (about.Retiring key grant) = []

-- their marks; none where what is asked is no operation of grants
abbrev pub AreGrantMarks : Principal → Option GrantOp → OfGrants → List GrantRow → List Mark → Type 0
AreGrantMarks caller None grants rows marks = marks ≡ []
AreGrantMarks caller (Some op) grants rows marks = OneByOne (IsGrantMark caller op grants) rows marks

-- the grant has this id, and the caller may retire it
abbrev pub IsRetirable : Principal → List ℕ → GrantRow → Type 0
IsRetirable caller grant row = (row.grant ≡ grant) × MayRetire caller row

-- the grant that is to be retired is one of the key, and the caller may retire it
abbrev pub Retires : Principal → List GrantRow → Subject → Type 0
Retires caller grants (about.Key key) = ⊥
Retires caller grants about.Other = ⊥
Retires caller grants (about.Retiring key grant) = Any (IsRetirable caller grant) (filter (is_of_key key) grants)

-- ---- the finding

module _ (basis : Basis) (q : Question) where
  -- the statements of the policy of the key, of the caller's own policies, and of the ceiling, that are asked
  abbrev pub of_the_key : Subject → List Statement
  of_the_key subject = key_asked basis.keys subject

  abbrev pub of_the_caller : Subject → List Statement
  of_the_caller subject = statements_of (documents_asked (callers_policies basis.identities q.facts.caller) subject)

  abbrev pub of_the_ceiling : Subject → List Statement
  of_the_ceiling subject = statements_of (documents_asked basis.ceiling subject)

  -- when a row of the table fits
  abbrev pub Fits : Subject → Finding → Ground → Type 0
  Fits subject f ground.KeyDeny = SomeIs false mark.Hit (of_the_key subject) f.key_marks
  Fits subject f ground.IdentityDeny = SomeIs false mark.Hit (of_the_caller subject) f.identity_marks
  Fits subject f ground.Ceiling = ¬ (Under basis.ceiling q.facts)
  Fits subject f ground.KeyPolicy = SomeIs true mark.Hit (of_the_key subject) f.key_marks
  Fits subject f ground.RootAndIdentity = SomeIs true mark.RootHit (of_the_key subject) f.key_marks × SomeIs true mark.Hit (of_the_caller subject) f.identity_marks
  Fits subject f ground.Grant = Contains f.grant_marks mark.Hit
  Fits subject f ground.Identity = SomeIs true mark.Hit (of_the_caller subject) f.identity_marks
  Fits subject f ground.Root = IsTrue (is_root q.facts.caller)
  Fits subject f ground.Retire = Retires q.facts.caller basis.grants subject
  Fits subject f ground.Nothing = ⊤

  -- a finding: the action and the resource of the question, the mark of each statement and of each grant that is asked, in order, and
  -- the ground
  pub record IsFindingOn (subject : Subject) (f : Finding) : Type 0 where
    pub action : f.action ≡ q.facts.action
    pub resource : f.resource ≡ q.facts.resource
    pub key : OneByOne (λ s m. IsKeyMark s q.facts m) (of_the_key subject) f.key_marks
    pub identity : OneByOne (λ s m. IsMark s q.facts m) (of_the_caller subject) f.identity_marks
    pub ceiling : OneByOne (λ s m. IsMark s q.facts m) (of_the_ceiling subject) f.ceiling_marks
    pub grant : AreGrantMarks q.facts.caller q.op q.grants (grants_asked basis.grants subject) f.grant_marks
    pub ground : IsFirst (Fits subject f) (rows_for subject) f.ground

  -- the finding of the question, by what it is about
  abbrev pub IsFinding : Finding → Type 0
  IsFinding f = IsFindingOn (subject_of q) f
