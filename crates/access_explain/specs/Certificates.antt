-- Certificates: what is found of each question of a request, up to the first that is denied.
use Rattle.std.specs.Prelude.{◌≡◌, Bool, true, false, List, [], ◌∷◌, ⊤}
use Rattle.std.specs.List.{list_all}
use Rattle.account_rows.specs.declared.entries.Entry.{Entry}
use Rattle.account_core.specs.Decide.{asked_at}
use Rattle.kms_json.specs.declared.asks.Ask.{Ask}
use Rattle.account_core.specs.declared.asking.Asked.{Asked}
use Rattle.account_core.specs.declared.asking.Asked.TheVariants as asked
use Rattle.account_steps.specs.declared.facts.RealmFacts.{RealmFacts}
use Rattle.account_steps.specs.declared.questions.Question.{Question}
use Rattle.access_explain.specs.declared.certificates.Certificate.{Certificate}
use Rattle.access_explain.specs.declared.findings.Finding.{Finding}
use Rattle.access_explain.specs.Findings.{Basis, basis_of, IsFinding}
use Rattle.access_explain.specs.Grounds.{allows}

-- after a finding come those of the next questions where it allows, and none where it denies
abbrev pub IfAllowed : Bool → Type 0 → List Finding → Type 0
IfAllowed true Others findings = Others
IfAllowed false Others findings = findings ≡ []

-- the findings of questions, in order, up to the first that denies
abbrev pub AreFindings : Basis → List Question → List Finding → Type 0
AreFindings basis [] [] = ⊤
AreFindings basis [] (f ∷ findings) = ⊥
AreFindings basis (q ∷ questions) [] = ⊥
AreFindings basis (q ∷ questions) (f ∷ findings) = IsFinding basis q f × IfAllowed (allows f.ground) (AreFindings basis questions findings) findings

-- none denies
abbrev pub none_denies : List Finding → Bool
none_denies findings = list_all (λ (f : Finding). allows f.ground) findings

-- the certificate of a request that is refused before authority is asked
abbrev pub early_one : Certificate
early_one = record { early = true; allowed = false; findings = [] }

-- the certificate of a request with these questions
pub record IsCertificateOf (basis : Basis) (questions : List Question) (c : Certificate) : Type 0 where
  pub early : c.early ≡ false
  pub findings : AreFindings basis questions c.findings
  pub allowed : c.allowed ≡ none_denies c.findings

-- the certificate of what is asked
abbrev pub IsCertificateBy : Basis → Asked → Certificate → Type 0
IsCertificateBy basis asked.Early c = c ≡ early_one
IsCertificateBy basis (asked.Questions questions) c = IsCertificateOf basis questions c

-- the certificate of a request at a history
unfoldable pub IsCertificate : RealmFacts → List Entry → Ask → Certificate → Type 0
IsCertificate facts entries x c = IsCertificateBy (basis_of facts entries) (asked_at facts entries x) c
