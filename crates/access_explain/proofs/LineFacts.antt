-- The JSON value of a certificate has no floating-point number, so that its compact text is stated.
use Rattle.std.proofs.Common.{◌≡◌, ℕ, List, [], ◌∷◌, Bool, true, false, ◌||◌, refl}
use Rattle.serde_json.specs.Written.{has_float}
use Rattle.kms_json.specs.Objects.{list_data}
use Rattle.access_explain.specs.declared.certificates.Certificate.{Certificate}
use Rattle.access_explain.specs.declared.findings.Finding.{Finding}
use Rattle.access_explain.specs.Lines.{question_data, certificate_data}

questions_exact : (fs : List Finding) → has_float (list_data question_data fs) ≡ false
questions_exact [] = refl
questions_exact (f ∷ fs) = questions_exact fs

or_none : (b : Bool) → b ≡ false → (b || false) ≡ false
or_none true e = absurd (cc)
or_none false e = refl

pub certificate_exact : (c : Certificate) (outcome : List ℕ) → has_float (certificate_data c outcome) ≡ false
certificate_exact c outcome = or_none (has_float (list_data question_data c.findings)) (questions_exact c.findings)
