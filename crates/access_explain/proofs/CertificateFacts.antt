-- Certificates: those that are found are some, and there is one.
use Rattle.std.proofs.Common.{◌≡◌, ℕ, ◌<◌, ◌≤◌, ◌+◌, Bool, true, false, ◌&&◌, List, [], ◌∷◌, ◌++◌, length, take, drop, get_or, Result, Ok, Err, IfOk, refl, sym, ap, ap₂, ◌∙◌, subst}
use Rattle.std.specs.Prelude.{◌↔◌, IsTrue}
use Rattle.std.proofs.lemmas.List.{drop_more, take_all, take-append-drop}
use Rattle.account_steps.specs.declared.questions.Question.{Question}
use Rattle.access_explain.specs.declared.certificates.Certificate.{Certificate}
use Rattle.access_explain.specs.declared.findings.Finding.{Finding}
use Rattle.access_explain.specs.Certificates.{IfAllowed, AreFindings, none_denies, IsCertificateOf, IsCertificateBy, IsCertificate}
use Rattle.access_explain.specs.Findings.{Basis, basis_of, IsFinding}
use Rattle.access_explain.specs.Grounds.{allows}
use Rattle.access_explain.specs.Runs.{OneByOne}
use Rattle.account_rows.specs.declared.entries.Entry.{Entry}
use Rattle.account_core.specs.Decide.{asked_at}
use Rattle.kms_json.specs.declared.asks.Ask.{Ask}
use Rattle.account_core.specs.declared.asking.Asked.{Asked}
use Rattle.account_core.specs.declared.asking.Asked.TheVariants as asked
use Rattle.kms_names.specs.declared.faults.NoMemory.{NoMemory}
use Rattle.account_steps.specs.declared.facts.RealmFacts.{RealmFacts}
use Rattle.access_explain.proofs.FindingFacts.{one_finding}
use Rattle.access_explain.proofs.RunFacts.{take_one, one_more}

module _ (basis : Basis) where
  -- the first questions were found, and none of them denied
  pub record Found (questions : List Question) (i : ℕ) (findings : List Finding) : Type 0 where
    pub each : OneByOne (IsFinding basis) (take i questions) findings
    pub allowed : none_denies findings ≡ true

  none_denies_more : (fs : List Finding) (f : Finding) → none_denies fs ≡ true → allows f.ground ≡ true → none_denies (fs ++ f ∷ []) ≡ true
  none_denies_more [] f none is = ap (λ b. b && true) is
  none_denies_more (g ∷ fs) f none is = by_test (allows g.ground) none (none_denies_more fs f)
    where
      by_test : (b : Bool) → (b && none_denies fs) ≡ true → (none_denies fs ≡ true → allows f.ground ≡ true → none_denies (fs ++ f ∷ []) ≡ true) → (b && none_denies (fs ++ f ∷ [])) ≡ true
      by_test true rest later = later rest is
      by_test false rest later = absurd (cc)

  pub found_more : (questions : List Question) (i : ℕ) (fs gs : List Finding) (q : Question) (f : Finding) → i < length questions → q ≡ get_or questions i q → gs ≡ fs ++ f ∷ []
      → IsFinding basis q f → allows f.ground ≡ true → Found questions i fs → Found questions (i + 1) gs
  found_more questions i fs gs q f within at pushed is goes_on found = record {
    each = subst (λ l. OneByOne (IsFinding basis) (take (i + 1) questions) l) (sym pushed) (subst (λ l. OneByOne (IsFinding basis) l (fs ++ f ∷ [])) (sym (take_one questions i q within at)) (one_more (IsFinding basis) (take i questions) fs q f found.each is));
    allowed = ap none_denies pushed ∙ none_denies_more fs f found.allowed goes_on;
  }

  -- all of them
  all_found : (questions : List Question) (fs : List Finding) → OneByOne (IsFinding basis) questions fs → none_denies fs ≡ true → AreFindings basis questions fs
  all_found [] [] each none = tt
  all_found [] (f ∷ fs) each none = absurd each
  all_found (q ∷ questions) [] each none = absurd each
  all_found (q ∷ questions) (f ∷ fs) each none = (each.0, by_test (allows f.ground) none (all_found questions fs each.1))
    where
      by_test : (b : Bool) → (b && none_denies fs) ≡ true → (none_denies fs ≡ true → AreFindings basis questions fs) → IfAllowed b (AreFindings basis questions fs) fs
      by_test true rest later = later rest
      by_test false rest later = absurd (cc)

  -- those up to one that denies
  stopped : (before rest : List Question) (fs : List Finding) (q : Question) (f : Finding) → OneByOne (IsFinding basis) before fs → none_denies fs ≡ true → IsFinding basis q f → allows f.ground ≡ false
      → AreFindings basis (before ++ q ∷ rest) (fs ++ f ∷ [])
  stopped [] rest [] q f each none is denies = (is, subst (λ (b : Bool). IfAllowed b (AreFindings basis rest []) []) (sym denies) refl)
  stopped [] rest (g ∷ fs) q f each none is denies = absurd each
  stopped (p ∷ before) rest [] q f each none is denies = absurd each
  stopped (p ∷ before) rest (g ∷ fs) q f each none is denies = (each.0, by_test (allows g.ground) none (λ others. stopped before rest fs q f each.1 others is denies))
    where
      by_test : (b : Bool) → (b && none_denies fs) ≡ true → (none_denies fs ≡ true → AreFindings basis (before ++ q ∷ rest) (fs ++ f ∷ []))
          → IfAllowed b (AreFindings basis (before ++ q ∷ rest) (fs ++ f ∷ [])) (fs ++ f ∷ [])
      by_test true others later = later others
      by_test false others later = absurd (cc)

  pub found_all : (questions : List Question) (i : ℕ) (fs : List Finding) → length questions ≤ i → Found questions i fs → AreFindings basis questions fs
  found_all questions i fs ended found = all_found questions fs (subst (λ l. OneByOne (IsFinding basis) l fs) (take_all i questions ended) found.each) found.allowed

  pub found_denied : (questions : List Question) (i : ℕ) (fs gs : List Finding) (q : Question) (f : Finding) → i < length questions → q ≡ get_or questions i q → gs ≡ fs ++ f ∷ []
      → IsFinding basis q f → allows f.ground ≡ false → Found questions i fs → AreFindings basis questions gs
  found_denied questions i fs gs q f within at pushed is denies found =
      let cut : take i questions ++ q ∷ drop (i + 1) questions ≡ questions =
      ap (λ x. take i questions ++ x ∷ drop (i + 1) questions) at ∙ ap (λ l. take i questions ++ l) (sym (drop_more questions i q within)) ∙ take-append-drop i questions
      in
      subst (λ l. AreFindings basis questions l) (sym pushed) (subst (λ l. AreFindings basis l (fs ++ f ∷ [])) cut (stopped (take i questions) (drop (i + 1) questions) fs q f found.each found.allowed is denies))

  -- ---- there is one

  pub one_list_of_findings : (questions : List Question) (fs gs : List Finding) → AreFindings basis questions fs → AreFindings basis questions gs → fs ≡ gs
  one_list_of_findings [] [] [] is also = refl
  one_list_of_findings [] [] (g ∷ gs) is also = absurd also
  one_list_of_findings [] (f ∷ fs) gs is also = absurd is
  one_list_of_findings (q ∷ questions) [] gs is also = absurd is
  one_list_of_findings (q ∷ questions) (f ∷ fs) [] is also = absurd also
  one_list_of_findings (q ∷ questions) (f ∷ fs) (g ∷ gs) is also =
      let same : f ≡ g = one_finding basis q f g is.0 also.0 in
      let others : IfAllowed (allows f.ground) (AreFindings basis questions gs) gs = subst (λ (h : Finding). IfAllowed (allows h.ground) (AreFindings basis questions gs) gs) (sym same) also.1 in
      ap₂ (λ (h : Finding) (hs : List Finding). h ∷ hs) same (by_test (allows f.ground) is.1 others (one_list_of_findings questions fs gs))
    where
      by_test : (b : Bool) → IfAllowed b (AreFindings basis questions fs) fs → IfAllowed b (AreFindings basis questions gs) gs → (AreFindings basis questions fs → AreFindings basis questions gs → fs ≡ gs) → fs ≡ gs
      by_test true is also later = later is also
      by_test false is also later = is ∙ sym also

  one_of : (questions : List Question) (c d : Certificate) → IsCertificateOf basis questions c → IsCertificateOf basis questions d → c ≡ d
  one_of questions c d is also =
      let findings : c.findings ≡ d.findings = one_list_of_findings questions c.findings d.findings is.findings also.findings in
      let early : c.early ≡ d.early = is.early ∙ sym also.early in
      let allowed : c.allowed ≡ d.allowed = is.allowed ∙ ap none_denies findings ∙ sym also.allowed in
      λ i. record { early = early i; allowed = allowed i; findings = findings i }

  pub one_by : (a : Asked) (c d : Certificate) → IsCertificateBy basis a c → IsCertificateBy basis a d → c ≡ d
  one_by asked.Early c d is also = is ∙ sym also
  one_by (asked.Questions questions) c d is also = one_of questions c d is also

pub one_certificate : (facts : RealmFacts) (entries : List Entry) (x : Ask) (c d : Certificate) → IsCertificate facts entries x c → IsCertificate facts entries x d → c ≡ d
unfolding IsCertificate
one_certificate facts entries x c d is also = one_by (basis_of facts entries) (asked_at facts entries x) c d is also

pub is_certificate : (facts : RealmFacts) (entries : List Entry) (x : Ask) (a : Asked) → a ≡ asked_at facts entries x → (r : Result Certificate NoMemory) → IfOk r (IsCertificateBy (basis_of facts entries) a) → IfOk r (IsCertificate facts entries x)
unfolding IsCertificate
is_certificate facts entries x a is (Ok c) by = subst (λ (b : Asked). IsCertificateBy (basis_of facts entries) b c) is by
is_certificate facts entries x a is (Err e) by = tt

pub is_the_one : (facts : RealmFacts) (entries : List Entry) (x : Ask) (c found : Certificate) (b : Bool) → IsCertificate facts entries x found → IsTrue b ↔ (found ≡ c) → IsTrue b ↔ IsCertificate facts entries x c
is_the_one facts entries x c found b is same = (λ t. subst (IsCertificate facts entries x) (same.0 t) is, λ also. same.1 (one_certificate facts entries x found c is also))
