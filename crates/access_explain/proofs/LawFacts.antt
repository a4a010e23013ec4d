-- The laws of certificates.
use Rattle.std.proofs.Common.{◌≡◌, true, false, List, None, map, refl, sym, ap, ◌∙◌, subst}
use Rattle.std.specs.Prelude.{◌↔◌, All}
use Rattle.grant_table.specs.declared.rows.GrantRow.{GrantRow}
use Rattle.account_rows.specs.History.{place_in_grant}
use Rattle.account_rows.specs.declared.entries.Entry.{Entry}
use Rattle.kms_json.specs.declared.asks.Ask.{Ask}
use Rattle.kms_json.specs.declared.refusals.Refusal.{Refusal}
use Rattle.kms_json.specs.declared.replies.Reply.TheVariants.{Refused}
use Rattle.account_steps.specs.declared.facts.RealmFacts.{RealmFacts}
use Rattle.account_steps.specs.declared.places.Places.{Places}
use Rattle.account_steps.specs.declared.questions.Question.{Question as Posed}
use Rattle.account_steps.specs.Authority.{Question, posed, denied}
use Rattle.account_steps.specs.Places.{no_places}
use Rattle.account_steps.specs.View.{View, view_of}
use Rattle.account_core.specs.declared.asking.Asked.{Asked}
use Rattle.account_core.specs.declared.asking.Asked.TheVariants as asked
use Rattle.account_core.specs.Decide.{asked_at}
use Rattle.account_laws.proofs.Histories.{held_laws}
use Rattle.account_laws.specs.Laws.{reply_to, IsHeld, IsAskedOf, IsAskedSo, AuthorityAsksTheseQuestions, GrantsPermit, PassesWhereStatementsAllow, RowsStandInOrder}
use Rattle.access_explain.specs.declared.certificates.Certificate.{Certificate}
use Rattle.access_explain.specs.Certificates.{IsCertificateOf, IsCertificateBy, IsCertificate}
use Rattle.access_explain.specs.Findings.{Basis, basis_of}
use Rattle.access_explain.specs.Laws.{EarlyWhereNothingIsAsked, AllowedWhereNoneIsDenied, CertificatesExplainReplies}
use Rattle.access_explain.proofs.AskedFacts.{all_told}

early_by : (basis : Basis) (a : Asked) (c : Certificate) → IsCertificateBy basis a c → (c.early ≡ true) ↔ (a ≡ asked.Early)
early_by basis asked.Early c is = (λ e. refl, λ e. ap (λ (d : Certificate). d.early) is)
early_by basis (asked.Questions questions) c is = (λ e. absurd (let bad : false ≡ true = sym is.early ∙ e in cc), λ e. absurd (cc))

pub early_where : EarlyWhereNothingIsAsked
unfolding IsCertificate
early_where facts history x c is = early_by (basis_of facts history) (asked_at facts history x) c is

pub allowed_where : (permits : GrantsPermit) (passes : PassesWhereStatementsAllow) (ordered : RowsStandInOrder) → AllowedWhereNoneIsDenied
unfolding IsCertificate
allowed_where permits passes ordered facts history x c questions held kinds is asks there =
    let view : View = view_of facts history x no_places in
    let by : IsCertificateOf (basis_of facts history) (map (posed view) questions) c = subst (λ (a : Asked). IsCertificateBy (basis_of facts history) a c) asks is in
    let named : All (λ (row : GrantRow). place_in_grant row.grant ≡ row.born) view.grants = λ k d lt. ((held_laws facts history held).grants k d lt).named in
    let told = all_told permits view (ordered facts history held).grants named questions c.findings there by.findings in
    let none = passes view questions kinds in
    (λ allowed. none.1 (told.0 (sym by.allowed ∙ allowed)), λ denied. by.allowed ∙ told.1 (none.0 denied))

-- ---- replies

module _ (facts : RealmFacts) (history : List Entry) (x : Ask) (places : Places) (c : Certificate) where
  abbrev Says : Type 0
  Says = (c.early ≡ true → (why : Refusal) × (reply_to facts history x places ≡ Refused why))
      × (c.early ≡ false → (list : List Posed) × (asked : IsAskedOf facts history x places list) × ((c.allowed ≡ true) ↔ (denied (view_of facts history x no_places) asked.questions ≡ None)))

  says_by : (a : Asked) → asked_at facts history x ≡ a → IsAskedSo facts history x places a → (c.early ≡ true) ↔ (asked_at facts history x ≡ asked.Early)
      → ((questions : List Question) → asked_at facts history x ≡ asked.Questions (map (posed (view_of facts history x no_places)) questions) → All (IsHeld (view_of facts history x no_places)) questions
      → (c.allowed ≡ true) ↔ (denied (view_of facts history x no_places) questions ≡ None))
      → Says
  says_by asked.Early is so early allowed = (λ e. so, λ e. absurd (let bad : true ≡ false = sym (early.1 is) ∙ e in cc))
  says_by (asked.Questions list) is so early allowed =
      (λ e. absurd (let bad : asked.Questions list ≡ asked.Early = sym is ∙ early.0 e in cc), λ e. (list, so, allowed so.questions (is ∙ ap (λ (l : List Posed). asked.Questions l) so.posed) so.held))

pub explain_replies : AuthorityAsksTheseQuestions → EarlyWhereNothingIsAsked → AllowedWhereNoneIsDenied → CertificatesExplainReplies
explain_replies asks early allowed facts history x places c held kinds is =
    says_by facts history x places c (asked_at facts history x) refl (asks facts history x places) (early facts history x c is) (λ questions. allowed facts history x c questions held kinds is)
