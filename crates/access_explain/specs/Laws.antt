-- Laws of certificates.
use Rattle.std.specs.Prelude.{◌≡◌, ◌↔◌, true, false, List, map, None, All}
use Rattle.kms_json.specs.declared.asks.Ask.{Ask}
use Rattle.authority.specs.Allowed.{AreIdentityPolicies}
use Rattle.authority.specs.Setting.{callers_policies}
use Rattle.account_rows.specs.declared.entries.Entry.{Entry}
use Rattle.account_steps.specs.declared.facts.RealmFacts.{RealmFacts}
use Rattle.account_steps.specs.declared.questions.Question.{Question as Posed}
use Rattle.account_steps.specs.Authority.{Question, posed, denied}
use Rattle.account_steps.specs.Places.{no_places}
use Rattle.account_steps.specs.View.{view_of}
use Rattle.account_steps.specs.declared.places.Places.{Places}
use Rattle.kms_json.specs.declared.refusals.Refusal.{Refusal}
use Rattle.kms_json.specs.declared.replies.Reply.TheVariants.{Refused}
use Rattle.account_laws.specs.Laws.{reply_to, IsHeld, IsAskedOf}
use Rattle.account_core.specs.declared.asking.Asked.TheVariants as asked
use Rattle.account_core.specs.Decide.{asked_at}
use Rattle.account_core.specs.Fitting as Fitting
use Rattle.access_explain.specs.declared.certificates.Certificate.{Certificate}
use Rattle.access_explain.specs.Certificates.{IsCertificate}

-- a request has one certificate at a history
abbrev pub CertificatesAreOne : Type 0
CertificatesAreOne = (facts : RealmFacts) (history : List Entry) (x : Ask) (c d : Certificate) → IsCertificate facts history x c → IsCertificate facts history x d → c ≡ d

-- a certificate is early exactly where nothing is asked of authority
abbrev pub EarlyWhereNothingIsAsked : Type 0
EarlyWhereNothingIsAsked =
    (facts : RealmFacts) (history : List Entry) (x : Ask) (c : Certificate) → IsCertificate facts history x c → (c.early ≡ true) ↔ (asked_at facts history x ≡ asked.Early)

-- where these questions are asked, a certificate is allowed exactly where the step of authority denies none of them
abbrev pub AllowedWhereNoneIsDenied : Type 0
AllowedWhereNoneIsDenied =
    (facts : RealmFacts) (history : List Entry) (x : Ask) (c : Certificate) (questions : List Question) → Fitting.IsHeld facts history → AreIdentityPolicies (callers_policies facts.identities x.caller)
    → IsCertificate facts history x c → asked_at facts history x ≡ asked.Questions (map (posed (view_of facts history x no_places)) questions) → All (IsHeld (view_of facts history x no_places)) questions
    → (c.allowed ≡ true) ↔ (denied (view_of facts history x no_places) questions ≡ None)

-- So a certificate says what the reply goes by, for any pass. Where it is early, the reply is a refusal that comes before authority. Else authority is asked some
-- questions, it is allowed exactly where the step of authority denies none of them, and the first denial is the reply
abbrev pub CertificatesExplainReplies : Type 0
CertificatesExplainReplies =
    (facts : RealmFacts) (history : List Entry) (x : Ask) (places : Places) (c : Certificate) → Fitting.IsHeld facts history → AreIdentityPolicies (callers_policies facts.identities x.caller)
    → IsCertificate facts history x c
    → (c.early ≡ true → (why : Refusal) × (reply_to facts history x places ≡ Refused why))
    × (c.early ≡ false → (list : List Posed) × (asked : IsAskedOf facts history x places list) × ((c.allowed ≡ true) ↔ (denied (view_of facts history x no_places) asked.questions ≡ None)))
