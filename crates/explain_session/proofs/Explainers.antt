-- What requests do to an account.
use Rattle.std.proofs.Common.{◌≡◌, ◌<◌, ◌⊎◌, ◌==◌, ℕ, List, [], ◌∷◌, ◌++◌, length, Bool, true, false, if◌then◌else◌, Option, None, Some, Result, Ok, Err, refl, sym, ap, ap₂, ◌∙◌, subst, inl, inr}
use Rattle.std.specs.Prelude.{IfOk, OnOk, OnErr}
use Rattle.draw_lines.specs.Line.{Line}
use Rattle.kms_names.specs.Moment.{year_10000}
use Rattle.kms_json.specs.declared.asks.Ask.{Ask}
use Rattle.kms_json.specs.declared.asks.AskBody.{AskBody}
use Rattle.kms_json.specs.declared.asks.AskBody.TheVariants as ask
use Rattle.kms_json.specs.declared.refusals.Refusal.{Refusal}
use Rattle.kms_json.specs.declared.replies.Reply.{Reply}
use Rattle.kms_json.specs.Asks.{changes_account}
use Rattle.kms_json.specs.Replies.{status_of}
use Rattle.account_steps.specs.declared.facts.RealmFacts.{RealmFacts}
use Rattle.account_steps.specs.declared.places.Places.{Places}
use Rattle.account_steps.specs.declared.places.Uses.{Uses}
use Rattle.account_steps.specs.History.{Entry, housekeeping_of}
use Rattle.account_steps.specs.Parts.{Outcome, decided_read}
use Rattle.account_steps.specs.Places.{places_of, line_at, no_places, IsWithin}
use Rattle.account_steps.specs.Steps.{unless}
use Rattle.account_steps.specs.View.{view_of}
use Rattle.account_core.specs.declared.decide.Decision.{Decision}
use Rattle.account_core.specs.declared.decide.Decision.TheVariants.{Refused, Served, Change}
use Rattle.account_core.specs.Decide.{lacking, decide_body, decide, decision_by, decision_of, IsProper, IsNext, appended, kept}
use Rattle.account_core.specs.Operations.{change_outcome, read_outcome}
use Rattle.account_core.proofs.GoingOn.{change_stays, decide_goes_on, same_reply, same_entry, places_at}
use Rattle.session_front.specs.Early.{IsAskAt}
use Rattle.explain_session.specs.Explaining.{Explainer, with_entry, decided, after, Answers, LeavesHere, partly_used, answered, untouched}

-- what a message asks is proper
pub proper_at : (facts : RealmFacts) (c : ℕ) (x : Ask) → c < year_10000 → IsAskAt facts.account c x → IsProper facts x
proper_at facts c x before is = record { target = is.target; text = is.text; body = is.body; caller = is.caller; moment = subst (λ (n : ℕ). n < year_10000) (sym is.moment) before }

pub with_facts : (s : Explainer) (made : Option Entry) → (with_entry s made).facts ≡ s.facts
with_facts s None = refl
with_facts s (Some entry) = refl

-- ---- a request that changes nothing makes no entry

read_none : (outcome : Result (Outcome Uses) Refusal) (places : Places) → (decided_read outcome places).entry ≡ None
read_none (Ok outcome) places = refl
read_none (Err why) places = refl

module _ (facts : RealmFacts) (history : List Entry) (x : Ask) (places : Places) where
  body_none : (body : AskBody) → changes_account body ≡ false → (decide_body facts history x body places).entry ≡ None
  body_none (ask.Read body) e = read_none (unless (lacking (length history) x.after) (read_outcome (view_of facts history x places) body)) places
  body_none (ask.Change body) e = cc

  reads_none : changes_account x.body ≡ false → (decide facts history x places).entry ≡ None
  unfolding decide
  reads_none reads = body_none x.body reads

  -- and one that changes the account takes no places
  body_stays : (body : AskBody) → changes_account body ≡ true → (decide_body facts history x body places).places ≡ places
  body_stays (ask.Read body) e = cc
  body_stays (ask.Change body) e = change_stays _ (unless (lacking (length history) x.after) (change_outcome (view_of facts history x no_places) body)) places

  changes_stay : changes_account x.body ≡ true → (decide facts history x places).places ≡ places
  unfolding decide
  changes_stay changes = body_stays x.body changes

stands_on : (s : Explainer) (made : Option Entry) → with_entry s made ≡ (let u : Explainer = record (with_entry s made) { places = s.places } in u)
stands_on s None = refl
stands_on s (Some entry) = refl

-- ---- what is answered

abbrev pub explainer_at : RealmFacts → List Entry → Line → Explainer
explainer_at facts entries line = record { facts = facts; entries = entries; places = places_of line }

module _ (facts : RealmFacts) (entries : List Entry) (x : Ask) (line new : Line) (reads : changes_account x.body ≡ false) where
  stands : new ≡ line_at line (decide facts entries x (places_of line)).places → explainer_at facts entries new ≡ after (explainer_at facts entries line) x
  stands is =
      let s = explainer_at facts entries line in
      let here = places_at line new (decide facts entries x (places_of line)).places (decide_goes_on facts entries x (places_of line)).number is in
      ap₂ (λ (made : Option Entry) (p : Places). let t : Explainer = record (with_entry s made) { places = p } in t) (sym (reads_none facts entries x (places_of line) reads)) here

  -- to one that changes nothing
  pub answers_read : {E : Type 0} (r : Result Reply E) → IfOk r (λ reply. reply ≡ (decide facts entries x (places_of line)).reply) → OnOk r (new ≡ line_at line (decide facts entries x (places_of line)).places)
      → IfOk r (λ reply. Answers (explainer_at facts entries line) x reply (explainer_at facts entries new))
  answers_read (Ok reply) is used = record { reply = is; next = stands used }
  answers_read (Err why) is used = tt

refused_where : (b : Bool) (reply r : Reply) → Refused reply ≡ (if b then Served r else Refused r) → reply ≡ r
refused_where true reply r e = cc
refused_where false reply r e = cc

served_where : (b : Bool) (reply r : Reply) → Served reply ≡ (if b then Served r else Refused r) → reply ≡ r
served_where true reply r e = cc
served_where false reply r e = cc

refused_parts : (reply r : Reply) (entry : Option Entry) → Refused reply ≡ decision_by r entry → (entry ≡ None) × (reply ≡ r)
refused_parts reply r (Some entry) e = cc
refused_parts reply r None e = (refl, refused_where (status_of r == 200) reply r e)

served_parts : (reply r : Reply) (entry : Option Entry) → Served reply ≡ decision_by r entry → (entry ≡ None) × (reply ≡ r)
served_parts reply r (Some entry) e = cc
served_parts reply r None e = (refl, served_where (status_of r == 200) reply r e)

change_where : (b : Bool) (entry : Entry) (reply r : Reply) → Change entry reply ≡ (if b then Served r else Refused r) → ⊥
change_where true entry reply r e = cc
change_where false entry reply r e = cc

change_parts : (entry : Entry) (reply r : Reply) (other : Option Entry) → Change entry reply ≡ decision_by r other → (other ≡ Some entry) × (reply ≡ r)
change_parts entry reply r (Some other) e = let same : entry ≡ other = cc in (ap Some (sym same), cc)
change_parts entry reply r None e = absurd (change_where (status_of r == 200) entry reply r e)

either_parts : (reply r : Reply) (entry : Option Entry) (d : Decision) → (d ≡ Refused reply) ⊎ (d ≡ Served reply) → d ≡ decision_by r entry → (entry ≡ None) × (reply ≡ r)
either_parts reply r entry d (inl is) e = refused_parts reply r entry (sym is ∙ e)
either_parts reply r entry d (inr is) e = served_parts reply r entry (sym is ∙ e)

module _ (facts : RealmFacts) (entries : List Entry) (x : Ask) (line : Line) (changes : changes_account x.body ≡ true) where
  settles : (reply : Reply) (made : Option Entry) → ((decide facts entries x no_places).entry ≡ made) × (reply ≡ (decide facts entries x no_places).reply) → (t : Explainer)
      → t ≡ with_entry (explainer_at facts entries line) made → Answers (explainer_at facts entries line) x reply t
  settles reply made parts t is =
      let s = explainer_at facts entries line in
      let entry : made ≡ (decided s x).entry = sym parts.0 ∙ same_entry facts entries x no_places (places_of line) changes in
      let there : places_of line ≡ (decided s x).places = sym (changes_stay facts entries x (places_of line) changes) in
      record {
        reply = parts.1 ∙ same_reply facts entries x no_places (places_of line) changes;
        next = is ∙ stands_on s made ∙ ap₂ (λ (o : Option Entry) (p : Places). let u : Explainer = record (with_entry s o) { places = p } in u) entry there;
      }

  -- to one that changes the account, where nothing is appended
  pub answers_none : (reply : Reply) (d : Decision) → (d ≡ Refused reply) ⊎ (d ≡ Served reply) → d ≡ decision_of facts entries x → Answers (explainer_at facts entries line) x reply (explainer_at facts entries line)
  answers_none reply d is gives = settles reply None (either_parts reply _ _ d is gives) (explainer_at facts entries line) refl

  -- and where its entry is
  pub answers_one : (entry : Entry) (reply : Reply) → Change entry reply ≡ decision_of facts entries x → (t : Explainer) → t ≡ explainer_at facts (entries ++ entry ∷ []) line
      → Answers (explainer_at facts entries line) x reply t
  answers_one entry reply gives t is = settles reply (Some entry) (change_parts entry reply _ _ gives) t is

-- the entry of a decision may come next, and that of housekeeping
pub next_entry : (facts : RealmFacts) (entries : List Entry) (x : Ask) (entry : Entry) (reply : Reply) → Change entry reply ≡ decision_of facts entries x → IsProper facts x → IsNext facts entries entry
next_entry facts entries x entry reply is proper = appended x proper (change_parts entry reply _ _ is).0

pub house_next : (facts : RealmFacts) (entries : List Entry) (clock : ℕ) (entry : Entry) → clock < year_10000 → housekeeping_of entries clock ≡ Some entry → IsNext facts entries entry
house_next facts entries clock entry before is = kept clock before is

-- a request stays proper where housekeeping comes first
pub proper_kept : (s t : Explainer) (x : Ask) → t.facts ≡ s.facts → IsProper s.facts x → IsProper t.facts x
proper_kept s t x same proper = subst (λ (f : RealmFacts). IsProper f x) (sym same) proper

-- ---- where memory was wanting

-- for the reply to one that changes nothing
pub lacks_read : {E : Type 0} (facts : RealmFacts) (entries : List Entry) (x : Ask) (line new : Line) (r : Result Reply E) → OnErr r (IsWithin line new (decide facts entries x (places_of line)).places)
    → OnErr r (LeavesHere (explainer_at facts entries line) x (explainer_at facts entries new))
lacks_read facts entries x line new (Ok reply) within = tt
lacks_read facts entries x line new (Err why) within = partly_used (places_of new) within.up_to

-- before anything was done
pub lacks_all : {A E : Type 0} (r : Result A E) (s : Explainer) (x : Ask) → OnErr r (LeavesHere s x s)
lacks_all (Ok value) s x = tt
lacks_all (Err why) s x = untouched

-- for the line of one that was answered
pub lacks_line : {A E : Type 0} (r : Result A E) (s : Explainer) (x : Ask) (t : Explainer) → t ≡ after s x → OnErr r (LeavesHere s x t)
lacks_line (Ok line) s x t is = tt
lacks_line (Err why) s x t is = subst (LeavesHere s x) (sym is) answered
