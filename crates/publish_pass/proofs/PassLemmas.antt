-- Decisions of a pass.
use Rattle.std.proofs.Common.{◌≡◌, ◌<◌, ◌==◌, ℕ, ◌+◌, List, [], ◌∷◌, ◌++◌, length, length-append, add-one, arith, Option, Some, None, Bool, true, false, refl, sym, ap, ap₂, ◌∙◌, subst, if◌then◌else◌, ◌⊎◌, inl, inr, Result, Ok, Err}
use Rattle.kms_names.specs.Moment.{year_10000}
use Rattle.std.specs.Result.{IfOk, OnOk, OnErr}
use Rattle.std.proofs.lemmas.List.{length-map}
use Rattle.published_account.specs.declared.answered.Answered.{Answered}
use Rattle.published_account.specs.Answers.{answer_in, answer_of}
use Rattle.kms_json.specs.declared.asks.Ask.{Ask}
use Rattle.kms_json.specs.declared.replies.Reply.{Reply}
use Rattle.kms_json.specs.Replies.{status_of}
use Rattle.kms_json.specs.Asks.{changes_account}
use Rattle.account_steps.specs.declared.facts.RealmFacts.{RealmFacts}
use Rattle.account_steps.specs.History.{Entry}
use Rattle.account_core.specs.declared.decide.Decision.{Decision}
use Rattle.account_core.specs.declared.decide.Decision.TheVariants.{Refused, Served, Change}
use Rattle.account_steps.specs.History.{housekeeping_of}
use Rattle.account_core.specs.Account.{Account}
use Rattle.account_core.specs.Decide.{decide, decision_by, decision_of, IsNext, appended, kept, IsProper}
use Rattle.account_steps.specs.Places.{no_places}
use Rattle.account_core.proofs.GoingOn.{same_reply, same_entry}
use Rattle.published_account.specs.Pairs.{entries_of}
use Rattle.publish_pass.specs.Pass.{Pass, making, making_any, keeping_house, Decides, AnswersHere, fresh_pass, fresh_passes}

refused_where : (b : Bool) (reply r : Reply) → Refused reply ≡ (if b then Served r else Refused r) → reply ≡ r
refused_where true reply r e = cc
refused_where false reply r e = cc

served_where : (b : Bool) (reply r : Reply) → Served reply ≡ (if b then Served r else Refused r) → reply ≡ r
served_where true reply r e = cc
served_where false reply r e = cc

refused_parts : (reply r : Reply) (entry : Option Entry) → Refused reply ≡ decision_by r entry → (entry ≡ None) × (reply ≡ r)
refused_parts reply r (Some entry) e = cc
refused_parts reply r None e = (refl, refused_where (status_of r == 200) reply r e)

served_parts : (reply r : Reply) (entry : Option Entry) → Served reply ≡ decision_by r entry → (entry ≡ None) × (reply ≡ r)
served_parts reply r (Some entry) e = cc
served_parts reply r None e = (refl, served_where (status_of r == 200) reply r e)

change_where : (b : Bool) (entry : Entry) (reply r : Reply) → Change entry reply ≡ (if b then Served r else Refused r) → ⊥
change_where true entry reply r e = cc
change_where false entry reply r e = cc

change_parts : (entry : Entry) (reply r : Reply) (other : Option Entry) → Change entry reply ≡ decision_by r other → (other ≡ Some entry) × (reply ≡ r)
change_parts entry reply r (Some other) e = let same : entry ≡ other = cc in (ap Some (sym same), cc)
change_parts entry reply r None e = absurd (change_where (status_of r == 200) entry reply r e)

either_parts : (reply r : Reply) (entry : Option Entry) (d : Decision) → (d ≡ Refused reply) ⊎ (d ≡ Served reply) → d ≡ decision_by r entry → (entry ≡ None) × (reply ≡ r)
either_parts reply r entry d (inl is) e = refused_parts reply r entry (sym is ∙ e)
either_parts reply r entry d (inr is) e = served_parts reply r entry (sym is ∙ e)

-- the entry of a decision may come next
pub next_entry : (facts : RealmFacts) (entries : List Entry) (x : Ask) (entry : Entry) (reply : Reply) → Change entry reply ≡ decision_of facts entries x → IsProper facts x → IsNext facts entries entry
next_entry facts entries x entry reply is proper = appended x proper (change_parts entry reply _ _ is).0

pub house_next : (facts : RealmFacts) (entries : List Entry) (clock : ℕ) (entry : Entry) → clock < year_10000 → housekeeping_of entries clock ≡ Some entry → IsNext facts entries entry
house_next facts entries clock entry before is = kept clock before is

-- the number of entries, where there is one more than of pairs
pub counted_on : (pairs : List (Entry × ℕ)) (entries : List Entry) (entry : Entry) (n : ℕ) → n ≡ length entries → entries ≡ entries_of pairs ++ entry ∷ [] → n ≡ length pairs + 1
counted_on pairs entries entry n counted are =
    omega (arith, counted, ap length are, length-append (entries_of pairs) (entry ∷ []), length-map pairs (λ (made : Entry × ℕ). made.0))

-- what the decision of the account does to a pass of these facts and this history
module _ (s : Pass) (x : Ask) (account : Account) (facts : account.facts ≡ s.facts) (entries : account.entries ≡ entries_of s.history) (changing : changes_account x.body ≡ true) where
  decision_here : (d : Decision) → d ≡ decision_of account.facts account.entries x → d ≡ decision_of s.facts (entries_of s.history) x
  decision_here d is = is ∙ ap₂ (λ (f : RealmFacts) (h : List Entry). decision_of f h x) facts entries

  pub decides_none : (reply : Reply) (d : Decision) → (d ≡ Refused reply) ⊎ (d ≡ Served reply) → d ≡ decision_of account.facts account.entries x → Decides s x reply s
  decides_none reply d is gives =
      let parts = either_parts reply _ _ d is (decision_here d gives) in
      record {
        made = ap (making_any s) (sym parts.0 ∙ same_entry s.facts (entries_of s.history) x no_places s.places changing);
        answer = parts.1 ∙ same_reply s.facts (entries_of s.history) x no_places s.places changing;
      }

  pub decides_one : (entry : Entry) (reply : Reply) → Change entry reply ≡ decision_of account.facts account.entries x → (t : Pass) → t ≡ making s entry → Decides s x reply t
  decides_one entry reply gives t is =
      let parts = change_parts entry reply _ _ (decision_here (Change entry reply) gives) in
      record {
        made = is ∙ ap (making_any s) (sym parts.0 ∙ same_entry s.facts (entries_of s.history) x no_places s.places changing);
        answer = parts.1 ∙ same_reply s.facts (entries_of s.history) x no_places s.places changing;
      }

  -- the entry that it makes
  pub entry_here : (entry : Entry) (reply : Reply) → Change entry reply ≡ decision_of account.facts account.entries x → (decide s.facts (entries_of s.history) x s.places).entry ≡ Some entry
  entry_here entry reply gives =
      let parts = change_parts entry reply _ _ (decision_here (Change entry reply) gives) in
      sym (sym parts.0 ∙ same_entry s.facts (entries_of s.history) x no_places s.places changing)

  -- what is handed on of it
  pub answers_none : {E : Type 0} (r : Result Answered E) (front : ℕ) (reply : Reply) (d : Decision) → (d ≡ Refused reply) ⊎ (d ≡ Served reply) → d ≡ decision_of account.facts account.entries x
      → front ≡ length s.history → (desk : List (Entry × ℕ)) → desk ≡ s.history → IfOk r (λ a. (a.front ≡ front) × (answer_in a ≡ answer_of reply))
      → IfOk r (λ a. AnswersHere s x a s × (desk ≡ s.history))
  answers_none (Ok a) front reply d is gives counted desk same given =
      (record { reply = reply; decides = decides_none reply d is gives; answer = given.1; front = given.0 ∙ counted }, same)
  answers_none (Err why) front reply d is gives counted desk same given = tt

  pub answers_one : {E : Type 0} (r : Result Answered E) (entry : Entry) (reply : Reply) → Change entry reply ≡ decision_of account.facts account.entries x → (t : Pass) (desk : List (Entry × ℕ))
      → OnOk r ((desk ≡ t.history) × (t ≡ making s entry)) → IfOk r (λ a. (a.front ≡ length t.history) × (answer_in a ≡ answer_of reply))
      → IfOk r (λ a. AnswersHere s x a t × (desk ≡ t.history))
  answers_one (Ok a) entry reply gives t desk made given =
      (record { reply = reply; decides = decides_one entry reply gives t made.1; answer = given.1; front = given.0 }, made.0)
  answers_one (Err why) entry reply gives t desk made given = tt

making_facts : (s : Pass) (made : Option Entry) → (making_any s made).facts ≡ s.facts
making_facts s None = refl
making_facts s (Some entry) = refl

-- a request stays proper where housekeeping comes first
pub proper_kept : (s t : Pass) (x : Ask) (clock : ℕ) → t ≡ keeping_house s clock → IsProper s.facts x → IsProper t.facts x
proper_kept s t x clock is proper =
    subst (λ (f : RealmFacts). IsProper f x) (sym (ap (λ (p : Pass). p.facts) is ∙ making_facts s (housekeeping_of (entries_of s.history) clock))) proper

-- what holds holds where there is an error
pub on_err : {A E P : Type 0} (r : Result A E) → P → OnErr r P
on_err (Ok v) p = tt
on_err (Err e) p = p

-- one more pass
pub fresh_passes-push : (facts : RealmFacts) (passes : ℕ) (loaded : List Entry) (n : ℕ)
    → fresh_passes facts passes loaded (n + 1) ≡ fresh_passes facts passes loaded n ++ fresh_pass facts passes loaded (n + 1) ∷ []
fresh_passes-push facts passes loaded n =
    ap (fresh_passes facts passes loaded) (add-one n) ∙ ap (λ (k : ℕ). fresh_passes facts passes loaded n ++ fresh_pass facts passes loaded k ∷ []) (sym (add-one n))
