-- Replies that were written, whole or cut short.
use Rattle.std.proofs.Common.{◌≡◌, ◌≤◌, ℕ, IsTrue, List, ◌++◌, length, Bool, true, false, Option, None, Some, refl, sym, ap, ◌∙◌, subst, arith, ◌⊎◌, inl, inr}
use Rattle.std.specs.Bool.{MatchBool}
use Rattle.kms_io.specs.Wire.{Wire}
use Rattle.published_account.specs.declared.answered.Answered.{Answered}
use Rattle.http_front.specs.Head.{IsHead}
use Rattle.kms_json.specs.declared.asks.Ask.{Ask}
use Rattle.kms_json.specs.declared.replies.Reply.TheVariants.{Refused}
use Rattle.kms_json.specs.Asks.{changes_account}
use Rattle.account_steps.specs.declared.facts.RealmFacts.{RealmFacts}
use Rattle.account_steps.specs.History.{Entry}
use Rattle.account_steps.specs.History.{housekeeping_of}
use Rattle.account_core.specs.Decide.{decide}
use mathlib.Core.List.{IsPrefix}
use Rattle.session_front.specs.declared.trust.Trust.{Trust}
use Rattle.http_front.specs.Message.{Message}
use Rattle.std.proofs.Common.{Result, Ok, Err, IfOk, OnErr}
use Rattle.keepers.specs.declared.keeps.Unmade.{Unmade}
use Rattle.keepers.specs.declared.keeps.Unmade.TheVariants.{Unkept as NotKept}
use Rattle.session_front.specs.Early.{ask_of}
use Rattle.kms_json.specs.declared.refusals.Refusal.{Refusal}
use Rattle.published_account.specs.Answers.{Answer, answer_in, answer_of}
use Rattle.kms_session.specs.Answers.{IsReplyText, five_hundred, not_kept}
use Rattle.published_account.specs.Pairs.{entries_of, LeadsTo}
use Rattle.publish_pass.specs.Pass.{Pass, Meets, WantsChange, AnswersRead, AnswersChange, LacksRead, Misses, keeping_house, making_any}
use Rattle.published_account.specs.declared.answered.Unread.TheVariants.{NoMemory as Unfed}
use Rattle.session_front.specs.Items.{whole}
use Rattle.kms_session.specs.Run.{Plan, answered, asks, plan_of, plan_by, Wanting, wants_nothing, wants_read, wants_change, Answers, early, reads, changes, Replies, answers, wants_memory, Unkept, isnt_kept}
use Rattle.session_front.specs.Sending.{SendsWhole, SendsShort}
use Rattle.kms_session.specs.Session.{Responds, RespondsShort}
use Rattle.kms_session.specs.Replying.{SendsReply, SendsReplyShort, Gives}
use Rattle.session_front.proofs.Wires.{whole_on, sends_short_after, sends_short_before}

pub text_of_reply : (answer : Answer) (second front : ℕ) (closes : Bool) (head : List ℕ) → IsHead answer.status (length answer.body) second front closes head
    → IsReplyText answer second front closes (head ++ answer.body)
text_of_reply answer second front closes head is = record { head = head; is_head = is; whole = refl }

-- the head failed
pub head_short : (answer : Answer) (second front : ℕ) (closes : Bool) (head : List ℕ) (old new : Wire) → IsHead answer.status (length answer.body) second front closes head
    → SendsShort old new head → SendsReplyShort answer second front closes old new
head_short answer second front closes head old new is short = record {
  text = head ++ answer.body;
  is = text_of_reply answer second front closes head is;
  short = sends_short_before answer.body short;
}

-- the head was written, and then the body, or a front of it
pub body_sent : (sent : Bool) (answer : Answer) (second front : ℕ) (closes : Bool) (head : List ℕ) (old mid new : Wire) → IsHead answer.status (length answer.body) second front closes head
    → SendsWhole old mid head → MatchBool sent (SendsWhole mid new answer.body) (SendsShort mid new answer.body)
    → MatchBool sent (SendsReply answer second front closes old new) (SendsReplyShort answer second front closes old new)
body_sent true answer second front closes head old mid new is first then =
    record { text = head ++ answer.body; is = text_of_reply answer second front closes head is; sends = whole_on first then }
body_sent false answer second front closes head old mid new is first then =
    record { text = head ++ answer.body; is = text_of_reply answer second front closes head is; short = sends_short_after first then }

-- both were written at once, or a front of them
pub joined_sent : (sent : Bool) (answer : Answer) (second front : ℕ) (closes : Bool) (head text : List ℕ) (old new : Wire) → IsHead answer.status (length answer.body) second front closes head
    → text ≡ head ++ answer.body → MatchBool sent (SendsWhole old new text) (SendsShort old new text)
    → MatchBool sent (SendsReply answer second front closes old new) (SendsReplyShort answer second front closes old new)
joined_sent true answer second front closes head text old new is split sent = record { text = text; is = record { head = head; is_head = is; whole = split }; sends = sent }
joined_sent false answer second front closes head text old new is split sent = record { text = text; is = record { head = head; is_head = is; whole = split }; short = sent }

-- a reply to a plan
pub replied : (keeps sent : Bool) (s : Pass) (plan : Plan) (answer : Answer) (second front : ℕ) (closes : Bool) (old new : Wire) (t : Pass)
    → Answers s plan answer t → front ≡ length t.history
    → MatchBool sent (SendsReply answer second front closes old new) (SendsReplyShort answer second front closes old new)
    → MatchBool sent (Responds keeps s plan second closes old new t) (RespondsShort keeps s plan second closes old new t)
replied keeps true s plan answer second front closes old new t is at reply =
    record { text = reply.text; is = answers answer is (subst (λ (n : ℕ). IsReplyText answer second n closes reply.text) at reply.is); sends = reply.sends }
replied keeps false s plan answer second front closes old new t is at reply =
    record { text = reply.text; is = answers answer is (subst (λ (n : ℕ). IsReplyText answer second n closes reply.text) at reply.is); short = reply.short }

pub wanting_none : (s : Pass) (plan : Plan) → Wanting s plan s
wanting_none s plan = wants_nothing refl

pub wants_changed : (s t : Pass) (x : Ask) → true ≡ changes_account x.body → WantsChange s x t → Wanting s (asks x) t
wants_changed s t x is h = wants_change x refl (sym is) h

-- ---- a pass that missed the published account, and is otherwise as it was

pub record MissesOnly (s t : Pass) : Type 0 where
  pub others : t ≡ record s { missed = t.missed }
  pub missed : s.missed ≤ t.missed

pub misses_none : (s : Pass) → MissesOnly s s
misses_none s = record { others = refl; missed = omega arith }

pub misses_more : (s t u : Pass) → MissesOnly s t → Misses t u → MissesOnly s u
misses_more s t u is more = record {
  others = more.others ∙ ap (λ (p : Pass). let q : Pass = record p { missed = u.missed } in q) is.others;
  missed = omega (arith, is.missed, more.rose.0);
}

meets_later : (s t u : Pass) → MissesOnly s t → Meets t u → Meets s u
meets_later s t u is met = record {
  history = subst (λ (h : List (Entry × ℕ)). IsPrefix h u.history) (ap (λ (p : Pass). p.history) is.others) met.history;
  others = met.others ∙ ap (λ (p : Pass). let q : Pass = record p { history = u.history; missed = u.missed } in q) is.others;
  missed = omega (arith, is.missed, met.missed);
  leads = subst (λ (f : RealmFacts). LeadsTo f (entries_of s.history) (entries_of u.history)) (ap (λ (p : Pass). p.facts) is.others)
      (subst (λ (h : List (Entry × ℕ)). LeadsTo t.facts (entries_of h) (entries_of u.history)) (ap (λ (p : Pass). p.history) is.others) met.leads);
}

pub wants_reading : (s t u : Pass) (x : Ask) → changes_account x.body ≡ false → MissesOnly s t → LacksRead t x Unfed u → Wanting s (asks x) u
wants_reading s t u x is missed h =
    wants_read x refl is (record { met = h.0.met; seen = meets_later s t h.0.met missed h.0.seen; places = h.0.places; used = h.0.used; at_most = h.0.at_most })

-- a reply for want of memory
pub wanted : (keeps sent : Bool) (s : Pass) (plan : Plan) (second : ℕ) (closes : Bool) (old new : Wire) (t : Pass) → Wanting s plan t
    → MatchBool sent (SendsWhole old new five_hundred) (SendsShort old new five_hundred)
    → MatchBool sent (Responds keeps s plan second closes old new t) (RespondsShort keeps s plan second closes old new t)
wanted keeps true s plan second closes old new t is reply = record { text = five_hundred; is = wants_memory is refl; sends = reply }
wanted keeps false s plan second closes old new t is reply = record { text = five_hundred; is = wants_memory is refl; short = reply }

-- a reply to a change that couldn't be kept
pub unkept : (keeps sent : Bool) (s : Pass) (plan : Plan) (second : ℕ) (closes : Bool) (old new : Wire) (t : Pass) → Unkept keeps s plan t
    → MatchBool sent (SendsWhole old new not_kept) (SendsShort old new not_kept)
    → MatchBool sent (Responds keeps s plan second closes old new t) (RespondsShort keeps s plan second closes old new t)
unkept keeps true s plan second closes old new t is reply = record { text = not_kept; is = isnt_kept is refl; sends = reply }
unkept keeps false s plan second closes old new t is reply = record { text = not_kept; is = isnt_kept is refl; short = reply }

pub unkept_change : (keeps : Bool) (s t : Pass) (x : Ask) → IsTrue keeps → true ≡ changes_account x.body → WantsChange s x t → Unkept keeps s (asks x) t
unkept_change keeps s t x does is h = record { does = does; ask = x; asked = refl; changes = sym is; left = h }

-- what a pass hands on as the answer to a request that changes the account
pub gives_changed : (s t : Pass) (x : Ask) (a : Answered) → true ≡ changes_account x.body → AnswersChange s x a t → Gives s (asks x) a t
gives_changed s t x a is h = record { answers = changes x h.reply refl (sym is) h.changes h.answer; front = h.front }

pub gives_if : (r : Result Answered Unmade) (s t : Pass) (x : Ask) → true ≡ changes_account x.body → IfOk r (λ a. AnswersChange s x a t) → IfOk r (λ a. Gives s (asks x) a t)
gives_if (Ok a) s t x is h = gives_changed s t x a is h
gives_if (Err why) s t x is h = tt

pub wants_if : (r : Result Answered Unmade) (s t : Pass) (x : Ask) → true ≡ changes_account x.body → OnErr r (WantsChange s x t) → OnErr r (Wanting s (asks x) t)
wants_if (Ok a) s t x is h = tt
wants_if (Err why) s t x is h = wants_changed s t x is h

pub unkept_if : (keeps : Bool) (r : Result Answered Unmade) (s t : Pass) (x : Ask) → true ≡ changes_account x.body → (r ≡ Err NotKept → IsTrue keeps) → OnErr r (WantsChange s x t) → r ≡ Err NotKept → Unkept keeps s (asks x) t
unkept_if keeps (Ok a) s t x is does h why = cc
unkept_if keeps (Err other) s t x is does h why = unkept_change keeps s t x (does why) is h

-- and to one that doesn't
pub gives_read : (s t u : Pass) (x : Ask) (a : Answered) → changes_account x.body ≡ false → MissesOnly s t → AnswersRead t x a u → Gives s (asks x) a u
gives_read s t u x a is missed h = record {
  answers = reads x h.reply refl is (record { met = h.reads.met; seen = meets_later s t h.reads.met missed h.reads.seen; answer = h.reads.answer; used = h.reads.used }) h.answer;
  front = h.front;
}

-- what a pass hands on is replied
pub replied_given : (keeps sent : Bool) (s t : Pass) (plan other : Plan) (a : Answered) (body : List ℕ) (second : ℕ) (closes : Bool) (old new : Wire)
    → other ≡ plan → body ≡ a.body → Gives s other a t
    → MatchBool sent (SendsReply (record { status = a.status; body = body }) second a.front closes old new) (SendsReplyShort (record { status = a.status; body = body }) second a.front closes old new)
    → MatchBool sent (Responds keeps s plan second closes old new t) (RespondsShort keeps s plan second closes old new t)
replied_given keeps sent s t plan other a body second closes old new same is gives reply =
    let P : List ℕ → Type 0 = λ b. MatchBool sent (SendsReply (record { status = a.status; body = b }) second a.front closes old new) (SendsReplyShort (record { status = a.status; body = b }) second a.front closes old new) in
    replied keeps sent s plan (answer_in a) second a.front closes old new t (subst (λ (p : Plan). Answers s p (answer_in a) t) same gives.answers) gives.front (subst P is reply)

-- what a message comes to, from what it asks
pub plan_asks : (trust : Trust) (region : List ℕ) (m : Message) (c : ℕ) (x : Ask) → ask_of trust region m c ≡ Ok x → asks x ≡ plan_of trust region (whole m) c
plan_asks trust region m c x is = ap plan_by (sym is)

pub plan_refuses : (trust : Trust) (region : List ℕ) (m : Message) (c : ℕ) (why : Refusal) → ask_of trust region m c ≡ Err why → answered (answer_of (Refused why)) ≡ plan_of trust region (whole m) c
plan_refuses trust region m c why is = ap plan_by (sym is)

any_facts : (s t : Pass) (entry : Option Entry) → t ≡ making_any s entry → t.facts ≡ s.facts
any_facts s t None is = ap (λ (p : Pass). p.facts) is
any_facts s t (Some entry) is = ap (λ (p : Pass). p.facts) is

house_facts : (s : Pass) (clock : ℕ) → (keeping_house s clock).facts ≡ s.facts
house_facts s clock = any_facts s (keeping_house s clock) (housekeeping_of (entries_of s.history) clock) refl

-- the facts stay
facts_answered : {s t : Pass} {plan : Plan} {answer : Answer} → Answers s plan answer t → t.facts ≡ s.facts
facts_answered (early is same) = ap (λ (p : Pass). p.facts) same
facts_answered (reads x reply is which h has) = ap (λ (p : Pass). p.facts) h.used ∙ ap (λ (p : Pass). p.facts) h.seen.others
facts_answered {t = t} (changes x reply is which h has) =
    let kept = keeping_house h.met x.moment in
    any_facts kept t (decide kept.facts (entries_of kept.history) x kept.places).entry h.decides.made ∙ house_facts h.met x.moment ∙ ap (λ (p : Pass). p.facts) h.seen.others

facts_left : (met t : Pass) (clock : ℕ) → (t ≡ met) ⊎ (t ≡ keeping_house met clock) → t.facts ≡ met.facts
facts_left met t clock (inl same) = ap (λ (p : Pass). p.facts) same
facts_left met t clock (inr kept) = ap (λ (p : Pass). p.facts) kept ∙ house_facts met clock

facts_wanting : {s t : Pass} {plan : Plan} → Wanting s plan t → t.facts ≡ s.facts
facts_wanting (wants_nothing same) = ap (λ (p : Pass). p.facts) same
facts_wanting (wants_read x is which h) = ap (λ (p : Pass). p.facts) h.used ∙ ap (λ (p : Pass). p.facts) h.seen.others
facts_wanting {s = s} {t = t} (wants_change x is which h) = facts_left h.met t x.moment h.left ∙ ap (λ (p : Pass). p.facts) h.seen.others

facts_unkept : {keeps : Bool} {s t : Pass} {plan : Plan} → Unkept keeps s plan t → t.facts ≡ s.facts
facts_unkept h = facts_wanting (wants_change h.ask h.asked h.changes h.left)

pub facts_kept : {keeps : Bool} {s t : Pass} {plan : Plan} {c : ℕ} {closes : Bool} {text : List ℕ} → Replies keeps s plan c closes text t → t.facts ≡ s.facts
facts_kept (answers answer is text) = facts_answered is
facts_kept (wants_memory is text) = facts_wanting is
facts_kept (isnt_kept is text) = facts_unkept is
