-- Along a run the pass's history only grows.
use Rattle.std.proofs.Common.{◌≡◌, ◌⊎◌, inl, inr, ℕ, List, Bool, Option, Some, None, sym, ap, subst}
use mathlib.Core.List.{IsPrefix}
use Rattle.account_steps.specs.History.{Entry}
use Rattle.account_steps.specs.History.{housekeeping_of}
use Rattle.account_core.specs.Decide.{decide}
use Rattle.published_account.specs.Answers.{Answer}
use Rattle.published_account.specs.Pairs.{entries_of}
use Rattle.publish_pass.specs.Pass.{Pass, making_any, keeping_house}
use Rattle.published_account.proofs.Lists.{prefix_self, prefix_push, prefix_trans}
use Rattle.session_front.specs.declared.trust.Trust.{Trust}
use Rattle.session_front.specs.Items.{Item}
use Rattle.session_front.specs.Runs.{begins, goes_on}
use Rattle.kms_session.specs.Run.{Plan, Answers, early, reads, changes, Wanting, wants_nothing, wants_read, wants_change, Replies, answers, wants_memory, isnt_kept, SessionRun}
use Rattle.session_laws.specs.Laws.{TurnsGoOn, RunsGoOn}

abbrev On : Pass → Pass → Type 0
On s t = IsPrefix s.history t.history

on_same : (s t : Pass) → t ≡ s → On s t
on_same s t same = subst (On s) (sym same) (prefix_self s.history)

on_trans : (s t u : Pass) → On s t → On t u → On s u
on_trans s t u a b = prefix_trans s.history t.history u.history a b

making_on : (s : Pass) (made : Option Entry) → On s (making_any s made)
making_on s None = prefix_self s.history
making_on s (Some entry) = prefix_push s.history (entry, s.number)

house_on : (s : Pass) (clock : ℕ) → On s (keeping_house s clock)
house_on s clock = making_on s (housekeeping_of (entries_of s.history) clock)

left_on : (met t : Pass) (clock : ℕ) → (t ≡ met) ⊎ (t ≡ keeping_house met clock) → On met t
left_on met t clock (inl same) = on_same met t same
left_on met t clock (inr kept) = subst (On met) (sym kept) (house_on met clock)

-- the history stays where only the places change
read_on : (s met t : Pass) → On s met → t.history ≡ met.history → On s t
read_on s met t on same = subst (IsPrefix s.history) (sym same) on

answer_on : (s : Pass) (plan : Plan) (answer : Answer) (t : Pass) → Answers s plan answer t → On s t
answer_on s plan answer t (early is same) = on_same s t same
answer_on s plan answer t (reads x reply is which h has) = read_on s h.met t h.seen.history (ap (λ (p : Pass). p.history) h.used)
answer_on s plan answer t (changes x reply is which h has) =
    let kept : Pass = keeping_house h.met x.moment in
    let made = making_on kept (decide kept.facts (entries_of kept.history) x kept.places).entry in
    on_trans s h.met t h.seen.history (on_trans h.met kept t (house_on h.met x.moment) (subst (On kept) (sym h.decides.made) made))

wanting_on : (s : Pass) (plan : Plan) (t : Pass) → Wanting s plan t → On s t
wanting_on s plan t (wants_nothing same) = on_same s t same
wanting_on s plan t (wants_read x is which h) = read_on s h.met t h.seen.history (ap (λ (p : Pass). p.history) h.used)
wanting_on s plan t (wants_change x is which h) = on_trans s h.met t h.seen.history (left_on h.met t x.moment h.left)

reply_on : {keeping : Bool} (s : Pass) (plan : Plan) (c : ℕ) (closes : Bool) (text : List ℕ) (t : Pass) → Replies keeping s plan c closes text t → On s t
reply_on s plan c closes text t (answers answer h is) = answer_on s plan answer t h
reply_on s plan c closes text t (wants_memory h is) = wanting_on s plan t h
reply_on s plan c closes text t (isnt_kept h is) = wanting_on s plan t (wants_change h.ask h.asked h.changes h.left)

pub turns_go_on : TurnsGoOn
turns_go_on keeping s trust item c closes text t turn = reply_on s _ c closes text t turn

run_on : {keeping : Bool} (trust : Trust) (start end : Pass) (items : List Item) (clocks text : List ℕ) → SessionRun keeping start trust end items clocks text → On start end
run_on trust start end items clocks text begins = prefix_self start.history
run_on trust start end items clocks text (goes_on {old = old} item c before run turn) =
    on_trans start old end (run_on trust start old _ _ _ run) (reply_on old _ c _ _ end turn)

pub runs_go_on : RunsGoOn
runs_go_on keeping trust start end items clocks text run = run_on trust start end items clocks text run
