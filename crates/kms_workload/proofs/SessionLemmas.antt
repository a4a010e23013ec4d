-- From a session's end to the numbers of its replies.
use Rattle.std.proofs.Common.{◌≡◌, ◌+◌, ◌<◌, ◌^◌, ℕ, List, [], ◌∷◌, ◌++◌, length, Bool, true, false, Option, Some, None, refl, sym, ap, ◌∙◌, subst, arith, append_assoc, append-nil, length-append}
use Rattle.std.specs.Prelude.{if◌then◌else◌}
use Rattle.std.proofs.lemmas.Bool.{lt-ltb}
use Rattle.kms_io.specs.Wire.{Wire}
use Rattle.kms_io.specs.Clock.{told_so_far, first_of}
use Rattle.publish_pass.specs.Pass.{Pass, fresh_pass, first_places}
use Rattle.session_front.specs.declared.trust.Trust.{Trust}
use Rattle.session_front.specs.declared.ends.SessionEnd.{SessionEnd}
use Rattle.session_front.specs.declared.ends.SessionEnd.TheVariants.{Ended, Closed, CutOff, ReadFault, WriteFault, NoMemory}
use Rattle.session_front.specs.Items.{Item}
use Rattle.session_front.specs.Runs.{begins, goes_on}
use Rattle.kms_session.specs.Run.{Plan, Replies, answers, wants_memory, isnt_kept, SessionRun}
use Rattle.session_front.specs.Session.{outside}
use Rattle.kms_session.specs.Session.{Outside, Serves, EndsBy}
use Rattle.kms_workload.specs.Facts.{load_facts, load_trust}
use Rattle.kms_workload.specs.Seconds.{second_of, seconds_of}
use Rattle.kms_workload.specs.Workload.{workload_of}
use Rattle.kms_workload.specs.Session.{wire_before, is_over}
use Rattle.kms_workload.specs.Summary.{IsSessionOf}
use Rattle.kms_workload.specs.Replies.{IsReply, replies, wants, AreReplies, no_reply, one_reply}

replies_append : {text statuses : List ℕ} → AreReplies text statuses → (status : ℕ) (reply : List ℕ) → IsReply status reply → AreReplies (text ++ reply) (statuses ++ status ∷ [])
replies_append no_reply status reply is = one_reply reply is no_reply (sym (append-nil reply))
replies_append (one_reply {more = more} first was are split) status reply is =
    one_reply first was (replies_append are status reply is) (ap (λ (t : List ℕ). t ++ reply) split ∙ append_assoc first more reply)

record Statuses (text : List ℕ) (count : ℕ) : Type 0 where
  statuses : List ℕ
  are : AreReplies text statuses
  number : length statuses ≡ count

reply_of : {s t : Pass} {plan : Plan} {c : ℕ} {closes : Bool} {text : List ℕ} → Replies false s plan c closes text t → (status : ℕ) × IsReply status text
reply_of {t = t} {c = c} {closes = closes} (answers answer is text) = (answer.status, replies answer c (length t.history) closes text refl)
reply_of (wants_memory is text) = (500, wants text refl)
reply_of (isnt_kept is text) = let bad : false ≡ true = is.does in cc

-- a run has a reply for each item
run_statuses : (trust : Trust) {start pass : Pass} {items : List Item} {clocks text : List ℕ} → SessionRun false start trust pass items clocks text → Statuses text (length items)
run_statuses trust begins = record { statuses = []; are = no_reply; number = refl }
run_statuses trust (goes_on {items = items} {reply = reply} item c early run turn) =
    let so_far = run_statuses trust run in
    let last = reply_of turn in
    record {
      statuses = so_far.statuses ++ last.0 ∷ [];
      are = replies_append so_far.are last.0 reply last.1;
      number = omega (arith, length-append so_far.statuses (last.0 ∷ []), length-append items (item ∷ []), so_far.number);
    }

-- the clock tells its answers to few calls
pub clock_tells : (calls requests : ℕ) → calls ≡ requests → requests < 2 ^ 32 → told_so_far second_of calls ≡ Some (seconds_of requests)
clock_tells calls requests is few =
    ap (λ (b : Bool). if b then Some (first_of second_of calls) else None) (lt-ltb (calls + 1) (2 ^ 64) (omega arith)) ∙ ap (λ (n : ℕ). Some (seconds_of n)) is

-- the session of a workload, with the statuses of its replies
pub record Made (seed requests : ℕ) (pass : Pass) (text : List ℕ) : Type 0 where
  pub statuses : List ℕ
  pub session : IsSessionOf seed requests pass text statuses

abbrev pub before : ℕ → ℕ → Outside
before seed requests = outside (wire_before (workload_of seed requests)) (Some []) (fresh_pass load_facts 1 [] 1)

of_serves : (seed requests : ℕ) (pass : Pass) (made : pass.own ≡ first_places (length pass.history)) (new : Wire) (later : Option (List ℕ)) (text left : List ℕ) (closes : Bool) (count : ℕ) (rest : List ℕ)
    → Serves false load_trust (before seed requests) (outside new later pass) closes count rest → (closes ≡ false → (rest ≡ []) × (left ≡ []))
    → new.written ≡ Some text → new.left ≡ Some left → later ≡ Some (seconds_of requests)
    → ((statuses : List ℕ) → AreReplies text statuses → length statuses ≡ requests) → Made seed requests pass text
of_serves seed requests pass made new later text left closes count rest s ends wrote stays tells counts =
    let out : s.text ≡ text = cc (s.written, wrote) in
    let all : workload_of seed requests ≡ s.input ++ left = cc (s.left, stays) in
    let clocks : s.clocks ≡ seconds_of requests = cc (rw tells at s.told) in
    let told = run_statuses load_trust s.run in
    let are = subst (λ (t : List ℕ). AreReplies t told.statuses) out told.are in
    let number = counts told.statuses are in
    record {
      statuses = told.statuses;
      session = record {
        items = s.items;
        input = s.input;
        rest = rest;
        unread = left;
        closes = closes;
        whole = all;
        cuts = s.cuts;
        to_end = ends;
        each = sym told.number ∙ number;
        run = subst (λ (t : List ℕ). SessionRun false (fresh_pass load_facts 1 [] 1) load_trust pass s.items (seconds_of requests) t) out
            (subst (λ (cs : List ℕ). SessionRun false (fresh_pass load_facts 1 [] 1) load_trust pass s.items cs s.text) clocks s.run);
        made_all = made;
        replies = are;
        counted = number;
      };
    }

pub of_end : (seed requests : ℕ) (end : SessionEnd) (pass : Pass) (made : pass.own ≡ first_places (length pass.history)) (new : Wire) (later : Option (List ℕ)) (text left : List ℕ)
    → EndsBy false load_trust end (before seed requests) (outside new later pass) → is_over end ≡ true
    → new.written ≡ Some text → new.left ≡ Some left → later ≡ Some (seconds_of requests)
    → ((statuses : List ℕ) → AreReplies text statuses → length statuses ≡ requests) → Made seed requests pass text
of_end seed requests Ended pass made new later text left ends over wrote stays tells counts =
    of_serves seed requests pass made new later text left false ends.count [] ends.serves (λ _. (refl, rw stays at ends.at_end)) wrote stays tells counts
of_end seed requests Closed pass made new later text left ends over wrote stays tells counts =
    of_serves seed requests pass made new later text left true ends.count ends.rest ends.serves (λ no. absurd (cc no)) wrote stays tells counts
of_end seed requests CutOff pass made new later text left ends over wrote stays tells counts = absurd (cc over)
of_end seed requests ReadFault pass made new later text left ends over wrote stays tells counts = absurd (cc over)
of_end seed requests WriteFault pass made new later text left ends over wrote stays tells counts = absurd (cc over)
of_end seed requests NoMemory pass made new later text left ends over wrote stays tells counts = absurd (cc over)
