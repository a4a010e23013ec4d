use Rattle.std.proofs.Common.{◌≡◌, ◌<◌, ◌^◌, true, refl, sym, ap, ◌∙◌, arith}
use Rattle.sha2.specs.Sha256.{sha256}
use Rattle.kms_io.specs.MemoryLink.{wire_of, left_of}
use Rattle.kms_workload.specs.Clock.{seconds_so_far, calls_of}
use Rattle.kms_workload.specs.Session.{is_over}
use Rattle.kms_workload.proofs.SessionLemmas.{of_end, clock_tells}
use Rattle.kms_workload.proofs.run.tally_of.Goals as goal

pub returns : goal.returns
returns c = λ seed serving.
    let link = c.args.link.now in
    let text = c.written.result.now in
    let few : c.args.requests < 2 ^ 32 = omega arith in
    let over : is_over c.args.past.end ≡ true = sym c.if-not-is_over.ensures in
    let calls : calls_of c.args.clock.now ≡ c.args.requests = cc (c.calls.ensures, c.if-calls-from.false, c.from.ensures) in
    let made = of_end seed c.args.requests c.args.past.end serving.pass serving.made_all (wire_of link) (seconds_so_far c.args.clock.now) text (left_of link)
    serving.ends over c.written.ensures refl (clock_tells (calls_of c.args.clock.now) c.args.requests calls few) (λ statuses are. (c.in-Some.ensures.counted statuses are).0) in
    record {
      pass = serving.pass;
      text = text;
      statuses = made.statuses;
      session = made.session;
      served = (c.in-Some.ensures.counted made.statuses made.session.replies).1;
      bound = c.in-Some.ensures.bound;
      front = serving.front;
      digest = c.digest.ensures ∙ ap sha256 (cc (c.written.ensures, c.written-2.ensures));
    }
