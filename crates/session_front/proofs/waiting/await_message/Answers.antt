use Rattle.std.proofs.Common.{◌<◌, ℕ, List, length, subst, sym, arith}
use Rattle.http_front.specs.Message.{Awaits}
use Rattle.session_front.proofs.Messages.{awaited_fits, awaited_on}
use Rattle.session_front.proofs.Wires.{receives_nothing, receives_on, receives_none, gets_more, rose_since}
use Rattle.session_front.proofs.waiting.await_message.Goals as goal

pub loop-cut-preserved : goal.loop-cut-preserved
loop-cut-preserved g c =
    let awaits = subst (λ (bytes : List ℕ). Awaits bytes c.in-NeedMore.size) c.bytes.ensures.value c.in-NeedMore.ensures in
    record {
      receives = receives_on c.loop-cut.invariant.receives (c.in-NeedMore.size, awaits) c.in-Got.ensures;
      awaits = λ short. awaited_on c.in-Got.ensures.piece awaits c.in-Got.ensures.grows short;
    }

pub returns-in-End-clause-receives : goal.returns-in-End-clause-receives
returns-in-End-clause-receives g c =
    let awaits = subst (λ (bytes : List ℕ). Awaits bytes c.in-NeedMore.size) c.bytes.ensures.value c.in-NeedMore.ensures in
    receives_none c.loop-cut.invariant.receives (c.in-NeedMore.size, awaits) c.in-End.ensures.0

pub returns-in-End-clause-finds : goal.returns-in-End-clause-finds
returns-in-End-clause-finds g c =
    let awaits = subst (λ (bytes : List ℕ). Awaits bytes c.in-NeedMore.size) c.bytes.ensures.value c.in-NeedMore.ensures in
    ((c.in-NeedMore.size, subst (λ (bytes : List ℕ). Awaits bytes c.in-NeedMore.size) (sym c.in-End.ensures.0.same) awaits), c.in-End.ensures.1)

pub returns-in-Failed-clause-receives : goal.returns-in-Failed-clause-receives
returns-in-Failed-clause-receives g c =
    let awaits = subst (λ (bytes : List ℕ). Awaits bytes c.in-NeedMore.size) c.bytes.ensures.value c.in-NeedMore.ensures in
    receives_none c.loop-cut.invariant.receives (c.in-NeedMore.size, awaits) c.in-Failed.ensures.0

pub returns-in-Failed-clause-finds : goal.returns-in-Failed-clause-finds
returns-in-Failed-clause-finds g c =
    let awaits = subst (λ (bytes : List ℕ). Awaits bytes c.in-NeedMore.size) c.bytes.ensures.value c.in-NeedMore.ensures in (
      (c.in-NeedMore.size, subst (λ (bytes : List ℕ). Awaits bytes c.in-NeedMore.size) (sym c.in-Failed.ensures.0.same) awaits),
      rose_since _ _ _ c.loop-cut.invariant.receives.takes.faults c.in-Failed.ensures.1,
    )

pub fill-requires : goal.fill-requires
fill-requires g c = awaited_fits (subst (λ (bytes : List ℕ). Awaits bytes c.in-NeedMore.size) c.bytes.ensures.value c.in-NeedMore.ensures)

pub loop-cut-smaller : goal.loop-cut-smaller
loop-cut-smaller g c =
    let here = awaited_fits (subst (λ (bytes : List ℕ). Awaits bytes c.in-NeedMore.size) c.bytes.ensures.value c.in-NeedMore.ensures) in
    let grows : length c.loop-cut.inbox < length c.fill.new.self = gets_more c.in-Got.ensures in
    omega (arith, here)

pub loop-cut-init : goal.loop-cut-init
loop-cut-init g c = record { receives = receives_nothing _ _; awaits = λ h. absurd (omega (arith, h)) }
