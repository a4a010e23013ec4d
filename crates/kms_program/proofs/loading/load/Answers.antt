use Rattle.std.proofs.Common.{ℕ, List, refl, inl, inr, subst}
use Rattle.std.specs.Prelude.{string_bytes}
use Rattle.session_front.specs.Sending.{SendsWhole, SendsShort}
use Rattle.kms_program.specs.Program.{sums}
use Rattle.kms_program.proofs.loading.load.Goals as goal

pub returns-in-Ok : goal.returns-in-Ok
returns-in-Ok g c =
    let old = g.L.Link.shows c.args.link.now in
    let new = g.L.Link.shows c.send.new.link in
    sums (string_bytes c.in-Ok.lines) c.in-Ok.ensures (inl (subst (λ (text : List ℕ). SendsWhole old new text) c.as_bytes.ensures.value c.if-send.ensures, refl))

pub returns-in-Ok-2 : goal.returns-in-Ok-2
returns-in-Ok-2 g c =
    let old = g.L.Link.shows c.args.link.now in
    let new = g.L.Link.shows c.send.new.link in
    sums (string_bytes c.in-Ok.lines) c.in-Ok.ensures (inr (subst (λ (text : List ℕ). SendsShort old new text) c.as_bytes.ensures.value c.if-send.ensures, refl))
