use Rattle.std.proofs.Common.{ℕ, List, inl, inr, refl, ◌∙◌, subst}
use Rattle.session_front.specs.Sending.{SendsWhole, SendsShort}
use Rattle.kms_program.specs.Program.{keeps_journal}
use Rattle.kms_program.proofs.exporting.write_kept.Goals as goal

pub returns-then-send : goal.returns-then-send
returns-then-send g c =
    let old = g.L.Link.shows c.args.link.now in
    let new = g.L.Link.shows c.send.new.link in
    keeps_journal c.in-Whole.account c.in-Whole.is (inl (subst (λ (text : List ℕ). SendsWhole old new text) (c.as_slice.ensures ∙ c.in-Ok.ensures) c.if-send.ensures, refl))

pub returns : goal.returns
returns g c =
    let old = g.L.Link.shows c.args.link.now in
    let new = g.L.Link.shows c.send.new.link in
    keeps_journal c.in-Whole.account c.in-Whole.is (inr (subst (λ (text : List ℕ). SendsShort old new text) (c.as_slice.ensures ∙ c.in-Ok.ensures) c.if-send.ensures, refl))
