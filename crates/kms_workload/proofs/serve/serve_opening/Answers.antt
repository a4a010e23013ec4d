use Rattle.std.proofs.Common.{length, ap, sym, ◌∙◌, rules}
use Rattle.publish_pass.specs.Pass.{Pass}
use Rattle.kms_workload.proofs.Alone.{knew_all, made_each}
use Rattle.kms_workload.proofs.serve.serve_opening.Goals as goal

pub returns : goal.returns
returns g c =
    let old = c.serve_session-end.new.pass in
    let new = c.settle.new.self in
    record {
      pass = old;
      ends = search rules;
      front = c.seen-front.ensures.number ∙ ap (λ (p : Pass). length p.history) (knew_all old new c.settle.ensures.all _ _ c.settle.ensures.passes c.requires.names.2 c.requires.passes);
      made_all = made_each old new c.settle.ensures.all _ _ c.settle.ensures.passes c.requires.names.2 c.requires.passes (c.settle.ensures.loaded ∙ sym c.requires.names.3 ∙ c.requires.empty.1);
    }
