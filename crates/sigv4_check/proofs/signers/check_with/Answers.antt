use Rattle.std.proofs.Common.{subst, List, ℕ}
use Rattle.sigv4_check.specs.Fields.{fields_in}
use Rattle.sigv4_check.specs.Signer.{signer_in, IsOrNoMemory}
use Rattle.sigv4_check.proofs.signers.check_with.Goals as goal

pub returns : goal.returns
returns c = λ m cuts.
    subst (λ fs. IsOrNoMemory (signer_in fs m.body c.args.creds.now c.args.region.now c.args.moment) c.signer.result) cuts.fields
    (subst (λ (b : List ℕ). IsOrNoMemory (signer_in (fields_in c.args.buffer.now c.args.cut.now) b c.args.creds.now c.args.region.now c.args.moment) c.signer.result) cuts.body c.signer.ensures)
