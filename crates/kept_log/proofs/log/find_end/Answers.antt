use Rattle.std.proofs.Common.{◌≡◌, false, arith, ◌∙◌}
use Rattle.std.proofs.lemmas.Grind.{common_steps}
use Rattle.kept_log.proofs.Scan.{end_of}
use Rattle.kept_log.proofs.Lines.{end_is}
use Rattle.kept_log.proofs.log.find_end.Goals as goal

pub returns-then-byte-ne-OPEN : goal.returns-then-byte-ne-OPEN
returns-then-byte-ne-OPEN c =
    let is : c.loop-byte.end ≡ end_of false 0 0 c.args.bytes.now = grind (arith, common_steps) in
    is ∙ end_is c.args.bytes.now

pub returns-then-byte-eq-FILL : goal.returns-then-byte-eq-FILL
returns-then-byte-eq-FILL c =
    let is : c.loop-byte.end ≡ end_of false 0 0 c.args.bytes.now = grind (arith, common_steps) in
    is ∙ end_is c.args.bytes.now

pub returns : goal.returns
returns c =
    let is : c.loop-byte.end ≡ end_of false 0 0 c.args.bytes.now = grind (arith, common_steps) in
    is ∙ end_is c.args.bytes.now
