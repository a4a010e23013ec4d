use Rattle.std.proofs.Common.{◌≡◌, true, inl, arith}
use Rattle.std.proofs.lemmas.Grind.{common_steps}
use Rattle.kms_io.specs.Calls.{is_failing}
use Rattle.kms_io.specs.MemoryFiles.{calls_of}
use Rattle.kms_io.proofs.memory_files.MemoryFiles.read.Goals as goal

pub returns-then-contains-clause-fails : goal.returns-then-contains-clause-fails
returns-then-contains-clause-fails c =
    let calls = calls_of c.args.self.now in
    let listed : is_failing calls ≡ true = grind (arith, common_steps) in
    c.fail.ensures.fails calls (inl listed)
