use Rattle.std.proofs.Common.{◌≡◌, take, map}
use Rattle.std.specs.List.{flat_map}
use Rattle.cond_ops.specs.Compiled.{head_of, texts_of}
use Rattle.cond_ops.proofs.compiled.CompiledConditions.new.Given as goal

abbrev pub invariant-loop-condition : goal.invariant-loop-condition
invariant-loop-condition l = record {
  heads : l.heads.items ≡ map head_of (take l.condition-index l.conditions);
  texts : l.texts ≡ flat_map texts_of (take l.condition-index l.conditions);
}
