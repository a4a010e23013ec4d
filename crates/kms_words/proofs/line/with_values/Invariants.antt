use Rattle.std.proofs.Common.{◌≡◌, false, map, drop}
use Rattle.clap.specs.Words.{app_of}
use Rattle.clap.specs.declared.builder.command.Command.TheViews.{out-Command}
use Rattle.kms_words.specs.Words.{with_values}
use Rattle.kms_words.proofs.line.with_values.Given as goal

-- what is left to add leads where all that was asked leads
abbrev pub invariant-loop-name : goal.invariant-loop-name
invariant-loop-name l =
    ((out-Command l.command).has_globals ≡ false)
    × (with_values (app_of l.command) (map (λ name. name.now) (drop l.name-index l.names))
    ≡ with_values (app_of l.initial.command) (map (λ name. name.now) l.names))
