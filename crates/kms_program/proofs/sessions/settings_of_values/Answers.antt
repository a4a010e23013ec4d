use Rattle.std.proofs.Common.{subst, refl}
use Rattle.kms_program.proofs.Callers.{without_policies}
use Rattle.kms_words.specs.Words.{values_in}
use Rattle.kms_program.specs.Settings.{UnlessMemory}
use Rattle.kms_program.specs.declared.settings.RunOption.{RunOption}
use Rattle.kms_program.specs.Program.{SaysLine, refused_line, path_of, refuses}
use Rattle.kms_program.proofs.sessions.settings_of_values.Goals as goal

pub returns-in-Ok-clause-policies : goal.returns-in-Ok-clause-policies
returns-in-Ok-clause-policies g c = without_policies c.in-Ok.settings.facts c.in-Ok.ensures.ok.identities c.in-Ok.ensures.ok.ceiling

pub returns-in-Err-At-clause-status : goal.returns-in-Err-At-clause-status
returns-in-Err-At-clause-status g c = λ clock shelf.
    refuses c.in-Err-At.option (subst (UnlessMemory (values_in c.args.words.now)) c.in-Err-At.field-0-is c.in-Err-At.ensures.refused)
    (record {
      says = subst (λ (option : RunOption). SaysLine (refused_line (path_of option)) (g.L.Link.shows c.args.link.now) (g.L.Link.shows c.say_refused.new.link)) c.in-Err-At.option-is c.say_refused.ensures;
      status_is = refl;
      clock = refl;
    })
