use Rattle.std.proofs.Common.{◌≡◌, IfOk, subst}
use Rattle.clap.specs.Words.{App, app_of, with_subcommand}
use Rattle.kms_words.proofs.line.with_export.Goals as goal

pub returns : goal.returns
returns c =
    let Adds : App → Type 0 = λ a. IfOk c.with_command.result (λ added. app_of added ≡ with_subcommand (app_of c.args.program) a.top) in
    subst Adds c.in_ok-session_command.ensures.app c.with_command.ensures
