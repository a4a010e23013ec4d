use Rattle.std.proofs.Common.{ap, ◌∙◌, true}
use Rattle.clap.specs.Words.{App}
use Rattle.clap.specs.declared.builder.command.Command.{Command}
use Rattle.clap.specs.declared.builder.command.Command.TheOpen.{Command-F}
use Rattle.clap.specs.Simple.{app_of_fields}
use Rattle.kms_words.proofs.line.bare_command.Goals as goal

pub returns : goal.returns
returns c =
    let required : Command-F Command → Command-F Command = λ f. record f { subcommand_required = true } in
    let fields = c.subcommand_required.ensures ∙ ap required c.no_binary_name.ensures in
    let bare : App → App = λ a. record a { top = record a.top { no_binary_name = true; subcommand_required = true } } in
    ap app_of_fields fields ∙ ap bare c.new.ensures.app
