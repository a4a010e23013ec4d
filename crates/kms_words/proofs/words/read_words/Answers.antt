use Rattle.std.proofs.Common.{◌∙◌, Err, sym, ap, map, string_bytes}
use Rattle.kms_words.specs.Words.{named_command}
use Rattle.kms_words.proofs.WordFacts.{stray_in, stray_is_none, command_is, refused_is_none}
use Rattle.kms_words.proofs.words.read_words.Goals as goal

pub returns-then-has_stray : goal.returns-then-has_stray
returns-then-has_stray c = stray_is_none (map string_bytes c.args.words.now) (sym (stray_in c.args.words.now) ∙ sym c.has_stray.ensures ∙ c.if-has_stray.true)

pub returns-in-Ok : goal.returns-in-Ok
returns-in-Ok c =
    c.asked_in.ensures ∙ ap named_command c.in-Ok.ensures.rows
    ∙ command_is (map string_bytes c.args.words.now) (sym (stray_in c.args.words.now) ∙ sym c.has_stray.ensures ∙ c.if-has_stray.false) c.in-Ok.ensures.ok

pub returns-in-Err-Refused : goal.returns-in-Err-Refused
returns-in-Err-Refused c =
    refused_is_none (map string_bytes c.args.words.now) (sym (stray_in c.args.words.now) ∙ sym c.has_stray.ensures ∙ c.if-has_stray.false) (c.in-Err-Refused.ensures.refused (ap Err c.in-Err-Refused.field-0-is))
