use Rattle.std.proofs.Common.{◌∙◌, sym, subst}
use Rattle.std.specs.Str.{IsAscii}
use Rattle.std.proofs.lemmas.Fmt.{parse-decimal, IsAscii-decimal}
use Rattle.std.proofs.lemmas.Str.{IsUtf8-from_ascii}
use Rattle.kms_workload.proofs.replies.number_in.Goals as goal

pub returns-in-Ok : goal.returns-in-Ok
returns-in-Ok c = λ n small is.
    let read = parse-decimal 64 n _ _ small small (c.in-Ok.ensures.cases.0 ∙ is) c.parse.ensures.value.0 in
    rw read at c.unwrap_or.ensures

pub returns-in-Err : goal.returns-in-Err
returns-in-Err c = λ n small is. absurd (c.in-Err.ensures.cases.0 (IsUtf8-from_ascii c.args.digits.now (subst IsAscii (sym is) (IsAscii-decimal n small))))
