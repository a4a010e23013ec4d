use Rattle.std.proofs.Common.{rules, ◌≡◌, ℕ, List, sym, subst}
use Rattle.kept_log.specs.Log.{IsPlain}
use Rattle.kept_journal.specs.Lines.{text_of, sealed}
use Rattle.kept_journal.specs.declared.told.Told.TheVariants.{Start}
use Rattle.kept_journal.proofs.Printable.{told_high, sealed_plain}
use Rattle.kept_journal.proofs.journal.start_record.Goals as goal

pub returns-clause-plain : goal.returns-clause-plain
returns-clause-plain c =
    let text = text_of (Start c.args.boot) in
    let is : c.in_ok-body.body.items ≡ sealed text c.seal_of-seal.result = search rules in
    subst IsPlain (sym is) (sealed_plain text c.seal_of-seal.result (told_high (Start c.args.boot)))
