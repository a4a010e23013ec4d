use Rattle.std.proofs.Common.{rules, ◌≡◌, ℕ, List, sym, subst}
use Rattle.kept_log.specs.Log.{IsPlain}
use Rattle.kept_journal.specs.Lines.{head_text, sealed}
use Rattle.kept_journal.proofs.Printable.{head_high, number_high, sealed_plain}
use Rattle.kept_journal.proofs.journal.first_record.Goals as goal

pub returns-clause-plain : goal.returns-clause-plain
returns-clause-plain c =
    let account = c.args.facts.now.account in
    let region = c.args.facts.now.region in
    let is : c.in_ok-body.body.items ≡ sealed (head_text account region) c.args.seal.now = search rules in
    subst IsPlain (sym is) (sealed_plain (head_text account region) c.args.seal.now (head_high account region (number_high account c.as_str.ensures.digits.1)))
