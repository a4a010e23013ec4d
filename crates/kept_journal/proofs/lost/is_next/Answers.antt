use Rattle.std.proofs.Common.{◌≡◌, ◌≢◌, ℕ, List, ◌++◌}
use Rattle.kms_names.specs.Identifier.{IsByteList}
use Rattle.kept_journal.specs.Lines.{seal_of}
use Rattle.kept_journal.specs.Lost.{seal_end}
use Rattle.kept_journal.proofs.Readings.{when_some}
use Rattle.kept_journal.proofs.Following.{next_is}
use Rattle.kept_journal.proofs.lost.is_next.Goals as goal

pub returns : goal.returns
returns c =
    let key = c.args.key.now in
    let before = c.args.before.now in
    let last = c.in-Some.last in
    let shown = when_some ((front last : List ℕ) → IsByteList 32 last → before ≢ front ++ seal_end last) (λ last. IsByteList 32 last × ((front : List ℕ) × (before ≡ front ++ seal_end last))) c.in_ok-last.field-0 last c.in-Some.is c.in_ok-last.ensures in
    rw c.is_some.ensures
    (next_is key before c.args.line.now last shown.1.0 c.in_ok-sealed_in.field-0 (λ r. r.0.now) (λ r. r.1 ≡ seal_of key last r.0.now) shown.0 shown.1.1 c.in_ok-sealed_in.ensures)
