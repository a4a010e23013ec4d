use Rattle.std.proofs.Common.{Bor, ap, sym, ◌∙◌}
use Rattle.std.specs.Option.{option_map}
use Rattle.std.specs.Ordering.{nat_cmp, is_eq}
use Rattle.std.proofs.lemmas.List.Elements.{recursion_from_All}
use Rattle.key_states.specs.declared.rows.KeyRow.{KeyRow}
use Rattle.account_rows.specs.Replaying.{CanTurn}
use Rattle.account_rows.proofs.KeyFacts.{found_every}
use Rattle.account_rows.proofs.keys.HeldKeys.kept_more.Goals as goal

abbrev lent : Bor KeyRow → KeyRow
lent held = held.now

pub rotated_if_due-requires-clause-turns : goal.rotated_if_due-requires-clause-turns
rotated_if_due-requires-clause-turns c =
    let rows = c.args.all.now in
    let found = sym c.at.ensures ∙ ap (option_map lent) c.in-Some.is in
    found_every CanTurn (λ (row : KeyRow). is_eq (nat_cmp row.born c.args.place)) rows c.in-Some.held.now found (recursion_from_All CanTurn rows c.requires.turns)
