use Rattle.std.proofs.Common.{◌≡◌, Bor, true, cond, None, Some, ap, sym, ◌∙◌}
use Rattle.std.specs.Option.{option_map}
use Rattle.std.specs.Str.{bytes_eq}
use Rattle.std.proofs.lemmas.List.Elements.{recursion_from_All}
use Rattle.key_states.specs.declared.rows.KeyRow.{KeyRow}
use Rattle.account_rows.specs.History.{key_with, place_in}
use Rattle.account_rows.specs.Keys.{row_at}
use Rattle.account_rows.proofs.KeyFacts.{rising, looked, key_at}
use Rattle.account_rows.proofs.keys.HeldKeys.get.Goals as goal

abbrev lent : Bor KeyRow → KeyRow
lent held = held.now

pub returns-in_err-held : goal.returns-in_err-held
returns-in_err-held c =
    let rows = c.args.self.now in
    let id = c.args.key.now in
    let found = ap (row_at rows) (sym c.place_in.ensures) ∙ sym c.at.ensures ∙ ap (option_map lent) c.in_err-held.was in
    let named = recursion_from_All (λ (row : KeyRow). place_in row.key ≡ row.born) rows c.requires.named in
    ap (option_map lent) c.from_residual.ensures ∙ sym (key_at id rows (rising rows c.requires.rise) named ∙ ap (looked id) found)

pub returns-then-same_key : goal.returns-then-same_key
returns-then-same_key c =
    let rows = c.args.self.now in
    let id = c.args.key.now in
    let found = ap (row_at rows) (sym c.place_in.ensures) ∙ sym c.at.ensures ∙ ap (option_map lent) c.in_ok-held.was in
    let named = recursion_from_All (λ (row : KeyRow). place_in row.key ≡ row.born) rows c.requires.named in
    let same = ap (λ (row : KeyRow). bytes_eq row.key id) (sym c.row.ensures.row) ∙ sym c.same_key.ensures ∙ c.if-same_key.true in
    sym (key_at id rows (rising rows c.requires.rise) named ∙ ap (looked id) found ∙ ap (λ b. cond b (Some c.in_ok-held.held.now) None) same)

pub returns-else-same_key : goal.returns-else-same_key
returns-else-same_key c =
    let rows = c.args.self.now in
    let id = c.args.key.now in
    let found = ap (row_at rows) (sym c.place_in.ensures) ∙ sym c.at.ensures ∙ ap (option_map lent) c.in_ok-held.was in
    let named = recursion_from_All (λ (row : KeyRow). place_in row.key ≡ row.born) rows c.requires.named in
    let other = ap (λ (row : KeyRow). bytes_eq row.key id) (sym c.row.ensures.row) ∙ sym c.same_key.ensures ∙ c.if-same_key.false in
    sym (key_at id rows (rising rows c.requires.rise) named ∙ ap (looked id) found ∙ ap (λ b. cond b (Some c.in_ok-held.held.now) None) other)
