use Rattle.std.proofs.Common.{◌≡◌, Bor, Some, ◌∙◌, ap, sym, subst}
use Rattle.std.specs.Prelude.{IfOk}
use Rattle.std.specs.Option.{option_map}
use Rattle.std.proofs.lemmas.Slice.Eq.{bytes_eq-Decides}
use Rattle.grant_table.specs.Grants.{has_id, grant_with, without}
use Rattle.grant_table.specs.declared.rows.GrantRow.{GrantRow}
use Rattle.grant_table.proofs.Lists.{found_passes}
use Rattle.grant_table.proofs.tables.GrantTable.drop_one.Goals as goal

pub without_row-requires : goal.without_row-requires
without_row-requires c =
    let row = c.unwrap.result.now in
    let found : grant_with c.args.self.now c.args.grant.now ≡ Some row = sym c.get.ensures ∙ ap (option_map (λ (row : Bor GrantRow). row.now)) c.unwrap.ensures in
    let same : row.grant ≡ c.args.grant.now = (bytes_eq-Decides row.grant c.args.grant.now).0 (found_passes (has_id c.args.grant.now) c.args.self.now row found) in
    ap (grant_with c.args.self.now) same ∙ found

pub returns : goal.returns
returns c =
    let row = c.unwrap.result.now in
    let found : grant_with c.args.self.now c.args.grant.now ≡ Some row = sym c.get.ensures ∙ ap (option_map (λ (row : Bor GrantRow). row.now)) c.unwrap.ensures in
    let same : row.grant ≡ c.args.grant.now = (bytes_eq-Decides row.grant c.args.grant.now).0 (found_passes (has_id c.args.grant.now) c.args.self.now row found) in
    subst (λ grant. IfOk c.without_row.result (λ table. table ≡ without c.args.self.now grant)) same c.without_row.ensures
