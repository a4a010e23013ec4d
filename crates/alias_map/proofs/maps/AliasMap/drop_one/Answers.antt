use Rattle.std.proofs.Common.{◌≡◌, Some, sym, ap, ◌∙◌}
use Rattle.std.specs.Cmp.Lexicographic.{slice_cmp}
use Rattle.std.specs.Ordering.{nat_cmp}
use Rattle.persist_map.specs.Pairs.{without_key}
use Rattle.persist_map.specs.Groups.{group_without}
use Rattle.alias_map.specs.declared.rows.AliasRow.{AliasRow}
use Rattle.alias_map.specs.Aliases.{row_named, without}
use Rattle.alias_map.specs.Kept.{rows_in}
use Rattle.alias_map.proofs.KeptFacts.{kept_without, rows_less}
use Rattle.alias_map.proofs.maps.AliasMap.drop_one.Goals as goal

pub invariant_of-result : goal.invariant_of-result
invariant_of-result c =
    let row = c.in-Some.row.now in
    let named : row_named (rows_in c.self.inside.rows) c.args.name.now ≡ Some row = sym (c.self.invariant.named c.args.name.now) ∙ sym c.in-Some.ensures in
    let pairs : c.in_ok-remove.field-0 ≡ without_key nat_cmp c.self.inside.rows row.born = c.in_ok-remove.ensures ∙ ap (λ (r : AliasRow). without_key nat_cmp c.self.inside.rows r.born) c.value-row.ensures in
    kept_without c.self.inside.rows c.self.inside.by_name c.self.inside.by_key c.self.invariant c.args.name.now row c.in_ok-remove.field-0 c.in_ok-remove-2.field-0 c.in_ok-remove-3.field-0 named pairs c.in_ok-remove-2.ensures
    (λ key. c.in_ok-remove-3.ensures key ∙ ap (λ (r : AliasRow). group_without (slice_cmp nat_cmp) c.self.inside.by_key r.key r.born key) c.value-row.ensures)

pub returns : goal.returns
returns c =
    let row = c.in-Some.row.now in
    let named : row_named (rows_in c.self.inside.rows) c.args.name.now ≡ Some row = sym (c.self.invariant.named c.args.name.now) ∙ sym c.in-Some.ensures in
    let pairs : c.in_ok-remove.field-0 ≡ without_key nat_cmp c.self.inside.rows row.born = c.in_ok-remove.ensures ∙ ap (λ (r : AliasRow). without_key nat_cmp c.self.inside.rows r.born) c.value-row.ensures in
    rows_less c.self.inside.rows c.self.inside.by_name c.self.inside.by_key c.self.invariant c.args.name.now row c.in_ok-remove.field-0 named pairs
    ∙ ap (λ rows. without rows c.args.name.now) c.self.view_is
