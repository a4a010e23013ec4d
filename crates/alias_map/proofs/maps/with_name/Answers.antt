use Rattle.std.proofs.Common.{◌≡◌, ap, ◌∙◌, subst}
use Rattle.std.specs.Cmp.Lexicographic.{slice_cmp}
use Rattle.std.specs.Ordering.{nat_cmp}
use Rattle.std.specs.Result.{IfOk}
use Rattle.persist_map.specs.Pairs.{with_pair}
use Rattle.alias_map.specs.declared.rows.AliasRow.{AliasRow}
use Rattle.alias_map.proofs.maps.with_name.Goals as goal

pub returns : goal.returns
returns c =
    subst (λ name. IfOk c.insert.result (λ names. names ≡ with_pair (slice_cmp nat_cmp) c.args.by_name.now name c.args.row))
    (c.in_ok-name.ensures ∙ ap (λ (row : AliasRow). row.name) c.value.ensures) c.insert.ensures
