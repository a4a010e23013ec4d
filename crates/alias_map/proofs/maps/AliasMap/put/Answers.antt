use Rattle.std.proofs.Common.{refl, ◌≡◌, ℕ, List, None, Some, sym, ap, ◌∙◌, subst}
use Rattle.std.specs.Cmp.Lexicographic.{slice_cmp}
use Rattle.std.specs.Ordering.{nat_cmp}
use Rattle.persist_map.specs.Pairs.{with_pair}
use Rattle.persist_map.specs.Groups.{group_of, group_with, group_without}
use Rattle.alias_map.specs.declared.rows.AliasRow.{AliasRow}
use Rattle.alias_map.specs.Aliases.{row_named, with_row, MayPut}
use Rattle.alias_map.specs.Kept.{rows_in}
use Rattle.alias_map.proofs.KeptFacts.{kept_with, rows_with}
use Rattle.alias_map.proofs.maps.AliasMap.put.Goals as goal
use Rattle.alias_map.proofs.maps.AliasMap.put.Goals.{in-Some+in_ok-by_key-in-Some, in-None+in_ok-by_key-in-None}

pub invariant_of-result : goal.invariant_of-result
invariant_of-result c =
    let row = c.args.row in
    let inside = c.self.inside in
    let may : MayPut (rows_in inside.rows) row = subst (λ l. MayPut l row) (sym c.self.view_is) c.requires in
    let shared = c.in_ok-share.ensures ∙ c.in_ok-row.ensures in
    let pairs : c.in_ok-insert.field-0 ≡ with_pair nat_cmp inside.rows row.born row = c.in_ok-insert.ensures ∙ ap (λ r. with_pair nat_cmp inside.rows row.born r) shared in
    let names : c.in_ok-with_name.field-0 ≡ with_pair (slice_cmp nat_cmp) inside.by_name row.name row = c.in_ok-with_name.ensures ∙ ap (λ (r : AliasRow). with_pair (slice_cmp nat_cmp) inside.by_name r.name r) (c.in_ok-share-2.ensures ∙ c.in_ok-row.ensures) in
    let put_key : (key : List ℕ) → group_of (slice_cmp nat_cmp) c.in_ok-insert-2.field-0 key ≡ group_with (slice_cmp nat_cmp) c.match-row_in.by_key row.key row.born c.in_ok-row.row key = c.in_ok-insert-2.ensures in
    let keys : (key : List ℕ) → group_of (slice_cmp nat_cmp) c.in_ok-insert-2.field-0 key ≡ group_with (slice_cmp nat_cmp) c.match-row_in.by_key row.key row.born row key = λ key. put_key key ∙ ap (λ r. group_with (slice_cmp nat_cmp) c.match-row_in.by_key row.key row.born r key) c.in_ok-row.ensures in
    let named = c.self.invariant.named row.name in
    elim c.match-row_in.branch [
      | in-Some+in_ok-by_key-in-Some w ↦
          let taken : (key : List ℕ) → group_of (slice_cmp nat_cmp) w.in_ok-by_key-in-Some.by_key key ≡ group_without (slice_cmp nat_cmp) inside.by_key w.in-Some.old.now.key w.in-Some.old.now.born key = λ key. w.in_ok-by_key-in-Some.ensures key
          ∙ ap (λ (r : AliasRow). group_without (slice_cmp nat_cmp) inside.by_key r.key w.value-in-Some.result.now.born key) w.value.ensures
          ∙ ap (λ (r : AliasRow). group_without (slice_cmp nat_cmp) inside.by_key w.in-Some.old.now.key r.born key) w.value-in-Some.ensures in
          kept_with inside.rows inside.by_name inside.by_key c.self.invariant row may (Some w.in-Some.old.now) (sym named ∙ sym w.in-Some.ensures) c.in_ok-insert.field-0 pairs c.in_ok-with_name.field-0 names c.match-row_in.by_key c.in_ok-insert-2.field-0
          (λ key. ap (λ l. group_of (slice_cmp nat_cmp) l key) w.by_key-is ∙ taken key) keys
      | in-None+in_ok-by_key-in-None w ↦
          kept_with inside.rows inside.by_name inside.by_key c.self.invariant row may None (sym named ∙ sym w.in-None.ensures) c.in_ok-insert.field-0 pairs c.in_ok-with_name.field-0 names c.match-row_in.by_key c.in_ok-insert-2.field-0
          (w.by_key-is ∙ w.in_ok-by_key-in-None.ensures) keys
    ]

pub returns : goal.returns
returns c =
    let row = c.args.row in
    let inside = c.self.inside in
    let may : MayPut (rows_in inside.rows) row = subst (λ l. MayPut l row) (sym c.self.view_is) c.requires in
    let shared = c.in_ok-share.ensures ∙ c.in_ok-row.ensures in
    let pairs : c.in_ok-insert.field-0 ≡ with_pair nat_cmp inside.rows row.born row = c.in_ok-insert.ensures ∙ ap (λ r. with_pair nat_cmp inside.rows row.born r) shared in
    rows_with inside.rows inside.by_name inside.by_key c.self.invariant row may (row_named (rows_in inside.rows) row.name) refl c.in_ok-insert.field-0 pairs
    ∙ ap (λ rows. with_row rows row) c.self.view_is
