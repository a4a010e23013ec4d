use Rattle.std.proofs.Common.{◌≡◌, ◌∷◌, [], filter, length, ◌<◌, sym, ap, ◌∙◌, subst}
use Rattle.alias_map.specs.declared.rows.AliasRow.{AliasRow}
use Rattle.alias_map.specs.Aliases.{names_key, without, IsThere, AreAliases}
use Rattle.alias_map.specs.Kept.{rows_in, of_others}
use Rattle.alias_map.proofs.Reading.{rows_in-filter}
use Rattle.alias_map.proofs.KeyFacts.{first_named, none_passes, others_stay, fewer, is_there}
use Rattle.alias_map.proofs.maps.AliasMap.without_first.Goals as goal

pub returns-in_default : goal.returns-in_default
returns-in_default c =
    let key = c.args.key.now in
    let none : filter (names_key key) c.args.self.now ≡ [] = ap (filter (names_key key)) (sym c.self.view_is) ∙ sym (rows_in-filter (names_key key) c.self.inside.rows) ∙ ap rows_in (sym (c.group.ensures.pairs ∙ c.self.invariant.keyed key) ∙ c.in_default.ensures.steps.0) in
    none_passes (names_key key) c.args.self.now none

pub drop_one-requires : goal.drop_one-requires
drop_one-requires c =
    let key = c.args.key.now in
    let row = c.in-Some.row.now in
    let first : filter (names_key key) c.args.self.now ≡ row ∷ rows_in c.next.new.self = ap (filter (names_key key)) (sym c.self.view_is) ∙ sym (rows_in-filter (names_key key) c.self.inside.rows) ∙ ap rows_in (sym (c.group.ensures.pairs ∙ c.self.invariant.keyed key) ∙ c.in-Some.ensures.steps) in
    let named = first_named c.args.self.now key row (rows_in c.next.new.self) (subst AreAliases c.self.view_is c.self.invariant.aliases) first in
    subst (λ (r : AliasRow). IsThere c.args.self.now r.name) (sym c.value.ensures) (is_there c.args.self.now row.name row named.0)

pub returns : goal.returns
returns c =
    let key = c.args.key.now in
    let row = c.in-Some.row.now in
    let first : filter (names_key key) c.args.self.now ≡ row ∷ rows_in c.next.new.self = ap (filter (names_key key)) (sym c.self.view_is) ∙ sym (rows_in-filter (names_key key) c.self.inside.rows) ∙ ap rows_in (sym (c.group.ensures.pairs ∙ c.self.invariant.keyed key) ∙ c.in-Some.ensures.steps) in
    let aliases = subst AreAliases c.self.view_is c.self.invariant.aliases in
    let named = first_named c.args.self.now key row (rows_in c.next.new.self) aliases first in
    let less : c.in_ok-map.map ≡ without c.args.self.now row.name = c.in_ok-map.ensures ∙ ap (λ (r : AliasRow). without c.args.self.now r.name) c.value.ensures in (
      subst (λ l. length l < length c.args.self.now) (sym less) (fewer c.args.self.now row.name (is_there c.args.self.now row.name row named.0)),
      ap (of_others key) less ∙ others_stay key row.name row named.1 c.args.self.now aliases named.0,
    )
