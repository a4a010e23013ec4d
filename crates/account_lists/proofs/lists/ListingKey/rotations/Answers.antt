use Rattle.std.proofs.Common.{◌∙◌, ap, true}
use Rattle.std.specs.Prelude.{map, filter}
use Rattle.key_states.specs.declared.rows.KeyRow.{KeyRow}
use Rattle.account_lists.specs.declared.listings.Numbered.{Numbered}
use Rattle.account_lists.specs.Pages.{part_of}
use Rattle.account_lists.specs.Lists.{rotations_of, shown_rotation}
use Rattle.account_lists.proofs.ListFacts.{rotations_shown}
use Rattle.account_lists.proofs.lists.ListingKey.rotations.Goals as goal

pub returns : goal.returns
returns c =
    let limit = c.args.self.now.page.now.limit in
    let items = c.new-2.ensures ∙ c.in_ok-part.ensures.items
    ∙ ap (λ (row : KeyRow). map shown_rotation (part_of (λ (numbered : Numbered). numbered.number) (filter (λ (numbered : Numbered). true) (rotations_of row)) limit c.args.after).rows) c.new.ensures in
    let next = c.in_ok-part.ensures.next
    ∙ ap (λ (row : KeyRow). (part_of (λ (numbered : Numbered). numbered.number) (filter (λ (numbered : Numbered). true) (rotations_of row)) limit c.args.after).next) c.new.ensures in
    rotations_shown c.row-row.result.now c.args.lent.now limit c.args.after c.new-2.result c.in_ok-part.part.next c.row-row.ensures.row items next
