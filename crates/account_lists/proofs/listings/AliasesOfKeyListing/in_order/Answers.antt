use Rattle.std.proofs.Common.{◌<◌, Bool, List, subst}
use Rattle.std.specs.Prelude.{filter, AllPairs}
use Rattle.alias_map.specs.declared.rows.AliasRow.{AliasRow}
use Rattle.alias_map.specs.Aliases.{names_key}
use Rattle.account_lists.proofs.ListFacts.{kept_aliases_rise}
use Rattle.account_lists.proofs.listings.AliasesOfKeyListing.in_order.Goals as goal

pub returns : goal.returns
returns c =
    let test : AliasRow → Bool = names_key c.args.self.now.key.now in
    subst (λ (rows : List AliasRow). AllPairs (λ (p q : AliasRow). p.born < q.born) (filter test rows)) c.aliases.ensures (kept_aliases_rise test c.aliases.result.now c.len.ensures.aliases)
