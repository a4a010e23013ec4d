use Rattle.std.proofs.Common.{◌<◌, Bool, List, subst}
use Rattle.std.specs.Prelude.{filter, AllPairs}
use Rattle.grant_table.specs.declared.rows.GrantRow.{GrantRow}
use Rattle.grant_table.specs.Grants.{has_retiring}
use Rattle.account_lists.proofs.ListFacts.{kept_rise}
use Rattle.account_lists.proofs.listings.RetirableGrantsListing.in_order.Goals as goal

pub returns : goal.returns
returns c =
    let test : GrantRow → Bool = has_retiring c.args.self.now.retiring.now in
    subst (λ (rows : List GrantRow). AllPairs (λ (p q : GrantRow). p.born < q.born) (filter test rows)) c.grants.ensures (kept_rise test c.grants.result.now c.len.ensures.grants)
