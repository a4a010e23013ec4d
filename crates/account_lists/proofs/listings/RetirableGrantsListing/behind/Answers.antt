use Rattle.std.proofs.Common.{◌∙◌}
use Rattle.account_lists.proofs.ListFacts.{first_retirable}
use Rattle.account_lists.proofs.listings.RetirableGrantsListing.behind.Goals as goal

pub returns : goal.returns
returns c = c.retirable_grant.ensures ∙ first_retirable c.args.self.now.retiring.now c.args.self.now.view.now.grants c.args.after
