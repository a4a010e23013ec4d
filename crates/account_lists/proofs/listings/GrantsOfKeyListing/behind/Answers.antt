use Rattle.std.proofs.Common.{◌∙◌}
use Rattle.account_lists.proofs.ListFacts.{first_of_key}
use Rattle.account_lists.proofs.listings.GrantsOfKeyListing.behind.Goals as goal

pub returns : goal.returns
returns c = c.grant_of_key.ensures ∙ first_of_key c.args.self.now.key.now c.args.self.now.view.now.grants c.args.after
