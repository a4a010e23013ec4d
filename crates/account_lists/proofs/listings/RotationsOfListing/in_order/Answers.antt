use Rattle.std.proofs.Common.{drop}
use Rattle.account_lists.proofs.ListFacts.{numbers_rise}
use Rattle.account_lists.proofs.listings.RotationsOfListing.in_order.Goals as goal

pub returns : goal.returns
returns c = numbers_rise 2 (drop 1 c.args.self.now.row.now.versions)
