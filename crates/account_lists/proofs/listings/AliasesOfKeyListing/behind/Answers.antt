use Rattle.std.proofs.Common.{◌∙◌, ap, List}
use Rattle.alias_map.specs.declared.rows.AliasRow.{AliasRow}
use Rattle.alias_map.specs.Aliases.{row_of_key}
use Rattle.account_lists.proofs.ListFacts.{first_alias_of_key}
use Rattle.account_lists.proofs.listings.AliasesOfKeyListing.behind.Goals as goal

pub returns-in_err-row : goal.returns-in_err-row
returns-in_err-row c =
    let key = c.args.self.now.key.now in
    c.from_residual.ensures ∙ c.in_err-row.ensures ∙ ap (λ (rows : List AliasRow). row_of_key rows key c.args.after) c.aliases.ensures ∙ first_alias_of_key key c.args.self.now.view.now.aliases c.args.after

pub returns : goal.returns
returns c =
    let key = c.args.self.now.key.now in
    c.in_ok-row.ensures ∙ ap (λ (rows : List AliasRow). row_of_key rows key c.args.after) c.aliases.ensures ∙ first_alias_of_key key c.args.self.now.view.now.aliases c.args.after
