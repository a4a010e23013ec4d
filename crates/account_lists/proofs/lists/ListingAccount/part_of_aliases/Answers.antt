use Rattle.std.proofs.Common.{◌≡◌, ℕ, true, List, Option, Some, None, sym, ap, ◌∙◌, subst}
use Rattle.std.specs.Prelude.{IfOk, map, filter}
use Rattle.alias_map.specs.declared.rows.AliasRow.{AliasRow}
use Rattle.alias_map.specs.Aliases.{names_key}
use Rattle.account_steps.specs.View.{View}
use Rattle.account_lists.specs.Pages.{part_of}
use Rattle.account_lists.specs.Lists.{is_listed_alias, listed_aliases, shown_alias}
use Rattle.account_lists.proofs.ListFacts.{every}
use Rattle.account_lists.proofs.lists.ListingAccount.part_of_aliases.Goals as goal

-- what is listed of a key's aliases, as the list of these aliases goes through them
of_key : (view seen : View) (key told : List ℕ) (given : Option (List ℕ)) → seen ≡ view → told ≡ key → given ≡ Some key
    → filter (λ (row : AliasRow). true) (filter (names_key told) seen.aliases) ≡ listed_aliases view given
of_key view seen key told given view_is key_is given_is =
    every (filter (names_key told) seen.aliases)
    ∙ ap (λ (k : List ℕ). filter (names_key k) seen.aliases) key_is
    ∙ ap (λ (v : View). filter (names_key key) v.aliases) view_is
    ∙ ap (listed_aliases view) (sym given_is)

-- and of all aliases
of_all : (view seen : View) (given : Option (List ℕ)) → seen ≡ view → given ≡ None → filter (is_listed_alias seen None) seen.aliases ≡ listed_aliases view given
of_all view seen given view_is given_is = ap (λ (v : View). listed_aliases v None) view_is ∙ ap (listed_aliases view) (sym given_is)

pub returns-in-Some-clause-items : goal.returns-in-Some-clause-items
returns-in-Some-clause-items c =
    subst (λ (rows : List AliasRow). IfOk c.part_behind.result (λ part. part.items.items ≡ map shown_alias (part_of (λ (row : AliasRow). row.born) rows c.args.self.now.page.now.limit c.args.after).rows))
    (of_key c.args.self.now.view.now c.new.result.view.now c.in-Some.key c.new.result.key.now c.args.key.now c.new.ensures.view c.new.ensures.key c.in-Some.is) c.part_behind.ensures.items

pub returns-in-Some-clause-next : goal.returns-in-Some-clause-next
returns-in-Some-clause-next c =
    subst (λ (rows : List AliasRow). IfOk c.part_behind.result (λ part. part.next ≡ (part_of (λ (row : AliasRow). row.born) rows c.args.self.now.page.now.limit c.args.after).next))
    (of_key c.args.self.now.view.now c.new.result.view.now c.in-Some.key c.new.result.key.now c.args.key.now c.new.ensures.view c.new.ensures.key c.in-Some.is) c.part_behind.ensures.next

pub returns-in-None-clause-next : goal.returns-in-None-clause-next
returns-in-None-clause-next c =
    subst (λ (rows : List AliasRow). IfOk c.part_behind-in-None.result (λ part. part.next ≡ (part_of (λ (row : AliasRow). row.born) rows c.args.self.now.page.now.limit c.args.after).next))
    (of_all c.args.self.now.view.now c.new-in-None.result.view.now c.args.key.now c.new-in-None.ensures c.in-None.is) c.part_behind-in-None.ensures.next
