use Rattle.std.proofs.Common.{ℕ, List, ◌++◌, map, codes, ap, ◌∙◌}
use Rattle.resource_tags.specs.declared.tags.Tag.{Tag}
use Rattle.authority.specs.Facts.{several_facts, resource_tag, request_tag, tag_keys}
use Rattle.authority.proofs.FactFacts.{three}
use Rattle.authority.proofs.tags.put_tags.Goals as goal

pub returns : goal.returns
returns c =
    let said = c.args.particulars.now in
    let own = c.put_own.new.facts.items in
    let given = c.put_request_tags.new.facts.items in
    three c.args.facts.now.items own given c.put_some.new.facts.items (map resource_tag said.tags) (map request_tag said.request_tags) (several_facts (codes "aws:TagKeys") (tag_keys said)) c.in_ok-put_own.ensures
    (c.in_ok-put_request_tags.ensures ∙ ap (λ (tags : List Tag). own ++ map request_tag tags) c.given_tags.ensures)
    (c.in_ok-put_some.ensures ∙ ap (λ (keys : List (List ℕ)). given ++ several_facts (codes "aws:TagKeys") keys) c.in_ok-keys.ensures)
