use Rattle.std.proofs.Common.{◌∙◌, ap, subst}
use Rattle.std.proofs.Common.{◌≡◌, List, sym}
use Rattle.enc_context.specs.declared.pairs.Pair.{Pair}
use Rattle.enc_context.specs.Pairs.{IsInOrder, has_pair}
use Rattle.enc_context.proofs.PairFacts.{search_tells}
use Rattle.enc_context.proofs.contexts.Context.has.Goals as goal

pub returns : goal.returns
returns c =
    let same : c.deref.result.now ≡ c.args.self.now = c.deref.ensures.value ∙ c.self.view_is in
    let in_order : IsInOrder c.deref.result.now =
    subst (λ (pairs : List Pair). IsInOrder pairs) (sym c.deref.ensures.value) c.self.invariant.0.in_order in
    c.is_ok.ensures.value
    ∙ search_tells c.deref.result.now c.args.pair.now c.binary_search.result in_order c.binary_search.ensures.bound
    c.binary_search.ensures.position
    ∙ ap (λ (pairs : List Pair). has_pair pairs c.args.pair.now) same
