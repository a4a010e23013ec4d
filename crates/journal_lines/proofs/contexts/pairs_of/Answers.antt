use Rattle.std.proofs.Common.{◌≡◌, ℕ, List, ◌++◌, length, Bor, Option, Some, None, ap, sym, ◌∙◌, arith}
use Rattle.std.proofs.lemmas.Bool.{eqb-true, eqb-false}
use Rattle.std.specs.Option.{option_map}
use Rattle.enc_context.specs.declared.pairs.Pair.{Pair}
use Rattle.journal_lines.proofs.ContextFacts.{pairs_step, pairs_none, pairs_end, pair_shorter}
use Rattle.journal_lines.specs.Contexts.{cut_pair, pairs_of, pairs_within}
use Rattle.journal_lines.proofs.contexts.pairs_of.Goals as goal

abbrev seen : Option (Pair × Bor (List ℕ)) → Option (Pair × List ℕ)
seen o = option_map (λ p. (p.0, p.1.now)) o

pub returns-in_default : goal.returns-in_default
unfolding pairs_of
returns-in_default c =
    let rest = c.loop-rest.rest.now in
    let none : cut_pair rest ≡ None = sym c.in_ok-pair.ensures ∙ ap seen c.in_default.is in
    pairs_none c.loop-rest.pairs.items rest (omega (arith, eqb-false (length rest) 0 (sym c.is_empty.ensures ∙ c.loop-rest-test.true))) none ∙ c.loop-rest.invariant

pub loop-rest-smaller : goal.loop-rest-smaller
loop-rest-smaller c =
    let rest = c.loop-rest.rest.now in
    pair_shorter rest (c.in-Some.pair, c.in-Some.behind.now) (sym c.in_ok-pair.ensures ∙ ap seen c.in-Some.is)

pub loop-rest-preserved : goal.loop-rest-preserved
loop-rest-preserved c =
    let rest = c.loop-rest.rest.now in
    let pair = c.in-Some.pair in
    let behind = c.in-Some.behind.now in
    let is : cut_pair rest ≡ Some (pair, behind) = sym c.in_ok-pair.ensures ∙ ap seen c.in-Some.is in
    ap (λ (pairs : List Pair). option_map (λ more. pairs ++ more) (pairs_within (length behind) behind)) c.in_ok-push.ensures.items
    ∙ pairs_step c.loop-rest.pairs.items rest (pair, behind) is ∙ c.loop-rest.invariant

pub returns : goal.returns
unfolding pairs_of
returns c = pairs_end c.loop-rest.pairs.items c.loop-rest.rest.now (eqb-true (length c.loop-rest.rest.now) 0 (sym c.is_empty.ensures ∙ c.loop-rest-test.false)) ∙ c.loop-rest.invariant
