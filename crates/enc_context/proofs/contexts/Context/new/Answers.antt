use Rattle.std.proofs.Common.{◌≡◌, [], List, length, refl, sym, subst, lit≤, arith}
use Rattle.enc_context.specs.declared.pairs.Pair.{Pair}
use Rattle.enc_context.specs.Encoding.{encoding_of, IsContext}
use Rattle.enc_context.proofs.contexts.Context.new.Goals as goal

-- no pairs take no bytes
empty_size : length (encoding_of []) ≡ 0
unfolding encoding_of
empty_size = refl

empty : IsContext []
unfolding encoding_of
empty = record { in_order = λ i j d before within. absurd (omega arith); fits = lit≤ tt }

pub invariant_of-result : goal.invariant_of-result
invariant_of-result c =
    subst (λ (pairs : List Pair). IsContext pairs × (0 ≡ length (encoding_of pairs))) (sym c.new.ensures.items) (empty, sym empty_size)
