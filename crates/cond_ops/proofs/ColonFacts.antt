-- One colon more.
use Rattle.std.proofs.Common.{◌≡◌, ℕ, suc, List, sym, subst}
use Rattle.cond_ops.specs.Cut.{IsCutAt}
use Rattle.cond_ops.specs.Value.{HasColons}
use Rattle.cond_ops.proofs.CutFacts.{same_cut}

module _ (n k : ℕ) (e : n ≡ suc k) where
  module _ (text part rest : List ℕ) (cut : IsCutAt 58 text part rest) where
    pub more_colons : HasColons k rest → HasColons n text
    more_colons h = subst (λ v. HasColons v text) (sym e) (part, rest, cut.0, cut.1, h)

    fewer : HasColons (suc k) text → HasColons k rest
    fewer (a, r, none, at, h) = subst (λ v. HasColons k v) (same_cut 58 text a r part rest (none, at) cut).1 h

    pub fewer_colons : HasColons n text → HasColons k rest
    fewer_colons h = fewer (subst (λ v. HasColons v text) e h)
