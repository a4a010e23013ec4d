-- The six parts of an ARN.
use Rattle.std.specs.Prelude.{◌≡◌, ℕ, zero, suc, List, [], ◌∷◌}
use Rattle.cond_ops.specs.Cut.{IsCutAt}
use Rattle.cond_ops.specs.declared.arns.Arn.{Arn}
use Rattle.cond_ops.specs.declared.arns.ReadArn.{ReadArn}

-- a text is cut at its first n colons (58) into n + 1 parts, of which the last is all that follows them
abbrev pub IsCutInto : ℕ → List ℕ → List (List ℕ) → Type 0
IsCutInto zero text [] = ⊥
IsCutInto zero text (part ∷ []) = text ≡ part
IsCutInto zero text (part ∷ more ∷ parts) = ⊥
IsCutInto (suc n) text [] = ⊥
IsCutInto (suc n) text (part ∷ parts) = (rest : List ℕ) × IsCutAt 58 text part rest × IsCutInto n rest parts

abbrev pub parts_of : Arn → List (List ℕ)
parts_of arn = arn.scheme.now ∷ arn.partition.now ∷ arn.service.now ∷ arn.region.now ∷ arn.account.now ∷ arn.resource.now ∷ []

abbrev pub read_parts_of : ReadArn → List (List ℕ)
read_parts_of arn = arn.scheme ∷ arn.partition ∷ arn.service ∷ arn.region ∷ arn.account ∷ arn.resource ∷ []
