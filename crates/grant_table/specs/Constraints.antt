-- The constraints of grants (AWS KMS API Reference, "GrantConstraints"; AWS KMS Developer Guide, "Grants in AWS KMS").
use Rattle.std.specs.Prelude.{◌≡◌, Bool, true, false, List, ⊤}
use Rattle.enc_context.specs.Pairs.{Includes, includes, same_pairs}
use Rattle.enc_context.specs.declared.pairs.Pair.{Pair}
use Rattle.grant_table.specs.declared.constraints.Constraint.{Constraint}
use Rattle.grant_table.specs.declared.constraints.Constraint.TheVariants.{Free, Equals, Subset}

-- the constraint holds of a context: it is equal, or has all pairs
abbrev pub ConstraintHolds : Constraint → List Pair → Type 0
ConstraintHolds Free context = ⊤
ConstraintHolds (Equals pairs) context = context ≡ pairs
ConstraintHolds (Subset pairs) context = Includes context pairs

-- whether it does
abbrev pub constraint_holds : Constraint → List Pair → Bool
constraint_holds Free context = true
constraint_holds (Equals pairs) context = same_pairs context pairs
constraint_holds (Subset pairs) context = includes context pairs

-- whether two constraints are the same: of one kind, with the same pairs
abbrev pub same_constraint : Constraint → Constraint → Bool
same_constraint Free Free = true
same_constraint Free (Equals others) = false
same_constraint Free (Subset others) = false
same_constraint (Equals pairs) Free = false
same_constraint (Equals pairs) (Equals others) = same_pairs pairs others
same_constraint (Equals pairs) (Subset others) = false
same_constraint (Subset pairs) Free = false
same_constraint (Subset pairs) (Equals others) = false
same_constraint (Subset pairs) (Subset others) = same_pairs pairs others

-- the second constraint is as strict as the first
abbrev pub IsAsStrict : Constraint → Constraint → Type 0
IsAsStrict Free child = ⊤
IsAsStrict (Equals pairs) Free = ⊥
IsAsStrict (Equals pairs) (Equals others) = others ≡ pairs
IsAsStrict (Equals pairs) (Subset others) = ⊥
IsAsStrict (Subset pairs) Free = ⊥
IsAsStrict (Subset pairs) (Equals others) = Includes others pairs
IsAsStrict (Subset pairs) (Subset others) = Includes others pairs

-- whether it is
abbrev pub is_as_strict : Constraint → Constraint → Bool
is_as_strict Free child = true
is_as_strict (Equals pairs) Free = false
is_as_strict (Equals pairs) (Equals others) = same_pairs others pairs
is_as_strict (Equals pairs) (Subset others) = false
is_as_strict (Subset pairs) Free = false
is_as_strict (Subset pairs) (Equals others) = includes others pairs
is_as_strict (Subset pairs) (Subset others) = includes others pairs
