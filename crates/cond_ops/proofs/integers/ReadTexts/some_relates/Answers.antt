use Rattle.std.proofs.Common.{ℕ, ℤ, List, subst, FitsSigned, w64, rules}
use Rattle.std.specs.Prelude.{◌↔◌, Any, IsTrue}
use Rattle.std.proofs.lemmas.Int.{to_z-of_z}
use Rattle.cond_ops.specs.Relation.{Compares, RelatesAs}
use Rattle.cond_ops.proofs.IntegerFacts.{some_related}
use Rattle.cond_ops.proofs.integers.ReadTexts.some_relates.Goals as goal

pub returns-in-Some : goal.returns-in-Some
returns-in-Some c =
    let compared = c.args.read.now.0 in
    let value = c.args.read.now.1 in
    let r = c.some_compares.result in
    let order = c.in-Some.order in
    let left = c.in-Some.left in
    let fits : FitsSigned w64 left = search rules in
    let says : IsTrue r ↔ Any (Compares order left) c.self.inside.integers.items =
    subst (λ (integers : List ℤ). IsTrue r ↔ Any (Compares order left) integers) c.as_slice.ensures.value (simp to_z-of_z at c.some_compares.ensures) in
    subst (λ (texts : List (List ℕ)). IsTrue r ↔ Any (RelatesAs compared value) texts) c.self.view_is
    (some_related c.self.inside.reading order compared c.in-Some.ensures.0 value left c.in-Some.ensures.1 c.self.inside.texts c.self.inside.integers.items c.self.invariant r says)
