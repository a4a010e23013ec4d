-- Texts that are read as integers.
use Rattle.std.specs.Prelude.{◌≡◌, ◌↔◌, ℕ, ℤ, List, Any}
use Rattle.cond_ops.specs.declared.integers.Reading.{Reading}
use Rattle.cond_ops.specs.declared.integers.Reading.TheVariants.{Number, Date}
use Rattle.cond_ops.specs.declared.operators.Order.{Order}
use Rattle.cond_ops.specs.declared.operators.Kind.{Kind}
use Rattle.cond_ops.specs.declared.operators.Kind.TheVariants as kind
use Rattle.cond_ops.specs.Moment.{IsMoment}
use Rattle.cond_ops.specs.Number.{IsNumber}

-- a text is read as this integer
abbrev pub IsReadAs : Reading → List ℕ → ℤ → Type 0
IsReadAs Number text z = IsNumber text z
IsReadAs Date text z = IsMoment text z

-- what values are compared as that are so read
abbrev pub kind_as : Reading → Order → Kind
kind_as Number order = kind.Number order
kind_as Date order = kind.Date order

-- the integers are those that some of the texts are read as
abbrev pub AreReadOf : Reading → List (List ℕ) → List ℤ → Type 0
AreReadOf reading texts integers = (z : ℤ) → Any (λ y. y ≡ z) integers ↔ Any (λ text. IsReadAs reading text z) texts
