-- What a value of a request is read as.
use Rattle.std.specs.Prelude.{◌≡◌, ℕ, ℤ, List}
use Rattle.std.specs.List.{AllZip}
use Rattle.glob_patterns.specs.Letters.{AreLettersOf}
use Rattle.cond_ops.specs.declared.operators.Order.{Order}
use Rattle.cond_ops.specs.declared.operators.Kind.{Kind}
use Rattle.cond_ops.specs.declared.operators.Kind.TheVariants as kind
use Rattle.cond_ops.specs.declared.arns.ReadArn.{ReadArn}
use Rattle.cond_ops.specs.declared.forms.Form.{Form}
use Rattle.cond_ops.specs.declared.forms.Form.TheVariants.{Exact, IgnoringCase, Letters, Number, Date, Truth, Arn, Other}
use Rattle.cond_ops.specs.Arn.{IsCutInto, read_parts_of}
use Rattle.cond_ops.specs.Moment.{IsMoment}
use Rattle.cond_ops.specs.Number.{IsNumber}
use Rattle.cond_ops.specs.Relation.{Compares, IsLike, RelatesAs}
use Rattle.cond_ops.specs.Value.{IsTruth}

-- a value as it is compared as this; one of another form is related to nothing
abbrev pub IsFormOf : Kind → List ℕ → Form → Type 0
IsFormOf compared value Exact = compared ≡ kind.Text
IsFormOf compared value IgnoringCase = compared ≡ kind.TextIgnoringCase
IsFormOf compared value (Letters letters) = (compared ≡ kind.Pattern) × AreLettersOf value letters
IsFormOf compared value (Number order x) = (compared ≡ kind.Number order) × IsNumber value x
IsFormOf compared value (Date order x) = (compared ≡ kind.Date order) × IsMoment value x
IsFormOf compared value (Truth truth) = (compared ≡ kind.Truth) × IsTruth value truth
IsFormOf compared value (Arn arn) = (compared ≡ kind.Arn) × IsCutInto 5 value (read_parts_of arn)
IsFormOf compared value Other = (policy : List ℕ) → ¬ (RelatesAs compared value policy)

-- a number is so to what a text is read as
abbrev pub ComparesRead : (List ℕ → ℤ → Type 0) → Order → ℤ → List ℕ → Type 0
ComparesRead IsRead order x policy = (y : ℤ) × IsRead policy y × Compares order x y

-- the parts of an ARN match those of a text, each a pattern
abbrev pub IsLikeParts : ReadArn → List ℕ → Type 0
IsLikeParts arn policy = (parts : List (List ℕ)) × IsCutInto 5 policy parts × AllZip IsLike (read_parts_of arn) parts
