use Rattle.std.proofs.Common.{◌≡◌, refl, sym, ◌∙◌, ap, subst}
use Rattle.std.specs.Prelude.{◌↔◌, IsTrue}
use Rattle.std.specs.Str.{chars}
use Rattle.kms_names.specs.Glob.{Globs}
use Rattle.kms_names.specs.Pattern.{pattern_text, HasShape}
use Rattle.kms_names.specs.declared.patterns.Shape.TheVariants.{Anything, Exact, Prefix}
use Rattle.kms_names.proofs.PatternFacts.{anything, exact_eq, begins_some}
use Rattle.kms_names.proofs.patterns.Pattern.matches.Goals as goal

pub returns-in-Anything : goal.returns-in-Anything
returns-in-Anything c =
    let is : pattern_text Anything ≡ c.args.self.now = ap pattern_text (sym c.in-Anything.is) ∙ c.self.view_is in
    (λ h. subst (λ p. Globs (chars p) (chars c.args.text.now)) is (anything c.args.text.now), λ g. refl)

pub returns-in-Exact : goal.returns-in-Exact
returns-in-Exact c =
    let wanted = c.in-Exact.wanted in
    let is : pattern_text (Exact wanted) ≡ c.args.self.now = ap pattern_text (sym c.in-Exact.is) ∙ c.self.view_is in
    let plain = subst HasShape c.in-Exact.is c.self.invariant in
    let utf8 = rw c.as_str.ensures.value at c.as_str.utf8 in
    subst (λ p. IsTrue c.eq.result ↔ Globs (chars p) (chars c.args.text.now)) is
    (exact_eq wanted c.args.text.now utf8 plain c.utf8.text c.eq.result (rw c.as_str.ensures.value at c.eq.ensures))

pub returns-in-Prefix : goal.returns-in-Prefix
returns-in-Prefix c =
    let front = c.in-Prefix.front in
    let is : pattern_text (Prefix front) ≡ c.args.self.now = ap pattern_text (sym c.in-Prefix.is) ∙ c.self.view_is in
    let plain = subst HasShape c.in-Prefix.is c.self.invariant in
    let utf8 = rw c.as_str-in-Prefix.ensures.value at c.as_str-in-Prefix.utf8 in
    subst (λ p. IsTrue c.is_some.result ↔ Globs (chars p) (chars c.args.text.now)) is
    (begins_some front c.args.text.now utf8 plain c.utf8.text c.after.result (rw c.as_str-in-Prefix.ensures.value at c.after.ensures) c.is_some.result c.is_some.ensures)
