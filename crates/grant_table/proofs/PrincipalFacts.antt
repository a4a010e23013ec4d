-- The order of principals: two are equal in it where they are the same.
use Rattle.std.proofs.Common.{◌≡◌, Bool, ◌&&◌, refl, ap, ◌∙◌, sym}
use Rattle.std.specs.Cmp.Lexicographic.{slice_cmp}
use Rattle.std.specs.Ordering.{nat_cmp, is_eq, ordering_then}
use Rattle.std.specs.Str.{bytes_eq}
use Rattle.std.specs.declared.cmp.Ordering.{Ordering}
use Rattle.std.specs.declared.cmp.Ordering.TheVariants.{Less, Equal, Greater}
use Rattle.std.proofs.lemmas.Map.Text.{is_eq-slice_cmp}
use Rattle.kms_names.specs.contracts.principals.PrincipalOrd.TheImpl.{ghosts}
use Rattle.kms_names.specs.declared.principals.Principal.{Principal}
use Rattle.kms_names.specs.declared.principals.Principal.TheVariants.{Root, User, Role}
use Rattle.grant_table.specs.Principals.{same_principal}

abbrev pub principal_cmp : Principal → Principal → Ordering
principal_cmp = ghosts.cmp

both_equal : (o p : Ordering) (x y : Bool) → is_eq o ≡ x → is_eq p ≡ y → (x && y) ≡ is_eq (ordering_then o p)
both_equal Less p x y first second = ap (λ b. b && y) (sym first)
both_equal Equal p x y first second = ap (λ b. b && y) (sym first) ∙ sym second
both_equal Greater p x y first second = ap (λ b. b && y) (sym first)

pub principal_ties : (p q : Principal) → same_principal p q ≡ is_eq (principal_cmp p q)
principal_ties (Root a) (Root b) = sym (is_eq-slice_cmp a b)
principal_ties (Root a) (User b n) = refl
principal_ties (Root a) (Role b n) = refl
principal_ties (User a m) (Root b) = refl
principal_ties (User a m) (User b n) = both_equal (slice_cmp nat_cmp a b) (slice_cmp nat_cmp m n) (bytes_eq a b) (bytes_eq m n) (is_eq-slice_cmp a b) (is_eq-slice_cmp m n)
principal_ties (User a m) (Role b n) = refl
principal_ties (Role a m) (Root b) = refl
principal_ties (Role a m) (User b n) = refl
principal_ties (Role a m) (Role b n) = both_equal (slice_cmp nat_cmp a b) (slice_cmp nat_cmp m n) (bytes_eq a b) (bytes_eq m n) (is_eq-slice_cmp a b) (is_eq-slice_cmp m n)
