-- What a principal's text is made of.
use Rattle.std.proofs.Common.{sym, ◌≡◌, ◌≢◌, ℕ, List, ◌∷◌, ◌++◌, refl, ◌∙◌, subst, ap, get_or, arith}
use Rattle.std.specs.Prelude.{codes}
use Rattle.std.proofs.lemmas.List.{append_cancel_left}
use Rattle.std.proofs.lemmas.List.Elements.{All-weaker}
use Rattle.kms_names.specs.Account.{IsAccountNumber}
use Rattle.kms_names.specs.Principal.{IsIamArn, IsPathAndName, IsPrincipal, account_of, principal_text}
use Rattle.kms_names.specs.declared.principals.Principal.{Principal}
use Rattle.kms_names.specs.declared.principals.Principal.TheVariants.{Root, User, Role}
use Rattle.kms_names.proofs.AsciiFacts.{digit_is_no_colon}
use Rattle.kms_names.specs.Parts.{HasNoColon}
use Rattle.kms_names.proofs.PartsFacts.{one_part}

pub account_has_no_colon : (a : List ℕ) → IsAccountNumber a → HasNoColon a
account_has_no_colon a h = All-weaker _ (λ c. c ≢ 58) digit_is_no_colon a h.1

abbrev pub front : List ℕ
front = codes "arn:aws:iam::"

pub same_place : (text a b r s : List ℕ) → IsIamArn text a r → IsIamArn text b s → (a ≡ b) × (r ≡ s)
same_place text a b r s here there =
    one_part front text a b r s (account_has_no_colon a here.0) (account_has_no_colon b there.0) here.1 there.1

-- what stands before the colon is no account number
pub other_account : (text x y : List ℕ) → HasNoColon x → text ≡ front ++ (x ++ 58 ∷ y) → ¬ (IsAccountNumber x) → (a r : List ℕ) → ¬ (IsIamArn text a r)
other_account text x y none e wrong a r at =
    let same : a ≡ x = (one_part front text a x r y (account_has_no_colon a at.0) none at.1 e).0 in
    wrong (subst IsAccountNumber same at.0)

abbrev pub resource_of : Principal → List ℕ
resource_of (Root a) = codes "root"
resource_of (User a n) = codes "user/" ++ n
resource_of (Role a n) = codes "role/" ++ n

pub stands_at : (p : Principal) → IsPrincipal p → IsIamArn (principal_text p) (account_of p) (resource_of p)
stands_at (Root a) h = (h, refl)
stands_at (User a n) h = (h.0, refl)
stands_at (Role a n) h = (h.0, refl)

-- where a text has no account and resource it is no principal's
pub none_without_place : (text : List ℕ) → ((a r : List ℕ) → ¬ (IsIamArn text a r)) → (p : Principal) → IsPrincipal p → text ≢ principal_text p
none_without_place text none p h e =
    none (account_of p) (resource_of p) (let at = stands_at p h in (at.0, e ∙ at.1))

-- whether a resource is a principal's, whatever the account
abbrev pub IsNoResource : List ℕ → Type 0
IsNoResource r = (r ≢ codes "root") × ((n : List ℕ) → IsPathAndName n → r ≢ codes "user/" ++ n) × ((n : List ℕ) → IsPathAndName n → r ≢ codes "role/" ++ n)

resource_refused : (r : List ℕ) → IsNoResource r → (p : Principal) → IsPrincipal p → r ≢ resource_of p
resource_refused r none (Root a) h = none.0
resource_refused r none (User a n) h = none.1 n h.1
resource_refused r none (Role a n) h = none.2 n h.1

-- where the resource behind the account is none of a principal, the text is no principal's
pub none_at_place : (text a r : List ℕ) → IsIamArn text a r → IsNoResource r → (p : Principal) → IsPrincipal p → text ≢ principal_text p
none_at_place text a r at none p h e =
    let there = stands_at p h in
    resource_refused r none p h (same_place text a (account_of p) r (resource_of p) at (there.0, e ∙ there.1)).1

-- `u` is not `r`
other_front : (m n : List ℕ) → codes "user/" ++ m ≢ codes "role/" ++ n
other_front m n e = let heads : get_or (codes "user/" ++ m) 0 0 ≡ get_or (codes "role/" ++ n) 0 0 = ap (λ t. get_or t 0 0) e in omega (arith, heads)

by_parts : (p q : Principal) → account_of p ≡ account_of q → resource_of p ≡ resource_of q → p ≡ q
by_parts (Root a) (Root b) same e = ap Root same
by_parts (Root a) (User b n) same e = cc
by_parts (Root a) (Role b n) same e = cc
by_parts (User a m) (Root b) same e = cc
by_parts (User a m) (User b n) same e = let names : m ≡ n = append_cancel_left (codes "user/") m n e in cc
by_parts (User a m) (Role b n) same e = absurd (other_front m n e)
by_parts (Role a m) (Root b) same e = cc
by_parts (Role a m) (User b n) same e = absurd (other_front n m (sym e))
by_parts (Role a m) (Role b n) same e = let names : m ≡ n = append_cancel_left (codes "role/") m n e in cc

-- two principals have two texts
pub one_principal : (p q : Principal) → IsPrincipal p → IsPrincipal q → principal_text p ≡ principal_text q → p ≡ q
one_principal p q h k e =
    let there = stands_at q k in
    let same = same_place (principal_text p) (account_of p) (account_of q) (resource_of p) (resource_of q) (stands_at p h) (there.0, e ∙ there.1) in
    by_parts p q same.0 same.1
