-- Whether two principals are one is decided.
use Rattle.std.proofs.Common.{◌≡◌, inr, ap}
use Rattle.kms_names.specs.declared.principals.Principal.{Principal}
use Rattle.kms_names.specs.declared.principals.Principal.TheVariants.{Root, User, Role}
use Rattle.kms_names.proofs.Decisions.{Decided, decided_like, decided_both, same_text}

pub same_principal : (p q : Principal) → Decided (p ≡ q)
same_principal (Root a) (Root b) = decided_like (λ e. ap Root e) (λ e. cc) (same_text a b)
same_principal (Root a) (User b n) = inr (λ e. cc)
same_principal (Root a) (Role b n) = inr (λ e. cc)
same_principal (User a m) (Root b) = inr (λ e. cc)
same_principal (User a m) (User b n) = decided_like (λ e. cc) (λ e. (cc, cc)) (decided_both (same_text a b) (same_text m n))
same_principal (User a m) (Role b n) = inr (λ e. cc)
same_principal (Role a m) (Root b) = inr (λ e. cc)
same_principal (Role a m) (User b n) = inr (λ e. cc)
same_principal (Role a m) (Role b n) = decided_like (λ e. cc) (λ e. (cc, cc)) (decided_both (same_text a b) (same_text m n))
