-- What the readers of names answer, as functions of the text.
use Rattle.std.proofs.Common.{◌≡◌, ◌≢◌, ℕ, List, Option, Some, None, Result, Ok, Err, Bool, true, false, cond, refl, sym, ap, ◌∙◌}
use Rattle.std.specs.Option.{MatchOption}
use Rattle.std.specs.Bool.{Decides}
use Rattle.std.specs.Str.{bytes_eq}
use Rattle.std.proofs.lemmas.Slice.Eq.{bytes_eq-Decides}
use Rattle.std.specs.Result.{result_ok, MatchResult}
use Rattle.kms_names.specs.Alias.{IsAliasName}
use Rattle.kms_names.specs.Principal.{IsPrincipal, principal_text}
use Rattle.kms_names.specs.Reading.{alias_of, principal_of}
use Rattle.kms_names.specs.declared.faults.NameFault.{NameFault}
use Rattle.kms_names.specs.declared.faults.NameFault.TheVariants.{BadAlias}
use Rattle.kms_names.specs.declared.principals.Principal.{Principal}
use Rattle.kms_names.proofs.ReadingFacts.{alias_reads}
use Rattle.kms_names.proofs.PrincipalFacts.{one_principal}
use Rattle.kms_names.proofs.PrincipalReading.{principal_reads}

alias_is : (text a : List ℕ) (r : Result (List ℕ) NameFault) → MatchResult r (λ name. IsAliasName text × (name ≡ text)) (λ fault. ¬ (IsAliasName text) × (fault ≡ BadAlias))
    → IsAliasName text → a ≡ text → Some a ≡ result_ok r
alias_is text a (Ok name) h form same = ap Some (same ∙ sym h.1)
alias_is text a (Err fault) h form same = absurd (h.0 form)

pub alias_found : (text a : List ℕ) → IsAliasName text → a ≡ text → Some a ≡ result_ok (alias_of text)
alias_found text a form same = alias_is text a (alias_of text) (alias_reads text) form same

alias_none : (text : List ℕ) (r : Result (List ℕ) NameFault) → MatchResult r (λ name. IsAliasName text × (name ≡ text)) (λ fault. ¬ (IsAliasName text) × (fault ≡ BadAlias))
    → ¬ (IsAliasName text) → None ≡ result_ok r
alias_none text (Ok name) h none = absurd (none h.0)
alias_none text (Err fault) h none = refl

pub no_alias : (text : List ℕ) → ¬ (IsAliasName text) → None ≡ result_ok (alias_of text)
no_alias text none = alias_none text (alias_of text) (alias_reads text) none

principal_is : (text : List ℕ) (p : Principal) (o : Option Principal)
    → MatchOption o ((q : Principal) → IsPrincipal q → text ≢ principal_text q) (λ q. IsPrincipal q × (text ≡ principal_text q))
    → IsPrincipal p → text ≡ principal_text p → Some p ≡ o
principal_is text p None h form same = absurd (h p form same)
principal_is text p (Some q) h form same = ap Some (one_principal p q form h.0 (sym same ∙ h.1))

pub principal_found : (text : List ℕ) (p : Principal) → IsPrincipal p → text ≡ principal_text p → Some p ≡ principal_of text
principal_found text p form same = principal_is text p (principal_of text) (principal_reads text) form same

principal_none : (text : List ℕ) (o : Option Principal)
    → MatchOption o ((q : Principal) → IsPrincipal q → text ≢ principal_text q) (λ q. IsPrincipal q × (text ≡ principal_text q))
    → ((p : Principal) → IsPrincipal p → text ≢ principal_text p) → None ≡ o
principal_none text None h none = refl
principal_none text (Some q) h none = absurd (none q h.0 h.1)

pub no_principal : (text : List ℕ) → ((p : Principal) → IsPrincipal p → text ≢ principal_text p) → None ≡ principal_of text
no_principal text none = principal_none text (principal_of text) (principal_reads text) none

-- ---- names of what was done

differ : {A : Type 0} (b : Bool) (name word : List ℕ) (first rest : Option A) → Decides b (name ≡ word) → ¬ (name ≡ word) → None ≡ rest → None ≡ cond b first rest
differ true name word first rest told other none = absurd (other (told.0 refl))
differ false name word first rest told other none = none

pub skip : {A : Type 0} (name word : List ℕ) (first rest : Option A) → ¬ (name ≡ word) → None ≡ rest → None ≡ cond (bytes_eq name word) first rest
skip name word first rest other none = differ (bytes_eq name word) name word first rest (bytes_eq-Decides name word) other none
