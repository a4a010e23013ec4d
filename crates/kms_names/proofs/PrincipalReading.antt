-- `principal_of` is the principal whose text it is.
use Rattle.std.proofs.Common.{◌≡◌, ◌≢◌, ℕ, Bool, true, false, List, ◌∷◌, ◌++◌, ◌⊎◌, Option, Some, None, Result, Ok, Err, inl, inr, refl, ap, sym, ◌∙◌, subst, if◌then◌else◌}
use Rattle.std.specs.Prelude.{codes, MatchOption, IfOk, IfErr, option_and_then}
use Rattle.std.specs.Option.{ok_or}
use Rattle.std.specs.Bool.{Decides}
use Rattle.std.specs.Str.{bytes_eq}
use Rattle.std.proofs.lemmas.Bool.{false≢true}
use Rattle.std.proofs.lemmas.List.{append_cancel_left}
use Rattle.std.proofs.lemmas.Slice.Eq.{bytes_eq-Decides}
use Rattle.kms_names.specs.Parts.{HasNoColon}
use Rattle.kms_names.specs.Principal.{IsIamArn, IsPathAndName, IsPrincipal, principal_text}
use Rattle.kms_names.specs.Reading.{some_if, after_front, cut_at_colon, is_account_number, is_path_and_name, iam_numbered, iam_parts, path_behind, user_or, role_or_none, principal_at, principal_of}
use Rattle.kms_names.specs.declared.faults.NameFault.{NameFault}
use Rattle.kms_names.specs.declared.faults.NameFault.TheVariants.{BadArn, NoMemory}
use Rattle.kms_names.specs.declared.principals.Principal.{Principal}
use Rattle.kms_names.specs.declared.principals.Principal.TheVariants.{Root}
use Rattle.kms_names.proofs.PartsFacts.{no_part_without_colon}
use Rattle.kms_names.proofs.PrincipalFacts.{front, other_account, none_without_place, none_at_place, one_principal}
use Rattle.kms_names.proofs.ReadingFacts.{some_if_is, after_front_is, cut_is, account_decides, path_decides}

path_is : (before text : List ℕ) (o : Option (List ℕ)) → MatchOption o ((rest : List ℕ) → text ≢ before ++ rest) (λ rest. text ≡ before ++ rest)
    → MatchOption (option_and_then (λ name. some_if (is_path_and_name name) name) o) ((n : List ℕ) → IsPathAndName n → text ≢ before ++ n) (λ n. IsPathAndName n × (text ≡ before ++ n))
path_is before text None none = λ n _. none n
path_is before text (Some name) e =
    some_if_is (is_path_and_name name) name (λ n. IsPathAndName n × (text ≡ before ++ n)) (path_decides name)
    (λ wrong n proper f. wrong (subst IsPathAndName (append_cancel_left before n name (sym f ∙ e)) proper))
    (λ proper. (proper, e))

module _ (text : List ℕ) where
  abbrev HasNone : Type 0
  HasNone = (p : Principal) → IsPrincipal p → text ≢ principal_text p

  abbrev IsIt : Principal → Type 0
  IsIt p = IsPrincipal p × (text ≡ principal_text p)

  iam_cut : (rest : List ℕ) → text ≡ front ++ rest → (o : Option (List ℕ × List ℕ)) → MatchOption o (HasNoColon rest) (λ p. HasNoColon p.0 × (rest ≡ p.0 ++ 58 ∷ p.1))
      → MatchOption (option_and_then iam_numbered o) ((a r : List ℕ) → ¬ (IsIamArn text a r)) (λ p. IsIamArn text p.0 p.1)
  iam_cut rest e None none = λ a r at. no_part_without_colon front rest text a r e none at.1
  iam_cut rest e (Some (x, y)) (none, cut) =
      let whole : text ≡ front ++ (x ++ 58 ∷ y) = e ∙ ap (λ t. front ++ t) cut in
      some_if_is (is_account_number x) (x, y) (λ p. IsIamArn text p.0 p.1) (account_decides x) (λ wrong. other_account text x y none whole wrong) (λ number. (number, whole))

  iam_front : (o : Option (List ℕ)) → MatchOption o ((rest : List ℕ) → text ≢ front ++ rest) (λ rest. text ≡ front ++ rest)
      → MatchOption (option_and_then iam_numbered (option_and_then cut_at_colon o)) ((a r : List ℕ) → ¬ (IsIamArn text a r)) (λ p. IsIamArn text p.0 p.1)
  iam_front None none = λ a r at. none _ at.1
  iam_front (Some rest) e = iam_cut rest e (cut_at_colon rest) (cut_is rest)

  module _ (a r : List ℕ) (at : IsIamArn text a r) where
    names : r ≢ codes "root" → (u v : Option (List ℕ))
        → MatchOption u ((n : List ℕ) → IsPathAndName n → r ≢ codes "user/" ++ n) (λ n. IsPathAndName n × (r ≡ codes "user/" ++ n))
        → MatchOption v ((n : List ℕ) → IsPathAndName n → r ≢ codes "role/" ++ n) (λ n. IsPathAndName n × (r ≡ codes "role/" ++ n))
        → MatchOption (user_or a u (role_or_none a v)) HasNone IsIt
    names no_root (Some n) v (proper, e) other = ((at.0, proper), at.1 ∙ ap (λ s. front ++ (a ++ 58 ∷ s)) e)
    names no_root None (Some n) none (proper, e) = ((at.0, proper), at.1 ∙ ap (λ s. front ++ (a ++ 58 ∷ s)) e)
    names no_root None None none others = none_at_place text a r at (no_root, none, others)

    root_or_name : (b : Bool) → Decides b (r ≡ codes "root")
        → MatchOption (if b then Some (Root a) else user_or a (path_behind (codes "user/") r) (role_or_none a (path_behind (codes "role/") r))) HasNone IsIt
    root_or_name true decides = (at.0, at.1 ∙ ap (λ s. front ++ (a ++ 58 ∷ s)) (decides.0 refl))
    root_or_name false decides =
        names (λ e. false≢true (decides.1 e)) _ _ (path_is (codes "user/") r _ (after_front_is (codes "user/") r)) (path_is (codes "role/") r _ (after_front_is (codes "role/") r))

  behind : (o : Option (List ℕ × List ℕ)) → MatchOption o ((a r : List ℕ) → ¬ (IsIamArn text a r)) (λ p. IsIamArn text p.0 p.1) → MatchOption (option_and_then principal_at o) HasNone IsIt
  behind None none = none_without_place text none
  behind (Some (a, r)) at = root_or_name a r at (bytes_eq r (codes "root")) (bytes_eq-Decides r (codes "root"))

  pub principal_reads : MatchOption (principal_of text) ((p : Principal) → IsPrincipal p → text ≢ principal_text p) (λ p. IsPrincipal p × (text ≡ principal_text p))
  principal_reads = behind (iam_parts text) (iam_front (after_front front text) (after_front_is front text))

-- what `read_principal` answers, from its clauses
pub principal_value : (text : List ℕ) (answer : Result Principal NameFault) → IfOk answer (λ p. IsPrincipal p × (text ≡ principal_text p))
    → (answer ≡ Err BadArn → (p : Principal) → IsPrincipal p → text ≢ principal_text p)
    → IfErr answer (λ e. (e ≡ BadArn) ⊎ (e ≡ NoMemory)) → answer ≢ Err NoMemory → answer ≡ ok_or (principal_of text) BadArn
principal_value text (Ok p) ok bad_arn faults memory = by_value (principal_of text) (principal_reads text)
  where
    by_value : (o : Option Principal) → MatchOption o ((q : Principal) → IsPrincipal q → text ≢ principal_text q) (λ q. IsPrincipal q × (text ≡ principal_text q)) → Ok p ≡ ok_or o BadArn
    by_value None none = absurd (none p ok.0 ok.1)
    by_value (Some q) it = ap Ok (one_principal p q ok.0 it.0 (sym ok.1 ∙ it.1))
principal_value text (Err e) ok bad_arn (inl arn) memory = by_value (principal_of text) (principal_reads text)
  where
    by_value : (o : Option Principal) → MatchOption o ((q : Principal) → IsPrincipal q → text ≢ principal_text q) (λ q. IsPrincipal q × (text ≡ principal_text q)) → Err e ≡ ok_or o BadArn
    by_value None none = ap Err arn
    by_value (Some q) it = absurd (bad_arn (ap Err arn) q it.0 it.1)
principal_value text (Err e) ok bad_arn (inr want) memory = absurd (memory (ap Err want))
