-- Principals with policies: what is read of them, and which of their places is their first fault.
use Rattle.std.proofs.Common.{◌≡◌, ◌≢◌, ℕ, Bool, true, false, ◌&&◌, ◌||◌, not, List, [], ◌∷◌, ◌++◌, length, Option, Some, None, Result, Ok, refl, sym, ap, ap₂, ◌∙◌, subst, codes}
use Rattle.std.specs.Prelude.{option_and_then}
use Rattle.std.specs.Bool.{Decides}
use Rattle.std.specs.List.{list_any}
use Rattle.std.specs.Str.{bytes_eq}
use Rattle.std.proofs.lemmas.Bool.{false≢true}
use Rattle.std.proofs.lemmas.Bool.Decides.{Decides-and}
use Rattle.std.proofs.lemmas.List.Elements.{All-nil}
use Rattle.std.proofs.lemmas.Slice.Eq.{bytes_eq-Decides}
use Rattle.serde_json.specs.Data.{Data, object, string}
use Rattle.serde_json.specs.Find.{get}
use Rattle.kms_names.specs.Principal.{IsPrincipal, principal_text}
use Rattle.kms_names.specs.declared.principals.Principal.{Principal}
use Rattle.kms_names.specs.declared.principals.Principal.TheVariants.{Root, User, Role}
use Rattle.kms_names.proofs.PrincipalFacts.{one_principal}
use Rattle.policy_doc.specs.Names.{first_unknown}
use Rattle.policy_doc.specs.Paths.{member_path, item_path}
use Rattle.policy_doc.specs.declared.policies.Policy.{Policy}
use Rattle.authority.specs.declared.identities.Identity.{Identity}
use Rattle.kms_config.specs.Answers.{◌>>=◌, at}
use Rattle.kms_config.specs.Forms.{principal_at, no_root}
use Rattle.kms_config.specs.Identities.{identity_names, if_first, is_same, has_principal, new_principal, policies_in, identity_by, identity_of, identity_in, next_identity, identities_in}
use Rattle.kms_config.specs.Lists.{items_within}
use Rattle.kms_config.specs.Members.{members_in, none_other}
use Rattle.kms_config.specs.Grammar.{AreDocuments, AreEach, AreIdentities, AreItems, IsHolder, IsIdentity, IsNew, IsNotRoot, IsObject, IsPrincipalOf}
use Rattle.kms_config.specs.Places.{AnObject, Holder, Place, document_places, identity_places, list_places, member_place, other_places}
use Rattle.kms_config.proofs.JudgedFacts.{Judged, Both, AreMore, IsOneMore, judged_place, judged_then, judged_weaker}
use Rattle.kms_config.proofs.LeafFacts.{and_if, principal_both}
use Rattle.kms_config.proofs.PartsJudged.{both_same, documents_judged, documents_taken, from_none, judged_ok, list_judged, list_taken, new_more, none_unknown, object_judged, only_judged, push, pushed}

-- ---- equal principals

two : (a b c d : List ℕ) → Decides (bytes_eq a b && bytes_eq c d) ((a ≡ b) × (c ≡ d))
two a b c d = Decides-and _ _ (bytes_eq-Decides a b) (bytes_eq-Decides c d)

same_decides : (p q : Principal) → Decides (is_same p q) (p ≡ q)
same_decides (Root account) (Root other) = (λ e. ap Root ((bytes_eq-Decides account other).0 e), λ e. let same : account ≡ other = cc in (bytes_eq-Decides account other).1 same)
same_decides (Root account) (User other name) = (λ e. absurd (false≢true e), λ e. cc)
same_decides (Root account) (Role other name) = (λ e. absurd (false≢true e), λ e. cc)
same_decides (User account name) (Root other) = (λ e. absurd (false≢true e), λ e. cc)
same_decides (User account name) (User other text) = (
  λ e. let h = (two account other name text).0 e in ap₂ User h.0 h.1,
  λ e. let a : account ≡ other = cc in let n : name ≡ text = cc in (two account other name text).1 (a, n),
)
same_decides (User account name) (Role other text) = (λ e. absurd (false≢true e), λ e. cc)
same_decides (Role account name) (Root other) = (λ e. absurd (false≢true e), λ e. cc)
same_decides (Role account name) (User other text) = (λ e. absurd (false≢true e), λ e. cc)
same_decides (Role account name) (Role other text) = (
  λ e. let h = (two account other name text).0 e in ap₂ Role h.0 h.1,
  λ e. let a : account ≡ other = cc in let n : name ≡ text = cc in (two account other name text).1 (a, n),
)

-- and so of their texts
texts_decide : (p q : Principal) → IsPrincipal p → IsPrincipal q → Decides (is_same p q) (principal_text p ≡ principal_text q)
texts_decide p q h k = (λ e. ap principal_text ((same_decides p q).0 e), λ e. (same_decides p q).1 (one_principal p q h k e))

-- ---- those before

-- those that were read show which principals the items before have
abbrev pub Shows : List Data → List Identity → Type 0
Shows before had = (principal : Principal) → IsPrincipal principal → Decides (not (has_principal had principal)) (IsNew (codes "principal") before (principal_text principal))

begins : Shows [] []
begins principal is = (λ e. All-nil (λ d. get (codes "principal") d ≢ Some (string (principal_text principal))), λ all. refl)

any_more : {X : Type 0} (test : X → Bool) (xs : List X) (x : X) → list_any test (xs ++ x ∷ []) ≡ (list_any test xs || test x)
any_more test [] x = alone (test x)
  where
    alone : (b : Bool) → (b || false) ≡ (false || b)
    alone true = refl
    alone false = refl
any_more test (y ∷ xs) x = by_first (test y) (any_more test xs x)
  where
    by_first : (b : Bool) → list_any test (xs ++ x ∷ []) ≡ (list_any test xs || test x) → (b || list_any test (xs ++ x ∷ [])) ≡ ((b || list_any test xs) || test x)
    by_first true rest = refl
    by_first false rest = rest

shows_more : (account : List ℕ) (before : List Data) (d : Data) (had : List Identity) (identity : Identity) → Shows before had → IsIdentity account before d identity → Shows (before ++ d ∷ []) (had ++ identity ∷ [])
shows_more account before d had identity shows is principal proper =
    subst (λ (b : Bool). Decides (not b) (IsNew (codes "principal") (before ++ d ∷ []) (principal_text principal))) (sym (any_more (λ (one : Identity). is_same one.principal principal) had identity))
    (new_more (codes "principal") before d (principal_text identity.principal) (principal_text principal) is.principal.0.0 (is_same identity.principal principal) (has_principal had principal)
    (texts_decide identity.principal principal is.principal.0.1 proper) (shows principal proper))

-- ---- an item

root_out : (o : Option Principal) (P : Principal → Type 0) → Both o P → Both (option_and_then no_root o) (λ p. P p × IsNotRoot p)
root_out None P both = (λ p e. let bad : None ≡ Some p = e in cc, λ p h. let bad : None ≡ Some p = both.1 p h.0 in cc)
root_out (Some (Root account)) P both = (
  λ p e. let bad : None ≡ Some p = e in cc,
  λ p h. let same : Root account ≡ p = let e : Some (Root account) ≡ Some p = both.1 p h.0 in cc in absurd (subst IsNotRoot (sym same) h.1),
)
root_out (Some (User account name)) P both = (λ p e. let same : User account name ≡ p = cc in (both.0 p e, subst IsNotRoot same tt), λ p h. both.1 p h.0)
root_out (Some (Role account name)) P both = (λ p e. let same : Role account name ≡ p = cc in (both.0 p e, subst IsNotRoot same tt), λ p h. both.1 p h.0)

module _ (account : List ℕ) (before : List Data) (had : List Identity) (shows : Shows before had) (path : List ℕ) (d : Data) where
  holder_both : Both (new_principal account had d) (IsHolder account before (get (codes "principal") d))
  unfolding new_principal principal_at
  holder_both =
      let given = get (codes "principal") d in
      both_same (option_and_then (if_first had) (option_and_then no_root (principal_at account d))) (λ p. (IsPrincipalOf account given p × IsNotRoot p) × IsNew (codes "principal") before (principal_text p)) (IsHolder account before given)
      (and_if (option_and_then no_root (principal_at account d)) (λ p. not (has_principal had p)) (λ p. IsPrincipalOf account given p × IsNotRoot p) (λ p. IsNew (codes "principal") before (principal_text p))
      (root_out (principal_at account d) (IsPrincipalOf account given) (principal_both account given)) (λ p is. shows p is.0.1))
      (λ p h. (h.0.0, h.0.1, h.1)) (λ p h. ((h.0, h.1), h.2))

  abbrev holder_place : Place
  holder_place = member_place path (codes "principal") d (Holder account before)

  abbrev policies_places : List Place
  policies_places = list_places document_places (member_path path (codes "documents")) 0 10 (get (codes "documents") d)

  abbrev rest_places : List Place
  rest_places = other_places path identity_names d

  policies_judged : Judged policies_places (policies_in path d) (AreDocuments 0 10 (get (codes "documents") d))
  unfolding policies_in
  policies_judged = documents_judged (member_path path (codes "documents")) (get (codes "documents") d)

  policies_taken : (policies : List Policy) → AreDocuments 0 10 (get (codes "documents") d) policies → policies_in path d ≡ Ok policies
  unfolding policies_in
  policies_taken policies are = documents_taken (member_path path (codes "documents")) (get (codes "documents") d) policies are

  module _ (principal : Option Principal) (policies : Result (List Policy) (List ℕ)) (others : Option (List ℕ)) (principal_is : Both principal (IsHolder account before (get (codes "principal") d)))
      (policies_are : Judged policies_places policies (AreDocuments 0 10 (get (codes "documents") d))) (others_are : Judged rest_places (none_other path others) (λ _. IsObject identity_names d)) where
    members_judged : Judged (holder_place ∷ policies_places ++ rest_places) (identity_by path principal policies others) (IsIdentity account before d)
    unfolding identity_by
    members_judged =
        judged_then (holder_place ∷ []) (policies_places ++ rest_places) (at holder_place.path principal) _ (IsHolder account before (get (codes "principal") d)) (IsIdentity account before d)
        (judged_place holder_place principal (IsHolder account before (get (codes "principal") d)) principal_is (λ x is. (x, is)) (λ h. (h.0, h.1)) refl)
        (λ p p_is. judged_then policies_places rest_places policies _ (AreDocuments 0 10 (get (codes "documents") d)) (IsIdentity account before d) policies_are
        (λ ps ps_are. judged_ok rest_places (none_other path others) (λ _. record { principal = p; policies = ps }) (λ _. IsObject identity_names d) (IsIdentity account before d) others_are
        (λ _ names. record { names = names; principal = p_is; documents = ps_are })))

  identity_judged : Judged (record { path = path; given = Some d; form = AnObject } ∷ holder_place ∷ policies_places ++ rest_places) (identity_in account had path d) (IsIdentity account before d)
  unfolding identity_of
  identity_judged =
      judged_then (record { path = path; given = Some d; form = AnObject } ∷ []) (holder_place ∷ policies_places ++ rest_places) (members_in path d) (identity_of account had path d) (λ ms. d ≡ object ms) (IsIdentity account before d)
      (object_judged path d)
      (λ ms is. members_judged (new_principal account had d) (policies_in path d) (first_unknown identity_names ms) holder_both policies_judged (only_judged path identity_names d ms is))

  members_taken : (identity : Identity) → (principal : Option Principal) (policies : Result (List Policy) (List ℕ)) (others : Option (List ℕ)) → principal ≡ Some identity.principal → policies ≡ Ok identity.policies → others ≡ None
      → identity_by path principal policies others ≡ Ok identity
  unfolding identity_by
  members_taken identity principal policies others e f g = rw (e, f, g) refl

  identity_taken : (identity : Identity) → IsIdentity account before d identity → identity_in account had path d ≡ Ok identity
  unfolding identity_of
  identity_taken identity is =
      let ms = is.names.0 in
      ap (λ v. members_in path v >>= identity_of account had path d) is.names.1
      ∙ members_taken identity (new_principal account had d) (policies_in path d) (first_unknown identity_names ms) (holder_both.1 identity.principal is.principal) (policies_taken identity.policies is.documents)
      (none_unknown identity_names ms is.names.2)

-- ---- the list

module _ (account path : List ℕ) where
  identity_step : (before : List Data) (d : Data) (had : List Identity) → Shows before had
      → Judged (identity_places account path before d) (next_identity account path had (length before) d) (IsOneMore (IsIdentity account) push (next_identity account path) (identity_places account path) Shows before d had)
  identity_step before d had shows =
      judged_ok (identity_places account path before d) (identity_in account had (item_path path (length before)) d) (λ identity. had ++ identity ∷ []) (IsIdentity account before d)
      (IsOneMore (IsIdentity account) push (next_identity account path) (identity_places account path) Shows before d had)
      (identity_judged account before had shows (item_path path (length before)) d) (λ identity is. (identity, is, refl, shows_more account before d had identity shows is))

  identity_takes : (before : List Data) (d : Data) (had : List Identity) (identity : Identity) → Shows before had → IsIdentity account before d identity
      → (next_identity account path had (length before) d ≡ Ok (push had identity)) × Shows (before ++ d ∷ []) (push had identity)
  identity_takes before d had identity shows is = (
    ap (λ r. r >>= (λ identity. Ok (had ++ identity ∷ []))) (identity_taken account before had shows (item_path path (length before)) d identity is),
    shows_more account before d had identity shows is,
  )

pub identities_judged : (account path : List ℕ) (given : Option Data) → Judged (list_places (identity_places account) path 0 1000 given) (identities_in account path given) (AreIdentities account given)
identities_judged account path given =
    judged_weaker (list_places (identity_places account) path 0 1000 given) (identities_in account path given)
    (λ new. (values : List Data) × AreItems 0 1000 given values × AreMore (IsIdentity account) push (next_identity account path) (identity_places account path) Shows [] values [] new) (AreIdentities account given)
    (λ new h. (h.0, h.1, subst (AreEach (IsIdentity account) [] h.0) (sym (h.2.2 ∙ pushed [] h.2.0)) h.2.1))
    (list_judged (IsIdentity account) push (next_identity account path) (identity_places account path) Shows path 0 1000 given (items_within 1000 given) (from_none 1000 given) [] begins (identity_step account path))

pub identities_taken : (account path : List ℕ) (given : Option Data) (identities : List Identity) → AreIdentities account given identities → identities_in account path given ≡ Ok identities
identities_taken account path given identities are =
    list_taken (IsIdentity account) push (next_identity account path) (identity_places account path) Shows path 0 1000 given (items_within 1000 given) (from_none 1000 given) [] begins (identity_takes account path)
    are.0 identities are.1 are.2
    ∙ ap Ok (pushed [] identities)
