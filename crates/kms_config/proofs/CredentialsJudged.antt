-- Credentials: what is read of them, and which of their places is their first fault.
use Rattle.std.proofs.Common.{◌≡◌, ◌≢◌, ◌↔◌, ℕ, Bool, true, false, ◌||◌, not, List, [], ◌∷◌, ◌++◌, length, Option, Some, None, Ok, refl, sym, ap, ◌∙◌, subst, codes}
use Rattle.std.specs.Prelude.{option_and_then}
use Rattle.std.specs.Bool.{Decides}
use Rattle.std.specs.Char.{is_ascii_alphanumeric}
use Rattle.std.specs.List.{AllPass, Contains, fold}
use Rattle.std.specs.List.Sorted.{IsStrictlySortedBy}
use Rattle.std.specs.Str.{bytes_eq}
use Rattle.std.proofs.lemmas.List.Elements.{All-nil}
use Rattle.std.proofs.lemmas.Slice.Eq.{bytes_eq-Decides}
use Rattle.serde_json.specs.Data.{Data, object, string}
use Rattle.serde_json.specs.Find.{get}
use Rattle.kms_names.specs.declared.principals.Principal.{Principal}
use Rattle.policy_doc.specs.Names.{first_unknown}
use Rattle.policy_doc.specs.Paths.{item_path}
use Rattle.sigv4_check.specs.Credentials.{has_id, placed}
use Rattle.sigv4_check.specs.declared.credentials.Credential.{Credential}
use Rattle.kms_config.specs.Answers.{◌>>=◌, at}
use Rattle.kms_config.specs.Credentials.{credential_names, if_new, id_in, secret_in, credential_by, credential_of, credential_in, next_credential, credentials_in}
use Rattle.kms_config.specs.Forms.{text_where, is_key_id, principal_at}
use Rattle.kms_config.specs.Lists.{items_within}
use Rattle.kms_config.specs.Members.{members_in, none_other}
use Rattle.kms_config.specs.Grammar.{AreCredentials, AreInOrder, AreItems, HasLength, IsCredential, IsKeyId, IsNew, IsObject, IsPrincipalOf, IsSecret, IsText}
use Rattle.kms_config.specs.Places.{AnObject, KeyId, PrincipalOf, Secret, Place, credential_places, list_places, member_place, other_places}
use Rattle.kms_config.proofs.JudgedFacts.{Judged, Both, AreMore, IsOneMore, judged_place, judged_then, judged_weaker}
use Rattle.kms_config.proofs.LeafFacts.{and_if, key_id_decides, principal_both, secret_both, tested}
use Rattle.kms_config.proofs.OrderFacts.{one_order, placed_order, placed_shows, put, same_all}
use Rattle.kms_config.proofs.PartsJudged.{both_same, from_none, judged_ok, list_judged, list_taken, new_more, none_unknown, object_judged, only_judged}

-- those that were read are in order, and show which ids the items before have
pub record Shows (before : List Data) (had : List Credential) : Type 0 where
  pub ids : (id : List ℕ) → Decides (not (has_id id had)) (IsNew (codes "accessKeyId") before id)
  pub order : AreInOrder had

not_true : (b : Bool) → not b ≡ true → b ≡ false
not_true true h = cc
not_true false h = refl

or_turned : (a b : Bool) → (a || b) ≡ (b || a)
or_turned true true = refl
or_turned true false = refl
or_turned false true = refl
or_turned false false = refl

begins : Shows [] []
unfolding IsStrictlySortedBy
begins = record { ids = λ id. (λ e. All-nil (λ d. get (codes "accessKeyId") d ≢ Some (string id)), λ all. refl); order = tt }

shows_more : (account : List ℕ) (before : List Data) (d : Data) (had : List Credential) (credential : Credential) → Shows before had → IsCredential account before d credential → Shows (before ++ d ∷ []) (placed credential had)
shows_more account before d had credential shows is = record {
  ids = λ id. subst (λ (b : Bool). Decides (not b) (IsNew (codes "accessKeyId") (before ++ d ∷ []) id)) (sym (placed_shows credential had id ∙ or_turned (bytes_eq credential.id id) (has_id id had)))
      (new_more (codes "accessKeyId") before d credential.id id is.id.0 (bytes_eq credential.id id) (has_id id had) (bytes_eq-Decides credential.id id) (shows.ids id));
  order = placed_order credential had (not_true (has_id credential.id had) ((shows.ids credential.id).1 is.id.3)) shows.order;
}

-- ---- an item

module _ (account : List ℕ) (before : List Data) (had : List Credential) (shows : Shows before had) (path : List ℕ) (d : Data) where
  id_both : Both (id_in had d) (IsKeyId before (get (codes "accessKeyId") d))
  unfolding id_in
  id_both =
      let given = get (codes "accessKeyId") d in
      both_same (option_and_then (if_new had) (text_where is_key_id given)) (λ id. (IsText given id × (HasLength id × AllPass is_ascii_alphanumeric id)) × IsNew (codes "accessKeyId") before id) (IsKeyId before given)
      (and_if (text_where is_key_id given) (λ id. not (has_id id had)) (λ id. IsText given id × (HasLength id × AllPass is_ascii_alphanumeric id)) (IsNew (codes "accessKeyId") before)
      (tested given is_key_id (λ id. HasLength id × AllPass is_ascii_alphanumeric id) key_id_decides) (λ id _. shows.ids id))
      (λ id h. (h.0.0, h.0.1.0, h.0.1.1, h.1)) (λ id h. ((h.0, (h.1, h.2)), h.3))

  secret_is : Both (secret_in d) (IsSecret (get (codes "secret") d))
  unfolding secret_in
  secret_is = secret_both (get (codes "secret") d)

  principal_is : Both (principal_at account d) (IsPrincipalOf account (get (codes "principal") d))
  unfolding principal_at
  principal_is = principal_both account (get (codes "principal") d)

  abbrev id_place : Place
  id_place = member_place path (codes "accessKeyId") d (KeyId before)

  abbrev secret_place : Place
  secret_place = member_place path (codes "secret") d Secret

  abbrev principal_place : Place
  principal_place = member_place path (codes "principal") d (PrincipalOf account)

  abbrev rest_places : List Place
  rest_places = other_places path credential_names d

  module _ (id secret : Option (List ℕ)) (principal : Option Principal) (others : Option (List ℕ)) (id_is : Both id (IsKeyId before (get (codes "accessKeyId") d))) (secret_is : Both secret (IsSecret (get (codes "secret") d)))
      (principal_is : Both principal (IsPrincipalOf account (get (codes "principal") d))) (others_are : Judged rest_places (none_other path others) (λ _. IsObject credential_names d)) where
    members_judged : Judged (id_place ∷ secret_place ∷ principal_place ∷ rest_places) (credential_by path id secret principal others) (IsCredential account before d)
    unfolding credential_by
    members_judged =
        judged_then (id_place ∷ []) (secret_place ∷ principal_place ∷ rest_places) (at id_place.path id) _ (IsKeyId before (get (codes "accessKeyId") d)) (IsCredential account before d)
        (judged_place id_place id (IsKeyId before (get (codes "accessKeyId") d)) id_is (λ x is. (x, is)) (λ h. (h.0, h.1)) refl)
        (λ x x_is. judged_then (secret_place ∷ []) (principal_place ∷ rest_places) (at secret_place.path secret) _ (IsSecret (get (codes "secret") d)) (IsCredential account before d)
        (judged_place secret_place secret (IsSecret (get (codes "secret") d)) secret_is (λ y is. (y, is)) (λ h. (h.0, h.1)) refl)
        (λ y y_is. judged_then (principal_place ∷ []) rest_places (at principal_place.path principal) _ (IsPrincipalOf account (get (codes "principal") d)) (IsCredential account before d)
        (judged_place principal_place principal (IsPrincipalOf account (get (codes "principal") d)) principal_is (λ p is. (p, is)) (λ h. (h.0, h.1)) refl)
        (λ p p_is. judged_ok rest_places (none_other path others) (λ _. record { id = x; secret = y; principal = p }) (λ _. IsObject credential_names d) (IsCredential account before d) others_are
        (λ _ names. record { names = names; id = x_is; secret = y_is; principal = p_is }))))

  credential_judged : Judged (record { path = path; given = Some d; form = AnObject } ∷ id_place ∷ secret_place ∷ principal_place ∷ rest_places) (credential_in account had path d) (IsCredential account before d)
  unfolding credential_of
  credential_judged =
      judged_then (record { path = path; given = Some d; form = AnObject } ∷ []) (id_place ∷ secret_place ∷ principal_place ∷ rest_places) (members_in path d) (credential_of account had path d) (λ ms. d ≡ object ms) (IsCredential account before d)
      (object_judged path d)
      (λ ms is. members_judged (id_in had d) (secret_in d) (principal_at account d) (first_unknown credential_names ms) id_both secret_is principal_is (only_judged path credential_names d ms is))

  members_taken : (credential : Credential) → (id secret : Option (List ℕ)) (principal : Option Principal) (others : Option (List ℕ)) → id ≡ Some credential.id → secret ≡ Some credential.secret → principal ≡ Some credential.principal → others ≡ None
      → credential_by path id secret principal others ≡ Ok credential
  unfolding credential_by
  members_taken credential id secret principal others e f g h = rw (e, f, g, h) refl

  credential_taken : (credential : Credential) → IsCredential account before d credential → credential_in account had path d ≡ Ok credential
  unfolding credential_of
  credential_taken credential is =
      let ms = is.names.0 in
      ap (λ v. members_in path v >>= credential_of account had path d) is.names.1
      ∙ members_taken credential (id_in had d) (secret_in d) (principal_at account d) (first_unknown credential_names ms) (id_both.1 credential.id is.id) (secret_is.1 credential.secret is.secret) (principal_is.1 credential.principal is.principal)
      (none_unknown credential_names ms is.names.2)

-- ---- the list

module _ (account path : List ℕ) where
  credential_step : (before : List Data) (d : Data) (had : List Credential) → Shows before had
      → Judged (credential_places account path before d) (next_credential account path had (length before) d) (IsOneMore (IsCredential account) put (next_credential account path) (credential_places account path) Shows before d had)
  credential_step before d had shows =
      judged_ok (credential_places account path before d) (credential_in account had (item_path path (length before)) d) (λ credential. placed credential had) (IsCredential account before d)
      (IsOneMore (IsCredential account) put (next_credential account path) (credential_places account path) Shows before d had)
      (credential_judged account before had shows (item_path path (length before)) d) (λ credential is. (credential, is, refl, shows_more account before d had credential shows is))

  credential_takes : (before : List Data) (d : Data) (had : List Credential) (credential : Credential) → Shows before had → IsCredential account before d credential
      → (next_credential account path had (length before) d ≡ Ok (put had credential)) × Shows (before ++ d ∷ []) (put had credential)
  credential_takes before d had credential shows is = (
    ap (λ r. r >>= (λ credential. Ok (placed credential had))) (credential_taken account before had shows (item_path path (length before)) d credential is),
    shows_more account before d had credential shows is,
  )

pub credentials_judged : (account path : List ℕ) (given : Option Data) → Judged (list_places (credential_places account) path 0 1000 given) (credentials_in account path given) (AreCredentials account given)
credentials_judged account path given =
    judged_weaker (list_places (credential_places account) path 0 1000 given) (credentials_in account path given)
    (λ new. (values : List Data) × AreItems 0 1000 given values × AreMore (IsCredential account) put (next_credential account path) (credential_places account path) Shows [] values [] new) (AreCredentials account given)
    (λ new h. record {
      values = h.0;
      items = h.1;
      listed = h.2.0;
      each = h.2.1;
      same = λ credential. subst (λ l. Contains h.2.0 credential ↔ Contains l credential) (sym h.2.2) (same_all credential h.2.0);
      order = h.2.3.1.order;
    })
    (list_judged (IsCredential account) put (next_credential account path) (credential_places account path) Shows path 0 1000 given (items_within 1000 given) (from_none 1000 given) [] begins (credential_step account path))

pub credentials_taken : (account path : List ℕ) (given : Option Data) (credentials : List Credential) → AreCredentials account given credentials → credentials_in account path given ≡ Ok credentials
credentials_taken account path given credentials are =
    let read = list_taken (IsCredential account) put (next_credential account path) (credential_places account path) Shows path 0 1000 given (items_within 1000 given) (from_none 1000 given) [] begins (credential_takes account path)
    are.values are.listed are.items are.each in
    let made = credentials_judged account path given in
    let order : AreInOrder (fold put [] are.listed) = ordered read made in
    read ∙ ap Ok (one_order (fold put [] are.listed) credentials order are.order (λ one. ((λ has. (are.same one).0 ((same_all one are.listed).1 has)), (λ has. (same_all one are.listed).0 ((are.same one).1 has)))))
  where
    ordered : credentials_in account path given ≡ Ok (fold put [] are.listed) → Judged (list_places (credential_places account) path 0 1000 given) (credentials_in account path given) (AreCredentials account given) → AreInOrder (fold put [] are.listed)
    ordered read made = (subst (λ r. Judged (list_places (credential_places account) path 0 1000 given) r (AreCredentials account given)) read made).1.order
