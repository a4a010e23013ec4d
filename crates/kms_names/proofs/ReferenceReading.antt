-- `key_ref_of` is what a text refers to, or why it refers to nothing.
use Rattle.std.proofs.Common.{◌≡◌, ◌≢◌, ℕ, Bool, true, false, ◌&&◌, List, ◌∷◌, ◌++◌, get_or, Option, Some, None, Result, Ok, Err, refl, ap, sym, ◌∙◌, subst, inl, inr, ⊎_elim, if◌then◌else◌, arith}
use Rattle.std.specs.Prelude.{codes, MatchOption, IfOk, option_and_then, option_map}
use Rattle.std.specs.Bool.{Decides}
use Rattle.std.specs.Str.{bytes_eq}
use Rattle.std.proofs.lemmas.Bool.{false≢true}
use Rattle.std.proofs.lemmas.Bool.Decides.{Decides-and}
use Rattle.std.proofs.lemmas.List.{append_cancel_left}
use Rattle.std.proofs.lemmas.Option.{none-some}
use Rattle.std.proofs.lemmas.Slice.Eq.{bytes_eq-Decides}
use Rattle.uuid.specs.Text.{parsed_hyphenated, is_hex_digit}
use Rattle.kms_names.specs.Parts.{HasNoColon}
use Rattle.kms_names.specs.Account.{IsAccountNumber}
use Rattle.kms_names.specs.Region.{IsRegion}
use Rattle.kms_names.specs.Alias.{IsAliasName}
use Rattle.kms_names.specs.Reference.{BeginsWith, IsKmsArn, IsKeyResource, IsResource, IsArn, RefersTo, IsReading}
use Rattle.kms_names.specs.Reading.{after_front, cut_at_colon, is_account_number, is_region_text, is_alias_text, kms_checked, kms_behind, kms_parts, key_or, target_of, here_or_elsewhere, arn_reference, id_reference, key_ref_of}
use Rattle.kms_names.specs.declared.faults.NameFault.{NameFault}
use Rattle.kms_names.specs.declared.faults.NameFault.TheVariants.{BadArn, BadAlias, BadId, NoMemory}
use Rattle.kms_names.specs.declared.references.KeyRef.{KeyRef}
use Rattle.kms_names.specs.declared.references.KeyRef.TheVariants.{Key, Alias, Elsewhere}
use Rattle.kms_names.proofs.PartsFacts.{one_cut, one_part}
use Rattle.kms_names.proofs.PrincipalFacts.{account_has_no_colon}
use Rattle.kms_names.proofs.ReadingFacts.{some_if_is, after_front_is, cut_is, account_decides, region_decides, alias_decides, front_decides}
use Rattle.kms_names.proofs.ReferenceFacts.{kms_front, region_has_no_colon, no_arn_without_region, no_arn_without_account, no_arn_of_other_resource}
use Rattle.kms_names.proofs.ReferenceLaws.{id_second, arn_second, alias_second, one_reference}

module _ (text : List ℕ) where
  abbrev NoKmsArn : Type 0
  NoKmsArn = (r a s : List ℕ) → ¬ (IsKmsArn text r a s)

  abbrev IsOf : List ℕ × List ℕ × List ℕ → Type 0
  IsOf p = IsKmsArn text p.0 p.1 p.2

  kms_account : (x y : List ℕ) → HasNoColon x → text ≡ kms_front ++ (x ++ 58 ∷ y) → (o : Option (List ℕ × List ℕ))
      → MatchOption o (HasNoColon y) (λ p. HasNoColon p.0 × (y ≡ p.0 ++ 58 ∷ p.1)) → MatchOption (option_and_then (kms_checked x) o) NoKmsArn IsOf
  kms_account x y none e None none_y = no_arn_without_account text x y none e none_y
  kms_account x y none e (Some (b, z)) (none_b, cut) =
      some_if_is (is_account_number b && is_region_text x) (x, b, z) IsOf (Decides-and _ _ (account_decides b) (region_decides x))
      (λ wrong r a s at.
      let first = one_part kms_front text r x (a ++ 58 ∷ s) y (region_has_no_colon r at.0) none at.2 e in
      let second = one_cut a b s z (account_has_no_colon a at.1) none_b (first.1 ∙ cut) in
      wrong (subst IsAccountNumber second.0 at.1, subst IsRegion first.0 at.0))
      (λ holds. (holds.1, holds.0, e ∙ ap (λ t. kms_front ++ (x ++ 58 ∷ t)) cut))

  kms_region : (rest : List ℕ) → text ≡ kms_front ++ rest → (o : Option (List ℕ × List ℕ))
      → MatchOption o (HasNoColon rest) (λ p. HasNoColon p.0 × (rest ≡ p.0 ++ 58 ∷ p.1)) → MatchOption (option_and_then kms_behind o) NoKmsArn IsOf
  kms_region rest e None none = no_arn_without_region text rest e none
  kms_region rest e (Some (x, y)) (none, cut) = kms_account x y none (e ∙ ap (λ t. kms_front ++ t) cut) (cut_at_colon y) (cut_is y)

  kms_whole : (o : Option (List ℕ)) → MatchOption o ((rest : List ℕ) → text ≢ kms_front ++ rest) (λ rest. text ≡ kms_front ++ rest)
      → MatchOption (option_and_then kms_behind (option_and_then cut_at_colon o)) NoKmsArn IsOf
  kms_whole None none = λ r a s at. none _ at.2
  kms_whole (Some rest) e = kms_region rest e (cut_at_colon rest) (cut_is rest)

  kms_parts_is : MatchOption (kms_parts text) NoKmsArn IsOf
  kms_parts_is = kms_whole (after_front kms_front text) (after_front_is kms_front text)

-- what a resource names
abbrev NamesTarget : List ℕ → KeyRef → Type 0
NamesTarget s (Key key) = IsKeyResource s key
NamesTarget s (Alias name) = IsAliasName s × (name ≡ s)
NamesTarget s Elsewhere = ⊥

key_front_no_alias : (s id : List ℕ) → s ≡ codes "key/" ++ id → ¬ (IsAliasName s)
key_front_no_alias s id e h =
    let apart : 101 ≡ 108 = sym (ap (λ t. get_or t 1 0) e) ∙ alias_second s h in omega (arith, apart)

target_key : (s id : List ℕ) → s ≡ codes "key/" ++ id → (o : Option (List ℕ)) → parsed_hyphenated id ≡ o → MatchOption (option_map Key o) (¬ (IsResource s)) (NamesTarget s)
target_key s id e None reads = λ resource. ⊎_elim
    (λ h. let same : h.1.0 ≡ id = append_cancel_left (codes "key/") h.1.0 id (sym h.1.1 ∙ e) in
    none-some h.0 (sym reads ∙ ap parsed_hyphenated (sym same) ∙ h.1.2))
    (key_front_no_alias s id e) resource
target_key s id e (Some key) reads = (id, e, reads)

target_any : (s : List ℕ) (o : Option (List ℕ)) → MatchOption o ((rest : List ℕ) → s ≢ codes "key/" ++ rest) (λ rest. s ≡ codes "key/" ++ rest) → MatchOption (key_or s o) (¬ (IsResource s)) (NamesTarget s)
target_any s None none =
    some_if_is (is_alias_text s) (Alias s) (NamesTarget s) (alias_decides s)
    (λ wrong resource. ⊎_elim (λ h. none h.1.0 h.1.1) wrong resource)
    (λ h. (h, refl))
target_any s (Some id) e = target_key s id e (parsed_hyphenated id) refl

target_is : (s : List ℕ) → MatchOption (target_of s) (¬ (IsResource s)) (NamesTarget s)
target_is s = target_any s (after_front (codes "key/") s) (after_front_is (codes "key/") s)

target_is_resource : (s : List ℕ) (t : KeyRef) → NamesTarget s t → IsResource s
target_is_resource s (Key key) h = inl (key, h)
target_is_resource s (Alias name) h = inr h.0
target_is_resource s Elsewhere h = absurd h

module _ (text account region : List ℕ) where
  abbrev Meets : Result KeyRef NameFault → Type 0
  Meets = IsReading text account region

  here : (s : List ℕ) (t : KeyRef) → IsKmsArn text region account s → NamesTarget s t → RefersTo text account region t
  here s (Key key) at h = inr (s, at, h)
  here s (Alias name) at h = (subst IsAliasName (sym h.1) h.0, inr (subst (IsKmsArn text region account) (sym h.1) at))
  here s Elsewhere at h = absurd h

  arn_target : BeginsWith text (codes "arn:") → (r a s : List ℕ) → IsKmsArn text r a s → (b : Bool) → Decides b ((r ≡ region) × (a ≡ account)) → (o : Option KeyRef)
      → MatchOption o (¬ (IsResource s)) (NamesTarget s) → Meets (here_or_elsewhere b o)
  arn_target begins r a s at true decides None none = (begins, no_arn_of_other_resource text r a s at none)
  arn_target begins r a s at false decides None none = (begins, no_arn_of_other_resource text r a s at none)
  arn_target begins r a s at true decides (Some t) h =
      let same = decides.0 refl in here s t (subst (λ r. IsKmsArn text r account s) same.0 (subst (λ a. IsKmsArn text r a s) same.1 at)) h
  arn_target begins r a s at false decides (Some t) h = (r, a, s, at, target_is_resource s t h, λ same. false≢true (decides.1 same))

  arn_is : BeginsWith text (codes "arn:") → (o : Option (List ℕ × List ℕ × List ℕ)) → MatchOption o (NoKmsArn text) (IsOf text) → Meets (arn_reference account region o)
  arn_is begins None none = (begins, λ (r, a, s, at, resource). none r a s at)
  arn_is begins (Some (r, a, s)) at =
      arn_target begins r a s at (bytes_eq r region && bytes_eq a account) (Decides-and _ _ (bytes_eq-Decides r region) (bytes_eq-Decides a account)) (target_of s) (target_is s)

  id_is : ¬ (BeginsWith text (codes "arn:")) → ¬ (BeginsWith text (codes "alias/")) → (o : Option (List ℕ)) → parsed_hyphenated text ≡ o → Meets (id_reference o)
  id_is no_arn no_alias None reads = (reads, no_arn, no_alias)
  id_is no_arn no_alias (Some key) reads = inl reads

  by_form : (a n l : Bool) → Decides a (BeginsWith text (codes "arn:")) → Decides n (IsAliasName text) → Decides l (BeginsWith text (codes "alias/"))
      → Meets (if a then arn_reference account region (kms_parts text) else if n then Ok (Alias text) else if l then Err BadAlias else id_reference (parsed_hyphenated text))
  by_form true n l arn name alias = arn_is (arn.0 refl) (kms_parts text) (kms_parts_is text)
  by_form false true l arn name alias = (name.0 refl, inl refl)
  by_form false false true arn name alias = (alias.0 refl, λ h. false≢true (name.1 h))
  by_form false false false arn name alias = id_is (λ h. false≢true (arn.1 h)) (λ h. false≢true (alias.1 h)) (parsed_hyphenated text) refl

  pub key_ref_reads : IsReading text account region (key_ref_of text account region)
  unfolding key_ref_of
  key_ref_reads = by_form _ _ _ (front_decides (codes "arn:") text) (alias_decides text) (front_decides (codes "alias/") text)

  apart_arn : (r a s : List ℕ) → IsKmsArn text r a s → (rest : List ℕ) → text ≢ codes "alias/" ++ rest
  apart_arn r a s at rest e =
      let apart : 114 ≡ 108 = sym (arn_second text r a s at) ∙ ap (λ t. get_or t 1 0) e in omega (arith, apart)

  apart_fronts : BeginsWith text (codes "arn:") → ¬ (BeginsWith text (codes "alias/"))
  apart_fronts (x, e) (y, f) =
      let apart : 114 ≡ 108 = sym (ap (λ t. get_or t 1 0) e) ∙ ap (λ t. get_or t 1 0) f in omega (arith, apart)

  -- a text that begins `arn:` and refers to something is an ARN
  reference_arn : (x : KeyRef) → RefersTo text account region x → BeginsWith text (codes "arn:") → IsArn text
  reference_arn (Key key) (inl reads) (rest, e) =
      absurd (false≢true (ap is_hex_digit (sym (ap (λ t. get_or t 1 0) e)) ∙ id_second text key reads))
  reference_arn (Key key) (inr (s, at, resource)) b = (region, account, s, at, inl (key, resource))
  reference_arn (Alias name) (h, inl same) (rest, e) =
      let apart : 114 ≡ 108 = sym (ap (λ t. get_or t 1 0) (sym same ∙ e)) ∙ alias_second name h in absurd (omega (arith, apart))
  reference_arn (Alias name) (h, inr at) b = (region, account, name, at, inr h)
  reference_arn Elsewhere (r, a, s, at, resource, other) b = (r, a, s, at, resource)

  -- one that begins `alias/` and refers to something is an alias name
  reference_alias : (x : KeyRef) → RefersTo text account region x → BeginsWith text (codes "alias/") → IsAliasName text
  reference_alias (Key key) (inl reads) (rest, e) =
      absurd (false≢true (ap is_hex_digit (sym (ap (λ t. get_or t 1 0) e)) ∙ id_second text key reads))
  reference_alias (Key key) (inr (s, at, resource)) (rest, e) = absurd (apart_arn region account s at rest e)
  reference_alias (Alias name) (h, inl same) b = subst IsAliasName (sym same) h
  reference_alias (Alias name) (h, inr at) (rest, e) = absurd (apart_arn region account name at rest e)
  reference_alias Elsewhere (r, a, s, at, resource, other) (rest, e) = absurd (apart_arn r a s at rest e)

  -- one that refers to something begins so or is an id
  reference_id : (x : KeyRef) → RefersTo text account region x → parsed_hyphenated text ≡ None → ¬ (BeginsWith text (codes "arn:")) → ¬ (BeginsWith text (codes "alias/")) → ⊥
  reference_id (Key key) (inl reads) none no_arn no_alias = none-some key (sym none ∙ reads)
  reference_id (Key key) (inr (s, at, resource)) none no_arn no_alias = no_arn (_, at.2)
  reference_id (Alias name) (h, inl same) none no_arn no_alias = no_alias (h.0, same ∙ h.1)
  reference_id (Alias name) (h, inr at) none no_arn no_alias = no_arn (_, at.2)
  reference_id Elsewhere (r, a, s, at, resource, other) none no_arn no_alias = no_arn (_, at.2)

  pub one_reading : (x y : Result KeyRef NameFault) → Meets x → Meets y → x ≡ y
  one_reading (Ok x) (Ok y) h k = ap Ok (one_reference text account region x y h k)
  one_reading (Ok x) (Err BadArn) h (begins, no_arn) = absurd (no_arn (reference_arn x h begins))
  one_reading (Ok x) (Err BadAlias) h (begins, no_name) = absurd (no_name (reference_alias x h begins))
  one_reading (Ok x) (Err BadId) h (none, no_arn, no_alias) = absurd (reference_id x h none no_arn no_alias)
  one_reading (Ok x) (Err NoMemory) h k = absurd k
  one_reading (Err BadArn) (Ok y) (begins, no_arn) k = absurd (no_arn (reference_arn y k begins))
  one_reading (Err BadArn) (Err BadArn) h k = refl
  one_reading (Err BadArn) (Err BadAlias) (begins, x) (others, y) = absurd (apart_fronts begins others)
  one_reading (Err BadArn) (Err BadId) (begins, x) (none, no_arn, no_alias) = absurd (no_arn begins)
  one_reading (Err BadArn) (Err NoMemory) h k = absurd k
  one_reading (Err BadAlias) (Ok y) (begins, no_name) k = absurd (no_name (reference_alias y k begins))
  one_reading (Err BadAlias) (Err BadArn) (begins, x) (others, y) = absurd (apart_fronts others begins)
  one_reading (Err BadAlias) (Err BadAlias) h k = refl
  one_reading (Err BadAlias) (Err BadId) (begins, x) (none, no_arn, no_alias) = absurd (no_alias begins)
  one_reading (Err BadAlias) (Err NoMemory) h k = absurd k
  one_reading (Err BadId) (Ok y) (none, no_arn, no_alias) k = absurd (reference_id y k none no_arn no_alias)
  one_reading (Err BadId) (Err BadArn) (none, no_arn, no_alias) (begins, x) = absurd (no_arn begins)
  one_reading (Err BadId) (Err BadAlias) (none, no_arn, no_alias) (begins, x) = absurd (no_alias begins)
  one_reading (Err BadId) (Err BadId) h k = refl
  one_reading (Err BadId) (Err NoMemory) h k = absurd k
  one_reading (Err NoMemory) y h k = absurd h

  -- what `read_key_ref` answers, from its clauses
  pub key_ref_value : (answer : Result KeyRef NameFault) → IfOk answer (RefersTo text account region)
      → (answer ≡ Err BadArn → BeginsWith text (codes "arn:") × ¬ (IsArn text))
      → (answer ≡ Err BadAlias → BeginsWith text (codes "alias/") × ¬ (IsAliasName text))
      → (answer ≡ Err BadId → (parsed_hyphenated text ≡ None) × ¬ (BeginsWith text (codes "arn:")) × ¬ (BeginsWith text (codes "alias/")))
      → answer ≢ Err NoMemory → answer ≡ key_ref_of text account region
  key_ref_value (Ok x) ok bad_arn bad_alias bad_id memory = one_reading (Ok x) (key_ref_of text account region) ok key_ref_reads
  key_ref_value (Err BadArn) ok bad_arn bad_alias bad_id memory = one_reading (Err BadArn) (key_ref_of text account region) (bad_arn refl) key_ref_reads
  key_ref_value (Err BadAlias) ok bad_arn bad_alias bad_id memory = one_reading (Err BadAlias) (key_ref_of text account region) (bad_alias refl) key_ref_reads
  key_ref_value (Err BadId) ok bad_arn bad_alias bad_id memory = one_reading (Err BadId) (key_ref_of text account region) (bad_id refl) key_ref_reads
  key_ref_value (Err NoMemory) ok bad_arn bad_alias bad_id memory = absurd (memory refl)
