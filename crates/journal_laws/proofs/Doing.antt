-- What an operation does that a proper request asks: what it names is there, it has its form, its date is right, and its parts are what an entry's are.
use Rattle.std.proofs.Common.{◌≡◌, ◌≢◌, inl, inr, ℕ, ◌≤◌, ◌<◌, ◌+◌, ◌/◌, ◌%◌, ◌^◌, ◌&&◌, List, [], ◌∷◌, ◌++◌, length, take, codes, Bool, true, false, Option, Some, None, Result, Ok, Err, IsUtf8, refl, sym, ap, ap₂, ◌∙◌, subst, if◌then◌else◌, nat_le, nat_lt, is_some, is_none, length-append, length-take, lit≤, arith}
use Rattle.std.specs.Prelude.{All, IfSome, MatchOption, find, cond, ok_or, option_and_then}
use Rattle.std.specs.List.{list_all}
use Rattle.std.specs.Result.{result_ok}
use Rattle.std.specs.Str.{bytes_eq}
use Rattle.std.proofs.lemmas.Bool.{le-leb, eq-eqb, lt-ltb, ltb-true}
use Rattle.std.proofs.lemmas.List.Elements.{All-append, All-take}
use Rattle.std.proofs.lemmas.List.Sums.{AllPass-from_list_all}
use Rattle.std.proofs.lemmas.Slice.Eq.{bytes_eq-Decides}
use Rattle.hex.specs.Hex.{encode_lower, decode_sized}
use Rattle.hex.specs.declared.error.FromHexError.{FromHexError}
use Rattle.hex.proofs.HexLemmas.{decode_sized-ok, decode_sized-twice, decode_of-ok}
use Rattle.uuid.specs.Text.{parsed_hyphenated}
use Rattle.mac_sha.specs.Hmac.{hmac_sha256}
use Rattle.kms_names.specs.Account.{IsAccountNumber}
use Rattle.kms_names.specs.Alias.{IsAliasName}
use Rattle.kms_names.specs.Identifier.{IsByteList, IsKeyId, IsGrantId}
use Rattle.kms_names.specs.Moment.{year_10000}
use Rattle.kms_names.specs.Principal.{IsPrincipal, principal_text}
use Rattle.kms_names.specs.Reading.{is_alias_text, principal_of}
use Rattle.kms_names.specs.Reference.{RefersTo, IsReading}
use Rattle.kms_names.specs.declared.faults.NameFault.{NameFault}
use Rattle.kms_names.specs.declared.faults.NameFault.TheVariants as fault
use Rattle.kms_names.specs.declared.principals.Principal.{Principal}
use Rattle.kms_names.specs.declared.references.KeyRef.{KeyRef}
use Rattle.kms_names.specs.declared.references.KeyRef.TheVariants.{Key, Alias, Elsewhere}
use Rattle.kms_names.proofs.AsciiFacts.{IsByteList-from_places}
use Rattle.kms_names.proofs.KeyTextFacts.{written_id, key_is_id}
use Rattle.kms_names.proofs.PrincipalReading.{principal_reads}
use Rattle.kms_names.proofs.ReadingFacts.{alias_decides}
use Rattle.kms_names.proofs.ReferenceReading.{key_ref_reads}
use Rattle.policy_doc.specs.declared.faults.PolicyFault.{PolicyFault}
use Rattle.key_policies.specs.KeyPolicy.{fault_in}
use Rattle.enc_context.specs.declared.pairs.Pair.{Pair}
use Rattle.enc_context.specs.Encoding.{encoding_of}
use Rattle.hmac_keys.specs.declared.kinds.KeyKind.{KeyKind}
use Rattle.resource_tags.specs.Proper.{are_proper}
use Rattle.resource_tags.specs.declared.tags.Tag.{Tag as TagValue}
use Rattle.kms_json.specs.Fields.{is_between, are_tags, are_tag_keys}
use Rattle.kms_json.specs.Asks.{IsSizedChanging, IsSizedConstraint, IsSizedGrant}
use Rattle.kms_json.specs.declared.asks.Changing.{Changing}
use Rattle.kms_json.specs.declared.asks.Changing.TheVariants as changing
use Rattle.kms_json.specs.declared.asks.grants.CreateGrant.{CreateGrant}
use Rattle.kms_json.specs.declared.asks.grants.GrantConstraint.{GrantConstraint}
use Rattle.kms_json.specs.declared.asks.grants.GrantConstraint.TheVariants as given
use Rattle.kms_json.specs.declared.asks.grants.RetiredGrant.{RetiredGrant}
use Rattle.kms_json.specs.declared.asks.grants.RetiredGrant.TheVariants as retired
use Rattle.kms_json.specs.declared.asks.keys.CreateKey.{CreateKey}
use Rattle.kms_json.specs.declared.refusals.Missing.TheVariants as missing
use Rattle.kms_json.specs.declared.refusals.Refusal.{Refusal}
use Rattle.kms_json.specs.declared.refusals.Refusal.TheVariants as refusal
use Rattle.key_states.specs.States.{is_enabled}
use Rattle.key_states.specs.declared.rows.KeyRow.{KeyRow}
use Rattle.grant_table.specs.declared.rows.GrantRow.{GrantRow}
use Rattle.grant_table.specs.Grants.{has_id, grant_with}
use Rattle.account_rows.specs.declared.entries.What.{What}
use Rattle.account_rows.specs.declared.entries.What.TheVariants as what
use Rattle.account_rows.specs.Changes.{days_after}
use Rattle.account_rows.specs.History.{key_with}
use Rattle.account_rows.specs.Sizes.{constraint_size}
use Rattle.account_rows.proofs.RowFacts.{found_key}
use Rattle.account_steps.specs.declared.facts.RealmFacts.{RealmFacts}
use Rattle.account_steps.specs.Authority.{KeySaid, said_key}
use Rattle.account_steps.specs.Given.{principal_in, principal_if_given, grant_id_in}
use Rattle.account_steps.specs.Ids.{key_id_at, grant_id_at, be32, be48}
use Rattle.account_steps.specs.Parts.{ChangeParts, Outcome, changes, if_written, grant_id_of, grant_of_token}
use Rattle.account_steps.specs.Steps.{unless, and_then, improper, key_referred, reference_of, only_key_of, key_of_alias}
use Rattle.account_steps.specs.View.{View, key_held, aliased, if_live, is_live, grant_held}
use Rattle.account_steps.proofs.Holding.{there_of}
use Rattle.account_steps.proofs.Passing.{change_passed, found_of, none_of, next_of, ok_of, ok_same}
use Rattle.account_keys.specs.declared.alias_changes.AliasChange.{AliasChange}
use Rattle.account_keys.specs.declared.alias_changes.AliasChange.TheVariants as alias
use Rattle.account_keys.specs.declared.alias_changes.Moving.{Moving}
use Rattle.account_keys.specs.declared.grants.Granting.{Granting}
use Rattle.account_keys.specs.declared.grants.Revoking.{Revoking}
use Rattle.account_keys.specs.declared.key_changes.KeyChange.{KeyChange}
use Rattle.account_keys.specs.declared.key_changes.KeyChange.TheVariants as change
use Rattle.account_keys.specs.Aliases.{changes_alias, moving_of, done_to}
use Rattle.account_keys.specs.Grants.{creates_grant, retires_grant, revokes_grant, granting_of, made_unless, same_grant, if_of_key, grant_of, retired_of, revoking_of, constraint_of}
use Rattle.account_keys.specs.KeyChanges.{done_at, does_unless, is_disabled, is_period, is_off, changes_key}
use Rattle.account_keys.specs.Keys.{creates_key, kind_asked, served_kind, unserved_key, refused_if_given, said_new_key, policy_or_default}
use Rattle.account_keys.specs.Policies.{puts_policy, policy_refused, refused_by}
use Rattle.tag_order.specs.Order.{in_order}
use Rattle.tag_order.proofs.OrderFacts.{all_in_order}
use Rattle.journal_laws.proofs.OrderedTags.{ordered_formed}
use Rattle.account_tags.specs.Tagging.{tags_key, untags_key, too_many, has_some}
use Rattle.account_core.specs.Fitting.{is_there, is_short, is_short_if_given, is_formed, is_dated, are_formed}
use Rattle.account_core.specs.Operations.{change_outcome}
use Rattle.account_core.proofs.Fitting.{both_none}
use Rattle.journal_lines.specs.Forms.{IsTag, IsContextOfTexts, IsConstraint, IsIfAny, IsWhat}
use Rattle.journal_file.proofs.SealFacts.{seal_is_bytes}
use Rattle.journal_laws.proofs.AskedForms.{IsFormed}
use Rattle.journal_laws.proofs.AskedTexts.{AreContext, IsConstrained, IsTextual}
use Rattle.journal_laws.proofs.DefaultPolicy.{default_fits, default_utf8}

pub record IsWell (view : View) (did : What) : Type 0 where
  pub there : is_there view did ≡ true
  pub formed : is_formed did ≡ true
  pub dated : is_dated view.moment did ≡ true
  pub parts : IsWhat did

-- so much each operation has to say of what it does
abbrev SaysWell : {F R : Type 0} → View → ChangeParts F R → Type 0
SaysWell {F} {R} view op = (found : F) (ready : R) (did : What) → op.parts.found ≡ Ok found → op.parts.own found ≡ Ok ready → op.does found ready ≡ Some did → IsWell view did

well_by : {F R : Type 0} (view : View) (op : ChangeParts F R) → SaysWell view op → (o : Outcome (Option What)) (did : What) → changes view op ≡ Ok o → o.effect ≡ Some did → IsWell view did
well_by view op says o did served is =
    let p = change_passed view op o served in
    says p.found p.ready did p.found_is p.own_is (ap (λ (out : Outcome (Option What)). out.effect) p.outcome_is ∙ is)

does_this : (view : View) (this did : What) → IsWell view this → ◌≡◌ {A = Option What} (Some this) (Some did) → IsWell view did
does_this view this did well e = let same : this ≡ did = cc in subst (IsWell view) same well

both_true : (a b : Bool) → a ≡ true → b ≡ true → a && b ≡ true
both_true a b p q = ap₂ (λ (x y : Bool). x && y) p q

-- ---- what is named is there

some_of : {A : Type 0} (o : Option A) (a : A) → o ≡ Some a → is_some o ≡ true
some_of o a e = ap (λ (o : Option _). is_some o) e

-- a key is there, and its id is one
record IsKeyThere (view : View) (row : KeyRow) : Type 0 where
  held : is_some (key_held view row.key) ≡ true
  id : IsKeyId row.key

-- so is a grant
record IsGrantThere (view : View) (row : GrantRow) : Type 0 where
  held : is_some (grant_held view row.grant) ≡ true
  id : IsGrantId row.grant

-- what a text of a key's id or ARN is read as is an id
written : (text id : List ℕ) → parsed_hyphenated text ≡ Some id → IsKeyId id
written text id e = key_is_id text id (written_id text id e)

reference_id : (text account region id : List ℕ) → RefersTo text account region (Key id) → IsKeyId id
reference_id text account region id (inl e) = written text id e
reference_id text account region id (inr (resource, arn, (digits, is, e))) = written digits id e

-- what hex digits decode to is so many bytes
pub decoded : (n : ℕ) (text id : List ℕ) → decode_sized text n ≡ Ok id → IsByteList n id
decoded n text id e =
    let long = decode_sized-ok text n id e in
    let of = decode_of-ok text id (sym (decode_sized-twice text n long) ∙ e) in
    let size : length id ≡ n = omega (arith, long, of.2) in
    IsByteList-from_places n id size (λ i. of.3 i)

ok_is : (r : Result (List ℕ) FromHexError) (id : List ℕ) → result_ok r ≡ Some id → r ≡ Ok id
ok_is (Ok found) id e = cc
ok_is r id e = cc

grant_text : (text id : List ℕ) → grant_id_of text ≡ Some id → IsGrantId id
unfolding grant_id_of
grant_text text id e = by_result (result_ok (decode_sized text 32)) refl e
  where
    by_test : (b : Bool) (found : List ℕ) → (if b then Some found else None) ≡ Some id → found ≡ id
    by_test true found is = cc
    by_test false found is = cc

    by_result : (o : Option (List ℕ)) → result_ok (decode_sized text 32) ≡ o → if_written text o ≡ Some id → IsGrantId id
    by_result None is e = cc
    by_result (Some found) is e =
        subst IsGrantId (by_test (bytes_eq (encode_lower found) text) found e) (decoded 32 text found (ok_is (decode_sized text 32) found is))

given_grant : (text id : List ℕ) → grant_id_in text ≡ Ok id → IsGrantId id
given_grant text id e = grant_text text id (ok_of (grant_id_of text) refusal.InvalidGrantId id e)

module _ (view : View) where
  held_itself : (id : List ℕ) (row : KeyRow) → IsKeyId id → key_held view id ≡ Some row → IsKeyThere view row
  held_itself id row is e =
      let found = there_of view.moment (key_with view.keys id) row e in
      let own : row.key ≡ id = found_key view.keys id row found in
      record { held = some_of _ row (subst (λ (key : List ℕ). key_held view key ≡ Some row) (sym own) e); id = subst IsKeyId (sym own) is }

  only_referred : (text : List ℕ) (reference : Result KeyRef NameFault) (row : KeyRow) → IsReading text view.facts.account view.facts.region reference
      → key_referred view (λ row. row) (λ name. Err refusal.InvalidArn) reference ≡ Ok row → IsKeyThere view row
  only_referred text (Ok (Key id)) row reads e =
      let found = found_of (ok_or (key_held view id) (refusal.NotFound missing.Key)) (λ (r : KeyRow). Ok r) row e in
      subst (IsKeyThere view) (ok_same found.value row found.came)
      (held_itself id found.value (reference_id text view.facts.account view.facts.region id reads) (ok_of (key_held view id) (refusal.NotFound missing.Key) found.value found.is))
  only_referred text (Ok (Alias name)) row reads e = cc
  only_referred text (Ok Elsewhere) row reads e = cc
  only_referred text (Err fault.BadArn) row reads e = cc
  only_referred text (Err fault.BadAlias) row reads e = cc
  only_referred text (Err fault.BadId) row reads e = cc
  only_referred text (Err fault.NoMemory) row reads e = cc

  key_there : (reference : List ℕ) (row : KeyRow) → only_key_of view reference ≡ Ok row → IsKeyThere view row
  unfolding only_key_of
  key_there reference row e = only_referred reference (reference_of view.facts reference) row (key_ref_reads reference view.facts.account view.facts.region) e

  -- grants

  passes : (test : GrantRow → Bool) (rows : List GrantRow) (row : GrantRow) → find test rows ≡ Some row → test row ≡ true
  passes test [] row e = cc
  passes test (first ∷ rows) row e = by_test (test first) refl (passes test rows row) e
    where
      by_test : (b : Bool) → test first ≡ b → (find test rows ≡ Some row → test row ≡ true) → cond b (Some first) (find test rows) ≡ Some row → test row ≡ true
      by_test true is later found = let same : first ≡ row = cc in ap test (sym same) ∙ is
      by_test false is later found = later found

  grant_itself : (id : List ℕ) (row : GrantRow) → IsGrantId id → grant_held view id ≡ Some row → IsGrantThere view row
  grant_itself id row is e = by_row (grant_with view.grants id) refl e
    where
      by_live : (b : Bool) (found : GrantRow) → (if b then Some found else None) ≡ Some row → found ≡ row
      by_live true found is = cc
      by_live false found is = cc

      by_row : (o : Option GrantRow) → grant_with view.grants id ≡ o → option_and_then (if_live view) o ≡ Some row → IsGrantThere view row
      by_row None found live = cc
      by_row (Some one) found live =
          let same : one ≡ row = by_live (is_live view one) one live in
          let at : grant_with view.grants id ≡ Some row = found ∙ ap (λ (r : GrantRow). Some r) same in
          let named : row.grant ≡ id = (bytes_eq-Decides row.grant id).0 (passes (has_id id) view.grants row at) in
          record { held = some_of _ row (subst (λ (g : List ℕ). grant_held view g ≡ Some row) (sym named) e); id = subst IsGrantId (sym named) is }

  of_token : (token : List ℕ) (o : Option (List ℕ)) (row : GrantRow) → grant_id_of token ≡ o → option_and_then (grant_held view) o ≡ Some row → IsGrantThere view row
  of_token token (Some id) row is e = grant_itself id row (grant_text token id is) e
  of_token token None row is e = cc

  of_its_key : (key : List ℕ) (o : Option GrantRow) (row : GrantRow) → option_and_then (if_of_key key) o ≡ Some row → o ≡ Some row
  of_its_key key None row e = cc
  of_its_key key (Some grant) row e = by_test (bytes_eq grant.key key) e
    where
      by_test : (b : Bool) → (if b then Some grant else None) ≡ Some row → Some grant ≡ Some row
      by_test true e = e
      by_test false e = cc

  of_key_and_id : (key : KeyRow) (id : List ℕ) (row : GrantRow) → IsGrantId id → grant_of view key id ≡ Ok row → IsGrantThere view row
  of_key_and_id key id row is e =
      grant_itself id row is (of_its_key key.key (grant_held view id) row (ok_of (option_and_then (if_of_key key.key) (grant_held view id)) (refusal.NotFound missing.Grant) row e))

  retired_there : (x : RetiredGrant) (row : GrantRow) → retired_of view x ≡ Ok row → IsGrantThere view row
  retired_there (retired.OfToken token) row e = of_token token (grant_id_of token) row refl (ok_of (grant_of_token view token) refusal.InvalidGrantToken row e)
  retired_there (retired.OfKey key_id id) row e =
      let key = found_of (only_key_of view key_id) (λ (k : KeyRow). and_then (grant_id_in id) (λ grant. grant_of view k grant)) row e in
      let grant = found_of (grant_id_in id) (λ (g : List ℕ). grant_of view key.value g) row key.came in
      of_key_and_id key.value grant.value row (given_grant id grant.value grant.is) grant.came

  revoked_id : (key_id id : List ℕ) (revoking : Revoking) → revoking_of view key_id id ≡ Ok revoking → IsGrantId revoking.grant
  revoked_id key_id id revoking e =
      let key = found_of (only_key_of view key_id) (λ (k : KeyRow). and_then (grant_id_in id) (λ grant. Ok (record { row = k; grant = grant }))) revoking e in
      let grant = found_of (grant_id_in id) (λ (g : List ℕ). Ok (record { row = key.value; grant = g })) revoking key.came in
      subst (λ (r : Revoking). IsGrantId r.grant) (ok_same (record { row = key.value; grant = grant.value }) revoking grant.came) (given_grant id grant.value grant.is)

-- ---- ids that are made

abbrev is_byte : ℕ → Bool
is_byte b = nat_lt b 256

low : (n : ℕ) → is_byte (n % 256) ≡ true
low n = lt-ltb (n % 256) 256 (omega arith)

place_bytes : (place : ℕ) → list_all is_byte (be48 place) ≡ true
place_bytes place =
    both_true _ _ (low (place / 256 ^ 5)) (both_true _ _ (low (place / 256 ^ 4)) (both_true _ _ (low (place / 256 ^ 3)) (both_true _ _ (low (place / 256 ^ 2)) (both_true _ _ (low (place / 256 ^ 1)) (both_true _ _ (low place) refl)))))

-- some bytes of a MAC, and a place
made_id : (n : ℕ) → n ≤ 32 → (root text : List ℕ) (place : ℕ) → IsByteList (n + 6) (take n (hmac_sha256 root text) ++ be48 place)
made_id n short root text place =
    let digest : List ℕ = hmac_sha256 root text in
    let is = seal_is_bytes root text in
    let size : length digest ≡ 32 = is.0 in (
      omega (arith, short, size, length-append (take n digest) (be48 place), length-take n digest),
      All-append (λ b. b < 256) (take n digest) (be48 place) (All-take (λ b. b < 256) n digest is.1)
          (λ k d lt. ltb-true _ 256 (AllPass-from_list_all is_byte (be48 place) (place_bytes place) k d lt)),
    )

key_made : (facts : RealmFacts) (place : ℕ) → IsKeyId (key_id_at facts place)
key_made facts place = made_id 10 (omega arith) facts.root (codes "key" ++ be32 facts.boot ++ be48 place) place

grant_made : (facts : RealmFacts) (place : ℕ) → IsGrantId (grant_id_at facts place)
grant_made facts place = made_id 26 (omega arith) facts.root (codes "grant" ++ be32 facts.boot ++ be48 place) place

-- ---- texts

proper_of : (tags : List TagValue) → improper tags ≡ None → are_proper tags ≡ true
proper_of tags e = by_test (are_proper tags) e
  where
    by_test : (b : Bool) → (if b then None else Some refusal.InvalidTags) ≡ None → b ≡ true
    by_test true e = refl
    by_test false e = cc

no_fault : (o : Option PolicyFault) (next : Option Refusal) → refused_by o next ≡ None → is_none o ≡ true
no_fault None next e = refl
no_fault (Some why) next e = cc

faultless : (view : View) (key : KeySaid) (text : List ℕ) (bypass : Bool) → policy_refused view key text bypass ≡ None → is_none (fault_in text) ≡ true
unfolding policy_refused
faultless view key text bypass e = no_fault (fault_in text) _ e

within : (least most n : ℕ) → least ≤ n → n ≤ most → is_between least most n ≡ true
within least most n low high = both_true (nat_le least n) (nat_le n most) (le-leb least n low) (le-leb n most high)

-- ---- keys

policy_fits : (view : View) (key : KeySaid) (policy : Option (List ℕ)) (bypass : Bool) → IsAccountNumber view.facts.account → refused_if_given view key policy bypass ≡ None
    → is_none (fault_in (policy_or_default view.facts.account policy)) ≡ true
policy_fits view key None bypass number e = ap (λ (o : Option PolicyFault). is_none o) (default_fits view.facts.account number)
policy_fits view key (Some text) bypass number e = faultless view key text bypass e

policy_text : (account : List ℕ) (policy : Option (List ℕ)) → IsAccountNumber account → IsIfAny IsUtf8 policy → IsUtf8 (policy_or_default account policy)
policy_text account None number text = default_utf8 account number
policy_text account (Some given_text) number text = text

module _ (view : View) (number : IsAccountNumber view.facts.account) where
  creates : (x : CreateKey) → length x.description ≤ 8192 → are_tags (Some x.tags) ≡ true → IsTextual (changing.CreateKey x) → SaysWell view (creates_key view x)
  creates x short tags texts found ready did found_is own_is e =
      let kind = found_of (served_kind (kind_asked x)) (λ (k : KeyKind). unless (unserved_key x) (unless (refused_if_given view (said_new_key view k x.tags) x.policy x.bypass_lockout_check) (Ok k))) ready own_is in
      let served = none_of (unserved_key x) _ ready kind.came in
      let given = none_of (refused_if_given view (said_new_key view kind.value x.tags) x.policy x.bypass_lockout_check) (Ok kind.value) ready (next_of (unserved_key x) _ ready kind.came) in
      let proper = (both_none (improper x.tags) _ (both_none _ _ (both_none _ _ served).1).1).0 in
      does_this view _ did (record {
        there = refl;
        formed =
            both_true (nat_le (length x.description) 8192) _ (le-leb (length x.description) 8192 short)
            (both_true (are_formed (in_order x.tags)) _ (ordered_formed x.tags tags (proper_of x.tags proper))
            (policy_fits view (said_new_key view kind.value x.tags) x.policy x.bypass_lockout_check number given));
        dated = refl;
        parts = (key_made view.facts view.place, texts.1, policy_text view.facts.account x.policy number texts.0, all_in_order IsTag x.tags texts.2);
      }) e

puts : (view : View) (key_id text : List ℕ) (bypass : Bool) → IsUtf8 text → SaysWell view (puts_policy view key_id text bypass)
puts view key_id text bypass utf8 found ready did found_is own_is e =
    let key = key_there view key_id found found_is in
    does_this view _ did (record {
      there = key.held;
      formed = faultless view (said_key found) text bypass (none_of (policy_refused view (said_key found) text bypass) (Ok tt) ready own_is);
      dated = refl;
      parts = (key.id, utf8);
    }) e

-- a waiting period, a period of rotation and a description keep to their bounds
abbrev IsBound : KeyChange → Type 0
IsBound (change.ScheduleDeletion days) = (7 ≤ days) × (days ≤ 30)
IsBound (change.RotateEvery period) = (90 ≤ period) × (period ≤ 2560)
IsBound (change.Describe text) = (length text ≤ 8192) × IsUtf8 text
IsBound _ = Unit {0}

unless_done : (view : View) (done : Bool) (this did : What) → IsWell view this → does_unless done this ≡ Some did → IsWell view did
unless_done view true this did well e = cc
unless_done view false this did well e = does_this view this did well e

date_small : (moment days : ℕ) → moment < year_10000 → days ≤ 30 → days_after moment days < 2 ^ 64
date_small moment days soon few = let top : 253405000801 ≤ 2 ^ 64 = lit≤ tt in omega (arith, soon, few, top)

changed : (view : View) (row : KeyRow) (c : KeyChange) (did : What) → view.moment < year_10000 → IsKeyThere view row → IsBound c → done_at view.moment row c ≡ Some did → IsWell view did
changed view row change.Enable did soon key bound e = unless_done view (is_enabled row.stored) (what.Enable row.key) did (record { there = key.held; formed = refl; dated = refl; parts = key.id }) e
changed view row change.Disable did soon key bound e = unless_done view (is_disabled row.stored) (what.Disable row.key) did (record { there = key.held; formed = refl; dated = refl; parts = key.id }) e
changed view row (change.ScheduleDeletion days) did soon key bound e =
    let few : days ≤ 30 = bound.1 in
    does_this view (what.Schedule row.key (days_after view.moment days) days) did (record {
      there = key.held;
      formed = within 7 30 days bound.0 bound.1;
      dated = eq-eqb (days_after view.moment days) (days_after view.moment days) refl;
      parts = (key.id, date_small view.moment days soon few, omega (arith, few));
    }) e
changed view row change.CancelDeletion did soon key bound e = does_this view (what.Cancel row.key) did (record { there = key.held; formed = refl; dated = refl; parts = key.id }) e
changed view row (change.RotateEvery period) did soon key bound e =
    let few : period ≤ 2560 = bound.1 in
    unless_done view (is_period period row.period) (what.RotationOn row.key period) did
    (record { there = key.held; formed = within 90 2560 period bound.0 bound.1; dated = refl; parts = (key.id, omega (arith, few)) }) e
changed view row change.RotateNoMore did soon key bound e = unless_done view (is_off row.period) (what.RotationOff row.key) did (record { there = key.held; formed = refl; dated = refl; parts = key.id }) e
changed view row change.RotateNow did soon key bound e = does_this view (what.RotateNow row.key) did (record { there = key.held; formed = refl; dated = refl; parts = key.id }) e
changed view row (change.Describe text) did soon key bound e =
    does_this view (what.Description row.key text) did (record { there = key.held; formed = le-leb (length text) 8192 bound.0; dated = refl; parts = (key.id, bound.1) }) e

key_changes : (view : View) (key_id : List ℕ) (c : KeyChange) → view.moment < year_10000 → IsBound c → SaysWell view (changes_key view key_id c)
key_changes view key_id c soon bound found ready did found_is own_is e = changed view found c did soon (key_there view key_id found found_is) bound e

-- ---- aliases

-- the key that the alias is to name is there, or the alias is
abbrev IsMovable : View → List ℕ → Option KeyRow → Type 0
IsMovable view name None = is_some (aliased view name) ≡ true
IsMovable view name (Some row) = IsKeyThere view row

movable : (view : View) (name : List ℕ) (c : AliasChange) (moving : Moving) → moving_of view name c ≡ Ok moving → IsMovable view name moving.new
movable view name (alias.Create key_id) moving e =
    let row = found_of (only_key_of view key_id) (λ (r : KeyRow). Ok (record { old = None; new = Some r })) moving e in
    subst (λ (m : Moving). IsMovable view name m.new) (ok_same (record { old = None; new = Some row.value }) moving row.came) (key_there view key_id row.value row.is)
movable view name (alias.Update key_id) moving e =
    let old = found_of (key_of_alias view name) (λ (o : KeyRow). and_then (only_key_of view key_id) (λ (r : KeyRow). Ok (record { old = Some o; new = Some r }))) moving e in
    let row = found_of (only_key_of view key_id) (λ (r : KeyRow). Ok (record { old = Some old.value; new = Some r })) moving old.came in
    subst (λ (m : Moving). IsMovable view name m.new) (ok_same (record { old = Some old.value; new = Some row.value }) moving row.came) (key_there view key_id row.value row.is)
movable view name alias.Delete moving e =
    let old = found_of (key_of_alias view name) (λ (o : KeyRow). Ok (record { old = Some o; new = None })) moving e in
    subst (λ (m : Moving). IsMovable view name m.new) (ok_same (record { old = Some old.value; new = None }) moving old.came)
    (some_of _ old.value (ok_of (aliased view name) (refusal.NotFound missing.Alias) old.value old.is))

moved : (view : View) (name : List ℕ) (new : Option KeyRow) → IsAliasName name → IsMovable view name new → IsWell view (done_to name new)
moved view name None is there = record { there = there; formed = refl; dated = refl; parts = is }
moved view name (Some row) is key = record { there = key.held; formed = refl; dated = refl; parts = (is, key.id) }

moves : (view : View) (name : List ℕ) (c : AliasChange) → is_alias_text name ≡ true → SaysWell view (changes_alias view name c)
moves view name c is found ready did found_is own_is e =
    does_this view (done_to name found.new) did (moved view name found.new ((alias_decides name).0 is) (movable view name c found found_is)) e

-- ---- grants

small : (c : GrantConstraint) → IsSizedConstraint c → nat_le (constraint_size (constraint_of c)) 4096 ≡ true
small given.Free sized = refl
small (given.Equals pairs) sized = le-leb _ 4096 sized
small (given.Subset pairs) sized = le-leb _ 4096 sized

context : (pairs : List Pair) → length (encoding_of pairs) ≤ 4096 → AreContext pairs → IsContextOfTexts pairs
context pairs sized are = (record { in_order = are.0; fits = omega (arith, sized) }, are.1)

constrained : (c : GrantConstraint) → IsSizedConstraint c → IsConstrained c → IsConstraint (constraint_of c)
constrained given.Free sized is = tt
constrained (given.Equals pairs) sized is = context pairs sized is
constrained (given.Subset pairs) sized is = context pairs sized is

-- a principal that a text names is one
named_by : (o : Option Principal) (text : List ℕ) (p : Principal) → MatchOption o ((q : Principal) → IsPrincipal q → text ≢ principal_text q) (λ q. IsPrincipal q × (text ≡ principal_text q)) → o ≡ Some p → IsPrincipal p
named_by None text p reads e = cc
named_by (Some q) text p reads e = let same : q ≡ p = cc in subst IsPrincipal same reads.0

principal_given : (text : List ℕ) (p : Principal) → principal_in text ≡ Ok p → IsPrincipal p
principal_given text p e = named_by (principal_of text) text p (principal_reads text) (ok_of (principal_of text) refusal.InvalidArn p e)

-- and its ARN is no longer than the text
short_by : (o : Option Principal) (text : List ℕ) (p : Principal) → MatchOption o ((q : Principal) → IsPrincipal q → text ≢ principal_text q) (λ q. IsPrincipal q × (text ≡ principal_text q)) → length text ≤ 256
    → o ≡ Some p → is_short p ≡ true
short_by None text p reads few e = cc
short_by (Some q) text p reads few e =
    let same : q ≡ p = cc in
    let size : length text ≡ length (principal_text q) = ap length reads.1 in
    subst (λ (r : Principal). is_short r ≡ true) same (le-leb (length (principal_text q)) 256 (omega (arith, few, size)))

short_given : (text : List ℕ) (p : Principal) → length text ≤ 256 → principal_in text ≡ Ok p → is_short p ≡ true
short_given text p few e = short_by (principal_of text) text p (principal_reads text) few (ok_of (principal_of text) refusal.InvalidArn p e)

short_if_given : (text : Option (List ℕ)) (p : Option Principal) → IfSome text (λ t. length t ≤ 256) → principal_if_given text ≡ Ok p → is_short_if_given p ≡ true
short_if_given None p few e = subst (λ (o : Option Principal). is_short_if_given o ≡ true) (ok_same None p e) refl
short_if_given (Some text) p few e =
    let found = found_of (principal_in text) (λ (q : Principal). Ok (Some q)) p e in
    subst (λ (o : Option Principal). is_short_if_given o ≡ true) (ok_same (Some found.value) p found.came) (short_given text found.value few found.is)

retiring_given : (text : Option (List ℕ)) (p : Option Principal) → principal_if_given text ≡ Ok p → IsIfAny IsPrincipal p
retiring_given None p e = subst (IsIfAny IsPrincipal) (ok_same None p e) tt
retiring_given (Some text) p e =
    let found = found_of (principal_in text) (λ (q : Principal). Ok (Some q)) p e in
    subst (IsIfAny IsPrincipal) (ok_same (Some found.value) p found.came) (principal_given text found.value found.is)

record IsGranting (view : View) (granting : Granting) : Type 0 where
  key : IsKeyThere view granting.row
  grantee : IsPrincipal granting.grantee
  retiring : IsIfAny IsPrincipal granting.retiring
  short : is_short granting.grantee ≡ true
  short_retiring : is_short_if_given granting.retiring ≡ true

granting_there : (view : View) (x : CreateGrant) (granting : Granting) → IsSizedGrant x → granting_of view x ≡ Ok granting → IsGranting view granting
granting_there view x granting sized e =
    let row = found_of (only_key_of view x.key_id) (λ (r : KeyRow). and_then (principal_in x.grantee) (λ grantee. and_then (principal_if_given x.retiring) (λ retiring. Ok (record { row = r; grantee = grantee; retiring = retiring })))) granting e in
    let grantee = found_of (principal_in x.grantee) (λ (g : Principal). and_then (principal_if_given x.retiring) (λ retiring. Ok (record { row = row.value; grantee = g; retiring = retiring }))) granting row.came in
    let retiring = found_of (principal_if_given x.retiring) (λ (r : Option Principal). Ok (record { row = row.value; grantee = grantee.value; retiring = r })) granting grantee.came in
    subst (IsGranting view) (ok_same (record { row = row.value; grantee = grantee.value; retiring = retiring.value }) granting retiring.came)
    (record {
      key = key_there view x.key_id row.value row.is;
      grantee = principal_given x.grantee grantee.value grantee.is;
      retiring = retiring_given x.retiring retiring.value retiring.is;
      short = short_given x.grantee grantee.value sized.0 grantee.is;
      short_retiring = short_if_given x.retiring retiring.value sized.1 retiring.is;
    })

granted : (view : View) (x : CreateGrant) (granting : Granting) (same : Option GrantRow) (did : What) → IsGranting view granting → IsSizedConstraint x.constraint → IsFormed (changing.CreateGrant x)
    → IsTextual (changing.CreateGrant x) → made_unless same view x granting ≡ Some did → IsWell view did
granted view x granting (Some grant) did is sized formed texts e = cc
granted view x granting None did is sized formed texts e =
    does_this view _ did (record {
      there = is.key.held;
      formed = both_true _ _ formed.0 (both_true _ _ (small x.constraint sized) (both_true _ _ formed.1 (both_true _ _ is.short is.short_retiring)));
      dated = refl;
      parts = (grant_made view.facts view.place, is.key.id, is.grantee, is.retiring, texts.0, constrained x.constraint sized texts.1, texts.2);
    }) e

grants : (view : View) (x : CreateGrant) → IsSizedGrant x → IsFormed (changing.CreateGrant x) → IsTextual (changing.CreateGrant x) → SaysWell view (creates_grant view x)
grants view x sized formed texts found ready did found_is own_is e = granted view x found (same_grant view x found) did (granting_there view x found sized found_is) sized.3 formed texts e

retires : (view : View) (x : RetiredGrant) (dry_run : Bool) → SaysWell view (retires_grant view x dry_run)
retires view x dry_run found ready did found_is own_is e =
    let grant = retired_there view x found found_is in
    does_this view (what.GrantDrop found.grant) did (record { there = grant.held; formed = refl; dated = refl; parts = grant.id }) e

revokes : (view : View) (key_id id : List ℕ) (dry_run : Bool) → SaysWell view (revokes_grant view key_id id dry_run)
revokes view key_id id dry_run found ready did found_is own_is e =
    let grant = of_key_and_id view found.row found.grant ready (revoked_id view key_id id found found_is) own_is in
    does_this view (what.GrantDrop ready.grant) did (record { there = grant.held; formed = refl; dated = refl; parts = grant.id }) e

-- ---- tags

tags : (view : View) (key_id : List ℕ) (more : List TagValue) → are_tags (Some more) ≡ true → All IsTag more → SaysWell view (tags_key view key_id more)
tags view key_id more formed texts found ready did found_is own_is e =
    let proper = none_of (improper more) (unless (too_many found.tags (in_order more)) (Ok (in_order more))) ready own_is in
    let counted = next_of (improper more) (unless (too_many found.tags (in_order more)) (Ok (in_order more))) ready own_is in
    let same : in_order more ≡ ready = ok_same (in_order more) ready (next_of (too_many found.tags (in_order more)) (Ok (in_order more)) ready counted) in
    let key = key_there view key_id found found_is in
    does_this view (what.Tag found.key ready) did
    (subst (λ (tags : List TagValue). IsWell view (what.Tag found.key tags)) same
    (record { there = key.held; formed = ordered_formed more formed (proper_of more proper); dated = refl; parts = (key.id, all_in_order IsTag more texts) })) e

untagged_by : (view : View) (b : Bool) (row : KeyRow) (keys : List (List ℕ)) (did : What) → IsKeyThere view row → are_tag_keys keys ≡ true → All IsUtf8 keys
    → (if b then Some (what.Untag row.key keys) else None) ≡ Some did → IsWell view did
untagged_by view true row keys did key formed texts e = does_this view (what.Untag row.key keys) did (record { there = key.held; formed = formed; dated = refl; parts = (key.id, texts) }) e
untagged_by view false row keys did key formed texts e = cc

untags : (view : View) (key_id : List ℕ) (keys : List (List ℕ)) → are_tag_keys keys ≡ true → All IsUtf8 keys → SaysWell view (untags_key view key_id keys)
untags view key_id keys formed texts found ready did found_is own_is e = untagged_by view (has_some found.tags keys) found keys did (key_there view key_id found found_is) formed texts e

-- ---- all of them

module _ (view : View) (number : IsAccountNumber view.facts.account) (soon : view.moment < year_10000) where
  change_well : (key_id : List ℕ) (c : KeyChange) → IsBound c → (o : Outcome (Option What)) (did : What) → changes view (changes_key view key_id c) ≡ Ok o → o.effect ≡ Some did → IsWell view did
  change_well key_id c bound o did = well_by view (changes_key view key_id c) (key_changes view key_id c soon bound) o did

  alias_well : (name : List ℕ) (c : AliasChange) → is_alias_text name ≡ true → (o : Outcome (Option What)) (did : What) → changes view (changes_alias view name c) ≡ Ok o → o.effect ≡ Some did → IsWell view did
  alias_well name c is o did = well_by view (changes_alias view name c) (moves view name c is) o did

  pub well : (body : Changing) (o : Outcome (Option What)) (did : What) → IsSizedChanging body → IsFormed body → IsTextual body → change_outcome view body ≡ Ok o → o.effect ≡ Some did → IsWell view did
  well (changing.CreateKey x) o did sized formed texts = well_by view (creates_key view x) (creates view number x sized.0 formed texts) o did
  well (changing.PutKeyPolicy key_id text bypass) o did sized formed texts = well_by view (puts_policy view key_id text bypass) (puts view key_id text bypass texts) o did
  well (changing.UpdateKeyDescription key_id text) o did sized formed texts = change_well key_id (change.Describe text) (sized, texts) o did
  well (changing.EnableKey key_id) o did sized formed texts = change_well key_id change.Enable tt o did
  well (changing.DisableKey key_id) o did sized formed texts = change_well key_id change.Disable tt o did
  well (changing.ScheduleKeyDeletion key_id days) o did sized formed texts = change_well key_id (change.ScheduleDeletion days) sized o did
  well (changing.CancelKeyDeletion key_id) o did sized formed texts = change_well key_id change.CancelDeletion tt o did
  well (changing.EnableKeyRotation key_id period) o did sized formed texts = change_well key_id (change.RotateEvery period) sized o did
  well (changing.DisableKeyRotation key_id) o did sized formed texts = change_well key_id change.RotateNoMore tt o did
  well (changing.RotateKeyOnDemand key_id) o did sized formed texts = change_well key_id change.RotateNow tt o did
  well (changing.CreateAlias name key_id) o did sized formed texts = alias_well name (alias.Create key_id) sized o did
  well (changing.UpdateAlias name key_id) o did sized formed texts = alias_well name (alias.Update key_id) sized o did
  well (changing.DeleteAlias name) o did sized formed texts = alias_well name alias.Delete sized o did
  well (changing.CreateGrant x) o did sized formed texts = well_by view (creates_grant view x) (grants view x sized formed texts) o did
  well (changing.RetireGrant grant dry_run) o did sized formed texts = well_by view (retires_grant view grant dry_run) (retires view grant dry_run) o did
  well (changing.RevokeGrant key_id grant_id dry_run) o did sized formed texts = well_by view (revokes_grant view key_id grant_id dry_run) (revokes view key_id grant_id dry_run) o did
  well (changing.TagResource key_id more) o did sized formed texts = well_by view (tags_key view key_id more) (tags view key_id more formed texts) o did
  well (changing.UntagResource key_id keys) o did sized formed texts = well_by view (untags_key view key_id keys) (untags view key_id keys formed texts) o did
