-- What operations ask of authority is about what is there.
use Rattle.std.proofs.Common.{◌≡◌, ℕ, Bool, true, false, cond, List, [], ◌∷◌, ◌++◌, Option, None, Some, Result, Ok, refl, sym, ap, ◌∙◌, subst, append-nil}
use Rattle.std.specs.Prelude.{All, find, option_and_then, if◌then◌else◌}
use Rattle.std.specs.Str.{bytes_eq}
use Rattle.std.proofs.lemmas.List.Elements.{All-nil, All-cons}
use Rattle.std.proofs.lemmas.Slice.Eq.{bytes_eq-Decides}
use Rattle.kms_names.specs.declared.actions.Action.{Action}
use Rattle.kms_names.specs.declared.actions.Action.TheVariants as action
use Rattle.kms_json.specs.declared.asks.AskBody.TheVariants as ask
use Rattle.kms_json.specs.declared.asks.Changing.TheVariants as changing
use Rattle.kms_json.specs.declared.asks.Reading.TheVariants as reading
use Rattle.kms_json.specs.declared.asks.grants.RetiredGrant.{RetiredGrant}
use Rattle.kms_json.specs.declared.asks.grants.RetiredGrant.TheVariants as retired
use Rattle.kms_json.specs.declared.refusals.Refusal.{Refusal}
use Rattle.alias_map.specs.declared.rows.AliasRow.{AliasRow}
use Rattle.alias_map.specs.Aliases.{row_named}
use Rattle.authority.specs.Setting.{Particulars}
use Rattle.grant_table.specs.Grants.{has_id, grant_with}
use Rattle.grant_table.specs.declared.rows.GrantRow.{GrantRow}
use Rattle.key_states.specs.declared.rows.KeyRow.{KeyRow}
use Rattle.resource_tags.specs.declared.tags.Tag.{Tag}
use Rattle.account_rows.specs.History.{key_with}
use Rattle.account_steps.specs.declared.checks.Named.{Named}
use Rattle.account_steps.specs.Authority.{Question, on_key, on_other, retiring}
use Rattle.account_steps.specs.Parts.{grant_of_token, grant_id_of}
use Rattle.account_steps.specs.Source.{Source}
use Rattle.account_steps.specs.Steps.{and_then, unless, key_of, only_key_of, key_of_alias, key_if_given, other_key, alias_of, blob_name, held_key, source_in, source_of}
use Rattle.account_steps.specs.Given.{grant_id_in, principal_in, principal_if_given}
use Rattle.account_steps.specs.View.{View, key_held, aliased, if_live, is_live, grant_held}
use Rattle.account_steps.proofs.Holding.{there_of, key_there, only_key_there}
use Rattle.account_steps.proofs.Passing.{found_of, next_of, ok_of, ok_same}
use Rattle.account_crypto.specs.declared.data_keys.DataKeyForm.TheVariants as form
use Rattle.account_keys.specs.declared.alias_changes.Moving.{Moving}
use Rattle.account_keys.specs.Aliases.{moving_of, question_on, changes_alias}
use Rattle.account_crypto.specs.declared.re_encrypt.Turning.{Turning}
use Rattle.account_keys.specs.declared.grants.Granting.{Granting}
use Rattle.account_keys.specs.declared.grants.Revoking.{Revoking}
use Rattle.account_lists.specs.declared.lists.ListedOf.{ListedOf}
use Rattle.kms_json.specs.declared.asks.grants.CreateGrant.{CreateGrant}
use Rattle.account_keys.specs.Grants.{granting_of, grant_of, if_of_key, retired_of, revoking_of}
use Rattle.account_keys.specs.Keys.{questions_of_tags}
use Rattle.account_keys.specs.declared.alias_changes.AliasChange.{AliasChange}
use Rattle.account_keys.specs.declared.alias_changes.AliasChange.TheVariants as alias
use Rattle.account_keys.specs.declared.key_changes.KeyChange.TheVariants as change
use Rattle.account_lists.specs.Lists.{listed_of, sought_of}
use Rattle.account_lists.specs.declared.lists.AccountList.TheVariants as all
use Rattle.account_lists.specs.declared.lists.KeyList.TheVariants as of
use Rattle.account_lists.specs.declared.lists.KeyList.{KeyList}
use Rattle.account_core.specs.declared.asking.Asked.TheVariants as asked
use Rattle.account_laws.specs.Laws.{IsHeld}

-- ---- look-ups

pub passes : {X : Type 0} (test : X → Bool) (xs : List X) (x : X) → find test xs ≡ Some x → test x ≡ true
passes test [] x e = cc
passes {X} test (y ∷ xs) x e = by_test (test y) refl e (passes test xs x)
  where
    by_test : (b : Bool) → test y ≡ b → cond b (Some y) (find test xs) ≡ Some x → (find test xs ≡ Some x → test x ≡ true) → test x ≡ true
    by_test true is found later = subst (λ (z : X). test z ≡ true) (let same : y ≡ x = cc in same) is
    by_test false is found later = later found

module _ (view : View) where
  abbrev IsThere : KeyRow → Type 0
  IsThere row = key_with view.keys row.key ≡ Some row

  held_there : (id : List ℕ) (row : KeyRow) → key_held view id ≡ Some row → IsThere row
  held_there id row e =
      let found : key_with view.keys id ≡ Some row = there_of view.moment (key_with view.keys id) row e in
      let same : row.key ≡ id = (bytes_eq-Decides row.key id).0 (passes (λ (r : KeyRow). bytes_eq r.key id) view.keys row found) in
      subst (λ (k : List ℕ). key_with view.keys k ≡ Some row) (sym same) found

  aliased_there : (named : Option AliasRow) (row : KeyRow) → option_and_then (λ (r : AliasRow). key_held view r.key) named ≡ Some row → IsThere row
  aliased_there None row e = cc
  aliased_there (Some one) row e = held_there one.key row e

  grant_there : (id : List ℕ) (grant : GrantRow) → grant_held view id ≡ Some grant → grant_with view.grants grant.grant ≡ Some grant
  grant_there id grant e = by_row (grant_with view.grants id) refl e
    where
      by_live : (b : Bool) (found : GrantRow) → (if b then Some found else None) ≡ Some grant → found ≡ grant
      by_live true found is = cc
      by_live false found is = cc

      by_row : (o : Option GrantRow) → grant_with view.grants id ≡ o → option_and_then (if_live view) o ≡ Some grant → grant_with view.grants grant.grant ≡ Some grant
      by_row None found is = cc
      by_row (Some one) found is =
          let same : one ≡ grant = by_live (is_live view one) one is in
          let at : grant_with view.grants id ≡ Some grant = found ∙ ap (λ (r : GrantRow). Some r) same in
          let named : grant.grant ≡ id = (bytes_eq-Decides grant.grant id).0 (passes (has_id id) view.grants grant at) in
          subst (λ (i : List ℕ). grant_with view.grants i ≡ Some grant) (sym named) at

  -- ---- questions

  pub one : (act : Action) (row : KeyRow) (said : Particulars) → IsThere row → All (IsHeld view) (on_key act row said ∷ [])
  one act row said is = All-cons (IsHeld view) (on_key act row said) [] is (All-nil (IsHeld view))

  pub other : (act : Action) (resource : List ℕ) (said : Particulars) (more : List Question) → All (IsHeld view) more → All (IsHeld view) (on_other act resource said ∷ more)
  other act resource said more are = All-cons (IsHeld view) (on_other act resource said) more tt are

  -- ---- what operations find

  pub source_there : (act : Action) (reference : Option (List ℕ)) (blob : List ℕ) (source : Source) → source_of view act reference blob ≡ Ok source → IsThere source.row
  source_there act reference blob source e =
      let named = found_of (key_if_given view reference) (λ n. and_then (blob_name blob) (λ name. unless (other_key n name.key) (source_in view act (alias_of n) blob name))) source e in
      let name = found_of (blob_name blob) (λ name. unless (other_key named.value name.key) (source_in view act (alias_of named.value) blob name)) source named.came in
      let last = next_of (other_key named.value name.value.key) (source_in view act (alias_of named.value) blob name.value) source name.came in
      let held = found_of (held_key view act name.value.key) (λ row. Ok (record { row = row; alias = alias_of named.value; version = name.value.version; bytes = blob })) source last in
      let there : IsThere held.value = held_there name.value.key held.value (ok_of (key_held view name.value.key) _ held.value held.is) in
      subst IsThere (ap (λ (x : Source). x.row) (ok_same _ source held.came)) there

  alias_there : (name : List ℕ) (row : KeyRow) → key_of_alias view name ≡ Ok row → IsThere row
  alias_there name row e = aliased_there (row_named view.aliases name) row (ok_of (aliased view name) _ row e)

  abbrev AreThere : Moving → Type 0
  AreThere moving = (row : KeyRow) → (moving.old ≡ Some row → IsThere row) × (moving.new ≡ Some row → IsThere row)

  on_there : (act : Action) (row : Option KeyRow) → ((r : KeyRow) → row ≡ Some r → IsThere r) → (more : List Question) → All (IsHeld view) more → All (IsHeld view) (question_on view act row ++ more)
  on_there act None there more are = are
  on_there act (Some row) there more are = All-cons (IsHeld view) (on_key act row _) more (there row refl) are

  moving_there : (name : List ℕ) (change : AliasChange) (moving : Moving) → moving_of view name change ≡ Ok moving → AreThere moving
  moving_there name (alias.Create key_id) moving e =
      let row = found_of (only_key_of view key_id) (λ (r : KeyRow). Ok (record { old = None; new = Some r })) moving e in
      subst AreThere (ok_same _ moving row.came) (λ r. (λ is. cc, λ is. subst IsThere (let same : row.value ≡ r = cc in same) (only_key_there view key_id row.value row.is)))
  moving_there name (alias.Update key_id) moving e =
      let old = found_of (key_of_alias view name) (λ (o : KeyRow). and_then (only_key_of view key_id) (λ (r : KeyRow). Ok (record { old = Some o; new = Some r }))) moving e in
      let row = found_of (only_key_of view key_id) (λ (r : KeyRow). Ok (record { old = Some old.value; new = Some r })) moving old.came in
      subst AreThere (ok_same _ moving row.came)
      (λ r. (λ is. subst IsThere (let same : old.value ≡ r = cc in same) (alias_there name old.value old.is), λ is. subst IsThere (let same : row.value ≡ r = cc in same) (only_key_there view key_id row.value row.is)))
  moving_there name alias.Delete moving e =
      let old = found_of (key_of_alias view name) (λ (o : KeyRow). Ok (record { old = Some o; new = None })) moving e in
      subst AreThere (ok_same _ moving old.came) (λ r. (λ is. subst IsThere (let same : old.value ≡ r = cc in same) (alias_there name old.value old.is), λ is. cc))

  of_key_there : (key : List ℕ) (o : Option GrantRow) (grant : GrantRow) → option_and_then (if_of_key key) o ≡ Some grant → o ≡ Some grant
  of_key_there key None grant e = cc
  of_key_there key (Some one) grant e = by_test (bytes_eq one.key key) e
    where
      by_test : (b : Bool) → (if b then Some one else None) ≡ Some grant → Some one ≡ Some grant
      by_test true is = is
      by_test false is = cc

  token_there : (id : Option (List ℕ)) (grant : GrantRow) → option_and_then (grant_held view) id ≡ Some grant → grant_with view.grants grant.grant ≡ Some grant
  token_there None grant e = cc
  token_there (Some id) grant e = grant_there id grant e

  pub retired_there : (request : RetiredGrant) (grant : GrantRow) → retired_of view request ≡ Ok grant → grant_with view.grants grant.grant ≡ Some grant
  retired_there (retired.OfToken token) grant e = token_there (grant_id_of token) grant (ok_of (grant_of_token view token) _ grant e)
  retired_there (retired.OfKey key_id id) grant e =
      let row = found_of (only_key_of view key_id) (λ (r : KeyRow). and_then (grant_id_in id) (λ (g : List ℕ). grant_of view r g)) grant e in
      let named = found_of (grant_id_in id) (λ (g : List ℕ). grant_of view row.value g) grant row.came in
      grant_there named.value grant (of_key_there row.value.key (grant_held view named.value) grant (ok_of (option_and_then (if_of_key row.value.key) (grant_held view named.value)) _ grant named.came))

  -- what is found of a key comes with its row
  first_there : {A : Type 0} (reference : List ℕ) (next : KeyRow → Result A Refusal) (row_of : A → KeyRow) → ((row : KeyRow) (a : A) → next row ≡ Ok a → row_of a ≡ row) → (a : A)
      → and_then (only_key_of view reference) next ≡ Ok a → IsThere (row_of a)
  first_there reference next row_of same a e =
      let row = found_of (only_key_of view reference) next a e in
      subst IsThere (sym (same row.value a row.came)) (only_key_there view reference row.value row.is)

  pub granting_there : (request : CreateGrant) (granting : Granting) → granting_of view request ≡ Ok granting → IsThere granting.row
  granting_there request granting e =
      first_there request.key_id _ (λ (g : Granting). g.row)
      (λ row g came.
      let grantee = found_of (principal_in request.grantee) _ g came in
      let retiring = found_of (principal_if_given request.retiring) _ g grantee.came in
      sym (ap (λ (x : Granting). x.row) (ok_same _ g retiring.came))) granting e

  pub revoking_there : (key_id id : List ℕ) (revoking : Revoking) → revoking_of view key_id id ≡ Ok revoking → IsThere revoking.row
  revoking_there key_id id revoking e =
      first_there key_id _ (λ (r : Revoking). r.row) (λ row r came. let grant = found_of (grant_id_in id) _ r came in sym (ap (λ (x : Revoking). x.row) (ok_same _ r grant.came))) revoking e

  pub listed_there : (key_id : List ℕ) (what : KeyList) (listed : ListedOf) → listed_of view key_id what ≡ Ok listed → IsThere listed.row
  listed_there key_id what listed e =
      first_there key_id _ (λ (l : ListedOf). l.row) (λ row l came. let sought = found_of (sought_of what) _ l came in sym (ap (λ (x : ListedOf). x.row) (ok_same _ l sought.came))) listed e

  pub turning_there : (reference : Option (List ℕ)) (blob key_id : List ℕ) (turning : Turning)
      → and_then (source_of view action.ReEncryptFrom reference blob) (λ source. and_then (key_of view key_id) (λ to. Ok (record { source = source; to = to }))) ≡ Ok turning
      → IsThere turning.source.row × IsThere turning.to.row
  turning_there reference blob key_id turning e =
      let source = found_of (source_of view action.ReEncryptFrom reference blob) (λ (s : Source). and_then (key_of view key_id) (λ (to : Named). Ok (record { source = s; to = to }))) turning e in
      let to = found_of (key_of view key_id) (λ (to : Named). Ok (record { source = source.value; to = to })) turning source.came in
      subst (λ (t : Turning). IsThere t.source.row × IsThere t.to.row) (ok_same _ turning to.came) (source_there action.ReEncryptFrom reference blob source.value source.is, key_there view key_id to.value to.is)

  pub tags_other : (tags : List Tag) (said : Particulars) → All (IsHeld view) (questions_of_tags tags said)
  tags_other [] said = All-nil (IsHeld view)
  tags_other (tag ∷ tags) said = other action.TagResource _ said [] (All-nil (IsHeld view))

  pub moved : (name : List ℕ) (change : AliasChange) (moving : Moving) → moving_of view name change ≡ Ok moving
      → All (IsHeld view) ((changes_alias view name change).parts.questions moving)
  moved name change moving e =
      let there = moving_there name change moving e in
      other _ _ _ _
      (on_there _ moving.old (λ r is. (there r).0 is) (question_on view _ moving.new)
      (subst (All (IsHeld view)) (append-nil (question_on view _ moving.new)) (on_there _ moving.new (λ r is. (there r).1 is) [] (All-nil (IsHeld view)))))

  pub by_key : (key_id : List ℕ) (row : KeyRow) → only_key_of view key_id ≡ Ok row → IsThere row
  by_key key_id row e = only_key_there view key_id row e
