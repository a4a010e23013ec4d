-- What is asked of authority about a request, and what a denial makes of it.
use Rattle.std.proofs.Common.{◌≡◌, List, [], ◌∷◌, length, map, Option, Some, None, Result, Ok, Err, refl, sym, ap, ap₂, ◌∙◌}
use Rattle.kms_json.specs.declared.asks.Ask.{Ask}
use Rattle.kms_json.specs.declared.asks.AskBody.{AskBody}
use Rattle.kms_json.specs.declared.asks.AskBody.TheVariants as ask
use Rattle.kms_json.specs.declared.asks.Changing.{Changing}
use Rattle.kms_json.specs.declared.asks.Changing.TheVariants as changing
use Rattle.kms_json.specs.declared.asks.Reading.{Reading}
use Rattle.kms_json.specs.declared.asks.Reading.TheVariants as reading
use Rattle.kms_json.specs.declared.refusals.Refusal.{Refusal}
use Rattle.account_rows.specs.declared.entries.Entry.{Entry}
use Rattle.account_rows.specs.declared.entries.What.{What}
use Rattle.account_steps.specs.declared.facts.RealmFacts.{RealmFacts}
use Rattle.account_steps.specs.declared.places.Places.{Places}
use Rattle.account_steps.specs.declared.places.Uses.{Uses}
use Rattle.account_steps.specs.declared.questions.Question.{Question as Posed}
use Rattle.account_steps.specs.Places.{no_places}
use Rattle.std.specs.Prelude.{All}
use Rattle.std.proofs.lemmas.List.Elements.{All-nil, All-cons}
use Rattle.kms_names.specs.declared.actions.Action.TheVariants as action
use Rattle.account_crypto.specs.Crypto.{of_source, of_destination}
use Rattle.account_steps.proofs.Holding.{key_there}
use Rattle.account_steps.specs.Steps.{unless, and_then, or_else, key_of, only_key_of}
use Rattle.account_steps.specs.View.{View, view_of}
use Rattle.account_steps.specs.Authority.{Question, on_key, on_other, retiring, posed, may_on_key, may_on_other, denied_one, denied}
use Rattle.account_steps.specs.Parts.{Parts, ReadParts, ChangeParts, Outcome, decided_read, decided_change, outcome, reads, changes, spent, limited, questions_of}
use Rattle.account_steps.proofs.Passing.{found_of, ok_same}
use Rattle.account_crypto.specs.Crypto.{encrypts, decrypts, re_encrypts, generates_data_key, generates_random, generates_mac, verifies_mac}
use Rattle.account_crypto.specs.declared.data_keys.DataKeyForm.TheVariants as form
use Rattle.account_keys.specs.Aliases.{changes_alias}
use Rattle.account_keys.specs.Grants.{creates_grant, retires_grant, revokes_grant}
use Rattle.account_keys.specs.KeyChanges.{changes_key, gets_rotation_status}
use Rattle.account_keys.specs.Keys.{creates_key, describes_key}
use Rattle.account_keys.specs.Policies.{puts_policy, gets_policy}
use Rattle.account_keys.specs.declared.alias_changes.AliasChange.TheVariants as alias
use Rattle.account_keys.specs.declared.key_changes.KeyChange.TheVariants as change
use Rattle.account_lists.specs.Lists.{lists_in, lists_on}
use Rattle.account_lists.specs.declared.lists.AccountList.TheVariants as all
use Rattle.account_lists.specs.declared.lists.KeyList.TheVariants as of
use Rattle.account_tags.specs.Tagging.{tags_key, untags_key, lists_tags}
use Rattle.account_core.specs.Operations.{change_outcome, read_outcome, change_asked, read_asked}
use Rattle.account_core.specs.Decide.{lacking, decide_body, decide, asked_of_body, asked_by, asked_at}
use Rattle.account_laws.specs.Laws.{reply_to, IsHeld, IsAskedSo, AuthorityAsksTheseQuestions}
use Rattle.account_laws.proofs.HeldFacts.{one, other, source_there, moved, retired_there, granting_there, revoking_there, listed_there, turning_there, tags_other, by_key}

-- ---- one operation

-- the first denial is the outcome, and what isn't found refuses before
record Tells {E : Type 0} (view : View) (wanted : Result (List Posed) Refusal) (out : Result (Outcome E) Refusal) : Type 0 where
  asks : (list : List Posed) → wanted ≡ Ok list → (questions : List Question) × (list ≡ map (posed view) questions) × All (IsHeld view) questions × ((why : Refusal) → denied view questions ≡ Some why → out ≡ Err why)
  early : (why : Refusal) → wanted ≡ Err why → out ≡ Err why

refused_of : {A B : Type 0} (found : Result A Refusal) (next : A → B) (why : Refusal) → and_then found (λ (f : A). Ok (next f)) ≡ Err why → found ≡ Err why
refused_of (Ok f) next why e = cc
refused_of (Err first) next why e = cc

module _ {F G E : Type 0} (denies : F → Option Refusal) (next : F → Result G Refusal) (rest : G → Result (Outcome E) Refusal) where
  stops : (found : Result F Refusal) (f : F) (why : Refusal) → found ≡ Ok f → denies f ≡ Some why → and_then (and_then found (λ (v : F). unless (denies v) (next v))) rest ≡ Err why
  stops found f why is e =
      ap (λ (r : Result F Refusal). and_then (and_then r (λ (v : F). unless (denies v) (next v))) rest) is ∙ ap (λ (o : Option Refusal). and_then (unless o (next f)) rest) e

  lacks : (found : Result F Refusal) (why : Refusal) → found ≡ Err why → and_then (and_then found (λ (v : F). unless (denies v) (next v))) rest ≡ Err why
  lacks found why is = ap (λ (r : Result F Refusal). and_then (and_then r (λ (v : F). unless (denies v) (next v))) rest) is

-- what an operation asks is about what is there
abbrev AsksOfWhatIsThere : {F R : Type 0} → View → Parts F R → Type 0
AsksOfWhatIsThere {F} {R} view parts = (f : F) → parts.found ≡ Ok f → All (IsHeld view) (parts.questions f)

tells : {F R E : Type 0} (view : View) (parts : Parts F R) (limit : E → Option Refusal) (effect : F → R → E) → AsksOfWhatIsThere view parts → Tells view (questions_of view parts) (outcome view parts limit effect)
tells {F} view parts limit effect held = record {
  asks = λ list e.
      let found = found_of parts.found (λ (f : F). Ok (map (posed view) (parts.questions f))) list e in
      (parts.questions found.value, sym (ok_same (map (posed view) (parts.questions found.value)) list found.came), held found.value found.is, λ why no. stops (λ (f : F). denied view (parts.questions f)) _ _ parts.found found.value why found.is no);
  early = λ why e. lacks (λ (f : F). denied view (parts.questions f)) _ _ parts.found why (refused_of parts.found (λ (f : F). map (posed view) (parts.questions f)) why e);
}

read_tells : {F R : Type 0} (view : View) (op : ReadParts F R) → AsksOfWhatIsThere view op.parts → Tells view (questions_of view op.parts) (reads view op)
read_tells view op held = tells view op.parts (spent view.places) (λ found ready. op.takes) held

change_tells : {F R : Type 0} (view : View) (op : ChangeParts F R) → AsksOfWhatIsThere view op.parts → Tells view (questions_of view op.parts) (changes view op)
change_tells view op held = tells view op.parts (limited view) op.does held

-- ---- all of them

change_told : (view : View) (body : Changing) → Tells view (change_asked view body) (change_outcome view body)
change_told view (changing.CreateKey x) =
    change_tells view (creates_key view x) (λ found e. other view action.CreateKey _ _ _ (tags_other view x.tags _))
change_told view (changing.PutKeyPolicy key_id text bypass) =
    change_tells view (puts_policy view key_id text bypass) (λ row e. one view _ row _ (by_key view key_id row e))
change_told view (changing.UpdateKeyDescription key_id text) =
    change_tells view (changes_key view key_id (change.Describe text)) (λ row e. one view _ row _ (by_key view key_id row e))
change_told view (changing.EnableKey key_id) =
    change_tells view (changes_key view key_id change.Enable) (λ row e. one view _ row _ (by_key view key_id row e))
change_told view (changing.DisableKey key_id) =
    change_tells view (changes_key view key_id change.Disable) (λ row e. one view _ row _ (by_key view key_id row e))
change_told view (changing.ScheduleKeyDeletion key_id days) =
    change_tells view (changes_key view key_id (change.ScheduleDeletion days)) (λ row e. one view _ row _ (by_key view key_id row e))
change_told view (changing.CancelKeyDeletion key_id) =
    change_tells view (changes_key view key_id change.CancelDeletion) (λ row e. one view _ row _ (by_key view key_id row e))
change_told view (changing.EnableKeyRotation key_id period) =
    change_tells view (changes_key view key_id (change.RotateEvery period)) (λ row e. one view _ row _ (by_key view key_id row e))
change_told view (changing.DisableKeyRotation key_id) =
    change_tells view (changes_key view key_id change.RotateNoMore) (λ row e. one view _ row _ (by_key view key_id row e))
change_told view (changing.RotateKeyOnDemand key_id) =
    change_tells view (changes_key view key_id change.RotateNow) (λ row e. one view _ row _ (by_key view key_id row e))
change_told view (changing.CreateAlias name key_id) =
    change_tells view (changes_alias view name (alias.Create key_id)) (moved view name (alias.Create key_id))
change_told view (changing.UpdateAlias name key_id) =
    change_tells view (changes_alias view name (alias.Update key_id)) (moved view name (alias.Update key_id))
change_told view (changing.DeleteAlias name) =
    change_tells view (changes_alias view name alias.Delete) (moved view name alias.Delete)
change_told view (changing.CreateGrant x) =
    change_tells view (creates_grant view x) (λ granting e. one view _ granting.row _ (granting_there view x granting e))
change_told view (changing.RetireGrant grant dry_run) =
    change_tells view (retires_grant view grant dry_run) (λ row e. All-cons (IsHeld view) (retiring row) [] (retired_there view grant row e) (All-nil (IsHeld view)))
change_told view (changing.RevokeGrant key_id grant_id dry_run) =
    change_tells view (revokes_grant view key_id grant_id dry_run) (λ revoking e. one view _ revoking.row _ (revoking_there view key_id grant_id revoking e))
change_told view (changing.TagResource key_id tags) =
    change_tells view (tags_key view key_id tags) (λ row e. one view _ row _ (by_key view key_id row e))
change_told view (changing.UntagResource key_id keys) =
    change_tells view (untags_key view key_id keys) (λ row e. one view _ row _ (by_key view key_id row e))

read_told : (view : View) (body : Reading) → Tells view (read_asked view body) (read_outcome view body)
read_told view (reading.DescribeKey key_id tokens) =
    read_tells view (describes_key view key_id tokens) (λ named e. one view _ named.row _ (key_there view key_id named e))
read_told view (reading.ListKeys page) =
    read_tells view (lists_in view all.Keys page) (λ listed e. other view _ _ _ [] (All-nil (IsHeld view)))
read_told view (reading.ListAliases key_id page) =
    read_tells view (lists_in view (all.Aliases key_id) page) (λ listed e. other view _ _ _ [] (All-nil (IsHeld view)))
read_told view (reading.ListRetirableGrants retiree page) =
    read_tells view (lists_in view (all.RetirableGrants retiree) page) (λ listed e. other view _ _ _ [] (All-nil (IsHeld view)))
read_told view (reading.ListKeyPolicies key_id page) =
    read_tells view (lists_on view key_id of.Policies page) (λ listed e. one view _ listed.row _ (listed_there view key_id of.Policies listed e))
read_told view (reading.ListKeyRotations key_id page) =
    read_tells view (lists_on view key_id of.Rotations page) (λ listed e. one view _ listed.row _ (listed_there view key_id of.Rotations listed e))
read_told view (reading.ListGrants x) =
    read_tells view (lists_on view x.key_id (of.Grants x.grant_id x.grantee) x.page) (λ listed e. one view _ listed.row _ (listed_there view x.key_id (of.Grants x.grant_id x.grantee) listed e))
read_told view (reading.GetKeyPolicy key_id) =
    read_tells view (gets_policy view key_id) (λ row e. one view _ row _ (by_key view key_id row e))
read_told view (reading.GetKeyRotationStatus key_id) =
    read_tells view (gets_rotation_status view key_id) (λ row e. one view _ row _ (by_key view key_id row e))
read_told view (reading.Encrypt x) =
    read_tells view (encrypts view x) (λ named e. one view _ named.row _ (key_there view x.key_id named e))
read_told view (reading.Decrypt x) =
    read_tells view (decrypts view x) (λ source e. one view _ source.row _ (source_there view action.Decrypt x.key_id x.blob source e))
read_told view (reading.ReEncrypt x) =
    read_tells view (re_encrypts view x) (λ turning e.
    let both = turning_there view x.source_key_id x.blob x.key_id turning e in
    All-cons (IsHeld view) (on_key action.ReEncryptFrom turning.source.row (of_source view x turning)) (on_key action.ReEncryptTo turning.to.row (of_destination view x turning) ∷ []) both.0
    (one view action.ReEncryptTo turning.to.row (of_destination view x turning) both.1))
read_told view (reading.GenerateDataKey x recipient) =
    read_tells view (generates_data_key view x (form.Plaintext recipient)) (λ named e. one view _ named.row _ (key_there view x.key_id named e))
read_told view (reading.GenerateDataKeyWithoutPlaintext x) =
    read_tells view (generates_data_key view x form.Sealed) (λ named e. one view _ named.row _ (key_there view x.key_id named e))
read_told view (reading.GenerateRandom size custom_key_store recipient) =
    read_tells view (generates_random view size custom_key_store recipient) (λ found e. other view _ _ _ [] (All-nil (IsHeld view)))
read_told view (reading.GenerateMac x) =
    read_tells view (generates_mac view x) (λ named e. one view _ named.row _ (key_there view x.key_id named e))
read_told view (reading.VerifyMac x) =
    read_tells view (verifies_mac view x) (λ named e. one view _ named.row _ (key_there view x.key_id named e))
read_told view (reading.ListResourceTags key_id page) =
    read_tells view (lists_tags view key_id page) (λ row e. one view _ row _ (by_key view key_id row e))

-- where the pass stands doesn't matter to what is asked
same_asked : (facts : RealmFacts) (history : List Entry) (x : Ask) (p q : Places) (body : Reading) → read_asked (view_of facts history x p) body ≡ read_asked (view_of facts history x q) body
unfolding key_of only_key_of
same_asked facts history x p q (reading.DescribeKey key_id tokens) = refl
same_asked facts history x p q (reading.ListKeys page) = refl
same_asked facts history x p q (reading.ListAliases key_id page) = refl
same_asked facts history x p q (reading.ListRetirableGrants who page) = refl
same_asked facts history x p q (reading.ListKeyPolicies key_id page) = refl
same_asked facts history x p q (reading.ListKeyRotations key_id page) = refl
same_asked facts history x p q (reading.ListGrants y) = refl
same_asked facts history x p q (reading.GetKeyPolicy key_id) = refl
same_asked facts history x p q (reading.GetKeyRotationStatus key_id) = refl
same_asked facts history x p q (reading.Encrypt y) = refl
same_asked facts history x p q (reading.Decrypt y) = refl
same_asked facts history x p q (reading.ReEncrypt y) = refl
same_asked facts history x p q (reading.GenerateDataKey y recipient) = refl
same_asked facts history x p q (reading.GenerateDataKeyWithoutPlaintext y) = refl
same_asked facts history x p q (reading.GenerateRandom size custom_key_store recipient) = refl
same_asked facts history x p q (reading.GenerateMac y) = refl
same_asked facts history x p q (reading.VerifyMac y) = refl
same_asked facts history x p q (reading.ListResourceTags key_id page) = refl

-- ---- nor to how it is posed, or whether it is denied

module _ (facts : RealmFacts) (history : List Entry) (x : Ask) (p q : Places) where
  same_posed : (one : Question) → posed (view_of facts history x p) one ≡ posed (view_of facts history x q) one
  same_posed (on_key action row said) = refl
  same_posed (on_other action resource said) = refl
  same_posed (retiring grant) = refl

  all_posed : (questions : List Question) → map (posed (view_of facts history x p)) questions ≡ map (posed (view_of facts history x q)) questions
  all_posed [] = refl
  all_posed (one ∷ questions) = ap₂ (λ (first : Posed) (rest : List Posed). first ∷ rest) (same_posed one) (all_posed questions)

  same_denied : (one : Question) → denied_one (view_of facts history x p) one ≡ denied_one (view_of facts history x q) one
  unfolding may_on_key may_on_other
  same_denied (on_key action row said) = refl
  same_denied (on_other action resource said) = refl
  same_denied (retiring grant) = refl

  all_denied : (questions : List Question) → denied (view_of facts history x p) questions ≡ denied (view_of facts history x q) questions
  all_denied [] = refl
  all_denied (one ∷ questions) = ap₂ or_else (same_denied one) (all_denied questions)

-- ---- a request

module _ (facts : RealmFacts) (history : List Entry) (x : Ask) (places : Places) where
  read_reply : (body : Reading) → x.body ≡ ask.Read body → (o : Option Refusal) → lacking (length history) x.after ≡ o
      → (decided_read (unless o (read_outcome (view_of facts history x places) body)) places).reply ≡ reply_to facts history x places
  unfolding decide
  read_reply body is o there =
      ap (λ (first : Option Refusal). (decided_read (unless first (read_outcome (view_of facts history x places) body)) places).reply) (sym there)
      ∙ ap (λ (b : AskBody). (decide_body facts history x b places).reply) (sym is)

  change_reply : (body : Changing) → x.body ≡ ask.Change body → (o : Option Refusal) → lacking (length history) x.after ≡ o
      → (decided_change (view_of facts history x no_places).moment (unless o (change_outcome (view_of facts history x no_places) body)) places).reply ≡ reply_to facts history x places
  unfolding decide
  change_reply body is o there =
      ap (λ (first : Option Refusal). (decided_change (view_of facts history x no_places).moment (unless first (change_outcome (view_of facts history x no_places) body)) places).reply) (sym there)
      ∙ ap (λ (b : AskBody). (decide_body facts history x b places).reply) (sym is)

  by_read : (body : Reading) → x.body ≡ ask.Read body → (o : Option Refusal) → lacking (length history) x.after ≡ o
      → (wanted : Result (List Posed) Refusal) → read_asked (view_of facts history x no_places) body ≡ wanted → IsAskedSo facts history x places (asked_by (unless o wanted))
  by_read body is (Some why) there wanted asks = (why, sym (read_reply body is (Some why) there))
  by_read body is None there (Err why) asks =
      let out = (read_told (view_of facts history x places) body).early why (same_asked facts history x places no_places body ∙ asks) in
      (why, sym (read_reply body is None there) ∙ ap (λ (r : Result (Outcome Uses) Refusal). (decided_read r places).reply) out)
  by_read body is None there (Ok list) asks =
      let told = (read_told (view_of facts history x places) body).asks list (same_asked facts history x places no_places body ∙ asks) in
      record {
        questions = told.0;
        posed = told.1 ∙ all_posed facts history x places no_places told.0;
        held = told.2;
        stops = λ why no.
            let out = told.3 why (all_denied facts history x places no_places told.0 ∙ no) in
            sym (read_reply body is None there) ∙ ap (λ (r : Result (Outcome Uses) Refusal). (decided_read r places).reply) out;
      }

  by_change : (body : Changing) → x.body ≡ ask.Change body → (o : Option Refusal) → lacking (length history) x.after ≡ o
      → (wanted : Result (List Posed) Refusal) → change_asked (view_of facts history x no_places) body ≡ wanted → IsAskedSo facts history x places (asked_by (unless o wanted))
  by_change body is (Some why) there wanted asks = (why, sym (change_reply body is (Some why) there))
  by_change body is None there (Err why) asks =
      let out = (change_told (view_of facts history x no_places) body).early why asks in
      (why, sym (change_reply body is None there) ∙ ap (λ (r : Result (Outcome (Option What)) Refusal). (decided_change (view_of facts history x no_places).moment r places).reply) out)
  by_change body is None there (Ok list) asks =
      let told = (change_told (view_of facts history x no_places) body).asks list asks in
      record {
        questions = told.0;
        posed = told.1;
        held = told.2;
        stops = λ why no.
            let out = told.3 why no in
            sym (change_reply body is None there) ∙ ap (λ (r : Result (Outcome (Option What)) Refusal). (decided_change (view_of facts history x no_places).moment r places).reply) out;
      }

  by_body : (body : AskBody) → x.body ≡ body → IsAskedSo facts history x places (asked_by (unless (lacking (length history) x.after) (asked_of_body (view_of facts history x no_places) body)))
  by_body (ask.Read body) is = by_read body is (lacking (length history) x.after) refl (read_asked (view_of facts history x no_places) body) refl
  by_body (ask.Change body) is = by_change body is (lacking (length history) x.after) refl (change_asked (view_of facts history x no_places) body) refl

pub asks_these : AuthorityAsksTheseQuestions
unfolding asked_at
asks_these facts history x places = by_body facts history x places x.body refl
