-- The laws of sealing.
use Rattle.std.proofs.Common.{◌≡◌, ℕ, ◌-◌, ◌<◌, ◌≤◌, ◌^◌, List, [], ◌∷◌, ◌++◌, length, take, drop, get_or, Bool, false, le-leb, Option, Some, None, Result, Ok, Err, refl, sym, ap, ◌∙◌, subst, if◌then◌else◌, append_assoc, arith, length-append}
use Rattle.std.specs.Prelude.{ok_or}
use Rattle.std.specs.Int.{w16, w32, to_be_bytes}
use Rattle.std.specs.List.Sorted.{IsNonDecreasingBy}
use Rattle.std.proofs.lemmas.List.Sorted.{IsNonDecreasingBy-push}
use Rattle.std.proofs.lemmas.List.{take_at, drop_at, get_or_push}
use Rattle.draw_lines.specs.Iv.{iv_at}
use Rattle.draw_lines.proofs.IvFacts.{boot_told, count_told, pass_told}
use Rattle.blob_format.specs.Blob.{form_one, form_two, blob_start, blob_text}
use Rattle.blob_format.proofs.BlobFacts.{told}
use Rattle.enc_context.specs.declared.pairs.Pair.{Pair}
use Rattle.crypto_ops.specs.Sealed.{sealed, sealed_one, opened}
use Rattle.crypto_ops.specs.Laws.{CanSeal}
use Rattle.crypto_ops.proofs.OpeningFacts.{sealed_form, sealed_one_form, opens_one, opens_two}
use Rattle.kms_names.specs.Reference.{key_arn_text}
use Rattle.kms_names.specs.declared.actions.Action.TheVariants as action
use Rattle.authority.specs.Setting.{callers_policies}
use Rattle.authority.specs.Allowed.{AreIdentityPolicies}
use Rattle.kms_json.specs.declared.asks.Ask.{Ask}
use Rattle.kms_json.specs.declared.asks.AskBody.{AskBody}
use Rattle.kms_json.specs.declared.asks.AskBody.TheVariants as ask
use Rattle.kms_json.specs.declared.asks.Reading.TheVariants as reading
use Rattle.kms_json.specs.declared.asks.cryptography.Decrypt.{Decrypt}
use Rattle.kms_json.specs.declared.replies.Reply.TheVariants as reply
use Rattle.kms_json.specs.declared.refusals.Refusal.{Refusal}
use Rattle.kms_json.specs.declared.refusals.Refusal.TheVariants as refusal
use Rattle.kms_json.specs.declared.refusals.Unsupported.TheVariants.{Recipient}
use Rattle.account_steps.specs.declared.facts.RealmFacts.{RealmFacts}
use Rattle.account_rows.specs.declared.entries.Entry.{Entry}
use Rattle.hmac_keys.specs.declared.kinds.KeyKind.{KeyKind}
use Rattle.hmac_keys.specs.declared.kinds.KeyKind.TheVariants.{Symmetric}
use Rattle.key_states.specs.declared.rows.KeyRow.{KeyRow}
use Rattle.account_steps.specs.Ids.{be48}
use Rattle.account_steps.specs.Places.{IsUpTo, nothing_used}
use Rattle.account_steps.specs.declared.places.Places.{Places}
use Rattle.account_steps.specs.declared.places.Uses.{Uses}
use Rattle.blob_format.specs.Names.{BlobName, name_in, named_in}
use Rattle.account_rows.specs.History.{replay, latest_of, key_with, IsRowOf}
use Rattle.account_steps.specs.Source.{Source}
use Rattle.account_steps.specs.View.{View, view_of, key_held}
use Rattle.account_steps.specs.Steps.{unless, and_then, or_else, unfit, unsupported, key_if_given, other_key, alias_of, blob_name, source_in, source_of, newest_version, opens, seals, arn_of}
use Rattle.account_steps.specs.Authority.{on_key, denied, MayAsk}
use Rattle.account_steps.specs.declared.checks.Named.{Named}
use Rattle.account_steps.specs.Parts.{Outcome, reads, spent, dead_token, decided_read, only_asked, unfit_one}
use Rattle.account_crypto.specs.Crypto.{decrypts}
use Rattle.account_steps.specs.Authority.{of_context}
use Rattle.account_core.specs.Operations.{read_outcome}
use Rattle.account_core.specs.Decide.{lacking, decide_body, decide}
use Rattle.account_core.specs.Fitting.{IsHeld, no_entry, appended_to, fitted_to}
use Rattle.account_laws.specs.Laws.{IsOpened, IsSameAccount, Sealing, HasSealed, reply_to, PassGoesOn, no_request, one_more, wants_memory, iv_in, exception_of, unless_excepted, SealedIsDecryptedAgain, AsksToOpen, EarlierBlobsAreDecrypted, OnePassRepeatsNoIv, PassesShareNoIv, BootsShareNoIv, TimesNeverFall, HouseIsKeptOnce, KeysDiffer, GrantsDiffer}
use Rattle.blob_format.proofs.BlobNames.{named_blob}
use Rattle.account_core.proofs.GoingOn.{decide_goes_on}
use Rattle.account_rows.specs.Changes.{HasVersions}
use Rattle.account_rows.proofs.RowFacts.{found_key, found_all, latest-push}
use Rattle.account_rows.proofs.VersionFacts.{versions_grow, kind_stays}
use Rattle.account_rows.proofs.HouseFacts.{kept_once}
use Rattle.account_core.proofs.Fitting.{id_ends, grant_ends}
use Rattle.account_laws.proofs.Histories.{held_laws, came_last, key_sizes, opened_front}
use Rattle.account_steps.proofs.Authorizing.{one_passes}
use Rattle.account_steps.proofs.Holding.{there_of, live_of}
use Rattle.account_laws.proofs.StateFacts.{by_state}
use Rattle.account_laws.proofs.LawSealings.{IsText, is_sealed}
use Rattle.account_steps.proofs.Passing.{goes_through, stops_at_state}

-- ---- the initialization vectors of a pass

goes_up : (facts : RealmFacts) (from to : Places) → PassGoesOn facts from to → IsUpTo from to to
goes_up facts from to (no_request places) = record { number = refl; words_from = omega arith; words_to = omega arith; ivs_from = omega arith; ivs_to = omega arith }
goes_up facts from to (one_more {to = before} history x on) =
    let first = goes_up facts from before on in
    let last = decide_goes_on facts history x before in
    record { number = last.number ∙ first.number; words_from = omega arith; words_to = omega arith; ivs_from = omega arith; ivs_to = omega arith }
goes_up facts from to (wants_memory {to = before} history x left on within) =
    let first = goes_up facts from before on in
    record { number = within.number ∙ first.number; words_from = omega arith; words_to = omega arith; ivs_from = omega arith; ivs_to = omega arith }

iv_size : (boot number count : ℕ) → length (iv_at boot number count) ≡ 12
unfolding iv_at
iv_size boot number count = refl

iv_told : (key : List ℕ) (version : ℕ) (iv commitment text tag : List ℕ) → length key ≡ 16 → length iv ≡ 12
    → iv_in (blob_text (form_two commitment) key version iv text tag) ≡ iv
unfolding blob_text
iv_told key version iv commitment text tag key_is iv_is =
    let start : List ℕ = blob_start 2 key version in
    let size : length start ≡ 21 = omega (arith, length-append (2 ∷ key) (to_be_bytes w32 version)) in
    let spelled : blob_text (form_two commitment) key version iv text tag ≡ start ++ (iv ++ (commitment ++ (text ++ tag))) =
    append_assoc (start ++ iv ++ commitment) text tag ∙ append_assoc (start ++ iv) commitment (text ++ tag) ∙ append_assoc start iv (commitment ++ (text ++ tag)) in
    ap (λ (bytes : List ℕ). take 12 (drop 21 bytes)) spelled ∙ ap (take 12) (drop_at start (iv ++ (commitment ++ (text ++ tag))) 21 size)
    ∙ take_at iv (commitment ++ (text ++ tag)) 12 iv_is

sealed_iv : (facts : RealmFacts) (row : KeyRow) (context : List Pair) (text : List ℕ) (places : Places) → length row.key ≡ 16
    → iv_in (seals facts row context text places) ≡ iv_at facts.boot places.number places.ivs
unfolding seals sealed
sealed_iv facts row context text places is = iv_told row.key (newest_version row) _ _ _ _ is (iv_size facts.boot places.number places.ivs)

key_size : (facts : RealmFacts) (history : List Entry) (row : KeyRow) → IsOpened facts history → key_with (replay history).keys row.key ≡ Some row → length row.key ≡ 16
key_size facts history row opened there =
    found_all (λ (r : KeyRow). length r.key ≡ 16) (replay history).keys row.key row there (key_sizes facts history opened)

-- the vector of a text that was sealed says the boot, the pass and its count
vector_is : (facts : RealmFacts) (history : List Entry) (x : Ask) (places : Places) (one : Sealing) → IsOpened facts history
    → HasSealed facts history x places one → iv_in one.blob ≡ iv_at facts.boot places.number places.ivs
vector_is facts history x places one opened sealed =
    let is = is_sealed facts history x places one sealed in
    ap iv_in is.blob ∙ sealed_iv facts is.row one.context one.plaintext places (key_size facts history is.row opened is.there)

pub no_iv_again : OnePassRepeatsNoIv
no_iv_again facts history later x y places later_places one other opened opened_later first second on same =
    let a = is_sealed facts history x places one first in
    let b = is_sealed facts later y later_places other second in
    let up = goes_up facts _ later_places on in
    let iv = vector_is facts history x places one opened first in
    let iv' = vector_is facts later y later_places other opened_later second in
    let count : places.ivs ≡ later_places.ivs = count_told facts.boot facts.boot places.number later_places.number places.ivs later_places.ivs a.few b.few (sym iv ∙ same ∙ iv') in
    omega (arith, up.ivs_from, a.ivs, count)

pub no_iv_shared : PassesShareNoIv
no_iv_shared facts history later x y places others one other opened opened_later first second fits fits_too apart same =
    let iv = vector_is facts history x places one opened first in
    let iv' = vector_is facts later y others other opened_later second in
    apart (pass_told facts.boot facts.boot places.number others.number places.ivs others.ivs fits fits_too (sym iv ∙ same ∙ iv'))

pub no_iv_over_boots : BootsShareNoIv
no_iv_over_boots facts later_facts history later x y places later_places one other opened opened_later first second fits fits_too apart same =
    let iv = vector_is facts history x places one opened first in
    let iv' = vector_is later_facts later y later_places other opened_later second in
    apart (boot_told facts.boot later_facts.boot places.number later_places.number places.ivs later_places.ivs fits fits_too (sym iv ∙ same ∙ iv'))

-- ---- what was sealed is decrypted again

-- the row of a key that sealed
sealing_versions : (facts : RealmFacts) (history : List Entry) (row : KeyRow) → IsHeld facts history → key_with (replay history).keys row.key ≡ Some row → HasVersions row
sealing_versions facts history row held there =
    let laws = held_laws facts history held in
    let is = found_all (IsRowOf (length history)) (replay history).keys row.key row there laws.rows.each in
    record { some = is.some; few = omega (arith, is.counted, laws.few) }

-- a blob says its key and the version, and opens to its text
record Opens (facts : RealmFacts) (row : KeyRow) (version : ℕ) (context : List Pair) (text blob : List ℕ) : Type 0 where
  named : named_in blob ≡ Some (record { key = row.key; version = version })
  key : (name_in blob).key ≡ row.key
  opens_to : opened facts.root blob context ≡ Some text

-- it goes by the root secret alone
opens_by_root : (facts later : RealmFacts) (row : KeyRow) (version : ℕ) (context : List Pair) (text blob : List ℕ) → later.root ≡ facts.root → Opens facts row version context text blob
    → Opens later row version context text blob
opens_by_root facts later row version context text blob same is =
    record { named = is.named; key = is.key; opens_to = ap (λ (root : List ℕ). opened root blob context) same ∙ is.opens_to }

same_arn : (facts later : RealmFacts) (key : List ℕ) → IsSameAccount facts later → arn_of later key ≡ arn_of facts key
same_arn facts later key same = ap (λ (account : List ℕ). key_arn_text account later.region key) same.account ∙ ap (λ (region : List ℕ). key_arn_text facts.account region key) same.region

sealed_opens : (facts : RealmFacts) (row : KeyRow) (context : List Pair) (text : List ℕ) (places : Places) → length row.key ≡ 16 → HasVersions row → IsText text
    → Opens facts row (newest_version row) context text (seals facts row context text places)
unfolding seals
sealed_opens facts row context text places id_is versions size =
    let iv : List ℕ = iv_at facts.boot places.number places.ivs in
    let version : ℕ = newest_version row in
    let can : CanSeal row.key version iv text = record {
      id_size = id_is;
      version_from_one = versions.some;
      version_fits = omega (arith, versions.few);
      iv_size = iv_size facts.boot places.number places.ivs;
      text_given = size.0;
      text_fits = size.1;
    } in
    let form = sealed_form facts.root row.key version iv context text can in
    record {
      named = named_blob _ _ row.key version iv _ _ form;
      key = (told _ _ row.key version iv _ _ form).key_at;
      opens_to = opens_two facts.root row.key version iv context text can;
    }

sealed_one_opens : (facts : RealmFacts) (row : KeyRow) (version : ℕ) (iv : List ℕ) (context : List Pair) (text : List ℕ) → CanSeal row.key version iv text
    → Opens facts row version context text (sealed_one facts.root row.key version iv context text)
sealed_one_opens facts row version iv context text can =
    let form = sealed_one_form facts.root row.key version iv context text can in
    record {
      named = named_blob _ form_one row.key version iv _ _ form;
      key = (told _ form_one row.key version iv _ _ form).key_at;
      opens_to = opens_one facts.root row.key version iv context text can;
    }

module _ (view : View) (row : KeyRow) (version : ℕ) (there : key_held view row.key ≡ Some row) where
  abbrev source : Option Named → List ℕ → Source
  source named blob = record { row = row; alias = alias_of named; version = version; bytes = blob }

  source_is : (reference : Option (List ℕ)) (given : Option Named) (blob : List ℕ) → key_if_given view reference ≡ Ok given → other_key given row.key ≡ None
      → named_in blob ≡ Some (record { key = row.key; version = version }) → source_of view action.Decrypt reference blob ≡ Ok (source given blob)
  source_is reference given blob is same named =
      let compared : Option Named → BlobName → Result Source Refusal = λ o name. unless (other_key o name.key) (source_in view action.Decrypt (alias_of o) blob name) in
      ap (λ (r : Result (Option Named) Refusal). and_then r (λ o. and_then (blob_name blob) (compared o))) is
      ∙ ap (λ (o : Option BlobName). and_then (ok_or o refusal.InvalidCiphertext) (compared given)) named
      ∙ ap (λ (o : Option Refusal). unless o (source_in view action.Decrypt (alias_of given) blob (record { key = row.key; version = version }))) same
      ∙ ap (λ (o : Option KeyRow). and_then (ok_or o (refusal.AccessDenied view.caller action.Decrypt (arn_of view.facts row.key))) (λ r. Ok (record { row = r; alias = alias_of given; version = version; bytes = blob }))) there

  decrypted_is : (d : Decrypt) (given : Option Named) (plaintext : List ℕ) (e : Option Refusal) → key_if_given view d.key_id ≡ Ok given → other_key given row.key ≡ None → named_in d.blob ≡ Some (record { key = row.key; version = version })
      → version ≤ newest_version row → opened view.facts.root d.blob d.context ≡ Some plaintext → denied view ((decrypts view d).parts.questions (source given d.blob)) ≡ None → dead_token view d.grant_tokens ≡ None
      → unfit_one view (record { action = action.Decrypt; key = row }) ≡ e → unfit row.kind d.algorithm ≡ None → d.recipient ≡ false → d.dry_run ≡ false
      → (decided_read (reads view (decrypts view d)) view.places).reply ≡ unless_excepted e (reply.Decrypted plaintext (arn_of view.facts row.key))
  decrypted_is d given plaintext None is right named old opens_to allowed live state fit no_recipient no_dry_run =
      let own : (decrypts view d).parts.own (source given d.blob) ≡ Ok plaintext =
      ap (λ (o : Option Refusal). unless o (unless (unsupported d.recipient Recipient) (opens view.facts (source given d.blob) d.context))) fit
      ∙ ap (λ (b : Bool). unless (unsupported b Recipient) (opens view.facts (source given d.blob) d.context)) no_recipient
      ∙ ap (λ (b : Bool). if b then ok_or (opened view.facts.root d.blob d.context) refusal.InvalidCiphertext else Err refusal.InvalidCiphertext) (le-leb version (newest_version row) old)
      ∙ ap (λ (o : Option (List ℕ)). ok_or o refusal.InvalidCiphertext) opens_to in
      ap (λ (wanted : Result (Outcome Uses) Refusal). (decided_read wanted view.places).reply)
      (goes_through view (decrypts view d).parts (spent view.places) (λ found ready. nothing_used) (source given d.blob) plaintext (source_is d.key_id given d.blob is right named) allowed live (ap (λ (o : Option Refusal). or_else o None) state) own refl (ap only_asked no_dry_run))
  decrypted_is d given plaintext (Some why) is right named old opens_to allowed live state fit no_recipient no_dry_run =
      ap (λ (wanted : Result (Outcome Uses) Refusal). (decided_read wanted view.places).reply)
      (stops_at_state view (decrypts view d).parts (spent view.places) (λ found ready. nothing_used) (source given d.blob) why (source_is d.key_id given d.blob is right named) allowed live (ap (λ (o : Option Refusal). or_else o None) state))

decrypt_reply : (facts : RealmFacts) (history : List Entry) (y : Ask) (places : Places) (d : Decrypt) → lacking (length history) y.after ≡ None → y.body ≡ ask.Read (reading.Decrypt d)
    → reply_to facts history y places ≡ (decided_read (reads (view_of facts history y places) (decrypts (view_of facts history y places) d)) places).reply
unfolding decide
decrypt_reply facts history y places d enough body =
    ap (λ (b : AskBody). (decide_body facts history y b places).reply) body
    ∙ ap (λ (first : Option Refusal). (decided_read (unless first (read_outcome (view_of facts history y places) (reading.Decrypt d))) places).reply) enough

-- who may decrypt under the key is allowed it
may_open : (view : View) (d : Decrypt) (row : KeyRow) (alias : Option (List ℕ)) (context : List Pair) → AreIdentityPolicies (callers_policies view.facts.identities view.caller) → d.context ≡ context
    → MayAsk view (on_key action.Decrypt row (of_context view row alias context)) → denied view (on_key action.Decrypt row (of_context view row alias d.context) ∷ []) ≡ None
may_open view d row alias context kinds same may =
    ap (λ (pairs : List Pair). denied view (on_key action.Decrypt row (of_context view row alias pairs) ∷ [])) same
    ∙ ap (λ (o : Option Refusal). or_else o None) ((one_passes view kinds (on_key action.Decrypt row (of_context view row alias context))).1 may)

-- the blob of a version that a key had at a history, at one that goes on from it
opened_later : (facts : RealmFacts) (history more : List Entry) (y : Ask) (places : Places) (s : Sealing) (row : KeyRow) (version : ℕ) → IsHeld facts (history ++ more)
    → key_with (replay history).keys row.key ≡ Some row → row.kind ≡ Symmetric → version ≤ newest_version row → Opens facts row version s.context s.plaintext s.blob → s.arn ≡ arn_of facts row.key
    → AreIdentityPolicies (callers_policies facts.identities y.caller) → (asks : AsksToOpen facts (history ++ more) y places s.blob s.context)
    → reply_to facts (history ++ more) y places ≡ unless_excepted (exception_of s.arn asks.held.stored) (reply.Decrypted s.plaintext s.arn)
opened_later facts history more y places s row version held_all there symmetric had made arn_is kinds asks =
    let d : Decrypt = asks.fields in
    let view : View = view_of facts (history ++ more) y places in
    let laws = held_laws facts (history ++ more) held_all in
    let later : KeyRow = asks.held in
    let found : key_with view.keys (name_in s.blob).key ≡ Some later = there_of view.moment (key_with view.keys (name_in s.blob).key) later asks.is_held in
    let named_key : later.key ≡ (name_in s.blob).key = found_key view.keys (name_in s.blob).key later found in
    let id : later.key ≡ row.key = named_key ∙ made.key in
    let held : key_held view later.key ≡ Some later = ap (key_held view) named_key ∙ asks.is_held in
    let grows : newest_version row ≤ newest_version later =
    versions_grow history more row.key row later laws.made there (ap (key_with view.keys) (sym made.key) ∙ found) id in
    let kind : later.kind ≡ Symmetric = kind_stays history more row.key row later laws.made there (ap (key_with view.keys) (sym made.key) ∙ found) id ∙ symmetric in
    let fit : unfit later.kind d.algorithm ≡ None = ap (λ (k : KeyKind). unfit k d.algorithm) kind ∙ asks.fit in
    let named : named_in d.blob ≡ Some (record { key = later.key; version = version }) =
    ap named_in asks.same_blob ∙ made.named ∙ ap (λ (key : List ℕ). Some (record { key = key; version = version })) (sym id) in
    let state = by_state view later action.Decrypt refl later.stored refl (live_of view.moment (key_with view.keys (name_in s.blob).key) later asks.is_held) in
    let answer = decrypted_is view later version held d asks.named s.plaintext (exception_of (arn_of facts later.key) later.stored)
    asks.is_named (ap (other_key asks.named) named_key ∙ asks.right_key) named (omega (arith, had, grows))
    (ap (λ (b : List ℕ). opened facts.root b d.context) asks.same_blob ∙ ap (opened facts.root s.blob) asks.same_context ∙ made.opens_to)
    (may_open view d later (alias_of asks.named) s.context kinds asks.same_context asks.may) asks.live_tokens state fit asks.no_recipient asks.no_dry_run in
    decrypt_reply facts (history ++ more) y places d asks.there asks.body
    ∙ answer
    ∙ ap (λ (arn : List ℕ). unless_excepted (exception_of arn later.stored) (reply.Decrypted s.plaintext arn)) (ap (arn_of facts) id ∙ sym arn_is)

pub decrypted_again : SealedIsDecryptedAgain
decrypted_again facts later history more x y places other_places s same opened proper sealed kinds asks =
    let is = is_sealed facts history x places s sealed in
    let before = opened_front later history more opened in
    let versions = sealing_versions later history is.row before.held is.there in
    let size = key_size later history is.row before is.there in
    let made = sealed_opens facts is.row s.context s.plaintext places size versions (is.size proper) in
    opened_later later history more y other_places s is.row (newest_version is.row) opened.held is.there is.symmetric (omega arith)
    (opens_by_root facts later is.row (newest_version is.row) s.context s.plaintext s.blob same.root
    (subst (Opens facts is.row (newest_version is.row) s.context s.plaintext) (sym is.blob) made)) (is.arn ∙ sym (same_arn facts later is.row.key same)) kinds asks

pub earlier_decrypted : EarlierBlobsAreDecrypted
earlier_decrypted facts history more y places s opened is kinds asks =
    let before = opened_front facts history more opened in
    let versions = sealing_versions facts history is.row before.held is.there in
    let can : CanSeal is.row.key is.version is.iv s.plaintext = record {
      id_size = key_size facts history is.row before is.there;
      version_from_one = is.version_from_one;
      version_fits = omega (arith, is.had, versions.few);
      iv_size = is.iv_size;
      text_given = is.text_given;
      text_fits = is.text_fits;
    } in
    opened_later facts history more y places s is.row is.version opened.held is.there is.symmetric is.had
    (subst (Opens facts is.row is.version s.context s.plaintext) (sym is.blob) (sealed_one_opens facts is.row is.version is.iv s.context s.plaintext can)) is.arn kinds asks

-- ---- times

record IsInOrder (history : List Entry) : Type 0 where
  falls_never : IsNonDecreasingBy (λ (e : Entry). e.time) history
  last : (d : Entry) → 0 < length history → (get_or history (length history - 1) d).time ≡ latest_of history

in_order_after : (before : List Entry) (entry : Entry) → latest_of before ≤ entry.time → IsInOrder before → IsInOrder (before ++ entry ∷ [])
in_order_after before entry later so_far =
    record {
      falls_never = IsNonDecreasingBy-push (λ (e : Entry). e.time) before entry so_far.falls_never (λ d some. subst (λ (n : ℕ). n ≤ entry.time) (sym (so_far.last d some)) later);
      last = λ d some.
          let at : length (before ++ entry ∷ []) - 1 ≡ length before = omega (arith, length-append before (entry ∷ [])) in
          ap (λ (n : ℕ). (get_or (before ++ entry ∷ []) n d).time) at
          ∙ ap (λ (e : Entry). e.time) (get_or_push before entry d (length before) refl) ∙ sym (latest-push before entry);
    }

in_order : (facts : RealmFacts) (history : List Entry) → IsHeld facts history → IsInOrder history
in_order facts history no_entry = record { falls_never = λ i j d up within. absurd (omega arith); last = λ d some. absurd (omega arith) }
in_order facts history (appended_to {history = before} entry held next) = in_order_after before entry (came_last facts before entry held next).later (in_order facts before held)
in_order facts history (fitted_to {history = before} entry held fits) = in_order_after before entry fits.later (in_order facts before held)

pub times_never_fall : TimesNeverFall
times_never_fall facts history held = (in_order facts history held).falls_never

-- ---- ids

place_told : (p q : ℕ) → p < 2 ^ 48 → q < 2 ^ 48 → be48 p ≡ be48 q → p ≡ q
unfolding iv_at
place_told p q p_fits q_fits same =
    let iv : iv_at 0 0 p ≡ iv_at 0 0 q = ap (λ (bytes : List ℕ). to_be_bytes w32 0 ++ to_be_bytes w16 0 ++ bytes) same in
    count_told 0 0 0 0 p q p_fits q_fits iv

pub keys_differ : KeysDiffer
keys_differ facts later p q p_fits q_fits same = place_told p q p_fits q_fits (sym (id_ends facts p) ∙ ap (drop 10) same ∙ id_ends later q)

pub grants_differ : GrantsDiffer
grants_differ facts later p q p_fits q_fits same = place_told p q p_fits q_fits (sym (grant_ends facts p) ∙ ap (drop 26) same ∙ grant_ends later q)

pub house_kept_once : HouseIsKeptOnce
house_kept_once facts history clock entry held is = kept_once history clock entry (held_laws facts history held).days is
