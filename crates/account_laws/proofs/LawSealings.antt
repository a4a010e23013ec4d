-- What a served sealing says: its key, its blob, its initialization vector and where it leaves the pass.
use Rattle.std.proofs.Common.{◌≡◌, ℕ, ◌+◌, ◌<◌, ◌≤◌, ◌^◌, List, length, Bool, true, false, Option, Some, None, Result, Ok, Err, refl, sym, ap, ◌∙◌, subst, if◌then◌else◌, nat_le, nat_lt, arith}
use Rattle.std.specs.Prelude.{ok_or}
use Rattle.std.proofs.lemmas.Bool.Decides.{nat_tests}
use Rattle.draw_lines.proofs.DrawFacts.{draw_length}
use Rattle.crypto_ops.specs.Sealed.{opened}
use Rattle.crypto_ops.proofs.OpeningFacts.{opened_size}
use Rattle.kms_names.specs.declared.actions.Action.{Action}
use Rattle.kms_names.specs.declared.actions.Action.TheVariants as action
use Rattle.kms_json.specs.declared.asks.Ask.{Ask}
use Rattle.kms_json.specs.declared.asks.AskBody.TheVariants as ask
use Rattle.kms_json.specs.declared.asks.Reading.{Reading}
use Rattle.kms_json.specs.declared.asks.Reading.TheVariants as reading
use Rattle.kms_json.specs.declared.asks.cryptography.ReEncrypt.{ReEncrypt}
use Rattle.kms_json.specs.declared.replies.Reply.{Reply}
use Rattle.kms_json.specs.declared.replies.Reply.TheVariants as reply
use Rattle.kms_json.specs.declared.refusals.Refusal.{Refusal}
use Rattle.kms_json.specs.declared.refusals.Refusal.TheVariants as refusal
use Rattle.kms_json.specs.Asks.{IsSized, IsSizedReading}
use Rattle.kms_json.proofs.Sizes.{asked_sized}
use Rattle.account_steps.specs.declared.facts.RealmFacts.{RealmFacts}
use Rattle.account_rows.specs.declared.entries.Entry.{Entry}
use Rattle.hmac_keys.specs.declared.kinds.KeyKind.{KeyKind}
use Rattle.hmac_keys.specs.declared.kinds.KeyKind.TheVariants.{Symmetric, Hmac256}
use Rattle.key_states.specs.declared.rows.KeyRow.{KeyRow}
use Rattle.account_crypto.specs.declared.re_encrypt.Turning.{Turning}
use Rattle.account_steps.specs.declared.places.Uses.{Uses}
use Rattle.account_steps.specs.declared.places.Places.{Places}
use Rattle.blob_format.specs.Names.{BlobName}
use Rattle.account_rows.specs.History.{replay, key_with}
use Rattle.account_steps.specs.Source.{Source}
use Rattle.account_steps.specs.declared.checks.Named.{Named}
use Rattle.account_steps.specs.View.{View, view_of}
use Rattle.account_steps.specs.Steps.{unless, or_else, and_then, other_kind, unfit, unfit_algorithm, alias_of, key_if_given, key_of, other_key, blob_name, held_key, source_in, source_of, newest_version, opens, seals, draws, arn_of}
use Rattle.account_steps.specs.Parts.{Outcome, spent, no_more_draws, no_more_ivs, after}
use Rattle.account_crypto.specs.Crypto.{one_iv, words_and_iv, encrypts, re_encrypts, generates_data_key}
use Rattle.account_crypto.specs.declared.data_keys.DataKeyForm.TheVariants as form
use Rattle.account_core.specs.Decide.{decide, IsProper}
use Rattle.account_laws.specs.Laws.{Sealing, HasSealed, encrypted, re_encrypted, data_key, sealed_data_key}
use Rattle.account_steps.proofs.Passing.{found_of, none_of, next_of, ok_same, read_passed}
use Rattle.account_steps.proofs.Holding.{key_there}
use Rattle.account_laws.proofs.Serving.{Serves, serves_of}

-- ---- an initialization vector that is left

below_of : (b : Bool) (why : Refusal) → (if b then Some why else None) ≡ None → b ≡ false
below_of true why e = cc
below_of false why e = refl

second_of : (first second : Option Refusal) → or_else first second ≡ None → second ≡ None
second_of (Some why) second e = cc
second_of None second e = e

few_of : (places : Places) (uses : Uses) → uses.ivs ≡ 1 → spent places uses ≡ None → places.ivs < 2 ^ 48
few_of places uses one e =
    let ivs : no_more_ivs places uses.ivs ≡ None = second_of (no_more_draws places uses.words) (no_more_ivs places uses.ivs) e in
    let first : no_more_ivs places 1 ≡ None = subst (λ (n : ℕ). no_more_ivs places n ≡ None) one ivs in
    let below : nat_lt (2 ^ 48) (places.ivs + 1) ≡ false = below_of (nat_lt (2 ^ 48) (places.ivs + 1)) _ first in
    grind (arith, nat_tests, below)

-- ---- the sizes of plaintexts

-- the text has a size that can be sealed
abbrev pub IsText : List ℕ → Type 0
IsText text = (1 ≤ length text) × (length text ≤ 4096)

-- the bytes of a sealed text that was looked up are those that were given
abbrev IsSourceOf : List ℕ → Source → Type 0
IsSourceOf blob source = source.bytes ≡ blob

source_named : (view : View) (op : Action) (reference : Option (List ℕ)) (blob : List ℕ) (source : Source)
    → source_of view op reference blob ≡ Ok source → IsSourceOf blob source
source_named view op reference blob source e =
    let compared : Option Named → BlobName → Result Source Refusal = λ named name. unless (other_key named name.key) (source_in view op (alias_of named) blob name) in
    let given = found_of (key_if_given view reference) (λ (named : Option Named). and_then (blob_name blob) (compared named)) source e in
    let name = found_of (blob_name blob) (compared given.value) source given.came in
    let same = next_of (other_key given.value name.value.key) (source_in view op (alias_of given.value) blob name.value) source name.came in
    let held = found_of (held_key view op name.value.key) (λ (row : KeyRow). Ok (record { row = row; alias = alias_of given.value; version = name.value.version; bytes = blob })) source same in
    sym (ap (λ (s : Source). s.bytes) (ok_same (record { row = held.value; alias = alias_of given.value; version = name.value.version; bytes = blob }) source held.came))

draws_size : (facts : RealmFacts) (size : ℕ) (places : Places) → length (draws facts size places) ≡ size
unfolding draws
draws_size facts size places = draw_length _ places.words size

sized_draw : (facts : RealmFacts) (size : ℕ) (places : Places) (text : List ℕ) → text ≡ draws facts size places → (1 ≤ size) × (size ≤ 1024) → IsText text
sized_draw facts size places text is sized =
    let size_is : length text ≡ size = ap length is ∙ draws_size facts size places in
    (omega (arith, sized.0), omega (arith, sized.1))

-- ---- the kind of the key

-- a key that is of the kind that is wanted
symmetric_of : (kind : KeyKind) → other_kind Symmetric kind ≡ None → kind ≡ Symmetric
symmetric_of Symmetric e = refl
symmetric_of Hmac256 e = cc

first_of : (first second : Option Refusal) → or_else first second ≡ None → first ≡ None
first_of (Some why) second e = e
first_of None second e = refl

symmetric_by : (kind : KeyKind) (algorithm : Option (List ℕ)) → unfit kind algorithm ≡ None → kind ≡ Symmetric
symmetric_by kind algorithm e = symmetric_of kind (first_of (other_kind Symmetric kind) (unfit_algorithm algorithm) e)

-- ---- what was sealed, under which key, with which initialization vector

pub record IsSealed (facts : RealmFacts) (history : List Entry) (x : Ask) (places : Places) (s : Sealing) : Type 0 where
  pub row : KeyRow
  pub there : key_with (replay history).keys row.key ≡ Some row
  pub symmetric : row.kind ≡ Symmetric
  pub blob : s.blob ≡ seals facts row s.context s.plaintext places
  pub arn : s.arn ≡ arn_of facts row.key
  pub few : places.ivs < 2 ^ 48
  pub number : (decide facts history x places).places.number ≡ places.number
  pub ivs : (decide facts history x places).places.ivs ≡ places.ivs + 1
  pub size : IsProper facts x → IsText s.plaintext

opened_is : (b : Bool) (o : Option (List ℕ)) (text plaintext : List ℕ) → (if b then ok_or o refusal.InvalidCiphertext else Err refusal.InvalidCiphertext) ≡ Ok text
    → o ≡ Some plaintext → plaintext ≡ text
opened_is true (Some found) text plaintext e is = cc
opened_is true None text plaintext e is = cc
opened_is false o text plaintext e is = cc

module _ (facts : RealmFacts) (history : List Entry) (x : Ask) (places : Places) where
  abbrev view : View
  view = view_of facts history x places

  -- where a request that is served, and takes one initialization vector, leaves the pass
  record LeavesOne (uses : Uses) : Type 0 where
    few : places.ivs < 2 ^ 48
    number : (decide facts history x places).places.number ≡ places.number
    ivs : (decide facts history x places).places.ivs ≡ places.ivs + 1

  leaves_one : (body : Reading) (r : Reply) (uses : Uses) (served : Serves facts history x places body r) → uses.ivs ≡ 1 → spent places uses ≡ None
      → uses ≡ served.out.effect → LeavesOne uses
  leaves_one body r uses served one left effect =
      let at : (decide facts history x places).places ≡ after places uses = served.places_are ∙ sym (ap (after places) effect) in
      record {
        few = few_of places uses one left;
        number = ap (λ (p : Places). p.number) at;
        ivs = ap (λ (p : Places). p.ivs) at ∙ ap (λ (n : ℕ). places.ivs + n) one;
      }

  sized : (body : Reading) → x.body ≡ ask.Read body → IsProper facts x → IsSizedReading body
  sized body is proper = subst IsSized is (asked_sized proper.target proper.text x.body proper.body)

  -- the turning's keys, and what it opens to
  record HasTurned (r : ReEncrypt) (turning : Turning) : Type 0 where
    there : key_with (replay history).keys turning.to.row.key ≡ Some turning.to.row
    source : IsSourceOf r.blob turning.source

  turning_is : (r : ReEncrypt) (turning : Turning) → (re_encrypts view r).parts.found ≡ Ok turning → HasTurned r turning
  turning_is r turning e =
      let made : Source → Named → Result Turning Refusal = λ source to. Ok (record { source = source; to = to }) in
      let source = found_of (source_of view action.ReEncryptFrom r.source_key_id r.blob) (λ (s : Source). and_then (key_of view r.key_id) (made s)) turning e in
      let to = found_of (key_of view r.key_id) (made source.value) turning source.came in
      let same : ◌≡◌ {A = Turning} (record { source = source.value; to = to.value }) turning = ok_same (record { source = source.value; to = to.value }) turning to.came in
      subst (HasTurned r) same (record {
        there = key_there view r.key_id to.value to.is;
        source = source_named view action.ReEncryptFrom r.source_key_id r.blob source.value source.is;
      })

  turned : (r : ReEncrypt) (turning : Turning) (text plaintext : List ℕ) → HasTurned r turning → (re_encrypts view r).parts.own turning ≡ Ok text
      → opened facts.root r.blob r.source_context ≡ Some plaintext → plaintext ≡ text
  turned r turning text plaintext turns own opens_to =
      let second = next_of (unfit turning.source.row.kind r.source_algorithm) (unless (unfit turning.to.row.kind r.algorithm) (opens facts turning.source r.source_context)) text own in
      let third = next_of (unfit turning.to.row.kind r.algorithm) (opens facts turning.source r.source_context) text second in
      opened_is (nat_le turning.source.version (newest_version turning.source.row)) (opened facts.root turning.source.bytes r.source_context) text plaintext third
      (ap (λ (bytes : List ℕ). opened facts.root bytes r.source_context) turns.source ∙ opens_to)

  turned_kind : (r : ReEncrypt) (turning : Turning) (text : List ℕ) → (re_encrypts view r).parts.own turning ≡ Ok text → turning.to.row.kind ≡ Symmetric
  turned_kind r turning text own =
      let second = next_of (unfit turning.source.row.kind r.source_algorithm) (unless (unfit turning.to.row.kind r.algorithm) (opens facts turning.source r.source_context)) text own in
      symmetric_by turning.to.row.kind r.algorithm (none_of (unfit turning.to.row.kind r.algorithm) (opens facts turning.source r.source_context) text second)

-- ---- a request that was answered with a sealed text

pub is_sealed : (facts : RealmFacts) (history : List Entry) (x : Ask) (places : Places) (s : Sealing) → HasSealed facts history x places s → IsSealed facts history x places s
is_sealed facts history x places s (encrypted e blob arn body replied) =
    let seen = view_of facts history x places in
    let served = serves_of facts history x places (reading.Encrypt e) (reply.Encrypted blob arn) body (λ why same. cc) replied in
    let p = read_passed seen (encrypts seen e) served.out served.is in
    let came : reply.Encrypted (seals facts p.found.row e.context e.plaintext places) (arn_of facts p.found.row.key) ≡ reply.Encrypted blob arn =
    ap (λ (o : Outcome Uses). o.reply) p.outcome_is ∙ served.reply_is in
    let one = leaves_one facts history x places (reading.Encrypt e) (reply.Encrypted blob arn) one_iv served refl p.left (ap (λ (o : Outcome Uses). o.effect) p.outcome_is) in
    record {
      row = p.found.row;
      there = key_there seen e.key_id p.found p.found_is;
      symmetric = symmetric_by p.found.row.kind e.algorithm (none_of (unfit p.found.row.kind e.algorithm) (Ok tt) p.ready p.own_is);
      blob = cc;
      arn = cc;
      few = one.few;
      number = one.number;
      ivs = one.ivs;
      size = λ proper. sized facts history x places (reading.Encrypt e) body proper;
    }
is_sealed facts history x places s (re_encrypted r blob plaintext arn source_arn body opens_to replied) =
    let seen = view_of facts history x places in
    let served = serves_of facts history x places (reading.ReEncrypt r) (reply.ReEncrypted blob arn source_arn) body (λ why same. cc) replied in
    let p = read_passed seen (re_encrypts seen r) served.out served.is in
    let came : reply.ReEncrypted (seals facts p.found.to.row r.context p.ready places) (arn_of facts p.found.to.row.key) (arn_of facts p.found.source.row.key) ≡ reply.ReEncrypted blob arn source_arn =
    ap (λ (o : Outcome Uses). o.reply) p.outcome_is ∙ served.reply_is in
    let one = leaves_one facts history x places (reading.ReEncrypt r) (reply.ReEncrypted blob arn source_arn) one_iv served refl p.left (ap (λ (o : Outcome Uses). o.effect) p.outcome_is) in
    let turns = turning_is facts history x places r p.found p.found_is in
    let same = turned facts history x places r p.found p.ready plaintext turns p.own_is opens_to in
    let blob_is : blob ≡ seals facts p.found.to.row r.context p.ready places = cc in
    record {
      row = p.found.to.row;
      there = turns.there;
      symmetric = turned_kind facts history x places r p.found p.ready p.own_is;
      blob = blob_is ∙ ap (λ (t : List ℕ). seals facts p.found.to.row r.context t places) (sym same);
      arn = cc;
      few = one.few;
      number = one.number;
      ivs = one.ivs;
      size = λ proper. opened_size facts.root r.blob r.source_context plaintext opens_to;
    }
is_sealed facts history x places s (data_key key recipient blob plaintext arn body replied) =
    let seen = view_of facts history x places in
    let served = serves_of facts history x places (reading.GenerateDataKey key recipient) (reply.DataKey blob plaintext arn) body (λ why same. cc) replied in
    let p = read_passed seen (generates_data_key seen key (form.Plaintext recipient)) served.out served.is in
    let came : reply.DataKey (seals facts p.found.row key.context (draws facts key.size places) places) (draws facts key.size places) (arn_of facts p.found.row.key) ≡ reply.DataKey blob plaintext arn =
    ap (λ (o : Outcome Uses). o.reply) p.outcome_is ∙ served.reply_is in
    let one = leaves_one facts history x places (reading.GenerateDataKey key recipient) (reply.DataKey blob plaintext arn) (words_and_iv key.size) served refl p.left (ap (λ (o : Outcome Uses). o.effect) p.outcome_is) in
    let blob_is : blob ≡ seals facts p.found.row key.context (draws facts key.size places) places = cc in
    let drawn : plaintext ≡ draws facts key.size places = cc in
    record {
      row = p.found.row;
      there = key_there seen key.key_id p.found p.found_is;
      symmetric = symmetric_of p.found.row.kind (none_of (other_kind Symmetric p.found.row.kind) _ p.ready p.own_is);
      blob = blob_is ∙ ap (λ (t : List ℕ). seals facts p.found.row key.context t places) (sym drawn);
      arn = cc;
      few = one.few;
      number = one.number;
      ivs = one.ivs;
      size = λ proper. sized_draw facts key.size places plaintext drawn (sized facts history x places (reading.GenerateDataKey key recipient) body proper);
    }
is_sealed facts history x places s (sealed_data_key key blob arn body replied) =
    let seen = view_of facts history x places in
    let served = serves_of facts history x places (reading.GenerateDataKeyWithoutPlaintext key) (reply.SealedDataKey blob arn) body (λ why same. cc) replied in
    let p = read_passed seen (generates_data_key seen key form.Sealed) served.out served.is in
    let came : reply.SealedDataKey (seals facts p.found.row key.context (draws facts key.size places) places) (arn_of facts p.found.row.key) ≡ reply.SealedDataKey blob arn =
    ap (λ (o : Outcome Uses). o.reply) p.outcome_is ∙ served.reply_is in
    let one = leaves_one facts history x places (reading.GenerateDataKeyWithoutPlaintext key) (reply.SealedDataKey blob arn) (words_and_iv key.size) served refl p.left (ap (λ (o : Outcome Uses). o.effect) p.outcome_is) in
    record {
      row = p.found.row;
      there = key_there seen key.key_id p.found p.found_is;
      symmetric = symmetric_of p.found.row.kind (none_of (other_kind Symmetric p.found.row.kind) _ p.ready p.own_is);
      blob = cc;
      arn = cc;
      few = one.few;
      number = one.number;
      ivs = one.ivs;
      size = λ proper. sized_draw facts key.size places (draws facts key.size places) refl (sized facts history x places (reading.GenerateDataKeyWithoutPlaintext key) body proper);
    }
