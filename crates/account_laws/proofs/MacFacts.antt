-- What GenerateMac answered, VerifyMac takes, and no other MAC.
use Rattle.std.proofs.Common.{◌≡◌, ◌≢◌, ℕ, List, [], ◌∷◌, ◌++◌, length, Bool, true, false, Option, Some, None, Result, Ok, Err, refl, sym, ap, ◌∙◌, if◌then◌else◌}
use Rattle.std.specs.Bool.{⊤}
use Rattle.std.specs.Str.{bytes_eq}
use Rattle.std.proofs.lemmas.Slice.Eq.{bytes_eq-Decides}
use Rattle.hmac_keys.specs.Mac.{mac_of}
use Rattle.hmac_keys.specs.declared.kinds.KeyKind.{KeyKind}
use Rattle.kms_names.specs.declared.actions.Action.TheVariants as action
use Rattle.authority.specs.Setting.{callers_policies}
use Rattle.authority.specs.Allowed.{AreIdentityPolicies}
use Rattle.kms_json.specs.declared.asks.Ask.{Ask}
use Rattle.kms_json.specs.declared.asks.AskBody.{AskBody}
use Rattle.kms_json.specs.declared.asks.AskBody.TheVariants as ask
use Rattle.kms_json.specs.declared.asks.Reading.TheVariants as reading
use Rattle.kms_json.specs.declared.asks.macs.GenerateMac.{GenerateMac}
use Rattle.kms_json.specs.declared.asks.macs.VerifyMac.{VerifyMac}
use Rattle.kms_json.specs.declared.replies.Reply.TheVariants as reply
use Rattle.kms_json.specs.declared.refusals.Refusal.{Refusal}
use Rattle.kms_json.specs.declared.refusals.Refusal.TheVariants as refusal
use Rattle.key_states.specs.declared.rows.KeyRow.{KeyRow}
use Rattle.account_rows.specs.declared.entries.Entry.{Entry}
use Rattle.account_rows.specs.History.{replay, key_with}
use Rattle.account_rows.proofs.VersionFacts.{kind_stays}
use Rattle.account_steps.specs.declared.facts.RealmFacts.{RealmFacts}
use Rattle.account_steps.specs.declared.places.Places.{Places}
use Rattle.account_steps.specs.declared.places.Uses.{Uses}
use Rattle.account_steps.specs.declared.checks.Named.{Named}
use Rattle.account_steps.specs.Places.{nothing_used}
use Rattle.account_steps.specs.Steps.{unless, or_else, unfit_mac, key_of, arn_of}
use Rattle.account_steps.specs.View.{View, view_of}
use Rattle.account_steps.specs.Authority.{on_key, denied, of_mac, MayAsk}
use Rattle.account_steps.specs.Parts.{Outcome, reads, spent, dead_token, decided_read, only_asked, unfit_one}
use Rattle.account_steps.proofs.Authorizing.{one_passes}
use Rattle.account_steps.proofs.Holding.{key_there, key_lives}
use Rattle.account_steps.proofs.Passing.{none_of, ok_same, read_passed, goes_through, stops_at_state, stops_at_own}
use Rattle.account_crypto.specs.Crypto.{mac_under, wrong_mac, generates_mac, verifies_mac}
use Rattle.account_core.specs.Operations.{read_outcome}
use Rattle.account_core.specs.Decide.{lacking, decide_body, decide}
use Rattle.account_laws.proofs.Histories.{held_laws}
use Rattle.account_laws.specs.Laws.{reply_to, exception_of, unless_excepted}
use Rattle.account_laws.specs.Macs.{HasMac, MacsAreVerifiedAgain}
use Rattle.account_laws.proofs.Serving.{serves_of}
use Rattle.account_laws.proofs.StateFacts.{by_state}

-- ---- a MAC that was answered

record IsMade (facts : RealmFacts) (history : List Entry) (message algorithm mac key : List ℕ) : Type 0 where
  row : KeyRow
  there : key_with (replay history).keys row.key ≡ Some row
  id : row.key ≡ key
  fit : unfit_mac row.kind algorithm ≡ None
  mac_is : mac ≡ mac_of facts.root key message

is_made : (facts : RealmFacts) (history : List Entry) (x : Ask) (places : Places) (message algorithm mac key : List ℕ) → HasMac facts history x places message algorithm mac key
    → IsMade facts history message algorithm mac key
is_made facts history x places message algorithm mac key has =
    let g : GenerateMac = has.fields in
    let seen = view_of facts history x places in
    let served = serves_of facts history x places (reading.GenerateMac g) (reply.Mac mac (arn_of facts key)) has.body (λ why same. cc) has.replied in
    let p = read_passed seen (generates_mac seen g) served.out served.is in
    let came : reply.Mac (mac_under seen p.found.row g.message) (arn_of facts p.found.row.key) ≡ reply.Mac mac (arn_of facts key) =
    ap (λ (o : Outcome Uses). o.reply) p.outcome_is ∙ served.reply_is in
    let made : mac_under seen p.found.row g.message ≡ mac = cc in
    let same : p.found ≡ has.named = ok_same p.found has.named (sym p.found_is ∙ has.is_named) in
    let id : p.found.row.key ≡ key = ap (λ (n : Named). n.row.key) same ∙ has.right_key in
    record {
      row = p.found.row;
      there = key_there seen g.key_id p.found p.found_is;
      id = id;
      fit = ap (unfit_mac p.found.row.kind) (sym has.by_algorithm) ∙ none_of (unfit_mac p.found.row.kind g.algorithm) (Ok tt) p.ready p.own_is;
      mac_is = sym made ∙ ap (λ (id : List ℕ). mac_of facts.root id g.message) id ∙ ap (mac_of facts.root key) has.of_message;
    }

-- ---- a MAC that is verified

module _ (view : View) (v : VerifyMac) (named : Named) where
  given : Result ⊤ Refusal
  given = unless (wrong_mac view v named.row) (Ok tt)

  -- where the step of authority is passed, the answer is the key's state's, or that of the MAC
  module _ (is : key_of view v.key_id ≡ Ok named) (allowed : denied view ((verifies_mac view v).parts.questions named) ≡ None) (live : dead_token view v.grant_tokens ≡ None)
      (fit : unfit_mac named.row.kind v.algorithm ≡ None) (no_dry_run : v.dry_run ≡ false) where
    abbrev answer : Result (Outcome Uses) Refusal
    answer = reads view (verifies_mac view v)

    right : (e : Option Refusal) → unfit_one view (record { action = action.VerifyMac; key = named.row }) ≡ e → wrong_mac view v named.row ≡ None
        → (decided_read answer view.places).reply ≡ unless_excepted e (reply.MacValid (arn_of view.facts named.row.key))
    right None state valid =
        let own : (verifies_mac view v).parts.own named ≡ Ok tt =
        ap (λ (o : Option Refusal). unless o (unless (wrong_mac view v named.row) (Ok tt))) fit ∙ ap (λ (o : Option Refusal). unless o (Ok tt)) valid in
        ap (λ (wanted : Result (Outcome Uses) Refusal). (decided_read wanted view.places).reply)
        (goes_through view (verifies_mac view v).parts (spent view.places) (λ found ready. nothing_used) named tt is allowed live (ap (λ (o : Option Refusal). or_else o None) state) own refl (ap only_asked no_dry_run))
    right (Some why) state valid =
        ap (λ (wanted : Result (Outcome Uses) Refusal). (decided_read wanted view.places).reply)
        (stops_at_state view (verifies_mac view v).parts (spent view.places) (λ found ready. nothing_used) named why is allowed live (ap (λ (o : Option Refusal). or_else o None) state))

    wrong : (e : Option Refusal) → unfit_one view (record { action = action.VerifyMac; key = named.row }) ≡ e → wrong_mac view v named.row ≡ Some refusal.InvalidMac
        → (decided_read answer view.places).reply ≡ unless_excepted e (reply.Refused refusal.InvalidMac)
    wrong None state invalid =
        let own : (verifies_mac view v).parts.own named ≡ Err refusal.InvalidMac =
        ap (λ (o : Option Refusal). unless o (unless (wrong_mac view v named.row) (Ok tt))) fit ∙ ap (λ (o : Option Refusal). unless o (Ok tt)) invalid in
        ap (λ (wanted : Result (Outcome Uses) Refusal). (decided_read wanted view.places).reply)
        (stops_at_own view (verifies_mac view v).parts (spent view.places) (λ found ready. nothing_used) named refusal.InvalidMac is allowed live (ap (λ (o : Option Refusal). or_else o None) state) own)
    wrong (Some why) state invalid =
        ap (λ (wanted : Result (Outcome Uses) Refusal). (decided_read wanted view.places).reply)
        (stops_at_state view (verifies_mac view v).parts (spent view.places) (λ found ready. nothing_used) named why is allowed live (ap (λ (o : Option Refusal). or_else o None) state))

verify_reply : (facts : RealmFacts) (history : List Entry) (y : Ask) (places : Places) (v : VerifyMac) → lacking (length history) y.after ≡ None → y.body ≡ ask.Read (reading.VerifyMac v)
    → reply_to facts history y places ≡ (decided_read (reads (view_of facts history y places) (verifies_mac (view_of facts history y places) v)) places).reply
unfolding decide
verify_reply facts history y places v enough body =
    ap (λ (b : AskBody). (decide_body facts history y b places).reply) body
    ∙ ap (λ (first : Option Refusal). (decided_read (unless first (read_outcome (view_of facts history y places) (reading.VerifyMac v))) places).reply) enough

-- whether a MAC is the one that is wanted
valid_if : (view : View) (v : VerifyMac) (row : KeyRow) → v.mac ≡ mac_under view row v.message → wrong_mac view v row ≡ None
valid_if view v row e = ap (λ (b : Bool). if b then None else Some refusal.InvalidMac) ((bytes_eq-Decides v.mac (mac_under view row v.message)).1 e)

invalid_if : (view : View) (v : VerifyMac) (row : KeyRow) → v.mac ≢ mac_under view row v.message → wrong_mac view v row ≡ Some refusal.InvalidMac
invalid_if view v row differ = by_test (bytes_eq v.mac (mac_under view row v.message)) (bytes_eq-Decides v.mac (mac_under view row v.message)).0
  where
    by_test : (b : Bool) → (b ≡ true → v.mac ≡ mac_under view row v.message) → (if b then None else Some refusal.InvalidMac) ≡ Some refusal.InvalidMac
    by_test true same = absurd (differ (same refl))
    by_test false same = refl

-- who may verify under the key is allowed it
may_verify : (view : View) (v : VerifyMac) (named : Named) (algorithm : List ℕ) → AreIdentityPolicies (callers_policies view.facts.identities view.caller) → v.algorithm ≡ algorithm
    → MayAsk view (on_key action.VerifyMac named.row (of_mac view named.row named.alias algorithm)) → denied view ((verifies_mac view v).parts.questions named) ≡ None
may_verify view v named algorithm kinds same may =
    ap (λ (a : List ℕ). denied view (on_key action.VerifyMac named.row (of_mac view named.row named.alias a) ∷ [])) same
    ∙ ap (λ (o : Option Refusal). or_else o None) ((one_passes view kinds (on_key action.VerifyMac named.row (of_mac view named.row named.alias algorithm))).1 may)

pub verified_again : MacsAreVerifiedAgain
verified_again facts later history more x y places other_places message algorithm mac key same held has kinds asks =
    let v : VerifyMac = asks.fields in
    let view : View = view_of later (history ++ more) y other_places in
    let made = is_made facts history x places message algorithm mac key has in
    let laws = held_laws later (history ++ more) held in
    let row : KeyRow = asks.named.row in
    let there : key_with view.keys row.key ≡ Some row = key_there view v.key_id asks.named asks.is_named in
    let id : row.key ≡ made.row.key = asks.right_key ∙ sym made.id in
    let kind : row.kind ≡ made.row.kind = kind_stays history more made.row.key made.row row laws.made made.there (ap (key_with view.keys) (sym id) ∙ there) id in
    let fit : unfit_mac row.kind v.algorithm ≡ None = ap (λ (k : KeyKind). unfit_mac k v.algorithm) kind ∙ ap (unfit_mac made.row.kind) asks.by_algorithm ∙ made.fit in
    let allowed = may_verify view v asks.named algorithm kinds asks.by_algorithm asks.may in
    let state = by_state view row action.VerifyMac refl row.stored refl (key_lives view v.key_id asks.named asks.is_named) in
    let arn : arn_of later row.key ≡ arn_of later key = ap (arn_of later) asks.right_key in
    let wanted : mac_under view row v.message ≡ mac =
    ap (λ (k : List ℕ). mac_of later.root k v.message) asks.right_key ∙ ap (mac_of later.root key) asks.of_message ∙ ap (λ (root : List ℕ). mac_of root key message) same.root ∙ sym made.mac_is in
    let first = verify_reply later (history ++ more) y other_places v asks.there asks.body in
    record {
      right = λ is.
          first
          ∙ right view v asks.named asks.is_named allowed asks.live_tokens fit asks.no_dry_run (exception_of (arn_of later row.key) row.stored) state (valid_if view v row (is ∙ sym wanted))
          ∙ ap (λ (a : List ℕ). unless_excepted (exception_of a row.stored) (reply.MacValid a)) arn;
      wrong = λ differ.
          first
          ∙ wrong view v asks.named asks.is_named allowed asks.live_tokens fit asks.no_dry_run (exception_of (arn_of later row.key) row.stored) state (invalid_if view v row (λ is. differ (is ∙ wanted)))
          ∙ ap (λ (a : List ℕ). unless_excepted (exception_of a row.stored) (reply.Refused refusal.InvalidMac)) arn;
    }
