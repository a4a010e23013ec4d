-- The boot number changes what is made, and nothing else.
use Rattle.std.proofs.Common.{◌≡◌, ℕ, List, [], ◌∷◌, length, Bool, true, false, Option, Some, None, Result, Ok, Err, refl, sym, ap, ap₂, ◌∙◌, subst, ◌⊎◌, inl, inr}
use Rattle.authority.specs.declared.identities.Identity.{Identity}
use Rattle.policy_doc.specs.declared.policies.Policy.{Policy}
use Rattle.hmac_keys.specs.declared.kinds.KeyKind.{KeyKind}
use Rattle.kms_json.specs.declared.asks.Ask.{Ask}
use Rattle.kms_json.specs.declared.asks.AskBody.{AskBody}
use Rattle.kms_json.specs.declared.asks.AskBody.TheVariants as ask
use Rattle.kms_json.specs.declared.asks.Changing.{Changing}
use Rattle.kms_json.specs.declared.asks.Changing.TheVariants as changing
use Rattle.kms_json.specs.declared.asks.Reading.{Reading}
use Rattle.kms_json.specs.declared.asks.Reading.TheVariants as reading
use Rattle.kms_json.specs.declared.asks.keys.CreateKey.{CreateKey}
use Rattle.kms_json.specs.declared.asks.grants.CreateGrant.{CreateGrant}
use Rattle.kms_json.specs.declared.refusals.Refusal.{Refusal}
use Rattle.kms_json.specs.declared.replies.Reply.{Reply}
use Rattle.kms_json.specs.declared.replies.Reply.TheVariants.{Refused, Granted}
use Rattle.account_rows.specs.declared.entries.Entry.{Entry}
use Rattle.account_rows.specs.declared.entries.What.{What}
use Rattle.account_rows.specs.declared.entries.What.TheVariants as what
use Rattle.grant_table.specs.declared.rows.GrantRow.{GrantRow}
use Rattle.account_steps.specs.declared.facts.RealmFacts.{RealmFacts}
use Rattle.account_steps.specs.declared.places.Places.{Places}
use Rattle.account_steps.specs.Ids.{grant_id_at}
use Rattle.account_steps.specs.Places.{no_places}
use Rattle.account_steps.specs.Steps.{unless, and_then, or_else, key_of, only_key_of, arn_of}
use Rattle.account_steps.specs.View.{View, view_of}
use Rattle.account_steps.specs.Authority.{Question, on_key, on_other, retiring, may_on_key, may_on_other, denied_one, denied}
use Rattle.account_steps.specs.Parts.{Use, ReadParts, ChangeParts, Decided, is_dead, dead_token, unfit_one, unfit_state, cleared, spent, only_asked, limited, reads, changes, entry_of, decided_read, decided_change}
use Rattle.account_crypto.specs.Crypto.{encrypts, decrypts, re_encrypts, generates_data_key, generates_random, generates_mac, verifies_mac}
use Rattle.account_crypto.specs.declared.data_keys.DataKeyForm.TheVariants as form
use Rattle.account_keys.specs.Aliases.{changes_alias}
use Rattle.account_keys.specs.Grants.{creates_grant, retires_grant, revokes_grant, made_unless, id_or, same_grant, constraint_of}
use Rattle.account_keys.specs.declared.grants.Granting.{Granting}
use Rattle.account_keys.specs.KeyChanges.{changes_key, gets_rotation_status}
use Rattle.account_keys.specs.Keys.{creates_key, describes_key, served_kind, kind_asked, unserved_key, refused_if_given, said_new_key}
use Rattle.account_keys.specs.Policies.{puts_policy, gets_policy, policy_refused, may_put_again}
use Rattle.account_keys.specs.declared.alias_changes.AliasChange.TheVariants as alias
use Rattle.account_keys.specs.declared.key_changes.KeyChange.TheVariants as change
use Rattle.account_lists.specs.Lists.{lists_in, lists_on}
use Rattle.account_lists.specs.declared.lists.AccountList.TheVariants as all
use Rattle.account_lists.specs.declared.lists.KeyList.TheVariants as of
use Rattle.account_tags.specs.Tagging.{tags_key, untags_key, lists_tags}
use Rattle.account_core.specs.Operations.{change_outcome, read_outcome}
use Rattle.account_core.specs.Decide.{lacking, decide_body, decide}
use Rattle.account_laws.specs.Boots.{IsAnotherRun, IsSameReply, same_reply, key_told, grant_told, text_sealed, text_sealed_again, data_key_told, data_key_sealed, bytes_drawn}
use Rattle.account_laws.specs.Boots.{IsSameDoing, same_doing, makes_key, makes_grant, IsSameEntry, neither, both, IsSameDecision, PassesAlike, RunsDecideTheSame, UncheckedPassAlike}

-- the same facts under another boot number
abbrev under : ℕ → RealmFacts → RealmFacts
under boot facts = record { account = facts.account; region = facts.region; root = facts.root; boot = boot; identities = facts.identities; ceiling = facts.ceiling }

abbrev ok_pair : {F R : Type 0} → F → R → Result (F × R) Refusal
ok_pair f r = Ok (f, r)

-- ---- the steps

module _ (facts : RealmFacts) (boot : ℕ) (history : List Entry) (x : Ask) (at : Places) where
  abbrev one : View
  one = view_of facts history x at

  abbrev other : View
  other = view_of (under boot facts) history x at

  denied_alike : (q : Question) → denied_one one q ≡ denied_one other q
  unfolding may_on_key may_on_other
  denied_alike (on_key action row said) = refl
  denied_alike (on_other action resource said) = refl
  denied_alike (retiring grant) = refl

  all_denied_alike : (questions : List Question) → denied one questions ≡ denied other questions
  all_denied_alike [] = refl
  all_denied_alike (q ∷ questions) = ap₂ or_else (denied_alike q) (all_denied_alike questions)

  dead_alike : (tokens : List (List ℕ)) → dead_token one tokens ≡ dead_token other tokens
  unfolding is_dead
  dead_alike tokens = refl

  unfit_alike : (used : Use) → unfit_one one used ≡ unfit_one other used
  unfolding unfit_one
  unfit_alike used = refl

  all_unfit_alike : (uses : List Use) → unfit_state one uses ≡ unfit_state other uses
  all_unfit_alike [] = refl
  all_unfit_alike (used ∷ uses) = ap₂ or_else (unfit_alike used) (all_unfit_alike uses)

  module _ {F R : Type 0} (found : Result F Refusal) (questions : F → List Question) (tokens : List (List ℕ)) (uses : F → List Use) (own later_own : F → Result R Refusal)
      (owns : (f : F) → own f ≡ later_own f) where
    cleared_alike : and_then found (λ f. unless (denied one (questions f)) (unless (dead_token one tokens) (unless (unfit_state one (uses f)) (and_then (own f) (λ (r : R). ok_pair f r)))))
        ≡ and_then found (λ f. unless (denied other (questions f)) (unless (dead_token other tokens) (unless (unfit_state other (uses f)) (and_then (later_own f) (λ (r : R). ok_pair f r)))))
    cleared_alike = by_found found
      where
        by_found : (it : Result F Refusal)
            → and_then it (λ f. unless (denied one (questions f)) (unless (dead_token one tokens) (unless (unfit_state one (uses f)) (and_then (own f) (λ (r : R). ok_pair f r)))))
            ≡ and_then it (λ f. unless (denied other (questions f)) (unless (dead_token other tokens) (unless (unfit_state other (uses f)) (and_then (later_own f) (λ (r : R). ok_pair f r)))))
        by_found (Err why) = refl
        by_found (Ok f) =
            ap (λ (o : Option Refusal). unless o (unless (dead_token one tokens) (unless (unfit_state one (uses f)) (and_then (own f) (λ (r : R). ok_pair f r))))) (all_denied_alike (questions f))
            ∙ ap (λ (o : Option Refusal). unless (denied other (questions f)) (unless o (unless (unfit_state one (uses f)) (and_then (own f) (λ (r : R). ok_pair f r))))) (dead_alike tokens)
            ∙ ap (λ (o : Option Refusal). unless (denied other (questions f)) (unless (dead_token other tokens) (unless o (and_then (own f) (λ (r : R). ok_pair f r))))) (all_unfit_alike (uses f))
            ∙ ap (λ (o : Result R Refusal). unless (denied other (questions f)) (unless (dead_token other tokens) (unless (unfit_state other (uses f)) (and_then o (λ (r : R). ok_pair f r))))) (owns f)

  -- what the limits leave room for
  limited_alike : (did done : Option What) → IsSameDoing facts (under boot facts) (length history) did done → limited one did ≡ limited other done
  limited_alike _ _ (same_doing did) = by_what did
    where
      by_what : (it : Option What) → limited one it ≡ limited other it
      by_what None = refl
      by_what (Some w) = refl
  limited_alike _ _ (makes_key kind description policy tags) = refl
  limited_alike _ _ (makes_grant key grantee leaving operations constraint name) = refl

-- ---- decisions

some_same : (why that : Refusal) → ◌≡◌ {A = Option Refusal} (Some why) (Some that) → why ≡ that
some_same why that e = cc

module _ (facts : RealmFacts) (boot : ℕ) (history : List Entry) (x : Ask) (places : Places) where
  abbrev later : RealmFacts
  later = under boot facts

  abbrev Alike : Decided → Decided → Type 0
  Alike decided done = IsSameDecision facts later (length history) places decided done

  abbrev SameReply : Reply → Reply → Type 0
  SameReply told said = IsSameReply facts later (length history) places told said

  abbrev SameDoing : Option What → Option What → Type 0
  SameDoing did done = IsSameDoing facts later (length history) did done

  refused_alike : (why : Refusal) → Alike (record { reply = Refused why; entry = None; places = places }) (record { reply = Refused why; entry = None; places = places })
  refused_alike why = record { reply = same_reply (Refused why); entry = neither; left = refl }

  -- ---- what reads

  module _ {F R : Type 0} (op : ReadParts F R) (said : F → R → Reply) (alike : (f : F) (r : R) → SameReply (op.parts.reply f r) (said f r)) where
    abbrev later_read : ReadParts F R
    later_read = record {
      parts = record {
        found = op.parts.found;
        questions = op.parts.questions;
        tokens = op.parts.tokens;
        uses = op.parts.uses;
        own = op.parts.own;
        dry_run = op.parts.dry_run;
        reply = said;
      };
      takes = op.takes;
    }

    read_by : (o left dry : Option Refusal) (c : Result (F × R) Refusal)
        → Alike (decided_read (unless o (and_then c (λ passed. unless left (unless dry (Ok (record { reply = op.parts.reply passed.0 passed.1; effect = op.takes })))))) places)
        (decided_read (unless o (and_then c (λ passed. unless left (unless dry (Ok (record { reply = said passed.0 passed.1; effect = op.takes })))))) places)
    read_by (Some why) left dry c = refused_alike why
    read_by None left dry (Err why) = refused_alike why
    read_by None (Some why) dry (Ok passed) = refused_alike why
    read_by None None (Some why) (Ok passed) = refused_alike why
    read_by None None None (Ok passed) = record { reply = alike passed.0 passed.1; entry = neither; left = refl }

    reads_alike : (o : Option Refusal)
        → Alike (decided_read (unless o (reads (view_of facts history x places) op)) places) (decided_read (unless o (reads (view_of later history x places) later_read)) places)
    reads_alike o =
        let same = cleared_alike facts boot history x places op.parts.found op.parts.questions op.parts.tokens op.parts.uses op.parts.own op.parts.own (λ f. refl) in
        subst (λ (c : Result (F × R) Refusal).
        Alike (decided_read (unless o (reads (view_of facts history x places) op)) places)
        (decided_read (unless o (and_then c (λ passed. unless (spent places op.takes) (unless (only_asked op.parts.dry_run) (Ok (record { reply = said passed.0 passed.1; effect = op.takes })))))) places))
        same (read_by o (spent places op.takes) (only_asked op.parts.dry_run) (cleared (view_of facts history x places) op.parts))

  -- ---- what changes

  entry_alike : (time : ℕ) (did done : Option What) → SameDoing did done → IsSameEntry facts later (length history) (entry_of time did) (entry_of time done)
  entry_alike time _ _ (same_doing did) = by_what did
    where
      by_what : (it : Option What) → IsSameEntry facts later (length history) (entry_of time it) (entry_of time it)
      by_what None = neither
      by_what (Some w) = both time (same_doing (Some w))
  entry_alike time _ _ (makes_key kind description policy tags) = both time (makes_key kind description policy tags)
  entry_alike time _ _ (makes_grant key grantee leaving operations constraint name) = both time (makes_grant key grantee leaving operations constraint name)

  module _ {F R : Type 0} (op : ChangeParts F R) (own : F → Result R Refusal) (said : F → R → Reply) (done : F → R → Option What)
      (owns : (f : F) → op.parts.own f ≡ own f) (alike : (f : F) (r : R) → SameReply (op.parts.reply f r) (said f r)) (does_alike : (f : F) (r : R) → SameDoing (op.does f r) (done f r)) where
    abbrev later_change : ChangeParts F R
    later_change = record {
      parts = record {
        found = op.parts.found;
        questions = op.parts.questions;
        tokens = op.parts.tokens;
        uses = op.parts.uses;
        own = own;
        dry_run = op.parts.dry_run;
        reply = said;
      };
      does = done;
    }

    change_by : (time : ℕ) (o dry : Option Refusal) (left rest : F → R → Option Refusal) (c : Result (F × R) Refusal) → ((f : F) (r : R) → left f r ≡ rest f r)
        → Alike (decided_change time (unless o (and_then c (λ passed. unless (left passed.0 passed.1) (unless dry (Ok (record { reply = op.parts.reply passed.0 passed.1; effect = op.does passed.0 passed.1 })))))) places)
        (decided_change time (unless o (and_then c (λ passed. unless (rest passed.0 passed.1) (unless dry (Ok (record { reply = said passed.0 passed.1; effect = done passed.0 passed.1 })))))) places)
    change_by time (Some why) dry left rest c same = refused_alike why
    change_by time None dry left rest (Err why) same = refused_alike why
    change_by time None dry left rest (Ok passed) same = by_left (left passed.0 passed.1) (rest passed.0 passed.1) dry (same passed.0 passed.1)
      where
        by_left : (l k d : Option Refusal) → l ≡ k
            → Alike (decided_change time (unless l (unless d (Ok (record { reply = op.parts.reply passed.0 passed.1; effect = op.does passed.0 passed.1 })))) places)
            (decided_change time (unless k (unless d (Ok (record { reply = said passed.0 passed.1; effect = done passed.0 passed.1 })))) places)
        by_left (Some why) (Some that) d e = subst (λ (w : Refusal). Alike (record { reply = Refused why; entry = None; places = places }) (record { reply = Refused w; entry = None; places = places })) (some_same why that e) (refused_alike why)
        by_left (Some why) None d e = cc
        by_left None (Some that) d e = cc
        by_left None None (Some why) e = refused_alike why
        by_left None None None e = record { reply = alike passed.0 passed.1; entry = entry_alike time (op.does passed.0 passed.1) (done passed.0 passed.1) (does_alike passed.0 passed.1); left = refl }

    changes_alike : (o : Option Refusal)
        → Alike (decided_change (view_of facts history x no_places).moment (unless o (changes (view_of facts history x no_places) op)) places)
        (decided_change (view_of later history x no_places).moment (unless o (changes (view_of later history x no_places) later_change)) places)
    changes_alike o =
        let before = view_of facts history x no_places in
        let behind = view_of later history x no_places in
        let same = cleared_alike facts boot history x no_places op.parts.found op.parts.questions op.parts.tokens op.parts.uses op.parts.own own owns in
        subst (λ (c : Result (F × R) Refusal).
        Alike (decided_change before.moment (unless o (changes before op)) places)
        (decided_change before.moment (unless o (and_then c (λ passed. unless (limited behind (done passed.0 passed.1)) (unless (only_asked op.parts.dry_run) (Ok (record { reply = said passed.0 passed.1; effect = done passed.0 passed.1 })))))) places))
        same
        (change_by before.moment o (only_asked op.parts.dry_run) (λ f r. limited before (op.does f r)) (λ f r. limited behind (done f r)) (cleared before op.parts)
        (λ f r. limited_alike facts boot history x no_places (op.does f r) (done f r) (does_alike f r)))

  -- ---- each operation

  abbrev now : View
  now = view_of facts history x no_places

  abbrev then : View
  then = view_of later history x no_places

  -- one that makes nothing
  plain_change : {F R : Type 0} (op : ChangeParts F R) (o : Option Refusal)
      → Alike (decided_change now.moment (unless o (changes now op)) places) (decided_change now.moment (unless o (changes then op)) places)
  plain_change op o =
      changes_alike op op.parts.own op.parts.reply op.does (λ f. refl) (λ f r. same_reply (op.parts.reply f r)) (λ f r. same_doing (op.does f r)) o

  abbrev DecidesChange : Option Refusal → Changing → Type 0
  DecidesChange o body = Alike (decided_change now.moment (unless o (change_outcome now body)) places) (decided_change now.moment (unless o (change_outcome then body)) places)

  creates : (o : Option Refusal) (request : CreateKey) → PassesAlike now then (ask.Change (changing.CreateKey request)) → DecidesChange o (changing.CreateKey request)
  creates o request passes =
      changes_alike (creates_key now request) (creates_key then request).parts.own (creates_key then request).parts.reply (creates_key then request).does
      (λ f. own_by (served_kind (kind_asked request))) (λ f kind. key_told kind now.moment request.description) (λ f kind. makes_key kind request.description _ _) o
    where
      own_by : (k : Result KeyKind Refusal)
          → and_then k (λ kind. unless (unserved_key request) (unless (refused_if_given now (said_new_key now kind request.tags) request.policy request.bypass_lockout_check) (Ok kind)))
          ≡ and_then k (λ kind. unless (unserved_key request) (unless (refused_if_given then (said_new_key then kind request.tags) request.policy request.bypass_lockout_check) (Ok kind)))
      own_by (Err why) = refl
      own_by (Ok kind) = ap (λ (r : Option Refusal). unless (unserved_key request) (unless r (Ok kind))) (passes kind)

  granted_alike : (it : Option GrantRow) → SameReply (Granted (id_or (grant_id_at facts (length history)) it)) (Granted (id_or (grant_id_at later (length history)) it))
  granted_alike None = grant_told
  granted_alike (Some grant) = same_reply (Granted grant.grant)

  made_alike : (request : CreateGrant) (granting : Granting) (it : Option GrantRow) → SameDoing (made_unless it now request granting) (made_unless it then request granting)
  made_alike request granting None = makes_grant granting.row.key granting.grantee granting.retiring request.operations (constraint_of request.constraint) request.name
  made_alike request granting (Some grant) = same_doing None

  change_alike : (o : Option Refusal) (body : Changing) → PassesAlike now then (ask.Change body) → DecidesChange o body
  unfolding key_of only_key_of policy_refused may_put_again may_on_key
  change_alike o (changing.CreateKey request) passes = creates o request passes
  change_alike o (changing.PutKeyPolicy key_id text bypass) passes = plain_change (puts_policy now key_id text bypass) o
  change_alike o (changing.UpdateKeyDescription key_id text) passes = plain_change (changes_key now key_id (change.Describe text)) o
  change_alike o (changing.EnableKey key_id) passes = plain_change (changes_key now key_id change.Enable) o
  change_alike o (changing.DisableKey key_id) passes = plain_change (changes_key now key_id change.Disable) o
  change_alike o (changing.ScheduleKeyDeletion key_id days) passes = plain_change (changes_key now key_id (change.ScheduleDeletion days)) o
  change_alike o (changing.CancelKeyDeletion key_id) passes = plain_change (changes_key now key_id change.CancelDeletion) o
  change_alike o (changing.EnableKeyRotation key_id period) passes = plain_change (changes_key now key_id (change.RotateEvery period)) o
  change_alike o (changing.DisableKeyRotation key_id) passes = plain_change (changes_key now key_id change.RotateNoMore) o
  change_alike o (changing.RotateKeyOnDemand key_id) passes = plain_change (changes_key now key_id change.RotateNow) o
  change_alike o (changing.CreateAlias name key_id) passes = plain_change (changes_alias now name (alias.Create key_id)) o
  change_alike o (changing.UpdateAlias name key_id) passes = plain_change (changes_alias now name (alias.Update key_id)) o
  change_alike o (changing.DeleteAlias name) passes = plain_change (changes_alias now name alias.Delete) o
  change_alike o (changing.CreateGrant request) passes =
      changes_alike (creates_grant now request) (creates_grant then request).parts.own (creates_grant then request).parts.reply (creates_grant then request).does
      (λ f. refl) (λ granting r. granted_alike (same_grant now request granting)) (λ granting r. made_alike request granting (same_grant now request granting)) o
  change_alike o (changing.RetireGrant grant dry_run) passes = plain_change (retires_grant now grant dry_run) o
  change_alike o (changing.RevokeGrant key_id grant_id dry_run) passes = plain_change (revokes_grant now key_id grant_id dry_run) o
  change_alike o (changing.TagResource key_id tags) passes = plain_change (tags_key now key_id tags) o
  change_alike o (changing.UntagResource key_id keys) passes = plain_change (untags_key now key_id keys) o

  -- one that makes nothing
  abbrev seen : View
  seen = view_of facts history x places

  abbrev again : View
  again = view_of later history x places

  plain_read : {F R : Type 0} (op : ReadParts F R) (o : Option Refusal)
      → Alike (decided_read (unless o (reads seen op)) places) (decided_read (unless o (reads again op)) places)
  plain_read op o = reads_alike op op.parts.reply (λ f r. same_reply (op.parts.reply f r)) o

  read_alike : (o : Option Refusal) (body : Reading) → Alike (decided_read (unless o (read_outcome seen body)) places) (decided_read (unless o (read_outcome again body)) places)
  unfolding key_of only_key_of
  read_alike o (reading.DescribeKey key_id tokens) = plain_read (describes_key seen key_id tokens) o
  read_alike o (reading.ListKeys page) = plain_read (lists_in seen all.Keys page) o
  read_alike o (reading.ListAliases key_id page) = plain_read (lists_in seen (all.Aliases key_id) page) o
  read_alike o (reading.ListRetirableGrants retiree page) = plain_read (lists_in seen (all.RetirableGrants retiree) page) o
  read_alike o (reading.ListKeyPolicies key_id page) = plain_read (lists_on seen key_id of.Policies page) o
  read_alike o (reading.ListKeyRotations key_id page) = plain_read (lists_on seen key_id of.Rotations page) o
  read_alike o (reading.ListGrants y) = plain_read (lists_on seen y.key_id (of.Grants y.grant_id y.grantee) y.page) o
  read_alike o (reading.GetKeyPolicy key_id) = plain_read (gets_policy seen key_id) o
  read_alike o (reading.GetKeyRotationStatus key_id) = plain_read (gets_rotation_status seen key_id) o
  read_alike o (reading.Encrypt y) =
      reads_alike (encrypts seen y) (encrypts again y).parts.reply (λ named r. text_sealed named.row y.context y.plaintext (arn_of facts named.row.key)) o
  read_alike o (reading.Decrypt y) = plain_read (decrypts seen y) o
  read_alike o (reading.ReEncrypt y) =
      reads_alike (re_encrypts seen y) (re_encrypts again y).parts.reply
      (λ turning text. text_sealed_again turning.to.row y.context text (arn_of facts turning.to.row.key) (arn_of facts turning.source.row.key)) o
  read_alike o (reading.GenerateDataKey y recipient) =
      reads_alike (generates_data_key seen y (form.Plaintext recipient)) (generates_data_key again y (form.Plaintext recipient)).parts.reply
      (λ named r. data_key_told named.row y.context y.size (arn_of facts named.row.key)) o
  read_alike o (reading.GenerateDataKeyWithoutPlaintext y) =
      reads_alike (generates_data_key seen y form.Sealed) (generates_data_key again y form.Sealed).parts.reply
      (λ named r. data_key_sealed named.row y.context y.size (arn_of facts named.row.key)) o
  read_alike o (reading.GenerateRandom size custom_key_store recipient) =
      reads_alike (generates_random seen size custom_key_store recipient) (generates_random again size custom_key_store recipient).parts.reply (λ f r. bytes_drawn size) o
  read_alike o (reading.GenerateMac y) = plain_read (generates_mac seen y) o
  read_alike o (reading.VerifyMac y) = plain_read (verifies_mac seen y) o
  read_alike o (reading.ListResourceTags key_id page) = plain_read (lists_tags seen key_id page) o

  body_alike : (body : AskBody) → PassesAlike now then body → Alike (decide_body facts history x body places) (decide_body later history x body places)
  body_alike (ask.Read body) passes = read_alike (lacking (length history) x.after) body
  body_alike (ask.Change body) passes = change_alike (lacking (length history) x.after) body passes

  decides_alike : PassesAlike now then x.body → Alike (decide facts history x places) (decide later history x places)
  unfolding decide
  decides_alike passes = body_alike x.body passes

-- ---- another run

abbrev with_all : RealmFacts → List ℕ → List ℕ → List ℕ → List Identity → List Policy → RealmFacts
with_all last account region root identities ceiling = record { account = account; region = region; root = root; boot = last.boot; identities = identities; ceiling = ceiling }

later_is : (facts last : RealmFacts) → IsAnotherRun facts last → under last.boot facts ≡ last
later_is facts last is =
    ap (λ account. with_all last account facts.region facts.root facts.identities facts.ceiling) (sym is.account)
    ∙ ap (λ region. with_all last last.account region facts.root facts.identities facts.ceiling) (sym is.region)
    ∙ ap (λ root. with_all last last.account last.region root facts.identities facts.ceiling) (sym is.root)
    ∙ ap (λ identities. with_all last last.account last.region last.root identities facts.ceiling) (sym is.identities)
    ∙ ap (λ ceiling. with_all last last.account last.region last.root last.identities ceiling) (sym is.ceiling)

pub runs_decide_the_same : RunsDecideTheSame
runs_decide_the_same facts last history x places is passes =
    let same = later_is facts last is in
    subst (λ (f : RealmFacts). IsSameDecision facts f (length history) places (decide facts history x places) (decide f history x places)) same
    (decides_alike facts last.boot history x places (subst (λ (f : RealmFacts). PassesAlike (view_of facts history x no_places) (view_of f history x no_places) x.body) (sym same) passes))

-- ---- no check

module _ (first second : View) (request : CreateKey) (kind : KeyKind) where
  refused_alike_at : (policy : Option (List ℕ)) (bypass : Bool) → (policy ≡ None) ⊎ (bypass ≡ true)
      → refused_if_given first (said_new_key first kind request.tags) policy bypass ≡ refused_if_given second (said_new_key second kind request.tags) policy bypass
  unfolding policy_refused
  refused_alike_at None bypass unchecked = refl
  refused_alike_at (Some text) true unchecked = refl
  refused_alike_at (Some text) false (inl e) = cc
  refused_alike_at (Some text) false (inr e) = cc

pub unchecked_alike : UncheckedPassAlike
unchecked_alike _ _ (ask.Read body) unchecked = tt
unchecked_alike now then (ask.Change (changing.CreateKey request)) unchecked = λ kind. refused_alike_at now then request kind request.policy request.bypass_lockout_check unchecked
unchecked_alike _ _ (ask.Change _) unchecked = tt
