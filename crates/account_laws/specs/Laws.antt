-- Laws of what the account answers.
use Rattle.std.specs.Prelude.{◌≡◌, ◌≢◌, ◌^◌, ℕ, ◌<◌, ◌≤◌, List, [], ◌++◌, length, map, slice_range, Bool, false, Option, Some, None, Ok, All, AllPairs, ◌↔◌, ◌∷◌, IsTrue, ⊤}
use Rattle.std.specs.List.Sorted.{IsNonDecreasingBy}
use Rattle.enc_context.specs.declared.pairs.Pair.{Pair}
use Rattle.crypto_ops.specs.Sealed.{opened, sealed_one}
use Rattle.kms_names.specs.declared.actions.Action.TheVariants as action
use Rattle.kms_names.specs.declared.actions.Action.{Action}
use Rattle.kms_names.specs.declared.principals.Principal.{Principal}
use Rattle.authority.specs.Setting.{callers_policies}
use Rattle.authority.specs.Allowed.{AreIdentityPolicies, MayByPolicies}
use Rattle.authority.specs.Facts.{request_of}
use Rattle.key_policies.specs.KeyPolicy.{policy_in}
use Rattle.kms_json.specs.declared.refusals.Refusal.{Refusal}
use Rattle.kms_json.specs.declared.refusals.Refusal.TheVariants as refusal
use Rattle.kms_json.specs.declared.asks.Ask.{Ask}
use Rattle.kms_json.specs.declared.asks.AskBody.TheVariants as ask
use Rattle.kms_json.specs.declared.asks.Reading.TheVariants as reading
use Rattle.kms_json.specs.declared.asks.cryptography.Encrypt.{Encrypt}
use Rattle.kms_json.specs.declared.asks.cryptography.Decrypt.{Decrypt}
use Rattle.kms_json.specs.declared.asks.cryptography.ReEncrypt.{ReEncrypt}
use Rattle.kms_json.specs.declared.asks.cryptography.DataKey.{DataKey}
use Rattle.kms_json.specs.declared.replies.Reply.{Reply}
use Rattle.kms_json.specs.declared.replies.Reply.TheVariants as reply
use Rattle.kms_json.specs.declared.replies.Reply.TheVariants.{Refused}
use Rattle.kms_json.specs.declared.states.KeyState.TheVariants as told
use Rattle.hmac_keys.specs.declared.kinds.KeyKind.TheVariants.{Symmetric}
use Rattle.persist_map.specs.Pairs.{Ascends, value_at}
use Rattle.resource_tags.specs.declared.tags.Tag.{Tag}
use Rattle.resource_tags.specs.Tags.{Tags, by_bytes}
use Rattle.key_states.specs.declared.states.Stored.{Stored}
use Rattle.key_states.specs.declared.states.Stored.TheVariants as stored
use Rattle.account_steps.specs.declared.facts.RealmFacts.{RealmFacts}
use Rattle.account_rows.specs.declared.entries.Entry.{Entry}
use Rattle.key_states.specs.declared.rows.KeyRow.{KeyRow}
use Rattle.account_steps.specs.Ids.{key_id_at, grant_id_at}
use Rattle.account_steps.specs.Places.{IsUpTo, no_places}
use Rattle.account_steps.specs.declared.questions.Question.{Question as Posed}
use Rattle.account_steps.specs.declared.places.Places.{Places}
use Rattle.blob_format.specs.Names.{name_in}
use Rattle.account_rows.specs.declared.entries.What.{What}
use Rattle.account_rows.specs.declared.entries.What.TheVariants as what
use Rattle.alias_map.specs.declared.rows.AliasRow.{AliasRow}
use Rattle.grant_table.specs.declared.rows.GrantRow.{GrantRow}
use Rattle.grant_table.specs.Grants.{grant_with}
use Rattle.account_rows.specs.History.{State, replay, key_with, housekeeping_of}
use Rattle.account_rows.specs.Laws.{IsLastGiven}
use Rattle.account_steps.specs.View.{View, view_of, key_held}
use Rattle.account_steps.specs.Steps.{unfit_algorithm, draws, key_if_given, other_key, alias_of, arn_of, newest_version}
use Rattle.account_steps.specs.declared.checks.Named.{Named}
use Rattle.authority.specs.Setting.{Particulars}
use Rattle.account_steps.specs.Authority.{Question, on_key, on_other, retiring, action_of, resource_of, asked_of, posed, denied, setting_of, granted, IsGranted, MayRetire, MayAsk}
use Rattle.account_steps.specs.Authority.{of_context}
use Rattle.account_steps.specs.Parts.{dead_token}
use Rattle.account_lists.specs.declared.listings.Numbered.{Numbered}
use Rattle.account_lists.specs.declared.lists.Sought.{Sought}
use Rattle.account_lists.specs.Pages.{PartsFrom, rows_behind}
use Rattle.account_tags.specs.Pages.{PartsFrom as TagPartsFrom, tags_behind}
use Rattle.account_lists.specs.Lists.{listed_keys, listed_aliases, retirable_grants, grants_of_key, rotations_of}
use Rattle.account_core.specs.declared.asking.Asked.{Asked}
use Rattle.account_core.specs.declared.asking.Asked.TheVariants as asked
use Rattle.account_core.specs.Fitting as Fitting
use Rattle.account_core.specs.Decide.{lacking, decide, asked_at, IsProper, IsNext, IsLawful}

-- ---- the histories of opened accounts

-- an entry that makes a key names it by 16 bytes
abbrev pub KeyHasSize : What → Type 0
KeyHasSize (what.CreateKey key kind description policy tags) = length key ≡ 16
KeyHasSize _ = ⊤

abbrev pub HasKeySize : Entry → Type 0
HasKeySize entry = KeyHasSize entry.what

-- each entry is one that requests or housekeeping append to those before it, or one that fits them, as loaded entries do; and keys have ids of 16 bytes
pub record IsOpened (facts : RealmFacts) (history : List Entry) : Type 0 where
  pub held : Fitting.IsHeld facts history
  pub sized : All HasKeySize history

-- such is each history of an account that began with nothing, which is lawful
abbrev pub LawfulHistoriesAreOpened : Type 0
LawfulHistoriesAreOpened = (facts : RealmFacts) (history : List Entry) → IsLawful facts history → IsOpened facts history

-- and each history to which an entry comes that a request or housekeeping appends
abbrev pub NextEntriesKeepOpened : Type 0
NextEntriesKeepOpened = (facts : RealmFacts) (history : List Entry) (entry : Entry) → IsOpened facts history → IsNext facts history entry → IsOpened facts (history ++ entry ∷ [])

-- another run of the account, in the same region and under the same root secret: its boot, its callers' policies and its ceiling may be others
pub record IsSameAccount (facts later : RealmFacts) : Type 0 where
  pub account : later.account ≡ facts.account
  pub region : later.region ≡ facts.region
  pub root : later.root ≡ facts.root

-- ---- sealed texts

-- a blob, the text that is sealed in it, the context that it is sealed under, and the ARN of the key
pub record Sealing : Type 0 where
  pub blob : List ℕ
  pub plaintext : List ℕ
  pub context : List Pair
  pub arn : List ℕ

abbrev pub reply_to : RealmFacts → List Entry → Ask → Places → Reply
reply_to facts history x places = (decide facts history x places).reply

-- the reply to the request holds this sealed text: that of an Encrypt is what it gives, that of a ReEncrypt what its blob opens
-- to, and that of a data key what is drawn for it, whether the reply shows it or not
pub data HasSealed (facts : RealmFacts) (history : List Entry) (x : Ask) (places : Places) : Sealing → Type 0 where
  encrypted : (e : Encrypt) (blob arn : List ℕ) → x.body ≡ ask.Read (reading.Encrypt e) → reply_to facts history x places ≡ reply.Encrypted blob arn
      → HasSealed facts history x places (record { blob = blob; plaintext = e.plaintext; context = e.context; arn = arn })
  re_encrypted : (r : ReEncrypt) (blob plaintext arn source_arn : List ℕ) → x.body ≡ ask.Read (reading.ReEncrypt r)
      → opened facts.root r.blob r.source_context ≡ Some plaintext → reply_to facts history x places ≡ reply.ReEncrypted blob arn source_arn
      → HasSealed facts history x places (record { blob = blob; plaintext = plaintext; context = r.context; arn = arn })
  data_key : (key : DataKey) (recipient : Bool) (blob plaintext arn : List ℕ) → x.body ≡ ask.Read (reading.GenerateDataKey key recipient)
      → reply_to facts history x places ≡ reply.DataKey blob plaintext arn
      → HasSealed facts history x places (record { blob = blob; plaintext = plaintext; context = key.context; arn = arn })
  sealed_data_key : (key : DataKey) (blob arn : List ℕ) → x.body ≡ ask.Read (reading.GenerateDataKeyWithoutPlaintext key)
      → reply_to facts history x places ≡ reply.SealedDataKey blob arn
      → HasSealed facts history x places (record { blob = blob; plaintext = draws facts key.size places; context = key.context; arn = arn })

-- the request asks, at a history, what this blob opens to under this context. The blob's key is there, and not gone; the caller
-- may decrypt under it; any key that the request names, by its id, its ARN or an alias, is the blob's, its grant tokens are those of live grants,
-- any algorithm is that of symmetric keys, it has no Recipient and no DryRun, and waits for no more entries
pub record AsksToOpen (facts : RealmFacts) (history : List Entry) (y : Ask) (places : Places) (blob : List ℕ) (context : List Pair) : Type 0 where
  pub fields : Decrypt
  pub body : y.body ≡ ask.Read (reading.Decrypt fields)
  pub same_blob : fields.blob ≡ blob
  pub same_context : fields.context ≡ context
  pub named : Option Named
  pub is_named : key_if_given (view_of facts history y places) fields.key_id ≡ Ok named
  pub right_key : other_key named (name_in blob).key ≡ None
  pub held : KeyRow
  pub is_held : key_held (view_of facts history y places) (name_in blob).key ≡ Some held
  pub may : MayAsk (view_of facts history y places) (on_key action.Decrypt held (of_context (view_of facts history y places) held (alias_of named) context))
  pub live_tokens : dead_token (view_of facts history y places) fields.grant_tokens ≡ None
  pub fit : unfit_algorithm fields.algorithm ≡ None
  pub no_recipient : fields.recipient ≡ false
  pub no_dry_run : fields.dry_run ≡ false
  pub there : lacking (length history) y.after ≡ None

-- the exception of a key that isn't enabled
abbrev pub exception_of : List ℕ → Stored → Option Refusal
exception_of arn stored.Enabled = None
exception_of arn stored.Disabled = Some (refusal.Disabled arn)
exception_of arn (stored.Pending date days) = Some (refusal.InvalidState arn (told.PendingDeletion date))

abbrev pub unless_excepted : Option Refusal → Reply → Reply
unless_excepted None reply = reply
unless_excepted (Some why) reply = Refused why

-- the text that a request sealed is what Decrypt answers for its blob, with the ARN of the same key, at that history and at
-- every one that goes on from it, also in a later run that loaded it, whatever rotations stand between, to whoever may decrypt and by whatever pass, where
-- the key is enabled; where it is disabled, or its deletion is scheduled, the answer is the exception of that state
abbrev pub SealedIsDecryptedAgain : Type 0
SealedIsDecryptedAgain =
    (facts later : RealmFacts) (history more : List Entry) (x y : Ask) (places other_places : Places) (sealing : Sealing) → IsSameAccount facts later
    → IsOpened later (history ++ more) → IsProper facts x → HasSealed facts history x places sealing
    → AreIdentityPolicies (callers_policies later.identities y.caller) → (asks : AsksToOpen later (history ++ more) y other_places sealing.blob sealing.context)
    → reply_to later (history ++ more) y other_places ≡ unless_excepted (exception_of sealing.arn asks.held.stored) (reply.Decrypted sealing.plaintext sealing.arn)

-- a blob of form 1, as earlier versions sealed it: of this text under this context, with any initialization vector, under the
-- material of a version that a symmetric key had at this history
pub record SealedEarlier (facts : RealmFacts) (history : List Entry) (sealing : Sealing) : Type 0 where
  pub row : KeyRow
  pub version : ℕ
  pub iv : List ℕ
  pub there : key_with (replay history).keys row.key ≡ Some row
  pub symmetric : row.kind ≡ Symmetric
  pub version_from_one : 1 ≤ version
  pub had : version ≤ newest_version row
  pub iv_size : length iv ≡ 12
  pub text_given : 1 ≤ length sealing.plaintext
  pub text_fits : length sealing.plaintext ≤ 4096
  pub blob : sealing.blob ≡ sealed_one facts.root row.key version iv sealing.context sealing.plaintext
  pub arn : sealing.arn ≡ arn_of facts row.key

-- the same is answered for its blob, and on the same conditions
abbrev pub EarlierBlobsAreDecrypted : Type 0
EarlierBlobsAreDecrypted =
    (facts : RealmFacts) (history more : List Entry) (y : Ask) (places : Places) (sealing : Sealing)
    → IsOpened facts (history ++ more) → SealedEarlier facts history sealing
    → AreIdentityPolicies (callers_policies facts.identities y.caller) → (asks : AsksToOpen facts (history ++ more) y places sealing.blob sealing.context)
    → reply_to facts (history ++ more) y places ≡ unless_excepted (exception_of sealing.arn asks.held.stored) (reply.Decrypted sealing.plaintext sealing.arn)

-- where a pass's requests, each at some history, leave its places: where their decisions say, or for want of memory at most there
pub data PassGoesOn (facts : RealmFacts) : Places → Places → Type 0 where
  no_request : (places : Places) → PassGoesOn facts places places
  one_more : {from to : Places} (history : List Entry) (x : Ask) → PassGoesOn facts from to → PassGoesOn facts from (decide facts history x to).places
  wants_memory : {from to : Places} (history : List Entry) (x : Ask) (left : Places) → PassGoesOn facts from to → IsUpTo to left (decide facts history x to).places → PassGoesOn facts from left

-- the initialization vector that a blob says
abbrev pub iv_in : List ℕ → List ℕ
iv_in blob = slice_range blob 21 33

-- the blobs of two requests of one pass, of which the second comes after the first, have different initialization vectors
abbrev pub OnePassRepeatsNoIv : Type 0
OnePassRepeatsNoIv =
    (facts : RealmFacts) (history later : List Entry) (x y : Ask) (places later_places : Places) (one other : Sealing)
    → IsOpened facts history → IsOpened facts later
    → HasSealed facts history x places one → HasSealed facts later y later_places other
    → PassGoesOn facts (decide facts history x places).places later_places
    → iv_in one.blob ≢ iv_in other.blob

-- the blobs of requests of passes of different numbers, which are below 2^16, have different initialization vectors
abbrev pub PassesShareNoIv : Type 0
PassesShareNoIv =
    (facts : RealmFacts) (history later : List Entry) (x y : Ask) (places others : Places) (one other : Sealing)
    → IsOpened facts history → IsOpened facts later
    → HasSealed facts history x places one → HasSealed facts later y others other
    → places.number < 2 ^ 16 → others.number < 2 ^ 16 → places.number ≢ others.number
    → iv_in one.blob ≢ iv_in other.blob

-- the blobs of requests at two boots, whatever the facts of each are else, have different initialization vectors
abbrev pub BootsShareNoIv : Type 0
BootsShareNoIv =
    (facts later_facts : RealmFacts) (history later : List Entry) (x y : Ask) (places later_places : Places) (one other : Sealing)
    → IsOpened facts history → IsOpened later_facts later
    → HasSealed facts history x places one → HasSealed later_facts later y later_places other
    → facts.boot < 2 ^ 32 → later_facts.boot < 2 ^ 32 → facts.boot ≢ later_facts.boot
    → iv_in one.blob ≢ iv_in other.blob

-- along a history that an account holds times never fall
abbrev pub TimesNeverFall : Type 0
TimesNeverFall = (facts : RealmFacts) (history : List Entry) → Fitting.IsHeld facts history → IsNonDecreasingBy (λ entry. entry.time) history

-- keys that entries at different places make have different ids
abbrev pub KeysDiffer : Type 0
KeysDiffer = (facts later : RealmFacts) (p q : ℕ) → p < 2 ^ 48 → q < 2 ^ 48 → key_id_at facts p ≡ key_id_at later q → p ≡ q

-- and grants too
abbrev pub GrantsDiffer : Type 0
GrantsDiffer = (facts later : RealmFacts) (p q : ℕ) → p < 2 ^ 48 → q < 2 ^ 48 → grant_id_at facts p ≡ grant_id_at later q → p ≡ q

-- housekeeping that was kept at a clock's answer has nothing more to do at it
abbrev pub HouseIsKeptOnce : Type 0
HouseIsKeptOnce =
    (facts : RealmFacts) (history : List Entry) (clock : ℕ) (entry : Entry) → Fitting.IsHeld facts history → housekeeping_of history clock ≡ Some entry
    → housekeeping_of (history ++ entry ∷ []) clock ≡ None

-- a grant that an entry of a history drops stays away: at that history, and at every one that begins with it, no grant has its id
abbrev pub DroppedGrantsStayAway : Type 0
DroppedGrantsStayAway =
    (facts : RealmFacts) (history more : List Entry) (entry : Entry) (grant : List ℕ) → Fitting.IsHeld facts ((history ++ entry ∷ []) ++ more) → entry.what ≡ what.GrantDrop grant
    → grant_with (replay ((history ++ entry ∷ []) ++ more)).grants grant ≡ None

-- ---- lists

-- each row was made before those behind it
abbrev pub AreInOrder : {A : Type 0} → (A → ℕ) → List A → Type 0
AreInOrder {A} born rows = AllPairs (λ (p q : A). born p < born q) rows

-- the keys, the aliases and the grants stand in order of making
pub record StandInOrder (state : State) : Type 0 where
  pub keys : AreInOrder (λ (row : KeyRow). row.born) state.keys
  pub aliases : AreInOrder (λ (row : AliasRow). row.born) state.aliases
  pub grants : AreInOrder (λ (grant : GrantRow). grant.born) state.grants

-- and so do those of every history that an account holds
abbrev pub RowsStandInOrder : Type 0
RowsStandInOrder = (facts : RealmFacts) (history : List Entry) → Fitting.IsHeld facts history → StandInOrder (replay history)

-- a list stands in order of making, and its parts that follow one another's markers come to an end and, joined, are exactly its rows behind the place
-- where they begin
pub record IsWhole {A : Type 0} (born : A → ℕ) (rows : List A) : Type 0 where
  pub in_order : AreInOrder born rows
  pub parts : (limit : ℕ) → 1 ≤ limit → (after : Option ℕ) (joined : List A) → PartsFrom born rows limit after joined ↔ (joined ≡ rows_behind born after rows)

-- each list of a view: ListKeys, ListAliases of all keys or of one, ListRetirableGrants, ListGrants of a key, and ListKeyRotations of a key
pub record ListsAreWhole (view : View) : Type 0 where
  pub keys : IsWhole (λ (row : KeyRow). row.born) (listed_keys view)
  pub aliases : (key : Option (List ℕ)) → IsWhole (λ (row : AliasRow). row.born) (listed_aliases view key)
  pub retirable : (retiring : Principal) → IsWhole (λ (grant : GrantRow). grant.born) (retirable_grants view retiring)
  pub grants : (key : List ℕ) (sought : Sought) → IsWhole (λ (grant : GrantRow). grant.born) (grants_of_key view key sought)
  pub rotations : (row : KeyRow) → IsWhole (λ (numbered : Numbered). numbered.number) (rotations_of row)

-- so it is at every history that an account holds, whatever the request's moment, its caller and the places of the pass
abbrev pub ListsOfHistoriesAreWhole : Type 0
ListsOfHistoriesAreWhole =
    (facts : RealmFacts) (history : List Entry) (x : Ask) (places : Places) → Fitting.IsHeld facts history → ListsAreWhole (view_of facts history x places)

-- the tags of a key stand in ascending byte order of their keys, and the parts of their list that follow one another's markers come to an end and, joined, are exactly
-- those whose keys are above the bytes where they begin
pub record AreTagsWhole (tags : Tags) : Type 0 where
  pub in_order : Ascends by_bytes tags
  pub parts : (limit : ℕ) → 1 ≤ limit → (after : Option (List ℕ)) (joined : List Tag) → TagPartsFrom tags limit after joined ↔ (joined ≡ tags_behind after tags)

-- so it is of each key of every history
abbrev pub TagsOfKeysAreWhole : Type 0
TagsOfKeysAreWhole = (history : List Entry) → All (λ (row : KeyRow). AreTagsWhole row.tags) (replay history).keys

-- each tag of a key that is there has what the last entry of the history gives it that names it
abbrev pub TagsOfKeysAreTheLastGiven : Type 0
TagsOfKeysAreTheLastGiven =
    (facts : RealmFacts) (history : List Entry) (id : List ℕ) (row : KeyRow) (tag : List ℕ) → Fitting.IsHeld facts history
    → key_with (replay history).keys id ≡ Some row → IsLastGiven history id tag (value_at by_bytes row.tags tag)

-- ---- authority

-- the step of authority passes exactly where every question is allowed: the account's ceiling lets it pass (it has no documents, or no Deny statement of
-- theirs matches and an Allow statement of one does), no Deny statement of the key's policy or of the caller's own policies hits, and a statement of the key's policy allows the caller directly, or allows the root of the account while a statement of the caller's own policies
-- allows it, or a live grant of the key allows it; a question about no key goes by the ceiling and the caller's own policies alone; a grant is retired by
-- the root, its retiring principal, and its grantee where RetireGrant is among its operations, whatever statements and the ceiling say
abbrev pub PassesWhereStatementsAllow : Type 0
PassesWhereStatementsAllow =
    (view : View) (questions : List Question) → AreIdentityPolicies (setting_of view).policies → (denied view questions ≡ None) ↔ All (MayAsk view) questions

-- the same of an account without a ceiling, of which no word is left
abbrev pub MayByStatements : View → Question → Type 0
MayByStatements view (on_key action row said) =
    MayByPolicies (setting_of view) (Some (policy_in row.policy)) (granted view action row.key said) (request_of (setting_of view) (asked_of action (arn_of view.facts row.key) said))
MayByStatements view (on_other action resource said) = MayByPolicies (setting_of view) None false (request_of (setting_of view) (asked_of action resource said))
MayByStatements view (retiring grant) = MayRetire view.caller grant

abbrev pub PassesWithoutACeiling : Type 0
PassesWithoutACeiling =
    (view : View) (questions : List Question) → view.facts.ceiling ≡ [] → AreIdentityPolicies (setting_of view).policies → (denied view questions ≡ None) ↔ All (MayByStatements view) questions

-- the first question that isn't allowed, and those before it
pub record IsFirstDenied (view : View) (questions : List Question) (q : Question) : Type 0 where
  pub before : List Question
  pub behind : List Question
  pub are : questions ≡ before ++ q ∷ behind
  pub allowed : All (MayAsk view) before
  pub denied : ¬ (MayAsk view q)

-- and its refusal names the caller, the first action that isn't allowed, and its resource
abbrev pub NamesTheFirstDenied : Type 0
NamesTheFirstDenied =
    (view : View) (questions : List Question) (why : Refusal) → AreIdentityPolicies (setting_of view).policies → denied view questions ≡ Some why
    → (q : Question) × IsFirstDenied view questions q × (why ≡ refusal.AccessDenied view.caller (action_of q) (resource_of view q))

-- and a grant allows what some grant of the key, with the caller as its grantee, permits: the operation is among its own and its constraint holds of the
-- encryption context, or for CreateGrant the new grant has no further operation and a constraint as strict
abbrev pub GrantsPermit : Type 0
GrantsPermit = (view : View) (action : Action) (key : List ℕ) (said : Particulars) → IsTrue (granted view action key said) ↔ IsGranted view action key said

-- ---- what is asked of authority

-- what a question is about is there
abbrev pub IsHeld : View → Question → Type 0
IsHeld view (on_key action row said) = key_with view.keys row.key ≡ Some row
IsHeld view (on_other action resource said) = ⊤
IsHeld view (retiring grant) = grant_with view.grants grant.grant ≡ Some grant

-- The step of authority asks about a request these questions, as policies and grants are asked them, each about what is there: where the first of them that
-- isn't allowed is denied, that is the reply, whatever the places of the pass
pub record IsAskedOf (facts : RealmFacts) (history : List Entry) (x : Ask) (places : Places) (list : List Posed) : Type 0 where
  pub questions : List Question
  pub posed : list ≡ map (posed (view_of facts history x no_places)) questions
  pub held : All (IsHeld (view_of facts history x no_places)) questions
  pub stops : (why : Refusal) → denied (view_of facts history x no_places) questions ≡ Some why → reply_to facts history x places ≡ Refused why

-- where nothing is asked, the request is refused before
abbrev pub IsAskedSo : RealmFacts → List Entry → Ask → Places → Asked → Type 0
IsAskedSo facts history x places asked.Early = (why : Refusal) × (reply_to facts history x places ≡ Refused why)
IsAskedSo facts history x places (asked.Questions list) = IsAskedOf facts history x places list

abbrev pub AuthorityAsksTheseQuestions : Type 0
AuthorityAsksTheseQuestions = (facts : RealmFacts) (history : List Entry) (x : Ask) (places : Places) → IsAskedSo facts history x places (asked_at facts history x)
