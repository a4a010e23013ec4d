-- Configurations: what is read of a value, and which of its places is its first fault.
use Rattle.std.proofs.Common.{◌≡◌, ◌⊎◌, inl, inr, ℕ, ◌≤◌, List, [], ◌∷◌, ◌++◌, length, Option, Some, None, Result, Ok, Err, refl, sym, ap, ◌∙◌, subst, codes, arith}
use Rattle.std.specs.Prelude.{All, IfErr, IfOk, unwrap_or}
use Rattle.serde_json.specs.Data.{Data, object, Members}
use Rattle.serde_json.specs.Find.{get}
use Rattle.policy_doc.specs.Names.{first_unknown}
use Rattle.policy_doc.specs.Paths.{member_path}
use Rattle.policy_doc.specs.Reading.{Reads}
use Rattle.policy_doc.specs.declared.policies.Policy.{Policy}
use Rattle.authority.specs.declared.identities.Identity.{Identity}
use Rattle.sigv4_check.specs.declared.credentials.Credential.{Credential}
use Rattle.kms_config.specs.declared.config.Basics.{Basics}
use Rattle.kms_config.specs.declared.config.Config.{Config}
use Rattle.kms_config.specs.declared.faults.ConfigFault.{ConfigFault}
use Rattle.kms_config.specs.declared.faults.ConfigFault.TheVariants.{At, NoMemory}
use Rattle.kms_config.specs.Answers.{Answers, ◌>>=◌, at}
use Rattle.kms_config.specs.Config.{config_names, basics_by, basics_in, credentials_at, identities_at, ceiling_at, lists_by, lists_in, config_of, config_in, IsConfigOf, IsRefusedAt, too_long, no_json, at_fault, IsFaultOf}
use Rattle.kms_config.specs.Configurations.{IsConfiguration, IsFaultyBy, IsRefused, IsTaken, IsFaultyAt, too_many, no_value, first_fault}
use Rattle.kms_config.specs.Laws.{ConfigurationsAreRead, IsJudgedOnce, ValuesAreJudgedOnce}
use Rattle.kms_config.specs.Forms.{account_in, region_in, root_in, boot_in}
use Rattle.kms_config.specs.Members.{members_in, none_other, text_in}
use Rattle.kms_config.specs.Grammar.{Configures, AreCredentials, AreIdentities, IsAccount, IsBoot, IsCeiling, IsObject, IsRegionText, IsRootSecret}
use Rattle.kms_config.specs.Places.{AnObject, Account, Region, RootSecret, Boot, Place, HasForm, IsFirstFault, IsFirstFaultOf, ceiling_places, credential_places, identity_places, list_places, member_place, other_places, places_of, account_number}
use Rattle.kms_config.proofs.CredentialsJudged.{credentials_judged, credentials_taken}
use Rattle.kms_config.proofs.IdentitiesJudged.{identities_judged, identities_taken}
use Rattle.kms_config.proofs.JudgedFacts.{Judged, judged_place, judged_then, no_fault, one_fault}
use Rattle.kms_config.proofs.LeafFacts.{account_both, boot_both, region_both, root_both}
use Rattle.kms_config.proofs.PartsJudged.{ceiling_judged, ceiling_taken, judged_ok, none_unknown, object_judged, only_judged}

module _ (value : Data) where
  abbrev account_given : Option Data
  account_given = get (codes "account") value

  abbrev region_given : Option Data
  region_given = get (codes "region") value

  abbrev root_given : Option Data
  root_given = get (codes "root") value

  abbrev boot_given : Option Data
  boot_given = get (codes "boot") value

  -- ---- the members of one value each

  abbrev AreBasics : Basics → Type 0
  AreBasics basics = IsAccount account_given basics.account × IsRegionText region_given basics.region × IsRootSecret root_given basics.root × IsBoot boot_given basics.boot

  abbrev account_place : Place
  account_place = member_place [] (codes "account") value Account

  abbrev region_place : Place
  region_place = member_place [] (codes "region") value Region

  abbrev root_place : Place
  root_place = member_place [] (codes "root") value RootSecret

  abbrev boot_place : Place
  boot_place = member_place [] (codes "boot") value Boot

  basics_judged : Judged (account_place ∷ region_place ∷ root_place ∷ boot_place ∷ []) (basics_in value) AreBasics
  unfolding basics_in basics_by
  basics_judged =
      judged_then (account_place ∷ []) (region_place ∷ root_place ∷ boot_place ∷ []) (at account_place.path (account_in account_given)) _ (IsAccount account_given) AreBasics
      (judged_place account_place (account_in account_given) (IsAccount account_given) (account_both account_given) (λ x is. (x, is)) (λ h. (h.0, h.1)) refl)
      (λ account account_is. judged_then (region_place ∷ []) (root_place ∷ boot_place ∷ []) (at region_place.path (region_in region_given)) _ (IsRegionText region_given) AreBasics
      (judged_place region_place (region_in region_given) (IsRegionText region_given) (region_both region_given) (λ x is. (x, is)) (λ h. (h.0, h.1)) refl)
      (λ region region_is. judged_then (root_place ∷ []) (boot_place ∷ []) (at root_place.path (root_in root_given)) _ (IsRootSecret root_given) AreBasics
      (judged_place root_place (root_in root_given) (IsRootSecret root_given) (root_both root_given) (λ x is. (x, is)) (λ h. (h.0, h.1)) refl)
      (λ root root_is. judged_ok (boot_place ∷ []) (at boot_place.path (boot_in boot_given)) (λ boot. record { account = account; region = region; root = root; boot = boot }) (IsBoot boot_given) AreBasics
      (judged_place boot_place (boot_in boot_given) (IsBoot boot_given) (boot_both boot_given) (λ x is. (x, is)) (λ h. (h.0, h.1)) refl)
      (λ boot boot_is. (account_is, region_is, root_is, boot_is)))))

  basics_taken : (basics : Basics) → AreBasics basics → basics_in value ≡ Ok basics
  unfolding basics_in basics_by
  basics_taken basics are =
      let e = (account_both account_given).1 basics.account are.0 in
      let f = (region_both region_given).1 basics.region are.1 in
      let g = (root_both root_given).1 basics.root are.2 in
      let h = (boot_both boot_given).1 basics.boot are.3 in
      rw (e, f, g, h) refl

  -- ---- the lists

  abbrev credentials_places : List ℕ → List Place
  credentials_places account = list_places (credential_places account) (member_path [] (codes "credentials")) 0 1000 (get (codes "credentials") value)

  abbrev identities_places : List ℕ → List Place
  identities_places account = list_places (identity_places account) (member_path [] (codes "policies")) 0 1000 (get (codes "policies") value)

  abbrev bound_places : List Place
  bound_places = ceiling_places (member_path [] (codes "ceiling")) (get (codes "ceiling") value)

  abbrev rest_places : List Place
  rest_places = other_places [] config_names value

  module _ (basics : Basics) (are : AreBasics basics) (credentials : Result (List Credential) (List ℕ)) (identities : Result (List Identity) (List ℕ)) (ceiling : Result (List Policy) (List ℕ)) (others : Option (List ℕ))
      (credentials_are : Judged (credentials_places basics.account) credentials (AreCredentials basics.account (get (codes "credentials") value)))
      (identities_are : Judged (identities_places basics.account) identities (AreIdentities basics.account (get (codes "policies") value)))
      (ceiling_is : Judged bound_places ceiling (IsCeiling (get (codes "ceiling") value))) (others_are : Judged rest_places (none_other [] others) (λ _. IsObject config_names value)) where
    lists_judged_by : Judged (credentials_places basics.account ++ (identities_places basics.account ++ (bound_places ++ rest_places))) (lists_by basics credentials identities ceiling others) (Configures value)
    unfolding lists_by
    lists_judged_by =
        judged_then (credentials_places basics.account) (identities_places basics.account ++ (bound_places ++ rest_places)) credentials _ (AreCredentials basics.account (get (codes "credentials") value)) (Configures value) credentials_are
        (λ cs cs_are. judged_then (identities_places basics.account) (bound_places ++ rest_places) identities _ (AreIdentities basics.account (get (codes "policies") value)) (Configures value) identities_are
        (λ ids ids_are. judged_then bound_places rest_places ceiling _ (IsCeiling (get (codes "ceiling") value)) (Configures value) ceiling_is
        (λ bound bound_is. judged_ok rest_places (none_other [] others)
        (λ _. record { facts = record { account = basics.account; region = basics.region; root = basics.root; boot = basics.boot; identities = ids; ceiling = bound }; credentials = cs })
        (λ _. IsObject config_names value) (Configures value) others_are
        (λ _ names. record { names = names; account = are.0; region = are.1; root = are.2; boot = are.3; credentials = cs_are; policies = ids_are; ceiling = bound_is }))))

  account_is : (account : List ℕ) → IsAccount account_given account → account_number value ≡ account
  account_is account is = ap (λ given. unwrap_or (text_in given) []) is.0

  lists_judged : (ms : Members) → value ≡ object ms → (basics : Basics) → AreBasics basics
      → Judged (credentials_places (account_number value) ++ (identities_places (account_number value) ++ (bound_places ++ rest_places))) (lists_in value ms basics) (Configures value)
  unfolding lists_in
  lists_judged ms is basics are =
      subst (λ account. Judged (credentials_places account ++ (identities_places account ++ (bound_places ++ rest_places))) (lists_in value ms basics) (Configures value)) (sym (account_is basics.account are.0))
      (lists_judged_by basics are (credentials_at basics.account value) (identities_at basics.account value) (ceiling_at value) (first_unknown config_names ms)
      (credentials_judged basics.account (member_path [] (codes "credentials")) (get (codes "credentials") value))
      (identities_judged basics.account (member_path [] (codes "policies")) (get (codes "policies") value))
      (ceiling_judged (member_path [] (codes "ceiling")) (get (codes "ceiling") value))
      (only_judged [] config_names value ms is))

  lists_taken_by : (config : Config) (basics : Basics) → basics ≡ record { account = config.facts.account; region = config.facts.region; root = config.facts.root; boot = config.facts.boot }
      → (credentials : Result (List Credential) (List ℕ)) (identities : Result (List Identity) (List ℕ)) (ceiling : Result (List Policy) (List ℕ)) (others : Option (List ℕ))
      → credentials ≡ Ok config.credentials → identities ≡ Ok config.facts.identities → ceiling ≡ Ok config.facts.ceiling → others ≡ None → lists_by basics credentials identities ceiling others ≡ Ok config
  unfolding lists_by
  lists_taken_by config basics b credentials identities ceiling others e f g h = rw (b, e, f, g, h) refl

  -- ---- the whole

  pub config_judged : Judged (places_of value) (config_in value) (Configures value)
  config_judged =
      judged_then (record { path = codes "/"; given = Some value; form = AnObject } ∷ [])
      (account_place ∷ region_place ∷ root_place ∷ boot_place ∷ (credentials_places (account_number value) ++ (identities_places (account_number value) ++ (bound_places ++ rest_places))))
      (members_in (codes "/") value) (config_of value) (λ ms. value ≡ object ms) (Configures value) (object_judged (codes "/") value)
      (λ ms is. judged_then (account_place ∷ region_place ∷ root_place ∷ boot_place ∷ []) (credentials_places (account_number value) ++ (identities_places (account_number value) ++ (bound_places ++ rest_places)))
      (basics_in value) (lists_in value ms) AreBasics (Configures value) basics_judged (lists_judged ms is))

  pub config_taken : (config : Config) → Configures value config → config_in value ≡ Ok config
  unfolding lists_in
  config_taken config is =
      let basics : Basics = record { account = config.facts.account; region = config.facts.region; root = config.facts.root; boot = config.facts.boot } in
      let ms = is.names.0 in
      ap (λ v. members_in (codes "/") v >>= config_of value) is.names.1
      ∙ ap (λ r. r >>= lists_in value ms) (basics_taken basics (is.account, is.region, is.root, is.boot))
      ∙ lists_taken_by config basics refl (credentials_at basics.account value) (identities_at basics.account value) (ceiling_at value) (first_unknown config_names ms)
      (credentials_taken basics.account (member_path [] (codes "credentials")) (get (codes "credentials") value) config.credentials is.credentials)
      (identities_taken basics.account (member_path [] (codes "policies")) (get (codes "policies") value) config.facts.identities is.policies)
      (ceiling_taken (member_path [] (codes "ceiling")) (get (codes "ceiling") value) config.facts.ceiling is.ceiling)
      (none_unknown config_names ms is.names.2)

-- ---- exactly

module _ (value : Data) where
  abbrev IsFirst : List ℕ → Type 0
  IsFirst path = IsFirstFaultOf (places_of value) path

  pub configured : (config : Config) → config_in value ≡ Ok config → Configures value config
  configured config is = (subst (λ r. Judged (places_of value) r (Configures value)) is (config_judged value)).1

  pub all_forms : (config : Config) → Configures value config → All HasForm (places_of value)
  all_forms config is = (subst (λ r. Judged (places_of value) r (Configures value)) (config_taken value config is) (config_judged value)).0

  pub refused : (path : List ℕ) → config_in value ≡ Err path → IsFirst path
  refused path is = subst (λ r. Judged (places_of value) r (Configures value)) is (config_judged value)

  pub refuses : (path : List ℕ) → IsFirst path → config_in value ≡ Err path
  refuses path first = by_answer (config_in value) (config_judged value)
    where
      by_answer : (answer : Result Config (List ℕ)) → Judged (places_of value) answer (Configures value) → answer ≡ Err path
      by_answer (Ok config) h = absurd (no_fault (places_of value) path h.0 first)
      by_answer (Err other) h = ap Err (one_fault (places_of value) other path h first)

  either : (answer : Result Config (List ℕ)) → Judged (places_of value) answer (Configures value) → ((config : Config) × Configures value config) ⊎ ((path : List ℕ) × IsFirstFault value path)
  either (Ok config) h = inl (config, h.1)
  either (Err path) h = inr (path, h)

  some_config : (answer : Result Config (List ℕ)) → Judged (places_of value) answer (Configures value) → All HasForm (places_of value) → (config : Config) × Configures value config
  some_config (Ok config) h all = (config, h.1)
  some_config (Err path) h all = absurd (no_fault (places_of value) path all h)

  pub judged_once : IsJudgedOnce value
  judged_once = record {
    one = λ config other is also. let e : Ok config ≡ Ok other = sym (config_taken value config is) ∙ config_taken value other also in cc;
    forms = (λ h. all_forms h.0 h.1, λ all. some_config (config_in value) (config_judged value) all);
    first = λ path other h k. one_fault (places_of value) path other h k;
    either = either (config_in value) (config_judged value);
    apart = λ config path is first. no_fault (places_of value) path (all_forms config is) first;
  }

refused_bytes : (bytes path : List ℕ) → IsRefusedAt bytes path → IsFaultyAt bytes path
refused_bytes bytes _ (too_long long) = too_many long
refused_bytes bytes _ (no_json few none) = no_value few none
refused_bytes bytes path (at_fault value few reads is) = first_fault value few reads (refused value path is)

faulty_bytes : (bytes path : List ℕ) → IsFaultyAt bytes path → IsRefusedAt bytes path
faulty_bytes bytes _ (too_many long) = too_long long
faulty_bytes bytes _ (no_value few none) = no_json few none
faulty_bytes bytes path (first_fault value few reads first) = at_fault value few reads (refuses value path first)

pub configurations_read : ConfigurationsAreRead
configurations_read bytes = (
  λ config. (
    λ is. record { few = is.few; value = is.value; reads = is.reads; configures = configured is.value config is.is },
    λ is. record { few = is.few; value = is.value; reads = is.reads; is = config_taken is.value config is.configures },
  ),
  λ path. (refused_bytes bytes path, faulty_bytes bytes path),
)

pub each_judged_once : ValuesAreJudgedOnce
each_judged_once value = judged_once value

-- ---- what the reader answers

one_value : (bytes : List ℕ) (d e : Data) → Reads bytes d → Reads bytes e → d ≡ e
one_value bytes d e h k = let both : Some d ≡ Some e = sym h.1 ∙ k.1 in cc

apart : (bytes : List ℕ) (config : Config) (path : List ℕ) → IsConfiguration bytes config → ¬ (IsFaultyAt bytes path)
apart bytes config _ is (too_many long) = let few = is.few in omega (arith, few, long)
apart bytes config _ is (no_value few none) = none is.value is.reads
apart bytes config path is (first_fault value few reads first) =
    (judged_once value).apart config path (subst (λ d. Configures d config) (one_value bytes is.value value is.reads reads) is.configures) first

one_configuration : (bytes : List ℕ) (config other : Config) → IsConfiguration bytes config → IsConfiguration bytes other → config ≡ other
one_configuration bytes config other is also =
    (judged_once also.value).one config other (subst (λ d. Configures d config) (one_value bytes is.value also.value is.reads also.reads) is.configures) also.configures

one_path : (bytes path other : List ℕ) → IsFaultyAt bytes path → IsFaultyAt bytes other → path ≡ other
one_path bytes _ _ (too_many long) (too_many also) = refl
one_path bytes _ _ (too_many long) (no_value few none) = refl
one_path bytes _ other (too_many long) (first_fault value few reads first) = absurd (omega (arith, few, long))
one_path bytes _ _ (no_value few none) (too_many long) = refl
one_path bytes _ _ (no_value few none) (no_value also other) = refl
one_path bytes _ other (no_value few none) (first_fault value also reads first) = absurd (none value reads)
one_path bytes path _ (first_fault value few reads first) (too_many long) = absurd (omega (arith, few, long))
one_path bytes path _ (first_fault value few reads first) (no_value also none) = absurd (none value reads)
one_path bytes path other (first_fault value few reads first) (first_fault d also too second) =
    (judged_once d).first path other (subst (λ v. IsFirstFault v path) (one_value bytes value d reads too) first) second

pub is_taken : (bytes : List ℕ) (answer : Result Config ConfigFault) → IfOk answer (IsConfigOf bytes) → IfErr answer (IsFaultOf bytes) → IsTaken bytes answer
is_taken bytes (Ok taken) ok fault config is = one_configuration bytes taken config (((configurations_read bytes).0 taken).0 ok) is
is_taken bytes (Err (At path)) ok fault config is = absurd (apart bytes config path is (refused_bytes bytes path fault))
is_taken bytes (Err NoMemory) ok fault config is = refl

pub is_refused : (bytes : List ℕ) (answer : Result Config ConfigFault) → IfOk answer (IsConfigOf bytes) → IfErr answer (IsFaultOf bytes) → IsRefused bytes answer
is_refused bytes (Ok taken) ok fault path faulty = apart bytes taken path (((configurations_read bytes).0 taken).0 ok) faulty
is_refused bytes (Err (At own)) ok fault path faulty = inl (ap At (one_path bytes own path (refused_bytes bytes own fault) faulty))
is_refused bytes (Err NoMemory) ok fault path faulty = inr refl

-- what is answered of bytes, by the steps of the reader
module _ (bytes : List ℕ) (wanted : Result Config (List ℕ)) (ok : (config : Config) → wanted ≡ Ok config → IsConfigOf bytes config) (fault : (path : List ℕ) → wanted ≡ Err path → IsRefusedAt bytes path) where
  of_config : (answer : Result Config ConfigFault) → Answers wanted answer → IfOk answer (IsConfigOf bytes)
  of_config (Ok config) is = ok config is
  of_config (Err why) is = tt

  of_fault : (answer : Result Config ConfigFault) → Answers wanted answer → IfErr answer (IsFaultOf bytes)
  of_fault (Ok config) is = tt
  of_fault (Err (At path)) is = fault path is
  of_fault (Err NoMemory) is = tt

  pub answered_configuration : (answer : Result Config ConfigFault) → Answers wanted answer → IfOk answer (IsConfiguration bytes)
  answered_configuration (Ok config) is = ((configurations_read bytes).0 config).0 (ok config is)
  answered_configuration (Err why) is = tt

  pub answered_fault : (answer : Result Config ConfigFault) → Answers wanted answer → IfErr answer (IsFaultyBy bytes)
  answered_fault (Ok config) is = tt
  answered_fault (Err (At path)) is = refused_bytes bytes path (fault path is)
  answered_fault (Err NoMemory) is = tt

  pub answered_taken : (answer : Result Config ConfigFault) → Answers wanted answer → IsTaken bytes answer
  answered_taken answer is = is_taken bytes answer (of_config answer is) (of_fault answer is)

  pub answered_refused : (answer : Result Config ConfigFault) → Answers wanted answer → IsRefused bytes answer
  answered_refused answer is = is_refused bytes answer (of_config answer is) (of_fault answer is)

-- a fault at `/`
abbrev pub whole : Result Config (List ℕ)
whole = Err (codes "/")

module _ (bytes : List ℕ) (why : IsRefusedAt bytes (codes "/")) where
  pub no_configuration : (config : Config) → whole ≡ Ok config → IsConfigOf bytes config
  no_configuration config e = cc

  pub at_whole : (path : List ℕ) → whole ≡ Err path → IsRefusedAt bytes path
  at_whole path e = let same : codes "/" ≡ path = cc in subst (IsRefusedAt bytes) same why

-- or the value's
module _ (bytes : List ℕ) (value : Data) (few : length bytes ≤ 4194304) (reads : Reads bytes value) where
  pub of_value : (config : Config) → config_in value ≡ Ok config → IsConfigOf bytes config
  of_value config is = record { few = few; value = value; reads = reads; is = is }

  pub at_value : (path : List ℕ) → config_in value ≡ Err path → IsRefusedAt bytes path
  at_value path is = at_fault value few reads is
