-- The callers of a configuration are of its account.
use Rattle.std.proofs.Common.{◌≡◌, ℕ, List, [], ◌∷◌, Bool, true, false, if◌then◌else◌, Option, Some, None, Result, Ok, Err, refl, ap, subst}
use Rattle.std.specs.Prelude.{All, option_and_then, codes}
use Rattle.std.specs.Str.{bytes_eq}
use Rattle.std.proofs.lemmas.List.Elements.{All-nil, All-cons, All-head, All-tail}
use Rattle.std.proofs.lemmas.Slice.Eq.{bytes_eq-Decides}
use Rattle.serde_json.specs.Data.{Data, Items, no_items, item, Members}
use Rattle.serde_json.specs.Find.{get}
use Rattle.kms_names.specs.Reading.{some_if, principal_of}
use Rattle.kms_names.specs.declared.principals.Principal.{Principal}
use Rattle.policy_doc.specs.declared.policies.Policy.{Policy}
use Rattle.authority.specs.declared.identities.Identity.{Identity}
use Rattle.kms_names.specs.Principal.{account_of}
use Rattle.sigv4_check.specs.SignedNames.{is_before}
use Rattle.sigv4_check.specs.Credentials.{placed}
use Rattle.sigv4_check.specs.declared.credentials.Credential.{Credential}
use Rattle.kms_config.specs.declared.config.Basics.{Basics}
use Rattle.kms_config.specs.declared.config.Config.{Config}
use Rattle.kms_config.specs.Answers.{◌>>=◌}
use Rattle.kms_config.specs.Members.{text_in, members_in}
use Rattle.kms_config.specs.Lists.{items_from}
use Rattle.kms_config.specs.Forms.{if_of, principal_at}
use Rattle.kms_config.specs.Credentials.{credential_by, credential_of, next_credential}
use Rattle.kms_config.specs.Config.{pointer, config_of, basics_in, lists_by, lists_in, IsConfigOf}

-- ---- a value that is there came of each step

step_is : {A B : Type 0} (r : Result A (List ℕ)) (f : A → Result B (List ℕ)) (y : B) → (r >>= f) ≡ Ok y → (x : A) × (r ≡ Ok x) × (f x ≡ Ok y)
step_is (Ok x) f y is = (x, refl, is)
step_is (Err path) f y is = cc

found_is : {A B : Type 0} (o : Option A) (f : A → Option B) (y : B) → option_and_then f o ≡ Some y → (x : A) × (f x ≡ Some y)
found_is (Some x) f y is = (x, is)
found_is None f y is = cc

passed_is : {A : Type 0} (b : Bool) (x y : A) → some_if b x ≡ Some y → (b ≡ true) × (x ≡ y)
passed_is true x y is = (refl, let same : x ≡ y = cc in same)
passed_is false x y is = cc

-- ---- a credential's principal is of the account

module _ (account : List ℕ) where
  abbrev IsOf : Credential → Type 0
  IsOf credential = account_of credential.principal ≡ account

  member_of : (value : Data) (p : Principal) → principal_at account value ≡ Some p → account_of p ≡ account
  unfolding principal_at
  member_of value p is =
      let found = found_is (option_and_then principal_of (text_in (get (codes "principal") value))) (if_of account) p is in
      let passed = passed_is (bytes_eq (account_of found.0) account) found.0 p found.1 in
      subst (λ (q : Principal). account_of q ≡ account) passed.1 ((bytes_eq-Decides (account_of found.0) account).0 passed.0)

  made_by : (path : List ℕ) (id secret : Option (List ℕ)) (principal : Option Principal) (unknown : Option (List ℕ)) (c : Credential) → credential_by path id secret principal unknown ≡ Ok c
      → principal ≡ Some c.principal
  unfolding credential_by
  made_by path None secret principal unknown c is = cc
  made_by path (Some id) None principal unknown c is = cc
  made_by path (Some id) (Some secret) None unknown c is = cc
  made_by path (Some id) (Some secret) (Some p) None c is =
      let made : Credential = record { id = id; secret = secret; principal = p } in
      let same : made ≡ c = cc in ap (λ (x : Credential). Some x.principal) same
  made_by path (Some id) (Some secret) (Some p) (Some name) c is = cc

  one_of : (creds : List Credential) (path : List ℕ) (value : Data) (members : Members) (c : Credential) → credential_of account creds path value members ≡ Ok c → IsOf c
  unfolding credential_of
  one_of creds path value _ c is = member_of value c.principal (made_by path _ _ _ _ c is)

  placed_where : (b : Bool) (c other : Credential) (creds later : List Credential) → IsOf c → All IsOf (other ∷ creds) → All IsOf later → All IsOf (if b then c ∷ other ∷ creds else other ∷ later)
  placed_where true c other creds later one all more = All-cons IsOf c (other ∷ creds) one all
  placed_where false c other creds later one all more = All-cons IsOf other later (All-head IsOf other creds all) more

  placed_of : (c : Credential) (creds : List Credential) → IsOf c → All IsOf creds → All IsOf (placed c creds)
  placed_of c [] one all = All-cons IsOf c [] one all
  placed_of c (other ∷ creds) one all = placed_where (is_before c.id other.id) c other creds (placed c creds) one all (placed_of c creds one (All-tail IsOf other creds all))

  next_of : (path : List ℕ) (had new : List Credential) (index : ℕ) (value : Data) → All IsOf had → next_credential account path had index value ≡ Ok new → All IsOf new
  next_of path had new index value all is =
      let one = step_is _ (λ (credential : Credential). Ok (placed credential had)) new is in
      let members = step_is _ (credential_of account had _ value) one.0 one.1 in
      let same : placed one.0 had ≡ new = cc (one.2) in
      subst (All IsOf) same (placed_of one.0 had (one_of had _ value members.0 one.0 members.2) all)

  items_of : (path : List ℕ) (had all : List Credential) (index : ℕ) (values : Items) → All IsOf had → items_from (next_credential account path) had index values ≡ Ok all → All IsOf all
  items_of path had all index no_items of is = let same : had ≡ all = cc in subst (All IsOf) same of
  items_of path had all index (item value values) of is =
      let next = step_is (next_credential account path had index value) (λ (new : List Credential). items_from (next_credential account path) new _ values) all is in
      items_of path next.0 all _ values (next_of path had next.0 index value of next.1) next.2

listed_by : (basics : Basics) (credentials : Result (List Credential) (List ℕ)) (identities : Result (List Identity) (List ℕ)) (ceiling : Result (List Policy) (List ℕ)) (unknown : Option (List ℕ))
    (config : Config) → lists_by basics credentials identities ceiling unknown ≡ Ok config → (credentials ≡ Ok config.credentials) × (basics.account ≡ config.facts.account)
unfolding lists_by
listed_by basics (Err path) identities ceiling unknown config is = cc
listed_by basics (Ok cs) (Err path) ceiling unknown config is = cc
listed_by basics (Ok cs) (Ok ps) (Err path) unknown config is = cc
listed_by basics (Ok cs) (Ok ps) (Ok ds) (Some name) config is = cc
listed_by basics (Ok cs) (Ok ps) (Ok ds) None config is =
    let made : Config = record {
      facts = record { account = basics.account; region = basics.region; root = basics.root; boot = basics.boot; identities = ps; ceiling = ds };
      credentials = cs;
    } in
    let same : made ≡ config = cc in
    (ap (λ (x : Config). Ok x.credentials) same, ap (λ (x : Config). x.facts.account) same)

listed_of : (value : Data) (members : Members) (basics : Basics) (config : Config) → lists_in value members basics ≡ Ok config
    → All (λ (c : Credential). account_of c.principal ≡ config.facts.account) config.credentials
unfolding lists_in
listed_of value _ basics config is =
    let listed = listed_by basics _ _ _ _ config is in
    let items = step_is _ (items_from (next_credential basics.account (pointer (codes "credentials"))) [] 0) config.credentials listed.0 in
    subst (λ (account : List ℕ). All (λ (c : Credential). account_of c.principal ≡ account) config.credentials) listed.1
    (items_of basics.account (pointer (codes "credentials")) [] config.credentials 0 items.0 (All-nil (IsOf basics.account)) items.2)

-- the callers of a configuration
pub callers_of : (bytes : List ℕ) (config : Config) → IsConfigOf bytes config → All (λ (c : Credential). account_of c.principal ≡ config.facts.account) config.credentials
callers_of bytes config is =
    let members = step_is (members_in (codes "/") is.value) (config_of is.value) config is.is in
    let basics = step_is (basics_in is.value) (lists_in is.value members.0) config members.2 in
    listed_of is.value members.0 basics.0 config basics.2
