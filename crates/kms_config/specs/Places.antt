-- The places of a configuration in the order in which they are judged, and which of them is its first fault.
use Rattle.std.specs.Prelude.{◌≡◌, ℕ, List, [], ◌∷◌, ◌++◌, length, map, not, codes, Option, Some, None, unwrap_or}
use Rattle.std.specs.List.{All, filter}
use Rattle.serde_json.specs.Data.{Data, null, boolean, number, string, array, object, Members, no_members, member}
use Rattle.serde_json.specs.Find.{get}
use Rattle.kms_names.specs.declared.principals.Principal.{Principal}
use Rattle.policy_doc.specs.Documents.{first_fault}
use Rattle.policy_doc.specs.Names.{is_known}
use Rattle.policy_doc.specs.Paths.{member_path, item_path}
use Rattle.policy_doc.specs.declared.faults.PolicyFault.{PolicyFault}
use Rattle.policy_doc.specs.declared.policies.Policy.{Policy}
use Rattle.policy_doc.specs.declared.policies.PolicyKind.TheVariants.{Identity as OfIdentity}
use Rattle.kms_config.specs.Config.{config_names}
use Rattle.kms_config.specs.Credentials.{credential_names}
use Rattle.kms_config.specs.Identities.{identity_names, fault_place}
use Rattle.kms_config.specs.Members.{text_in}
use Rattle.kms_config.specs.Grammar.{IsAccount, IsRegionText, IsRootSecret, IsBoot, IsSecret, IsPrincipalOf, IsKeyId, IsHolder, IsDocument, AreItems, values_of}

-- ---- forms

-- what may be asked of a place; a list of at least and at most so many values; an id and a principal that the values before
-- don't have; a principal of this account; and nothing at all
pub data Form : Type 0 where
  AnObject : Form
  Account : Form
  Region : Form
  RootSecret : Form
  Boot : Form
  ListOf : ℕ → ℕ → Form
  KeyId : List Data → Form
  Secret : Form
  PrincipalOf : List ℕ → Form
  Holder : List ℕ → List Data → Form
  Document : Form
  Nothing : Form

-- what stands there is of the form
abbrev pub Fits : Form → Option Data → Type 0
Fits AnObject given = (ms : Members) × (given ≡ Some (object ms))
Fits Account given = (account : List ℕ) × IsAccount given account
Fits Region given = (region : List ℕ) × IsRegionText given region
Fits RootSecret given = (root : List ℕ) × IsRootSecret given root
Fits Boot given = (boot : ℕ) × IsBoot given boot
Fits (ListOf least most) given = (values : List Data) × AreItems least most given values
Fits (KeyId before) given = (id : List ℕ) × IsKeyId before given id
Fits Secret given = (secret : List ℕ) × IsSecret given secret
Fits (PrincipalOf account) given = (principal : Principal) × IsPrincipalOf account given principal
Fits (Holder account before) given = (principal : Principal) × IsHolder account before given principal
Fits Document given = (d : Data) × (policy : Policy) × (given ≡ Some d) × IsDocument d policy
Fits Nothing given = given ≡ None

-- ---- places

-- a place: its JSON pointer (RFC 6901), what stands there, if anything, and the form that it is to have
pub record Place : Type 0 where
  pub path : List ℕ
  pub given : Option Data
  pub form : Form

abbrev pub HasForm : Place → Type 0
HasForm place = Fits place.form place.given

-- a member of an object
abbrev pub member_place : List ℕ → List ℕ → Data → Form → Place
member_place path name d form = record { path = member_path path name; given = get name d; form = form }

-- the names of an object's members, in the order in which they stand
abbrev pub names_in : Members → List (List ℕ)
names_in no_members = []
names_in (member name d ms) = name ∷ names_in ms

abbrev pub members_of : Data → Members
members_of null = no_members
members_of (boolean b) = no_members
members_of (number n) = no_members
members_of (string s) = no_members
members_of (array ds) = no_members
members_of (object ms) = ms

-- the members of other names than these; nothing is to stand there
abbrev pub other_names : List (List ℕ) → Data → List (List ℕ)
other_names names d = filter (λ name. not (is_known names name)) (names_in (members_of d))

abbrev pub other_places : List ℕ → List (List ℕ) → Data → List Place
other_places path names d = map (λ name. member_place path name d Nothing) (other_names names d)

-- the values of a list, none where it is no list
abbrev pub values_at : Option Data → List Data
values_at None = []
values_at (Some null) = []
values_at (Some (boolean b)) = []
values_at (Some (number n)) = []
values_at (Some (string s)) = []
values_at (Some (array ds)) = values_of ds
values_at (Some (object ms)) = []

-- the places of each value, one value after the other; a value's places are told by the values before it
abbrev pub each_places : (List Data → Data → List Place) → List Data → List Data → List Place
each_places places before [] = []
each_places places before (d ∷ values) = places before d ++ each_places places (before ++ d ∷ []) values

-- a list: itself, and then its items in order
abbrev pub list_places : (List ℕ → List Data → Data → List Place) → List ℕ → ℕ → ℕ → Option Data → List Place
list_places places path least most given =
    record { path = path; given = given; form = ListOf least most } ∷ each_places (places path) [] (values_at given)

-- an item that is an object: itself, its members in order, and then those of other names
abbrev pub object_places : List ℕ → List (List ℕ) → Data → List Place → List Place
object_places path names d members = record { path = path; given = Some d; form = AnObject } ∷ (members ++ other_places path names d)

-- an identity policy
abbrev pub document_places : List ℕ → List Data → Data → List Place
document_places path before d = record { path = item_path path (length before); given = Some d; form = Document } ∷ []

-- an item of `credentials`
abbrev pub credential_places : List ℕ → List ℕ → List Data → Data → List Place
credential_places account path before d =
    let place = item_path path (length before) in
    object_places place credential_names d
    (member_place place (codes "accessKeyId") d (KeyId before)
    ∷ member_place place (codes "secret") d Secret
    ∷ member_place place (codes "principal") d (PrincipalOf account) ∷ [])

-- an item of `policies`
abbrev pub identity_places : List ℕ → List ℕ → List Data → Data → List Place
identity_places account path before d =
    let place = item_path path (length before) in
    object_places place identity_names d
    (member_place place (codes "principal") d (Holder account before)
    ∷ list_places document_places (member_path place (codes "documents")) 0 10 (get (codes "documents") d))

-- the ceiling may be left out
abbrev pub ceiling_places : List ℕ → Option Data → List Place
ceiling_places path None = []
ceiling_places path (Some d) = list_places document_places path 1 10 (Some d)

-- the account's number, where there is one
abbrev pub account_number : Data → List ℕ
account_number value = unwrap_or (text_in (get (codes "account") value)) []

-- a configuration: itself, its members in order, and then those of other names
abbrev pub places_of : Data → List Place
places_of value =
    let account = account_number value in
    record { path = codes "/"; given = Some value; form = AnObject }
    ∷ member_place [] (codes "account") value Account
    ∷ member_place [] (codes "region") value Region
    ∷ member_place [] (codes "root") value RootSecret
    ∷ member_place [] (codes "boot") value Boot
    ∷ (list_places (credential_places account) (member_path [] (codes "credentials")) 0 1000 (get (codes "credentials") value)
    ++ (list_places (identity_places account) (member_path [] (codes "policies")) 0 1000 (get (codes "policies") value)
    ++ (ceiling_places (member_path [] (codes "ceiling")) (get (codes "ceiling") value)
    ++ other_places [] config_names value)))

-- ---- faults

-- the pointer of what departs from a form at a place: within a document that of its first fault, and else the place's own
abbrev pub IsPointer : Form → Option Data → List ℕ → List ℕ → Type 0
IsPointer Document given place path =
    (d : Data) × (why : PolicyFault) × (given ≡ Some d) × (first_fault OfIdentity d ≡ Some why) × (path ≡ place ++ fault_place why)
IsPointer _ given place path = path ≡ place

abbrev pub IsFaultAt : Place → List ℕ → Type 0
IsFaultAt place path = IsPointer place.form place.given place.path path

-- the first place without its form
pub record IsFirstFaultOf (places : List Place) (path : List ℕ) : Type 0 where
  pub before : List Place
  pub place : Place
  pub behind : List Place
  pub order : places ≡ before ++ place ∷ behind
  pub right : All HasForm before
  pub wrong : ¬ (HasForm place)
  pub at : IsFaultAt place path

-- a value's first fault has this pointer
abbrev pub IsFirstFault : Data → List ℕ → Type 0
IsFirstFault value path = IsFirstFaultOf (places_of value) path
