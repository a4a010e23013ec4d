-- Whom a statement's Principal names (AWS KMS Developer Guide, "Elements in a key policy").
use Rattle.std.specs.Prelude.{ℕ, ◌||◌, List, [], ◌∷◌, ◌++◌, codes, Option, Some, None, option_map, if◌then◌else◌}
use Rattle.std.specs.List.{filter_map}
use Rattle.std.specs.Option.{option_or}
use Rattle.std.specs.Str.{bytes_eq}
use Rattle.kms_names.specs.Reading.{some_if, is_account_number, principal_of}
use Rattle.kms_names.specs.declared.principals.Principal.TheVariants.{Root}
use Rattle.serde_json.specs.Data.{Data, null, boolean, number, string, array, object, Members, no_members, member}
use Rattle.policy_doc.specs.declared.faults.PolicyFault.{PolicyFault}
use Rattle.policy_doc.specs.declared.faults.PolicyFault.TheVariants as fault
use Rattle.policy_doc.specs.declared.forms.Form.{Form}
use Rattle.policy_doc.specs.declared.forms.Form.TheVariants.{Action, Resource, Caller, Stranger, Value}
use Rattle.policy_doc.specs.declared.policies.PolicyKind.{PolicyKind}
use Rattle.policy_doc.specs.declared.policies.PolicyKind.TheVariants.{Key, Identity}
use Rattle.policy_doc.specs.Paths.{member_path}
use Rattle.policy_doc.specs.Names.{has_members}
use Rattle.policy_doc.specs.Texts.{texts_fault, texts_of}
use Rattle.policy_doc.specs.declared.policies.Named.{Named}
use Rattle.policy_doc.specs.declared.policies.Named.TheVariants.{Everyone, One}

-- an account number names the account's root; an ARN that is no principal's, and a unique id, name nobody
abbrev pub named_of : List ℕ → Option Named
named_of text =
    if bytes_eq text (codes "*") then Some Everyone
    else option_or (option_map (λ account. One (Root account)) (some_if (is_account_number text) text)) (option_map One (principal_of text))

-- the members of Principal: the texts of AWS name callers, those of the others nobody here
abbrev pub kind_form : List ℕ → Option Form
kind_form name =
    if bytes_eq name (codes "AWS") then Some Caller
    else if (bytes_eq name (codes "Service") || bytes_eq name (codes "Federated")) || bytes_eq name (codes "CanonicalUser") then Some Stranger
    else None

abbrev pub kind_fault : Option Form → List ℕ → Data → Option PolicyFault
kind_fault None path d = Some (fault.BadShape path)
kind_fault (Some form) path d = texts_fault form path d

abbrev pub kind_named : Option Form → Data → List Named
kind_named (Some Caller) d = filter_map named_of (texts_of Caller d)
kind_named (Some Stranger) d = []
kind_named (Some Action) d = []
kind_named (Some Resource) d = []
kind_named (Some (Value operator)) d = []
kind_named None d = []

abbrev pub kinds_fault : List ℕ → Members → Option PolicyFault
kinds_fault path no_members = None
kinds_fault path (member name d ms) = option_or (kind_fault (kind_form name) (member_path path name) d) (kinds_fault path ms)

abbrev pub kinds_named : Members → List Named
kinds_named no_members = []
kinds_named (member name d ms) = kind_named (kind_form name) d ++ kinds_named ms

-- Principal in a key policy: `*`, or an object with one or more members
abbrev pub required_fault : List ℕ → Option Data → Option PolicyFault
required_fault path None = Some (fault.BadShape path)
required_fault path (Some null) = Some (fault.BadShape path)
required_fault path (Some (boolean b)) = Some (fault.BadShape path)
required_fault path (Some (number n)) = Some (fault.BadShape path)
required_fault path (Some (string s)) = if bytes_eq s (codes "*") then None else Some (fault.BadShape path)
required_fault path (Some (array ds)) = Some (fault.BadShape path)
required_fault path (Some (object ms)) = if has_members ms then kinds_fault path ms else Some (fault.BadShape path)

abbrev pub required_named : Option Data → List Named
required_named None = []
required_named (Some null) = []
required_named (Some (boolean b)) = []
required_named (Some (number n)) = []
required_named (Some (string s)) = Everyone ∷ []
required_named (Some (array ds)) = []
required_named (Some (object ms)) = kinds_named ms

-- in an identity policy it may not stand
abbrev pub principal_fault : PolicyKind → List ℕ → Option Data → Option PolicyFault
principal_fault Key path given = required_fault path given
principal_fault Identity path None = None
principal_fault Identity path (Some d) = Some (fault.BadShape path)

abbrev pub principal_named : PolicyKind → Option Data → List Named
principal_named Key given = required_named given
principal_named Identity given = []
