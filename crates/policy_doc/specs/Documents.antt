-- Documents (IAM User Guide, "Grammar of the IAM JSON policy language").
use Rattle.std.specs.Prelude.{ℕ, ◌||◌, Bool, List, [], ◌∷◌, codes, Option, Some, None, if◌then◌else◌}
use Rattle.std.specs.Option.{option_or}
use Rattle.std.specs.Str.{bytes_eq}
use Rattle.serde_json.specs.Data.{Data, null, boolean, number, string, array, object}
use Rattle.serde_json.specs.Find.{get}
use Rattle.policy_doc.specs.declared.faults.PolicyFault.{PolicyFault}
use Rattle.policy_doc.specs.declared.faults.PolicyFault.TheVariants as fault
use Rattle.policy_doc.specs.declared.policies.PolicyKind.{PolicyKind}
use Rattle.policy_doc.specs.declared.policies.Statement.{Statement}
use Rattle.policy_doc.specs.Paths.{member_path}
use Rattle.policy_doc.specs.Names.{unknown_fault, has_items}
use Rattle.policy_doc.specs.Statements.{optional_fault, statement_fault, statement_of, items_fault, items_of}

abbrev pub is_version : List ℕ → Bool
is_version text = bytes_eq text (codes "2012-10-17") || bytes_eq text (codes "2008-10-17")

abbrev pub version_fault : List ℕ → Option Data → Option PolicyFault
version_fault path None = None
version_fault path (Some null) = Some (fault.BadShape path)
version_fault path (Some (boolean b)) = Some (fault.BadShape path)
version_fault path (Some (number n)) = Some (fault.BadShape path)
version_fault path (Some (string s)) = if is_version s then None else Some (fault.BadShape path)
version_fault path (Some (array ds)) = Some (fault.BadShape path)
version_fault path (Some (object ms)) = Some (fault.BadShape path)

-- Statement is a statement, whose place has no index, or a list of one or more
abbrev pub statement_part_fault : PolicyKind → List ℕ → Option Data → Option PolicyFault
statement_part_fault kind path None = Some (fault.BadShape path)
statement_part_fault kind path (Some null) = Some (fault.BadShape path)
statement_part_fault kind path (Some (boolean b)) = Some (fault.BadShape path)
statement_part_fault kind path (Some (number n)) = Some (fault.BadShape path)
statement_part_fault kind path (Some (string s)) = Some (fault.BadShape path)
statement_part_fault kind path (Some (array ds)) = if has_items ds then items_fault kind path 0 ds else Some (fault.BadShape path)
statement_part_fault kind path (Some (object ms)) = statement_fault kind path (object ms)

abbrev pub statements_in : PolicyKind → Option Data → List Statement
statements_in kind None = []
statements_in kind (Some null) = []
statements_in kind (Some (boolean b)) = []
statements_in kind (Some (number n)) = []
statements_in kind (Some (string s)) = []
statements_in kind (Some (array ds)) = items_of kind ds
statements_in kind (Some (object ms)) = statement_of kind (object ms) ∷ []

abbrev pub document_names : List (List ℕ)
document_names = codes "Version" ∷ codes "Id" ∷ codes "Statement" ∷ []

-- a document is an object with no other members
abbrev pub document_names_fault : Data → Option PolicyFault
document_names_fault null = Some (fault.BadShape [])
document_names_fault (boolean b) = Some (fault.BadShape [])
document_names_fault (number n) = Some (fault.BadShape [])
document_names_fault (string s) = Some (fault.BadShape [])
document_names_fault (array ds) = Some (fault.BadShape [])
document_names_fault (object ms) = unknown_fault document_names [] ms

abbrev pub head_fault : Data → Option PolicyFault
head_fault d =
    option_or (document_names_fault d)
    (option_or (version_fault (member_path [] (codes "Version")) (get (codes "Version") d))
    (optional_fault (member_path [] (codes "Id")) (get (codes "Id") d)))

-- its names, Version, Id, and then Statement
abbrev pub document_fault : PolicyKind → Data → Option PolicyFault
document_fault kind d = option_or (head_fault d) (statement_part_fault kind (member_path [] (codes "Statement")) (get (codes "Statement") d))

abbrev pub document_statements : PolicyKind → Data → List Statement
document_statements kind d = statements_in kind (get (codes "Statement") d)

-- the first fault of a document
unfoldable pub first_fault : PolicyKind → Data → Option PolicyFault
first_fault kind d = document_fault kind d

-- the statements of a document that has no fault
unfoldable pub statements_of : PolicyKind → Data → List Statement
statements_of kind d = document_statements kind d
