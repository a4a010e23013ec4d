-- Values that are a text or a list of texts.
use Rattle.std.specs.Prelude.{ℕ, ◌+◌, Bool, true, false, List, [], ◌∷◌, codes, decimal, Option, Some, None, option_map, unwrap_or, if◌then◌else◌}
use Rattle.std.specs.Fmt.{signed_decimal}
use Rattle.std.specs.Option.{option_or}
use Rattle.serde_json.specs.Data.{Num, unsigned, negative, float, Data, null, boolean, number, string, array, object, Items, no_items, item}
use Rattle.policy_doc.specs.declared.faults.PolicyFault.{PolicyFault}
use Rattle.policy_doc.specs.declared.faults.PolicyFault.TheVariants as fault
use Rattle.policy_doc.specs.declared.forms.Form.{Form}
use Rattle.policy_doc.specs.Paths.{fault_at, item_path}
use Rattle.policy_doc.specs.Forms.{departure_of, takes_scalars, takes_count}

-- the JSON texts of a truth value and of a whole number
abbrev pub truth_text : Bool → List ℕ
truth_text true = codes "true"
truth_text false = codes "false"

abbrev pub whole_text : Num → Option (List ℕ)
whole_text (unsigned n) = Some (decimal n)
whole_text (negative z) = Some (signed_decimal z)
whole_text (float x) = None

-- the text that a value stands for
abbrev pub text_given : Form → Data → Option (List ℕ)
text_given form null = None
text_given form (boolean b) = if takes_scalars form then Some (truth_text b) else None
text_given form (number n) = if takes_scalars form then whole_text n else None
text_given form (string s) = Some s
text_given form (array ds) = None
text_given form (object ms) = None

abbrev pub text_of : Form → Data → List ℕ
text_of form d = unwrap_or (text_given form d) []

-- the fault of what should stand for a text of this form
abbrev pub given_fault : Form → List ℕ → Option (List ℕ) → Option PolicyFault
given_fault form path None = Some (fault.BadShape path)
given_fault form path (Some text) = option_map (λ departure. fault_at departure path) (departure_of form text)

abbrev pub text_fault : Form → List ℕ → Data → Option PolicyFault
text_fault form path d = given_fault form path (text_given form d)

-- the first fault of items, the first of which has this index
abbrev pub items_fault : Form → List ℕ → ℕ → Items → Option PolicyFault
items_fault form path index no_items = None
items_fault form path index (item d ds) = option_or (text_fault form (item_path path index) d) (items_fault form path (index + 1) ds)

abbrev pub items_of : Form → Items → List (List ℕ)
items_of form no_items = []
items_of form (item d ds) = text_of form d ∷ items_of form ds

abbrev pub items_len : Items → ℕ
items_len no_items = 0
items_len (item d ds) = items_len ds + 1

abbrev pub list_fault : Bool → Form → List ℕ → Items → Option PolicyFault
list_fault false form path ds = Some (fault.BadShape path)
list_fault true form path ds = items_fault form path 0 ds

-- the first fault of what should be a text, or a list of as many texts as the form takes
abbrev pub texts_fault : Form → List ℕ → Data → Option PolicyFault
texts_fault form path null = text_fault form path null
texts_fault form path (boolean b) = text_fault form path (boolean b)
texts_fault form path (number n) = text_fault form path (number n)
texts_fault form path (string s) = text_fault form path (string s)
texts_fault form path (array ds) = list_fault (takes_count form (items_len ds)) form path ds
texts_fault form path (object ms) = text_fault form path (object ms)

abbrev pub texts_of : Form → Data → List (List ℕ)
texts_of form null = text_of form null ∷ []
texts_of form (boolean b) = text_of form (boolean b) ∷ []
texts_of form (number n) = text_of form (number n) ∷ []
texts_of form (string s) = text_of form (string s) ∷ []
texts_of form (array ds) = items_of form ds
texts_of form (object ms) = text_of form (object ms) ∷ []
