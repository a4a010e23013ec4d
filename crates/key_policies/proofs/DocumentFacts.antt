-- What a document's bytes are read as.
use Rattle.std.proofs.Common.{◌≡◌, ◌≢◌, ℕ, ◌<◌, ◌≤◌, Bool, true, false, List, length, Option, Some, None, refl, sym, ap, ◌∙◌, if◌then◌else◌, nat_lt, arith, ltb-true, Result, Ok, Err, IfOk, inl, inr}
use Rattle.std.specs.Prelude.{IfErr, ◌↔◌}
use Rattle.std.proofs.lemmas.Bool.{cases_lt, lt-ltb}
use Rattle.std.specs.Str.{IsUtf8}
use Rattle.serde_json.specs.Data.{Data}
use Rattle.serde_json.specs.Read.{read as read_text}
use Rattle.policy_doc.specs.Grammar.{IsPolicyOf}
use Rattle.policy_doc.specs.Reading.{Reads, ReadsNothing, IsFaultOf}
use Rattle.policy_doc.specs.declared.faults.PolicyFault.{PolicyFault}
use Rattle.policy_doc.specs.declared.faults.PolicyFault.TheVariants as fault
use Rattle.policy_doc.specs.declared.policies.Policy.{Policy}
use Rattle.policy_doc.specs.declared.policies.PolicyKind.TheVariants.{Key}
use Rattle.policy_doc.proofs.GrammarFacts.{policy_tells}
use Rattle.key_policies.specs.KeyPolicy.{value_fault, fault_in, value_policy, policy_without, no_statements, policy_in}

long_by : (b : Bool) (text : List ℕ) → nat_lt 32768 (length text) ≡ b → length text ≤ 32768 → b ≡ false
long_by true text is short = absurd (omega (arith, ltb-true 32768 (length text) is))
long_by false text is short = refl

-- a text that isn't too long has the fault of its value
fault_is : (text : List ℕ) → length text ≤ 32768 → fault_in text ≡ value_fault (read_text text)
unfolding fault_in
fault_is text short = ap (λ (b : Bool). if b then Some fault.TooLong else value_fault (read_text text)) (long_by (nat_lt 32768 (length text)) text refl short)

too_long_is : (text : List ℕ) → 32768 < length text → fault_in text ≡ Some fault.TooLong
unfolding fault_in
too_long_is text long = ap (λ (b : Bool). if b then Some fault.TooLong else value_fault (read_text text)) (lt-ltb 32768 (length text) long)

reads_is : (text : List ℕ) (d : Data) (p : Policy) → length text ≤ 32768 → Reads text d → p.kind ≡ Key → IsPolicyOf Key d p.statements → (fault_in text ≡ None) × (p ≡ policy_in text)
unfolding policy_in
reads_is text d p short reads kind is =
    let told = (policy_tells Key d).1 p.statements is in
    let none : fault_in text ≡ None = fault_is text short ∙ ap value_fault reads.1 ∙ told.0 in
    (none, (λ i. record { kind = kind i; statements = told.1 i }) ∙ sym (ap (λ (f : Option PolicyFault). policy_without f (read_text text)) none ∙ ap value_policy reads.1))

nothing_by : (text : List ℕ) (o : Option Data) → IsUtf8 text → read_text text ≡ o → ReadsNothing text → o ≡ None
nothing_by text (Some d) utf8 is none = absurd (none d (utf8, is))
nothing_by text None utf8 is none = refl

fault_of : (text : List ℕ) (e : PolicyFault) → IsUtf8 text → length text ≤ 32768 → IsFaultOf Key text e → e ≢ fault.NoMemory → fault_in text ≡ Some e
fault_of text fault.TooLong utf8 short is some = absurd (omega (arith, is, short))
fault_of text fault.NotJson utf8 short is some = fault_is text short ∙ ap value_fault (nothing_by text (read_text text) utf8 refl is)
fault_of text (fault.BadShape path) utf8 short is some = fault_is text short ∙ ap value_fault is.1.1 ∙ is.2
fault_of text (fault.Unsupported path) utf8 short is some = fault_is text short ∙ ap value_fault is.1.1 ∙ is.2
fault_of text fault.NoMemory utf8 short is some = absurd (some refl)

abbrev pub Reading : List ℕ → Result Policy PolicyFault → Type 0
Reading text r = IfOk r (λ p. (fault_in text ≡ None) × (p ≡ policy_in text)) × IfErr r (λ e. e ≢ fault.NoMemory → fault_in text ≡ Some e)

pub read_is : (text : List ℕ) (r : Result Policy PolicyFault) → IsUtf8 text → (r ≡ Err fault.TooLong) ↔ (32768 < length text)
    → IfOk r (λ p. (p.kind ≡ Key) × ((d : Data) × Reads text d × IsPolicyOf Key d p.statements)) → IfErr r (IsFaultOf Key text) → Reading text r
read_is text (Ok p) utf8 long ok err = elim (cases_lt 32768 (length text)) [
  | inl past ↦ let bad : Ok p ≡ Err fault.TooLong = long.1 past in cc
  | inr short ↦ (reads_is text ok.1.0 p (omega arith) ok.1.1 ok.0 ok.1.2, tt)
]
read_is text (Err e) utf8 long ok err = elim (cases_lt 32768 (length text)) [
  | inl past ↦ (tt, λ some. let same : Err e ≡ Err fault.TooLong = long.1 past in too_long_is text past ∙ cc)
  | inr short ↦ (tt, λ some. fault_of text e utf8 (omega arith) err some)
]

-- a text with a fault has no statements
pub faulty_is : (text : List ℕ) (why : PolicyFault) → fault_in text ≡ Some why → policy_in text ≡ no_statements
unfolding policy_in
faulty_is text why is = ap (λ (f : Option PolicyFault). policy_without f (read_text text)) is
