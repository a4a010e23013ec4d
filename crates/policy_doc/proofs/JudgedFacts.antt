-- What a part of the reader's first fault says of the places that it judges.
use Rattle.std.proofs.Common.{◌≡◌, ℕ, ◌+◌, Bool, true, false, ◌||◌, List, [], ◌∷◌, ◌++◌, Option, Some, None, if◌then◌else◌, refl, sym, ap, ◌∙◌, subst, append_assoc}
use Rattle.std.specs.Prelude.{codes, option_map, IsTrue, ⊤}
use Rattle.std.specs.Bool.{Decides}
use Rattle.std.specs.List.{All}
use Rattle.std.specs.Option.{option_or}
use Rattle.std.specs.Str.{bytes_eq}
use Rattle.std.proofs.lemmas.Bool.{false≢true}
use Rattle.std.proofs.lemmas.List.Elements.{All-nil, All-cons, All-head, All-tail, All-append}
use Rattle.cond_ops.specs.declared.operators.Operator.{Operator}
use Rattle.cond_ops.specs.Value.{IsValue}
use Rattle.serde_json.specs.Data.{Data, null, boolean, number, string, array, object, Items, no_items, item}
use Rattle.policy_doc.specs.declared.faults.Departure.{Departure}
use Rattle.policy_doc.specs.declared.faults.Departure.TheVariants.{BadShape, Unsupported}
use Rattle.policy_doc.specs.declared.faults.PolicyFault.{PolicyFault}
use Rattle.policy_doc.specs.declared.faults.PolicyFault.TheVariants as fault
use Rattle.policy_doc.specs.declared.forms.Form.{Form}
use Rattle.policy_doc.specs.declared.forms.Form.TheVariants.{Action, Resource, Caller, Stranger, Value}
use Rattle.policy_doc.specs.Forms.{has_colon, has_variable, is_caller, departure_of, value_departure, takes_count}
use Rattle.policy_doc.specs.Operators.{is_value_text}
use Rattle.policy_doc.specs.Paths.{fault_at, item_path}
use Rattle.policy_doc.specs.Texts.{text_given, given_fault, text_fault, text_of, items_fault, items_len, list_fault, texts_fault}
use Rattle.policy_doc.specs.Places.{AText, NoVariable, TextOf, ListOf, Fits, Place, IsRight, place_fault, place_at, each_item, text_places, texts_places, IsFirstFaultOf}
use Rattle.policy_doc.proofs.GrammarFacts.{text_tells}
use Rattle.policy_doc.proofs.ValueFacts.{value_decides}

-- all places are right and there is no fault, or the fault is the first place's that isn't right
abbrev pub Judged : List Place → Option PolicyFault → Type 0
Judged places None = All IsRight places
Judged places (Some fault) = IsFirstFaultOf places fault

-- ---- one step after another

sooner : (places more : List Place) (fault : PolicyFault) → IsFirstFaultOf places fault → IsFirstFaultOf (places ++ more) fault
sooner places more fault first = record {
  before = first.before;
  place = first.place;
  behind = first.behind ++ more;
  order = ap (λ l. l ++ more) first.order ∙ append_assoc first.before (first.place ∷ first.behind) more;
  right = first.right;
  wrong = first.wrong;
  at = first.at;
}

later : (places more : List Place) (fault : PolicyFault) → All IsRight places → IsFirstFaultOf more fault → IsFirstFaultOf (places ++ more) fault
later places more fault right first = record {
  before = places ++ first.before;
  place = first.place;
  behind = first.behind;
  order = ap (λ l. places ++ l) first.order ∙ sym (append_assoc places first.before (first.place ∷ first.behind));
  right = All-append IsRight places first.before right first.right;
  wrong = first.wrong;
  at = first.at;
}

pub both : (places more : List Place) (a b : Option PolicyFault) → Judged places a → Judged more b → Judged (places ++ more) (option_or a b)
both places more None None h k = All-append IsRight places more h k
both places more None (Some fault) h k = later places more fault h k
both places more (Some fault) b h k = sooner places more fault h

pub one : (place : Place) → IsRight place → Judged (place ∷ []) None
one place right = All-cons IsRight place [] right (All-nil IsRight)

pub passes : (place : Place) (more : List Place) (o : Option PolicyFault) → IsRight place → Judged more o → Judged (place ∷ more) o
passes place more None right h = All-cons IsRight place more right h
passes place more (Some fault) right h = later (place ∷ []) more fault (one place right) h

pub stops : (place : Place) (more : List Place) → ¬ (IsRight place) → Judged (place ∷ more) (Some (place_fault place))
stops place more wrong = record { before = []; place = place; behind = more; order = refl; right = All-nil IsRight; wrong = wrong; at = refl }

-- no fault but this one
abbrev pub IsOnly : PolicyFault → Option PolicyFault → Type 0
IsOnly wanted None = ⊤
IsOnly wanted (Some f) = f ≡ wanted

pub only_if : (f : PolicyFault) (b : Bool) → IsOnly f (if b then None else Some f)
only_if f true = tt
only_if f false = refl

pub tested : (place : Place) (o : Option PolicyFault) → (o ≡ None → IsRight place) → (IsRight place → o ≡ None) → IsOnly (place_fault place) o → Judged (place ∷ []) o
tested place None right none only = one place (right refl)
tested place (Some f) right none only =
    record { before = []; place = place; behind = []; order = refl; right = All-nil IsRight; wrong = λ h. let bad : Some f ≡ None = none h in cc; at = only }

-- ---- texts

-- no departure but BadShape
abbrev OnlyBad : Option Departure → Type 0
OnlyBad None = ⊤
OnlyBad (Some departure) = departure ≡ BadShape

bad_if : (b : Bool) → OnlyBad (if b then None else Some BadShape)
bad_if true = tt
bad_if false = refl

bad_only : (form : Form) (path : List ℕ) → ((text : List ℕ) → OnlyBad (departure_of form text)) → (o : Option (List ℕ)) → IsOnly (fault.BadShape path) (given_fault form path o)
bad_only form path bad None = refl
bad_only form path bad (Some text) = by_departure (departure_of form text) (bad text)
  where
    by_departure : (o : Option Departure) → OnlyBad o → IsOnly (fault.BadShape path) (option_map (λ departure. fault_at departure path) o)
    by_departure None only = tt
    by_departure (Some departure) only = ap (λ departure. fault_at departure path) only

module _ (path : List ℕ) (d : Data) where
  formed_judged : (form : Form) → ((text : List ℕ) → OnlyBad (departure_of form text)) → Judged (place_at path (Some d) (TextOf form) ∷ []) (text_fault form path d)
  formed_judged form bad =
      tested (place_at path (Some d) (TextOf form)) (text_fault form path d) (λ e. let is = (text_tells form path d).0 e in (text_of form d, is.0, is.1)) (λ h. ((text_tells form path d).1 h.0 (h.1, h.2)).0)
      (bad_only form path bad (text_given form d))

  stranger_judged : Judged (place_at path (Some d) (AText Stranger) ∷ []) (text_fault Stranger path d)
  stranger_judged =
      tested (place_at path (Some d) (AText Stranger)) (text_fault Stranger path d) (λ e. (text_of Stranger d, ((text_tells Stranger path d).0 e).0)) (λ h. ((text_tells Stranger path d).1 h.0 (h.1, tt)).0)
      (bad_only Stranger path (λ text. tt) (text_given Stranger d))

  no_text : (form : Form) → text_given form d ≡ None → ¬ (Fits (AText form) (Some d))
  no_text form none h = let bad : None ≡ Some h.0 = sym none ∙ h.1 in cc

  one_text : (form : Form) (text other : List ℕ) → text_given form d ≡ Some text → text_given form d ≡ Some other → other ≡ text
  one_text form text other is also = let same : Some other ≡ Some text = sym also ∙ is in cc

  has_one : (form : Form) (text : List ℕ) → text_given form d ≡ Some text → has_variable text ≡ true → ¬ (Fits (NoVariable form) (Some d))
  has_one form text is has h = false≢true (sym h.2 ∙ ap has_variable (one_text form text h.0 is h.1) ∙ has)

  resource_judged : Judged (text_places Resource path d) (text_fault Resource path d)
  resource_judged = by_given (text_given Resource d) refl
    where
      by_variable : (text : List ℕ) → text_given Resource d ≡ Some text → (b : Bool) → has_variable text ≡ b
          → Judged (place_at path (Some d) (NoVariable Resource) ∷ []) (option_map (λ departure. fault_at departure path) (if b then Some Unsupported else None))
      by_variable text is true has = stops (place_at path (Some d) (NoVariable Resource)) [] (has_one Resource text is has)
      by_variable text is false none = one (place_at path (Some d) (NoVariable Resource)) (text, is, none)

      by_given : (o : Option (List ℕ)) → text_given Resource d ≡ o → Judged (text_places Resource path d) (given_fault Resource path o)
      by_given None none = stops (place_at path (Some d) (AText Resource)) (place_at path (Some d) (NoVariable Resource) ∷ []) (no_text Resource none)
      by_given (Some text) is =
          passes (place_at path (Some d) (AText Resource)) (place_at path (Some d) (NoVariable Resource) ∷ []) (given_fault Resource path (Some text)) (text, is) (by_variable text is (has_variable text) refl)

  module _ (operator : Operator) where
    no_value : (text : List ℕ) → text_given (Value operator) d ≡ Some text → ¬ (IsValue operator text) → ¬ (Fits (TextOf (Value operator)) (Some d))
    no_value text is none h = none (subst (IsValue operator) (one_text (Value operator) text h.0 is h.1) h.2.1)

    value_judged : Judged (text_places (Value operator) path d) (text_fault (Value operator) path d)
    value_judged = by_given (text_given (Value operator) d) refl
      where
        by_value : (text : List ℕ) → text_given (Value operator) d ≡ Some text → has_variable text ≡ false → (t : Bool) → Decides t (IsValue operator text)
            → Judged (place_at path (Some d) (TextOf (Value operator)) ∷ []) (option_map (λ departure. fault_at departure path) (value_departure false t))
        by_value text is none true decides = one (place_at path (Some d) (TextOf (Value operator))) (text, is, (none, decides.0 refl))
        by_value text is none false decides = stops (place_at path (Some d) (TextOf (Value operator))) [] (no_value text is (λ h. false≢true (decides.1 h)))

        by_variable : (text : List ℕ) → text_given (Value operator) d ≡ Some text → (b : Bool) → has_variable text ≡ b
            → Judged (place_at path (Some d) (NoVariable (Value operator)) ∷ place_at path (Some d) (TextOf (Value operator)) ∷ []) (option_map (λ departure. fault_at departure path) (value_departure b (is_value_text operator text)))
        by_variable text is true has = stops (place_at path (Some d) (NoVariable (Value operator))) (place_at path (Some d) (TextOf (Value operator)) ∷ []) (has_one (Value operator) text is has)
        by_variable text is false none =
            passes (place_at path (Some d) (NoVariable (Value operator))) (place_at path (Some d) (TextOf (Value operator)) ∷ [])
            (option_map (λ departure. fault_at departure path) (value_departure false (is_value_text operator text))) (text, is, none)
            (by_value text is none (is_value_text operator text) (value_decides operator text))

        by_given : (o : Option (List ℕ)) → text_given (Value operator) d ≡ o → Judged (text_places (Value operator) path d) (given_fault (Value operator) path o)
        by_given None none = stops (place_at path (Some d) (AText (Value operator))) (place_at path (Some d) (NoVariable (Value operator)) ∷ place_at path (Some d) (TextOf (Value operator)) ∷ []) (no_text (Value operator) none)
        by_given (Some text) is =
            passes (place_at path (Some d) (AText (Value operator))) (place_at path (Some d) (NoVariable (Value operator)) ∷ place_at path (Some d) (TextOf (Value operator)) ∷ [])
            (given_fault (Value operator) path (Some text)) (text, is) (by_variable text is (has_variable text) refl)

pub text_judged : (form : Form) (path : List ℕ) (d : Data) → Judged (text_places form path d) (text_fault form path d)
text_judged Action path d = formed_judged path d Action (λ text. bad_if (bytes_eq text (codes "*") || has_colon text))
text_judged Resource path d = resource_judged path d
text_judged Caller path d = formed_judged path d Caller (λ text. bad_if (is_caller text))
text_judged Stranger path d = stranger_judged path d
text_judged (Value operator) path d = value_judged path d operator

items_judged : (form : Form) (path : List ℕ) (index : ℕ) (ds : Items) → Judged (each_item (text_places form) path index ds) (items_fault form path index ds)
items_judged form path index no_items = All-nil IsRight
items_judged form path index (item d ds) =
    both (text_places form (item_path path index) d) (each_item (text_places form) path (index + 1) ds) (text_fault form (item_path path index) d) (items_fault form path (index + 1) ds)
    (text_judged form (item_path path index) d) (items_judged form path (index + 1) ds)

list_judged : (form : Form) (path : List ℕ) (ds : Items) → Judged (texts_places form path (array ds)) (texts_fault form path (array ds))
list_judged form path ds = by_count (takes_count form (items_len ds)) refl
  where
    Counts : Items → Type 0
    Counts items = IsTrue (takes_count form (items_len items))

    counted : Fits (ListOf form) (Some (array ds)) → Counts ds
    counted h = let same : h.0 ≡ ds = let e : Some (array ds) ≡ Some (array h.0) = h.1 in cc in subst Counts same h.2

    by_count : (b : Bool) → takes_count form (items_len ds) ≡ b → Judged (texts_places form path (array ds)) (list_fault b form path ds)
    by_count true is = passes (place_at path (Some (array ds)) (ListOf form)) (each_item (text_places form) path 0 ds) (items_fault form path 0 ds) (ds, refl, is) (items_judged form path 0 ds)
    by_count false is = stops (place_at path (Some (array ds)) (ListOf form)) (each_item (text_places form) path 0 ds) (λ h. false≢true (sym is ∙ counted h))

pub texts_judged : (form : Form) (path : List ℕ) (d : Data) → Judged (texts_places form path d) (texts_fault form path d)
texts_judged form path null = text_judged form path null
texts_judged form path (boolean b) = text_judged form path (boolean b)
texts_judged form path (number n) = text_judged form path (number n)
texts_judged form path (string s) = text_judged form path (string s)
texts_judged form path (array ds) = list_judged form path ds
texts_judged form path (object ms) = text_judged form path (object ms)

-- ---- the first fault is one

same_place : (xs ys : List Place) (x y : Place) (us vs : List Place) → xs ++ x ∷ us ≡ ys ++ y ∷ vs → All IsRight xs → All IsRight ys → ¬ (IsRight x) → ¬ (IsRight y) → x ≡ y
same_place [] [] x y us vs e xall yall xwrong ywrong = cc
same_place [] (z ∷ ys) x y us vs e xall yall xwrong ywrong = let head : x ≡ z = cc in absurd (xwrong (subst IsRight (sym head) (All-head IsRight z ys yall)))
same_place (z ∷ xs) [] x y us vs e xall yall xwrong ywrong = let head : y ≡ z = cc in absurd (ywrong (subst IsRight (sym head) (All-head IsRight z xs xall)))
same_place (z ∷ xs) (w ∷ ys) x y us vs e xall yall xwrong ywrong =
    let tails : xs ++ x ∷ us ≡ ys ++ y ∷ vs = cc in
    same_place xs ys x y us vs tails (All-tail IsRight z xs xall) (All-tail IsRight w ys yall) xwrong ywrong

one_fault : (places : List Place) (f g : PolicyFault) → IsFirstFaultOf places f → IsFirstFaultOf places g → f ≡ g
one_fault places f g h k =
    let same = same_place h.before k.before h.place k.place h.behind k.behind (sym h.order ∙ k.order) h.right k.right h.wrong k.wrong in
    h.at ∙ ap place_fault same ∙ sym k.at

there : (xs : List Place) (x : Place) (us : List Place) → All IsRight (xs ++ x ∷ us) → IsRight x
there [] x us all = All-head IsRight x us all
there (y ∷ xs) x us all = there xs x us (All-tail IsRight y (xs ++ x ∷ us) all)

-- where all places are right there is none
no_fault : (places : List Place) (f : PolicyFault) → All IsRight places → ¬ (IsFirstFaultOf places f)
no_fault places f all first = first.wrong (there first.before first.place first.behind (subst (All IsRight) first.order all))

-- what is judged is judged once
pub judged_fault : (places : List Place) (o : Option PolicyFault) → Judged places o → (f : PolicyFault) → (o ≡ Some f → IsFirstFaultOf places f) × (IsFirstFaultOf places f → o ≡ Some f)
judged_fault places None all f = (λ e. let bad : None ≡ Some f = e in absurd (cc), λ first. absurd (no_fault places f all first))
judged_fault places (Some g) first f = (λ e. let same : g ≡ f = cc in subst (IsFirstFaultOf places) same first, λ other. ap Some (one_fault places g f first other))

pub judged_none : (places : List Place) (o : Option PolicyFault) → Judged places o → (o ≡ None → All IsRight places) × (All IsRight places → o ≡ None)
judged_none places None all = (λ e. all, λ h. refl)
judged_none places (Some g) first = (λ e. let bad : Some g ≡ None = e in absurd (cc), λ all. absurd (no_fault places g all first))
