-- What a step of the reader says of the places that it judges.
use Rattle.std.proofs.Common.{◌≡◌, ℕ, ◌+◌, List, [], ◌∷◌, ◌++◌, length, Option, Some, None, Result, Ok, Err, refl, sym, ap, ◌∙◌, subst}
use Rattle.std.specs.Prelude.{All}
use Rattle.std.specs.List.{fold}
use Rattle.std.proofs.lemmas.List.{append_assoc, length-append}
use Rattle.std.proofs.lemmas.List.Elements.{All-nil, All-cons, All-head, All-tail, All-append}
use Rattle.serde_json.specs.Data.{Data, Items, no_items, item}
use Rattle.policy_doc.specs.Documents.{first_fault}
use Rattle.policy_doc.specs.declared.policies.PolicyKind.TheVariants.{Identity as OfIdentity}
use Rattle.kms_config.specs.Identities.{fault_place}
use Rattle.kms_config.specs.Answers.{◌>>=◌, at}
use Rattle.kms_config.specs.Lists.{items_from}
use Rattle.kms_config.specs.Grammar.{AreEach, values_of}
use Rattle.kms_config.specs.Places.{Form, Document, Place, HasForm, IsPointer, IsFaultAt, IsFirstFaultOf, each_places}

-- a value of this kind, and all places have their forms; or the first fault
abbrev pub Judged : {A : Type 0} → List Place → Result A (List ℕ) → (A → Type 0) → Type 0
Judged places (Ok x) Is = All HasForm places × Is x
Judged places (Err path) Is = IsFirstFaultOf places path

-- ---- one step after another

sooner : (places more : List Place) (path : List ℕ) → IsFirstFaultOf places path → IsFirstFaultOf (places ++ more) path
sooner places more path first = record {
  before = first.before;
  place = first.place;
  behind = first.behind ++ more;
  order = ap (λ l. l ++ more) first.order ∙ append_assoc first.before (first.place ∷ first.behind) more;
  right = first.right;
  wrong = first.wrong;
  at = first.at;
}

later : (places more : List Place) (path : List ℕ) → All HasForm places → IsFirstFaultOf more path → IsFirstFaultOf (places ++ more) path
later places more path right first = record {
  before = places ++ first.before;
  place = first.place;
  behind = first.behind;
  order = ap (λ l. places ++ l) first.order ∙ sym (append_assoc places first.before (first.place ∷ first.behind));
  right = All-append HasForm places first.before right first.right;
  wrong = first.wrong;
  at = first.at;
}

pub judged_more : {A : Type 0} (places more : List Place) (answer : Result A (List ℕ)) (Is : A → Type 0) → All HasForm places → Judged more answer Is → Judged (places ++ more) answer Is
judged_more places more (Ok x) Is right h = (All-append HasForm places more right h.0, h.1)
judged_more places more (Err path) Is right h = later places more path right h

pub judged_then : {A B : Type 0} (places more : List Place) (first : Result A (List ℕ)) (next : A → Result B (List ℕ)) (P : A → Type 0) (Q : B → Type 0)
    → Judged places first P → ((x : A) → P x → Judged more (next x) Q) → Judged (places ++ more) (first >>= next) Q
judged_then places more (Ok x) next P Q h rest = judged_more places more (next x) Q h.0 (rest x h.1)
judged_then places more (Err path) next P Q h rest = sooner places more path h

pub judged_weaker : {A : Type 0} (places : List Place) (answer : Result A (List ℕ)) (P Q : A → Type 0) → ((x : A) → P x → Q x) → Judged places answer P → Judged places answer Q
judged_weaker places (Ok x) P Q weaker h = (h.0, weaker x h.1)
judged_weaker places (Err path) P Q weaker h = h

-- ---- one place

-- what is read of a place: exactly a value of this kind
abbrev pub Both : {A : Type 0} → Option A → (A → Type 0) → Type 0
Both {A} o Is = ((x : A) → o ≡ Some x → Is x) × ((x : A) → Is x → o ≡ Some x)

pub here : (place : Place) (path : List ℕ) → ¬ (HasForm place) → IsFaultAt place path → IsFirstFaultOf (place ∷ []) path
here place path wrong at = record { before = []; place = place; behind = []; order = refl; right = All-nil HasForm; wrong = wrong; at = at }

pub one : (place : Place) → HasForm place → All HasForm (place ∷ [])
one place has = All-cons HasForm place [] has (All-nil HasForm)

pub judged_place : {A : Type 0} (place : Place) (o : Option A) (Is : A → Type 0) → Both o Is → ((x : A) → Is x → HasForm place) → (HasForm place → (x : A) × Is x) → IsFaultAt place place.path
    → Judged (place ∷ []) (at place.path o) Is
judged_place place None Is both has is fault = here place place.path (λ h. let it = is h in let bad : None ≡ Some it.0 = both.1 it.0 it.1 in cc) fault
judged_place place (Some x) Is both has is fault = let now = both.0 x refl in (one place (has x now), now)

-- ---- items

module _ {A X : Type 0} (Is : List Data → Data → X → Type 0) (add : A → X → A) (next : A → ℕ → Data → Result A (List ℕ)) (places : List Data → Data → List Place) (Had : List Data → A → Type 0) where
  -- an item more
  abbrev pub IsOneMore : List Data → Data → A → A → Type 0
  IsOneMore before d had new = (x : X) × Is before d x × (new ≡ add had x) × Had (before ++ d ∷ []) new

  -- all items
  abbrev pub AreMore : List Data → List Data → A → A → Type 0
  AreMore before values had new = (xs : List X) × AreEach Is before values xs × (new ≡ fold add had xs) × ((all : List Data) × Had all new)

  pub items_judged : ((before : List Data) (d : Data) (had : A) → Had before had → Judged (places before d) (next had (length before) d) (IsOneMore before d had))
      → (items : Items) (before : List Data) (had : A) → Had before had
      → Judged (each_places places before (values_of items)) (items_from next had (length before) items) (AreMore before (values_of items) had)
  items_judged step no_items before had h = (All-nil HasForm, ([], tt, refl, (before, h)))
  items_judged step (item d ds) before had h =
      judged_then (places before d) (each_places places (before ++ d ∷ []) (values_of ds)) (next had (length before) d) (λ new. items_from next new (length before + 1) ds)
      (IsOneMore before d had) (AreMore before (d ∷ values_of ds) had) (step before d had h) (rest (items_judged step ds (before ++ d ∷ [])))
    where
      Behind : A → ℕ → Type 0
      Behind new index = Judged (each_places places (before ++ d ∷ []) (values_of ds)) (items_from next new index ds) (AreMore (before ++ d ∷ []) (values_of ds) new)

      with_it : (new : A) → IsOneMore before d had new → (final : A) → AreMore (before ++ d ∷ []) (values_of ds) new final → AreMore before (d ∷ values_of ds) had final
      with_it new has final more = (has.0 ∷ more.0, (has.1, more.1), more.2 ∙ ap (λ a. fold add a more.0) has.2, more.3)

      rest : ((new : A) → Had (before ++ d ∷ []) new → Behind new (length (before ++ d ∷ []))) → (new : A) → IsOneMore before d had new
          → Judged (each_places places (before ++ d ∷ []) (values_of ds)) (items_from next new (length before + 1) ds) (AreMore before (d ∷ values_of ds) had)
      rest others new has =
          judged_weaker (each_places places (before ++ d ∷ []) (values_of ds)) (items_from next new (length before + 1) ds) (AreMore (before ++ d ∷ []) (values_of ds) new) (AreMore before (d ∷ values_of ds) had)
          (with_it new has) (subst (Behind new) (length-append before (d ∷ [])) (others new has.3))

  -- and the other way round
  pub items_taken : ((before : List Data) (d : Data) (had : A) (x : X) → Had before had → Is before d x → (next had (length before) d ≡ Ok (add had x)) × Had (before ++ d ∷ []) (add had x))
      → (items : Items) (before : List Data) (had : A) (xs : List X) → Had before had → AreEach Is before (values_of items) xs → items_from next had (length before) items ≡ Ok (fold add had xs)
  items_taken step no_items before had [] h each = refl
  items_taken step no_items before had (x ∷ xs) h each = absurd each
  items_taken step (item d ds) before had [] h each = absurd each
  items_taken step (item d ds) before had (x ∷ xs) h each =
      let now = step before d had x h each.0 in
      ap (λ r. r >>= (λ new. items_from next new (length before + 1) ds)) now.0
      ∙ ap (λ n. items_from next (add had x) n ds) (sym (length-append before (d ∷ [])))
      ∙ items_taken step ds (before ++ d ∷ []) (add had x) xs now.1 each.1

-- ---- the first fault is one

same_place : (xs ys : List Place) (x y : Place) (us vs : List Place) → xs ++ x ∷ us ≡ ys ++ y ∷ vs → All HasForm xs → All HasForm ys → ¬ (HasForm x) → ¬ (HasForm y) → x ≡ y
same_place [] [] x y us vs e xall yall xwrong ywrong = cc
same_place [] (z ∷ ys) x y us vs e xall yall xwrong ywrong = let head : x ≡ z = cc in absurd (xwrong (subst HasForm (sym head) (All-head HasForm z ys yall)))
same_place (z ∷ xs) [] x y us vs e xall yall xwrong ywrong = let head : y ≡ z = cc in absurd (ywrong (subst HasForm (sym head) (All-head HasForm z xs xall)))
same_place (z ∷ xs) (w ∷ ys) x y us vs e xall yall xwrong ywrong =
    let tails : xs ++ x ∷ us ≡ ys ++ y ∷ vs = cc in
    same_place xs ys x y us vs tails (All-tail HasForm z xs xall) (All-tail HasForm w ys yall) xwrong ywrong

one_pointer : (form : Form) (given : Option Data) (place p q : List ℕ) → IsPointer form given place p → IsPointer form given place q → p ≡ q
one_pointer Document given place p q h k =
    let same : h.0 ≡ k.0 = let e : Some h.0 ≡ Some k.0 = sym h.2 ∙ k.2 in cc in
    let why : h.1 ≡ k.1 = let e : Some h.1 ≡ Some k.1 = sym h.3 ∙ ap (λ d. first_fault OfIdentity d) same ∙ k.3 in cc in
    h.4 ∙ ap (λ w. place ++ fault_place w) why ∙ sym k.4
one_pointer _ given place p q h k = h ∙ sym k

pub one_fault : (places : List Place) (p q : List ℕ) → IsFirstFaultOf places p → IsFirstFaultOf places q → p ≡ q
one_fault places p q h k =
    let same = same_place h.before k.before h.place k.place h.behind k.behind (sym h.order ∙ k.order) h.right k.right h.wrong k.wrong in
    one_pointer k.place.form k.place.given k.place.path p q (subst (λ place. IsFaultAt place p) same h.at) k.at

there : (xs : List Place) (x : Place) (us : List Place) → All HasForm (xs ++ x ∷ us) → HasForm x
there [] x us all = All-head HasForm x us all
there (y ∷ xs) x us all = there xs x us (All-tail HasForm y (xs ++ x ∷ us) all)

-- where all places have their forms there is none
pub no_fault : (places : List Place) (path : List ℕ) → All HasForm places → ¬ (IsFirstFaultOf places path)
no_fault places path all first = first.wrong (there first.before first.place first.behind (subst (All HasForm) first.order all))
