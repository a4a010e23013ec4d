-- Objects, lists and documents: what is read of them, and which of their places is their first fault.
use Rattle.std.proofs.Common.{◌≡◌, ◌≢◌, ℕ, ◌≤◌, Bool, true, false, ◌||◌, not, List, [], ◌∷◌, ◌++◌, length, Option, Some, None, Result, Ok, Err, refl, sym, ap, ap₂, ◌∙◌, subst, arith, map}
use Rattle.std.specs.Prelude.{All, ⊤, option_and_then}
use Rattle.std.specs.Bool.{Decides}
use Rattle.std.specs.List.{AllByRecursion, AllZip, filter, fold}
use Rattle.std.specs.List.Sorted.{IsStrictlySortedBy}
use Rattle.std.proofs.lemmas.List.Kept.{IsStrictlySortedBy-filter}
use Rattle.policy_doc.specs.ByteOrder.{IsBeforeAll, IsInByteOrder, AreMembersInByteOrder}
use Rattle.kms_config.specs.Laws.{OthersInByteOrder}
use Rattle.std.specs.Ordering.{match_ordering, nat_cmp}
use Rattle.std.specs.declared.cmp.Ordering.{Ordering}
use Rattle.std.specs.declared.cmp.Ordering.TheVariants.{Less, Equal, Greater}
use Rattle.std.specs.Cmp.Lexicographic.{slice_cmp}
use Rattle.std.proofs.lemmas.Bool.{false≢true}
use Rattle.std.proofs.lemmas.Cmp.{nat_list_cmp_total, tied_itself}
use Rattle.std.proofs.lemmas.List.{append_assoc, append-nil}
use Rattle.std.proofs.lemmas.List.Elements.{All-nil, All-cons, All-head, All-tail, All-push}
use Rattle.serde_json.specs.Data.{Data, null, boolean, number, string, array, object, Items, Members, no_members, member}
use Rattle.serde_json.specs.Find.{as_object, get, get_member}
use Rattle.policy_doc.specs.Documents.{first_fault, statements_of}
use Rattle.policy_doc.specs.Grammar.{HasOnly}
use Rattle.policy_doc.specs.Names.{is_known, first_unknown}
use Rattle.policy_doc.specs.Paths.{member_path, item_path}
use Rattle.policy_doc.specs.Texts.{items_len}
use Rattle.policy_doc.specs.declared.faults.PolicyFault.{PolicyFault}
use Rattle.policy_doc.specs.declared.policies.Policy.{Policy}
use Rattle.policy_doc.specs.declared.policies.PolicyKind.TheVariants.{Identity as OfIdentity}
use Rattle.policy_doc.proofs.GrammarFacts.{policy_tells}
use Rattle.kms_config.specs.Answers.{◌>>=◌, at}
use Rattle.kms_config.specs.Identities.{document_by, document_in, next_document, documents_in, ceiling_in, fault_place}
use Rattle.kms_config.specs.Lists.{if_any, items_within, items_from}
use Rattle.kms_config.specs.Members.{members_in, none_other}
use Rattle.kms_config.specs.Grammar.{AreEach, AreItems, AreDocuments, IsCeiling, IsDocument, IsNew, IsObject, values_of}
use Rattle.kms_config.specs.Places.{AnObject, ListOf, Document, Nothing, Place, HasForm, IsFirstFaultOf, document_places, each_places, list_places, ceiling_places, member_place, members_of, names_in, other_places, values_at}
use Rattle.kms_config.proofs.JudgedFacts.{Judged, Both, AreMore, IsOneMore, here, one, items_judged, items_taken, judged_place, judged_then, judged_weaker}
use Rattle.kms_config.proofs.LeafFacts.{few_both, some_both, values_length}

-- ---- one step more

pub judged_ok : {A B : Type 0} (places : List Place) (first : Result A (List ℕ)) (f : A → B) (P : A → Type 0) (Q : B → Type 0) → Judged places first P → ((x : A) → P x → Q (f x)) → Judged places (first >>= (λ x. Ok (f x))) Q
judged_ok places (Ok x) f P Q h rest = (h.0, rest x h.1)
judged_ok places (Err path) f P Q h rest = h

pub both_same : {A : Type 0} (o : Option A) (P Q : A → Type 0) → Both o P → ((x : A) → P x → Q x) → ((x : A) → Q x → P x) → Both o Q
both_same o P Q both forth back = (λ x e. forth x (both.0 x e), λ x h. both.1 x (back x h))

-- ---- objects

object_both : (d : Data) → Both (as_object d) (λ ms. d ≡ object ms)
object_both null = (λ ms e. let bad : None ≡ Some ms = e in cc, λ ms e. cc)
object_both (boolean b) = (λ ms e. let bad : None ≡ Some ms = e in cc, λ ms e. cc)
object_both (number n) = (λ ms e. let bad : None ≡ Some ms = e in cc, λ ms e. cc)
object_both (string s) = (λ ms e. let bad : None ≡ Some ms = e in cc, λ ms e. cc)
object_both (array ds) = (λ ms e. let bad : None ≡ Some ms = e in cc, λ ms e. cc)
object_both (object mine) = (λ ms e. let same : mine ≡ ms = cc in ap object same, λ ms e. let same : mine ≡ ms = cc in ap Some same)

members_at : (path : List ℕ) (d : Data) → members_in path d ≡ at path (as_object d)
members_at path null = refl
members_at path (boolean b) = refl
members_at path (number n) = refl
members_at path (string s) = refl
members_at path (array ds) = refl
members_at path (object ms) = refl

pub object_judged : (path : List ℕ) (d : Data) → Judged (record { path = path; given = Some d; form = AnObject } ∷ []) (members_in path d) (λ ms. d ≡ object ms)
object_judged path d =
    subst (λ r. Judged (record { path = path; given = Some d; form = AnObject } ∷ []) r (λ ms. d ≡ object ms)) (sym (members_at path d))
    (judged_place (record { path = path; given = Some d; form = AnObject }) (as_object d) (λ ms. d ≡ object ms) (object_both d)
    (λ ms e. (ms, ap Some e)) (λ h. let same : d ≡ object h.0 = let e : Some d ≡ Some (object h.0) = h.1 in cc in (h.0, same)) refl)

-- a member that stands in an object is found
found_by : (o : Ordering) (first rest : Option Data) → first ≢ None → rest ≢ None → match_ordering o rest first rest ≢ None
found_by Less first rest h k = k
found_by Equal first rest h k = h
found_by Greater first rest h k = k

weaker_all : {A : Type 0} (P Q : A → Type 0) → ((x : A) → P x → Q x) → (xs : List A) → AllByRecursion P xs → AllByRecursion Q xs
weaker_all P Q weaker [] all = tt
weaker_all P Q weaker (x ∷ xs) all = (weaker x all.0, weaker_all P Q weaker xs all.1)

names_found : (ms : Members) → AllByRecursion (λ name. get_member name ms ≢ None) (names_in ms)
names_found no_members = tt
names_found (member name d ms) = (
  subst (λ o. match_ordering o (get_member name ms) (Some d) (get_member name ms) ≢ None) (sym (tied_itself nat_list_cmp_total name)) (λ e. let bad : Some d ≡ None = e in cc),
  weaker_all (λ n. get_member n ms ≢ None) (λ n. get_member n (member name d ms) ≢ None) (λ n h. found_by (slice_cmp nat_cmp n name) (Some d) (get_member n ms) (λ e. let bad : Some d ≡ None = e in cc) h) (names_in ms) (names_found ms),
)

abbrev others : List ℕ → List (List ℕ) → Data → List (List ℕ) → List Place
others path names d all = map (λ name. member_place path name d Nothing) (filter (λ name. not (is_known names name)) all)

others_judged : (path : List ℕ) (names : List (List ℕ)) (d : Data) (ms : Members) → AllByRecursion (λ name. get name d ≢ None) (names_in ms)
    → Judged (others path names d (names_in ms)) (none_other path (first_unknown names ms)) (λ _. HasOnly names ms)
others_judged path names d no_members found = (All-nil HasForm, tt)
others_judged path names d (member name e ms) found = by_test (HasOnly names (member name e ms)) (is_known names name) refl (with_it (others_judged path names d ms found.1))
  where
    with_it : Judged (others path names d (names_in ms)) (none_other path (first_unknown names ms)) (λ _. HasOnly names ms) → is_known names name ≡ true
        → Judged (others path names d (names_in ms)) (none_other path (first_unknown names ms)) (λ _. HasOnly names (member name e ms))
    with_it rest known =
        judged_weaker (others path names d (names_in ms)) (none_other path (first_unknown names ms)) (λ _. HasOnly names ms) (λ _. HasOnly names (member name e ms)) (λ _ only. (known, only)) rest

    first : IsFirstFaultOf (member_place path name d Nothing ∷ others path names d (names_in ms)) (member_path path name)
    first = record { before = []; place = member_place path name d Nothing; behind = others path names d (names_in ms); order = refl; right = All-nil HasForm; wrong = found.0; at = refl }

    by_test : (Is : Type 0) (b : Bool) → is_known names name ≡ b → (is_known names name ≡ true → Judged (others path names d (names_in ms)) (none_other path (first_unknown names ms)) (λ _. Is))
        → Judged (others path names d (names_in (member name e ms))) (none_other path (first_unknown names (member name e ms))) (λ _. Is)
    by_test Is true known rest = let all = rest known in rw known all
    by_test Is false known rest = rw known first

pub only_judged : (path : List ℕ) (names : List (List ℕ)) (d : Data) (ms : Members) → d ≡ object ms → Judged (other_places path names d) (none_other path (first_unknown names ms)) (λ _. IsObject names d)
only_judged path names d ms is =
    let all : AllByRecursion (λ name. get name d ≢ None) (names_in ms) = subst (λ v. AllByRecursion (λ name. get name v ≢ None) (names_in ms)) (sym is) (names_found ms) in
    subst (λ l. Judged (others path names d (names_in l)) (none_other path (first_unknown names ms)) (λ _. IsObject names d)) (sym (ap members_of is))
    (judged_weaker (others path names d (names_in ms)) (none_other path (first_unknown names ms)) (λ _. HasOnly names ms) (λ _. IsObject names d) (λ _ only. (ms, is, only))
    (others_judged path names d ms all))

-- and the other way round
pub none_unknown : (names : List (List ℕ)) (ms : Members) → HasOnly names ms → first_unknown names ms ≡ None
none_unknown names no_members only = refl
none_unknown names (member name d ms) only = rw only.0 (none_unknown names ms only.1)

-- ---- lists

module _ {A X : Type 0} (Is : List Data → Data → X → Type 0) (add : A → X → A) (next : A → ℕ → Data → Result A (List ℕ)) (places : List Data → Data → List Place) (Had : List Data → A → Type 0) where
  module _ (path : List ℕ) (least most : ℕ) (given : Option Data) (o : Option Items) (both : Both o (λ items. (given ≡ Some (array items)) × (least ≤ items_len items) × (items_len items ≤ most))) (start : A) (begins : Had [] start) where
    abbrev place : Place
    place = record { path = path; given = given; form = ListOf least most }

    are_items : (items : Items) → (given ≡ Some (array items)) × (least ≤ items_len items) × (items_len items ≤ most) → AreItems least most given (values_of items)
    are_items items h = (items, h.0, refl, subst (λ n. least ≤ n) (sym (values_length items)) h.1, subst (λ n. n ≤ most) (sym (values_length items)) h.2)

    pub list_judged : ((before : List Data) (d : Data) (had : A) → Had before had → Judged (places before d) (next had (length before) d) (IsOneMore Is add next places Had before d had))
        → Judged (place ∷ each_places places [] (values_at given)) (at path o >>= items_from next start 0) (λ new. (values : List Data) × AreItems least most given values × AreMore Is add next places Had [] values start new)
    list_judged step =
        judged_then (place ∷ []) (each_places places [] (values_at given)) (at path o) (items_from next start 0) (λ items. (given ≡ Some (array items)) × (least ≤ items_len items) × (items_len items ≤ most))
        (λ new. (values : List Data) × AreItems least most given values × AreMore Is add next places Had [] values start new)
        (judged_place place o (λ items. (given ≡ Some (array items)) × (least ≤ items_len items) × (items_len items ≤ most)) both
        (λ items h. (values_of items, are_items items h)) is_list refl)
        rest
      where
        is_list : HasForm place → (items : Items) × ((given ≡ Some (array items)) × (least ≤ items_len items) × (items_len items ≤ most))
        is_list h =
            let items = h.1.0 in
            let len : length h.0 ≡ items_len items = ap length h.1.2 ∙ values_length items in
            (items, (h.1.1, subst (λ n. least ≤ n) len h.1.3, subst (λ n. n ≤ most) len h.1.4))

        rest : (items : Items) → (given ≡ Some (array items)) × (least ≤ items_len items) × (items_len items ≤ most)
            → Judged (each_places places [] (values_at given)) (items_from next start 0 items) (λ new. (values : List Data) × AreItems least most given values × AreMore Is add next places Had [] values start new)
        rest items h =
            subst (λ values. Judged (each_places places [] values) (items_from next start 0 items) (λ new. (values : List Data) × AreItems least most given values × AreMore Is add next places Had [] values start new)) (sym (ap values_at h.0))
            (judged_weaker (each_places places [] (values_of items)) (items_from next start 0 items) (AreMore Is add next places Had [] (values_of items) start)
            (λ new. (values : List Data) × AreItems least most given values × AreMore Is add next places Had [] values start new)
            (λ new more. (values_of items, are_items items h, more))
            (items_judged Is add next places Had step items [] start begins))

    pub list_taken : ((before : List Data) (d : Data) (had : A) (x : X) → Had before had → Is before d x → (next had (length before) d ≡ Ok (add had x)) × Had (before ++ d ∷ []) (add had x))
        → (values : List Data) (xs : List X) → AreItems least most given values → AreEach Is [] values xs → at path o >>= items_from next start 0 ≡ Ok (fold add start xs)
    list_taken step values xs items each =
        let len : length values ≡ items_len items.0 = ap length items.2 ∙ values_length items.0 in
        let found = both.1 items.0 (items.1, subst (λ n. least ≤ n) len items.3, subst (λ n. n ≤ most) len items.4) in
        ap (λ r. at path r >>= items_from next start 0) found ∙ items_taken Is add next places Had step items.0 [] start xs begins (subst (λ v. AreEach Is [] v xs) items.2 each)

pub from_none : (most : ℕ) (given : Option Data) → Both (items_within most given) (λ items. (given ≡ Some (array items)) × (0 ≤ items_len items) × (items_len items ≤ most))
from_none most given =
    both_same (items_within most given) (λ items. (given ≡ Some (array items)) × (items_len items ≤ most)) (λ items. (given ≡ Some (array items)) × (0 ≤ items_len items) × (items_len items ≤ most)) (few_both most given)
    (λ items h. (h.0, omega arith, h.1)) (λ items h. (h.0, h.2))

pub from_one : (most : ℕ) (given : Option Data) → Both (option_and_then if_any (items_within most given)) (λ items. (given ≡ Some (array items)) × (1 ≤ items_len items) × (items_len items ≤ most))
from_one most given =
    both_same (option_and_then if_any (items_within most given)) (λ items. ((given ≡ Some (array items)) × (items_len items ≤ most)) × (1 ≤ items_len items))
    (λ items. (given ≡ Some (array items)) × (1 ≤ items_len items) × (items_len items ≤ most)) (some_both most given)
    (λ items h. (h.0.0, h.1, h.0.1)) (λ items h. ((h.0, h.2), h.1))

abbrev pub push : {X : Type 0} → List X → X → List X
push xs x = xs ++ x ∷ []

pub pushed : {X : Type 0} (had xs : List X) → fold push had xs ≡ had ++ xs
pushed had [] = sym (append-nil had)
pushed had (x ∷ xs) = pushed (had ++ x ∷ []) xs ∙ append_assoc had (x ∷ []) xs

-- ---- what no item before has

all_parts : {X : Type 0} (P : X → Type 0) (xs : List X) (x : X) → All P (xs ++ x ∷ []) → All P xs × P x
all_parts P [] x all = (All-nil P, All-head P x [] all)
all_parts P (y ∷ xs) x all = let rest = all_parts P xs x (All-tail P y (xs ++ x ∷ []) all) in (All-cons P y xs (All-head P y (xs ++ x ∷ []) all) rest.0, rest.1)

-- one item more, which has a text of its own there
pub new_more : (name : List ℕ) (before : List Data) (d : Data) (own text : List ℕ) → get name d ≡ Some (string own) → (a b : Bool) → Decides a (own ≡ text) → Decides (not b) (IsNew name before text)
    → Decides (not (b || a)) (IsNew name (before ++ d ∷ []) text)
new_more name before d own text is true true same new = (λ e. absurd (false≢true e), λ all. absurd (false≢true (new.1 (all_parts (λ d. get name d ≢ Some (string text)) before d all).0)))
new_more name before d own text is false true same new = (λ e. absurd (false≢true e), λ all. absurd (false≢true (new.1 (all_parts (λ d. get name d ≢ Some (string text)) before d all).0)))
new_more name before d own text is true false same new =
    (λ e. absurd (false≢true e), λ all. absurd ((all_parts (λ d. get name d ≢ Some (string text)) before d all).1 (is ∙ ap (λ t. Some (string t)) (same.0 refl))))
new_more name before d own text is false false same new = (
  λ e. All-push (λ d. get name d ≢ Some (string text)) before d (new.0 refl) (λ other. let equal : own ≡ text = let f : Some (string own) ≡ Some (string text) = sym is ∙ other in let g : string own ≡ string text = cc in cc in false≢true (same.1 equal)),
  λ all. refl,
)

-- ---- documents

document_judged : (path : List ℕ) (d : Data) → Judged (record { path = path; given = Some d; form = Document } ∷ []) (document_in path d) (IsDocument d)
unfolding document_in
document_judged path d = by_fault (first_fault OfIdentity d) refl
  where
    by_fault : (o : Option PolicyFault) → first_fault OfIdentity d ≡ o → Judged (record { path = path; given = Some d; form = Document } ∷ []) (document_by path d o) (IsDocument d)
    by_fault None none =
        let policy : Policy = record { kind = OfIdentity; statements = statements_of OfIdentity d } in
        let is : IsDocument d policy = (refl, (policy_tells OfIdentity d).0 none) in
        (one (record { path = path; given = Some d; form = Document }) (d, policy, refl, is), is)
    by_fault (Some why) some = here (record { path = path; given = Some d; form = Document }) (path ++ fault_place why) wrong (d, why, refl, some, refl)
      where
        wrong : ¬ (HasForm (record { path = path; given = Some d; form = Document }))
        wrong h =
            let same : d ≡ h.0 = let e : Some d ≡ Some h.0 = h.2 in cc in
            let none = ((policy_tells OfIdentity h.0).1 h.1.statements h.3.1).0 in
            let bad : Some why ≡ None = sym some ∙ ap (first_fault OfIdentity) same ∙ none in
            cc

document_taken : (path : List ℕ) (d : Data) (policy : Policy) → IsDocument d policy → document_in path d ≡ Ok policy
unfolding document_in
document_taken path d policy is =
    let tells = (policy_tells OfIdentity d).1 policy.statements is.1 in
    ap (document_by path d) tells.0 ∙ ap₂ (λ k s. Ok (record { kind = k; statements = s })) (sym is.0) (sym tells.1)

abbrev Each : List Data → Data → Policy → Type 0
Each before d policy = IsDocument d policy

abbrev NoMatter : List Data → List Policy → Type 0
NoMatter before had = ⊤

module _ (path : List ℕ) where
  document_step : (before : List Data) (d : Data) (had : List Policy) → NoMatter before had
      → Judged (document_places path before d) (next_document path had (length before) d) (IsOneMore Each push (next_document path) (document_places path) NoMatter before d had)
  document_step before d had h =
      judged_ok (document_places path before d) (document_in (item_path path (length before)) d) (λ policy. had ++ policy ∷ []) (IsDocument d) (IsOneMore Each push (next_document path) (document_places path) NoMatter before d had)
      (document_judged (item_path path (length before)) d) (λ policy is. (policy, is, refl, tt))

  document_takes : (before : List Data) (d : Data) (had : List Policy) (policy : Policy) → NoMatter before had → Each before d policy
      → (next_document path had (length before) d ≡ Ok (push had policy)) × NoMatter (before ++ d ∷ []) (push had policy)
  document_takes before d had policy h is = (ap (λ r. r >>= (λ policy. Ok (had ++ policy ∷ []))) (document_taken (item_path path (length before)) d policy is), tt)

zip_of_each : (before values : List Data) (policies : List Policy) → AreEach Each before values policies → AllZip IsDocument values policies
zip_of_each before [] [] each = tt
zip_of_each before [] (x ∷ xs) each = each
zip_of_each before (d ∷ values) [] each = each
zip_of_each before (d ∷ values) (x ∷ xs) each = (each.0, zip_of_each (before ++ d ∷ []) values xs each.1)

each_of_zip : (before values : List Data) (policies : List Policy) → AllZip IsDocument values policies → AreEach Each before values policies
each_of_zip before [] [] zip = tt
each_of_zip before [] (x ∷ xs) zip = zip
each_of_zip before (d ∷ values) [] zip = zip
each_of_zip before (d ∷ values) (x ∷ xs) zip = (zip.0, each_of_zip (before ++ d ∷ []) values xs zip.1)

module _ (path : List ℕ) (least most : ℕ) (given : Option Data) (o : Option Items) (both : Both o (λ items. (given ≡ Some (array items)) × (least ≤ items_len items) × (items_len items ≤ most))) where
  documents_judged_by : Judged (list_places document_places path least most given) (at path o >>= items_from (next_document path) [] 0) (AreDocuments least most given)
  documents_judged_by =
      judged_weaker (list_places document_places path least most given) (at path o >>= items_from (next_document path) [] 0)
      (λ new. (values : List Data) × AreItems least most given values × AreMore Each push (next_document path) (document_places path) NoMatter [] values [] new) (AreDocuments least most given)
      (λ new h. (h.0, h.1, subst (AllZip IsDocument h.0) (sym (h.2.2 ∙ pushed [] h.2.0)) (zip_of_each [] h.0 h.2.0 h.2.1)))
      (list_judged Each push (next_document path) (document_places path) NoMatter path least most given o both [] tt (document_step path))

  documents_taken_by : (policies : List Policy) → AreDocuments least most given policies → at path o >>= items_from (next_document path) [] 0 ≡ Ok policies
  documents_taken_by policies are =
      list_taken Each push (next_document path) (document_places path) NoMatter path least most given o both [] tt (document_takes path) are.0 policies are.1 (each_of_zip [] are.0 policies are.2)
      ∙ ap Ok (pushed [] policies)

pub documents_judged : (path : List ℕ) (given : Option Data) → Judged (list_places document_places path 0 10 given) (documents_in path given) (AreDocuments 0 10 given)
documents_judged path given = documents_judged_by path 0 10 given (items_within 10 given) (from_none 10 given)

pub documents_taken : (path : List ℕ) (given : Option Data) (policies : List Policy) → AreDocuments 0 10 given policies → documents_in path given ≡ Ok policies
documents_taken path given policies are = documents_taken_by path 0 10 given (items_within 10 given) (from_none 10 given) policies are

pub ceiling_judged : (path : List ℕ) (given : Option Data) → Judged (ceiling_places path given) (ceiling_in path given) (IsCeiling given)
ceiling_judged path None = (All-nil HasForm, refl)
ceiling_judged path (Some d) = documents_judged_by path 1 10 (Some d) (option_and_then if_any (items_within 10 (Some d))) (from_one 10 (Some d))

pub ceiling_taken : (path : List ℕ) (given : Option Data) (policies : List Policy) → IsCeiling given policies → ceiling_in path given ≡ Ok policies
ceiling_taken path None policies are = ap Ok (sym are)
ceiling_taken path (Some d) policies are = documents_taken_by path 1 10 (Some d) (option_and_then if_any (items_within 10 (Some d))) (from_one 10 (Some d)) policies are

-- ---- members in byte order

sorted_names : (ms : Members) → AreMembersInByteOrder ms → IsStrictlySortedBy (slice_cmp nat_cmp) (names_in ms)
unfolding IsStrictlySortedBy
sorted_names no_members order = tt
sorted_names (member name d ms) order = (each_behind ms order.0, sorted_names ms order.2)
  where
    each_behind : (ms : Members) → IsBeforeAll name ms → AllByRecursion (λ other. slice_cmp nat_cmp name other ≡ Less) (names_in ms)
    each_behind no_members all = tt
    each_behind (member other e ms) all = (all.0, each_behind ms all.1)

members_sorted : (d : Data) → IsInByteOrder d → AreMembersInByteOrder (members_of d)
members_sorted null order = tt
members_sorted (boolean b) order = tt
members_sorted (number n) order = tt
members_sorted (string s) order = tt
members_sorted (array ds) order = tt
members_sorted (object ms) order = order

pub others_sorted : OthersInByteOrder
others_sorted names d order = IsStrictlySortedBy-filter (slice_cmp nat_cmp) (λ name. not (is_known names name)) (names_in (members_of d)) (sorted_names (members_of d) (members_sorted d order))
