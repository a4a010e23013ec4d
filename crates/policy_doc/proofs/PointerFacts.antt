-- Pointers to members and items, from pointers to what they stand in.
use Rattle.std.proofs.Common.{◌≡◌, inl, inr, ℕ, true, List, [], ◌∷◌, ◌++◌, Some, None, Ordering, Less, Equal, Greater, nat_cmp, refl, sym, ap, ◌∙◌, subst, append_assoc, append-nil}
use Rattle.std.specs.Prelude.{codes, decimal}
use Rattle.std.specs.Cmp.Lexicographic.{slice_cmp}
use Rattle.std.specs.Ordering.{match_ordering}
use Rattle.std.proofs.lemmas.Cmp.{nat_list_cmp_total, tied_itself}
use Rattle.std.proofs.lemmas.Map.Lookups.{exact_bytes}
use Rattle.serde_json.specs.Data.{Data, array, object, Items, Members, no_members, member}
use Rattle.serde_json.specs.Find.{get_member, get_item}
use Rattle.policy_doc.specs.Paths.{escaped, member_path, item_path}
use Rattle.policy_doc.specs.Pointers.{pointer_of, HasMember, RefersTo, LeadsTo, PointsTo, LacksMember, IsToken}
use Rattle.policy_doc.proofs.TokenFacts.{token_name, token_index, decoded_name, is_ascii, decoded_ascii}
use Rattle.std.proofs.lemmas.List.Elements.{All-nil, All-cons, All-append}

-- ---- one token more

pointer_on : (tokens : List (List ℕ)) (token : List ℕ) → pointer_of (tokens ++ (token ∷ [])) ≡ pointer_of tokens ++ (codes "/" ++ token)
pointer_on [] token = ap (λ t. 47 ∷ t) (append-nil token)
pointer_on (first ∷ tokens) token = ap (λ t. 47 ∷ (first ++ t)) (pointer_on tokens token) ∙ ap (λ t. 47 ∷ t) (sym (append_assoc first (pointer_of tokens) (codes "/" ++ token)))

leads_on : (tokens : List (List ℕ)) (root place next : Data) (token : List ℕ) → LeadsTo tokens root place → RefersTo token place next → LeadsTo (tokens ++ (token ∷ [])) root next
leads_on [] root place next token here refers = (next, subst (λ d. RefersTo token d next) (sym here) refers, refl)
leads_on (first ∷ tokens) root place next token (middle, begins, leads) refers = (middle, begins, leads_on tokens middle place next token leads refers)

points_on : (path : List ℕ) (root place next : Data) (token : List ℕ) → PointsTo path root place → IsToken token → RefersTo token place next → PointsTo (path ++ (codes "/" ++ token)) root next
points_on path root place next token (tokens, are, is, leads) fits refers = (
  tokens ++ (token ∷ []),
  All-append IsToken tokens (token ∷ []) are (All-cons IsToken token [] fits (All-nil IsToken)),
  ap (λ p. p ++ (codes "/" ++ token)) is ∙ sym (pointer_on tokens token),
  leads_on tokens root place next token leads refers,
)

pub points_root : (root : Data) → PointsTo [] root root
points_root root = ([], All-nil IsToken, refl, refl)

pub points_member : (path name : List ℕ) (root d : Data) (ms : Members) → PointsTo path root (object ms) → HasMember name d ms → PointsTo (member_path path name) root d
points_member path name root d ms points has = points_on path root (object ms) d (escaped name) points (token_name name) (name, decoded_name name, has)

pub points_item : (path : List ℕ) (index : ℕ) (root d : Data) (ds : Items) → PointsTo path root (array ds) → get_item index ds ≡ Some d → PointsTo (item_path path index) root d
points_item path index root d ds points has = points_on path root (array ds) d (decimal index) points (token_index index) (index, refl, has)

-- of a name in ASCII
pub lacks_member : (path name : List ℕ) (root : Data) (ms : Members) → PointsTo path root (object ms) → is_ascii name ≡ true → ((d : Data) → ¬ (HasMember name d ms)) → LacksMember (member_path path name) root
lacks_member path name root ms points ascii none =
    (path, escaped name, ms, token_name name, refl, points, λ d has. none d (subst (λ n. HasMember n d ms) (decoded_ascii name ascii) has))

-- ---- members that are looked up

pub member_found : (name : List ℕ) (d : Data) (ms : Members) → get_member name ms ≡ Some d → HasMember name d ms
member_found name d no_members is = let bad : None ≡ Some d = is in absurd (cc)
member_found name d (member other e ms) is = by_order (slice_cmp nat_cmp name other) refl (member_found name d ms) is
  where
    by_order : (o : Ordering) → slice_cmp nat_cmp name other ≡ o → (get_member name ms ≡ Some d → HasMember name d ms)
        → match_ordering o (get_member name ms) (Some e) (get_member name ms) ≡ Some d → HasMember name d (member other e ms)
    by_order Less order later is = inr (later is)
    by_order Equal order later is = let found : Some e ≡ Some d = is in inl (exact_bytes name other order, cc)
    by_order Greater order later is = inr (later is)

pub member_missing : (name : List ℕ) (ms : Members) → get_member name ms ≡ None → (d : Data) → ¬ (HasMember name d ms)
member_missing name no_members is d has = has
member_missing name (member other e ms) is d has = by_order (slice_cmp nat_cmp name other) refl (member_missing name ms) is has
  where
    by_order : (o : Ordering) → slice_cmp nat_cmp name other ≡ o → (get_member name ms ≡ None → (d : Data) → ¬ (HasMember name d ms))
        → match_ordering o (get_member name ms) (Some e) (get_member name ms) ≡ None → ¬ (HasMember name d (member other e ms))
    by_order Less order later is (inr has) = later is d has
    by_order Less order later is (inl (same, _)) = let bad : Less ≡ Equal = sym order ∙ ap (λ n. slice_cmp nat_cmp n other) same ∙ tied_itself nat_list_cmp_total other in cc
    by_order Equal order later is has = let bad : Some e ≡ None = is in cc
    by_order Greater order later is (inr has) = later is d has
    by_order Greater order later is (inl (same, _)) = let bad : Greater ≡ Equal = sym order ∙ ap (λ n. slice_cmp nat_cmp n other) same ∙ tied_itself nat_list_cmp_total other in cc
