-- A context's pairs, written in their order.
use Rattle.std.proofs.Common.{◌≡◌, ℕ, suc, List, [], ◌∷◌, ◌++◌, length, get_or, refl, sym, ap, ◌∙◌, subst, arith, append_assoc, length-append}
use Rattle.std.specs.Cmp.Lexicographic.{slice_cmp, nat_list_cmp_total}
use Rattle.std.specs.Ordering.{nat_cmp, ordering_reverse}
use Rattle.std.specs.declared.cmp.Ordering.TheVariants.{Greater}
use Rattle.std.specs.Prelude.{⊤}
use Rattle.serde_json.specs.Data.{Data, Members, member, no_members, put, string}
use Rattle.enc_context.specs.declared.pairs.Pair.{Pair}
use Rattle.enc_context.specs.Pairs.{ComesBefore, IsInOrder}
use Rattle.kms_json.specs.GrantReplies.{put_pairs}

-- these pairs as members, before more
abbrev pub pairs_listed : List Pair → Members → Members
pairs_listed [] more = more
pairs_listed (pair ∷ pairs) more = member pair.key (string pair.value) (pairs_listed pairs more)

-- each of these keys comes before that one
abbrev AreBefore : List Pair → List ℕ → Type 0
AreBefore [] key = ⊤
AreBefore (pair ∷ pairs) key = ComesBefore pair.key key × AreBefore pairs key

put_last : (done : List Pair) (key : List ℕ) (d : Data) → AreBefore done key → put key d (pairs_listed done no_members) ≡ pairs_listed done (member key d no_members)
put_last [] key d before = refl
put_last (pair ∷ done) key d before =
    let above : slice_cmp nat_cmp key pair.key ≡ Greater = nat_list_cmp_total.antisymm key pair.key ∙ ap ordering_reverse before.0 in
    rw above (ap (member pair.key (string pair.value)) (put_last done key d before.1))

listed_append : (done : List Pair) (pair : Pair) (more : Members) → pairs_listed (done ++ pair ∷ []) more ≡ pairs_listed done (member pair.key (string pair.value) more)
listed_append [] pair more = refl
listed_append (first ∷ done) pair more = ap (member first.key (string first.value)) (listed_append done pair more)

order_behind : (first : Pair) (pairs : List Pair) → IsInOrder (first ∷ pairs) → IsInOrder pairs
order_behind first pairs order i j d below bound = order (suc i) (suc j) d (omega arith) (omega arith)

at_behind : (done : List Pair) (pair : Pair) (left : List Pair) (d : Pair) → get_or (done ++ pair ∷ left) (length done) d ≡ pair
at_behind [] pair left d = refl
at_behind (first ∷ done) pair left d = at_behind done pair left d

first_before : (first : Pair) (done : List Pair) (pair : Pair) (left : List Pair) → IsInOrder (first ∷ (done ++ pair ∷ left)) → ComesBefore first.key pair.key
first_before first done pair left order =
    subst (ComesBefore first.key) (ap (λ (p : Pair). p.key) (at_behind done pair left first)) (order 0 (suc (length done)) first (omega arith) (omega (arith, length-append done (pair ∷ left))))

before_from : (done : List Pair) (pair : Pair) (left : List Pair) → IsInOrder (done ++ pair ∷ left) → AreBefore done pair.key
before_from [] pair left order = tt
before_from (first ∷ done) pair left order = (first_before first done pair left order, before_from done pair left (order_behind first (done ++ pair ∷ left) order))

put_behind : (done pairs : List Pair) → IsInOrder (done ++ pairs) → put_pairs pairs (pairs_listed done no_members) ≡ pairs_listed done (pairs_listed pairs no_members)
put_behind done [] order = refl
put_behind done (pair ∷ pairs) order =
    ap (put_pairs pairs) (put_last done pair.key (string pair.value) (before_from done pair pairs order) ∙ sym (listed_append done pair no_members))
    ∙ put_behind (done ++ pair ∷ []) pairs (subst IsInOrder (sym (append_assoc done (pair ∷ []) pairs)) order)
    ∙ listed_append done pair (pairs_listed pairs no_members)

-- pairs in order stay in their order
pub put_pairs_in_order : (pairs : List Pair) → IsInOrder pairs → put_pairs pairs no_members ≡ pairs_listed pairs no_members
put_pairs_in_order pairs order = put_behind [] pairs order
