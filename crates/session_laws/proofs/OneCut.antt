-- A stream is cut in one way.
use Rattle.std.proofs.Common.{◌≡◌, ◌⊎◌, inl, inr, ℕ, List, [], ◌∷◌, ◌++◌, length, Bool, refl, sym, ap, subst, ◌∙◌, length-append, arith}
use Rattle.httparse.specs.Grammar.{NeverHasRequest}
use Rattle.http_front.specs.declared.judge.HttpFault.{HttpFault}
use Rattle.http_front.specs.Message.{Message, IsRefused}
use Rattle.http_front.proofs.Answering.{same_message, one_answer_lem}
use Rattle.session_front.specs.Items.{Item, whole, fault, Cuts, nothing, message, no_message}
use Rattle.session_front.proofs.Cutting.{not_both, one_cut_open}
use Rattle.session_laws.specs.Laws.{AreAlike, same_items, two_names}

names : (rest : List ℕ) (front items : List Item) (why other : HttpFault) → items ≡ front → (why ≡ other) ⊎ NeverHasRequest rest → AreAlike rest (items ++ fault why ∷ []) (front ++ fault other ∷ [])
names rest front items why other e (inl same) = same_items (ap (λ (all : List Item). all ++ fault why ∷ []) e ∙ ap (λ (w : HttpFault). front ++ fault w ∷ []) same)
names rest front items why other e (inr never) = two_names front why other (ap (λ (all : List Item). all ++ fault why ∷ []) e) refl never

pub one_cut_lem : {stream : List ℕ} {closes other : Bool} {items others : List Item} {rest last : List ℕ} → Cuts stream closes items rest → Cuts stream other others last → length items ≡ length others → AreAlike rest items others × (rest ≡ last)
one_cut_lem nothing nothing h = (same_items refl, refl)
one_cut_lem nothing (message {items} c s is cl) h = absurd (omega (arith, simp length-append at h))
one_cut_lem nothing (no_message {items} why c n) h = absurd (omega (arith, simp length-append at h))
one_cut_lem (message {items} c s is cl) nothing h = absurd (omega (arith, simp length-append at h))
one_cut_lem (no_message {items} why c n) nothing h = absurd (omega (arith, simp length-append at h))
one_cut_lem (message {items} {rest} {text} {more} {m} c s is cl) (message {items = items'} {rest = rest'} {text = text'} {more = more'} {m = m'} c' s' is' cl') h =
    let both = one_cut_open c c' (omega (arith, simp length-append at h)) in
    let same = same_message m m' text text' more more' is is' (sym s ∙ both.1 ∙ s') in
    (same_items (ap (λ (front : List Item). front ++ whole m ∷ []) both.0 ∙ ap (λ (n : Message). items' ++ whole n ∷ []) same.0), same.2)
one_cut_lem (message {items} {more = more} c s is cl) (no_message {items = items'} why' c' n') h =
    let both = one_cut_open c c' (omega (arith, simp length-append at h)) in
    absurd (not_both more is s (sym both.1) n')
one_cut_lem (no_message {items} why c n) (message {items = items'} {more = more'} c' s' is' cl') h =
    let both = one_cut_open c c' (omega (arith, simp length-append at h)) in
    absurd (not_both more' is' s' both.1 n)
one_cut_lem (no_message {items} {rest} why c n) (no_message {items = items'} {rest = rest'} why' c' n') h =
    let both = one_cut_open c c' (omega (arith, simp length-append at h)) in
    let here = subst (λ (bytes : List ℕ). IsRefused bytes why') (sym both.1) n' in
    (names rest items' items why why' both.0 ((one_answer_lem rest).two_faults why why' n here), both.1)
