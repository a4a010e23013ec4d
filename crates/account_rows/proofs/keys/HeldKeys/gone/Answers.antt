use Rattle.std.proofs.Common.{◌≡◌, ◌+◌, ◌++◌, ◌∷◌, [], Global, Vec, List, ℕ, get_or, take, refl, ap, sym, subst, ◌∙◌}
use Rattle.std.proofs.lemmas.List.{take_more, take_all}
use Rattle.std.proofs.lemmas.List.Elements.{recursion_from_All}
use Rattle.account_rows.specs.Keys.{gone_among, items_of, is_id, AreCovered}
use Rattle.account_rows.proofs.KeyFacts.{rising}
use Rattle.account_rows.proofs.KeptFacts.{Covers, gone_more, same_ids}
use Rattle.account_rows.proofs.keys.HeldKeys.gone.Goals as goal
use Rattle.account_rows.proofs.keys.HeldKeys.gone.Goals.{in-Some+in_ok-push, in_default}

no_more : (ids : List (List ℕ)) → ids ++ [] ≡ ids
no_more [] = refl
no_more (id ∷ ids) = ap (λ l. id ∷ l) (no_more ids)

pub loop-place-preserved : goal.loop-place-preserved
loop-place-preserved c =
    let rows = c.args.self.now in
    let time = c.args.time in
    let places = c.deref-place-items.result.now in
    let at = c.loop-place.place-index in
    let before = gone_among time rows (take at places) in
    let more : gone_among time rows (take (at + 1) places) ≡ before ++ items_of c.gone_id.result =
    ap (gone_among time rows) (take_more places at 0 c.loop-place-test.true) ∙ gone_more time rows (take at places) (get_or places at 0) ∙ ap (λ l. before ++ l) (sym c.gone_id.ensures) in
    elim c.match-gone_id.branch [
      | in-Some+in_ok-push w ↦
          ap (λ (v : Vec (List ℕ) Global). v.items) w.gone-is ∙ w.in_ok-push.ensures.items ∙ ap (λ (l : List (List ℕ)). l ++ w.in-Some.id ∷ []) c.loop-place.invariant
          ∙ ap (λ o. before ++ items_of o) (sym w.in-Some.is) ∙ sym more
      | in_default w ↦
          ap (λ (v : Vec (List ℕ) Global). v.items) w.gone-is ∙ c.loop-place.invariant ∙ sym (no_more before) ∙ ap (λ o. before ++ items_of o) (sym w.in_default.is) ∙ sym more
    ]

pub returns : goal.returns
returns c id =
    let rows = c.args.self.now in
    let time = c.args.time in
    let places = c.deref-place-items.result.now in
    let covered = subst (λ (l : List ℕ). AreCovered time l rows) (sym c.deref-place-items.ensures.value) c.in_ok-places.ensures in
    ap (λ (l : List (List ℕ)). is_id l id) (c.loop-place.invariant ∙ ap (λ (l : List ℕ). gone_among time rows l) (take_all c.loop-place.place-index places c.loop-place-test.false))
    ∙ same_ids time id rows places (rising rows c.requires.rise) (recursion_from_All (Covers time places) rows covered)
