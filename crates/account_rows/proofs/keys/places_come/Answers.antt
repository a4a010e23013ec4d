use Rattle.std.proofs.Common.{◌≡◌, ◌++◌, ◌∷◌, [], List, ℕ, true, false, refl, ap, sym, subst, ◌∙◌, arith}
use Rattle.std.specs.Prelude.{nat_le}
use Rattle.std.proofs.lemmas.Bool.Decides.{nat_tests}
use Rattle.persist_map.specs.Pairs.{Ascends}
use Rattle.account_rows.specs.declared.keys.Due.{Due}
use Rattle.account_rows.specs.Keys.{places_come}
use Rattle.account_rows.proofs.DateFacts.{due_cmp, by_dates, come_now, come_later, rest_ascends}
use Rattle.account_rows.proofs.keys.places_come.Goals as goal

no_more : (places : List ℕ) → places ++ [] ≡ places
no_more [] = refl
no_more (place ∷ places) = ap (λ l. place ∷ l) (no_more places)

joined : (places : List ℕ) (place : ℕ) (rest : List ℕ) → (places ++ place ∷ []) ++ rest ≡ places ++ place ∷ rest
joined [] place rest = refl
joined (first ∷ places) place rest = ap (λ l. first ∷ l) (joined places place rest)

pub returns-then-due-time : goal.returns-then-due-time
returns-then-due-time c =
    let time = c.args.time in
    let items = c.loop-due.places.items in
    let late = c.if-due-time.true in
    let not_come : nat_le c.in-Some.due.now.date time ≡ false = grind (arith, nat_tests, late) in
    let ascends = subst (Ascends due_cmp) c.in-Some.ensures.steps c.loop-due.invariant.1 in
    sym (no_more items) ∙ ap (λ l. items ++ l) (sym (ap (places_come time) c.in-Some.ensures.steps ∙ come_later due_cmp by_dates time _ _ ascends not_come)) ∙ c.loop-due.invariant.0

pub loop-due-preserved : goal.loop-due-preserved
loop-due-preserved c =
    let time = c.args.time in
    let items = c.loop-due.places.items in
    let rest = c.next.new.self in
    let early = c.if-due-time.false in
    let come : nat_le c.in-Some.due.now.date time ≡ true = grind (arith, nat_tests, early) in (
      ap (λ l. l ++ places_come time rest) c.in_ok-push.ensures.items
          ∙ joined items c.in-Some.due.now.place (places_come time rest)
          ∙ ap (λ l. items ++ l) (sym (ap (places_come time) c.in-Some.ensures.steps ∙ come_now due_cmp by_dates time _ rest come))
          ∙ c.loop-due.invariant.0,
      rest_ascends due_cmp _ rest (subst (Ascends due_cmp) c.in-Some.ensures.steps c.loop-due.invariant.1),
    )
