use Rattle.std.proofs.Common.{◌≡◌, ◌⊎◌, inl, inr, true, false, ℕ, List, length, refl, sym, ◌∙◌, subst}
use Rattle.std.proofs.lemmas.Bool.{eqb-true}
use Rattle.kept_journal.specs.Lost.{ShowsNext}
use Rattle.kept_journal.proofs.Following.{shows_step, next_shows, later_shows, none_shows, next_at, next_from}
use Rattle.kept_journal.proofs.lost.shows_next.Goals as goal

pub returns-then-branch : goal.returns-then-branch
returns-then-branch c =
    let key = c.args.key.now in
    let rest = c.loop-rest.rest.now in
    let next = next_at key rest _ _ _ c.cut_line.ensures.line c.cut_line.ensures.rest c.cut_line-in-loop-rest.ensures.line (c.in_ok-is_next.ensures.0 c.if-branch.true) in
    (λ _. c.loop-rest.invariant.1 (next_shows key rest next), λ _. refl)

pub loop-rest-preserved : goal.loop-rest-preserved
loop-rest-preserved c =
    let key = c.args.key.now in
    let rest = c.loop-rest.rest.now in
    let behind = c.cut_line.result.1.now in (
      λ s. elim (shows_step key rest (c.loop-rest.invariant.0 s)) as (λ _. ShowsNext key behind) [
        | inl next ↦
            let found = c.in_ok-is_next.ensures.1 (next_from key rest _ _ _ c.cut_line.ensures.line c.cut_line.ensures.rest c.cut_line-in-loop-rest.ensures.line next) in
            let both : false ≡ true = sym c.if-branch.false ∙ found in
            cc
        | inr later ↦ subst (ShowsNext key) (sym c.cut_line.ensures.rest) later
      ],
      λ s. c.loop-rest.invariant.1 (later_shows key rest (subst (ShowsNext key) c.cut_line.ensures.rest s)),
    )
