use Rattle.std.proofs.Common.{◌≡◌, ◌∙◌, sym, subst}
use Rattle.left_right.specs.Sides.{view}
use Rattle.published_account.specs.Pairs.{Shown}
use Rattle.published_account.specs.Rules.{Fits}
use Rattle.published_account.proofs.Turns.{turns, goes_self, knows_on}
use Rattle.published_account.proofs.entrance.look.Goals as goal

pub enter_as-requires : goal.enter_as-requires
enter_as-requires g c x = turns _ _ x x (goes_self x)

pub answer_at-requires-clause-names : goal.answer_at-requires-clause-names
answer_at-requires-clause-names g c =
    let r = g.R.Realm in
    let x : Shown = c.in-Ok-shown.shown in
    let same : x ≡ c.get.result.now = c.in-Ok-shown.ensures in
    let fits : Fits x (view c.args.window.place) = subst (λ (y : Shown). Fits y (view c.args.window.place)) (sym (same ∙ c.get.ensures)) c.in-Ok.ensures.1.1 in
    knows_on r.book r.facts r.passes r.loaded (view c.args.window.place) x c.requires.window fits
