use Rattle.std.proofs.Common.{List, ◌++◌, ◌∷◌, [], ap₂, sym, ◌∙◌, arith}
use Rattle.published_account.specs.Pairs.{entries_of}
use Rattle.publish_pass.specs.Pass.{Pass}
use Rattle.publish_pass.proofs.PassLemmas.{fresh_passes-push}
use Rattle.publish_pass.proofs.opening.make_passes.Goals as goal

pub loop-i-preserved : goal.loop-i-preserved
loop-i-preserved g c =
    let before = c.loop-i.invariant in
    let share = c.in_ok-pass.ensures.share in
    let pushed = c.in_ok-push.ensures.items ∙ ap₂ (λ (all : List Pass) (p : Pass). all ++ p ∷ []) before.2 c.in_ok-pass.ensures.pass in (
      omega (arith, before.0, share.0),
      share.1,
      pushed ∙ sym (fresh_passes-push g.R.Realm.facts g.R.Realm.passes (entries_of c.args.prefix.now) c.loop-i.i),
      c.make_pass.ensures.shown ∙ before.3,
      c.make_pass.ensures.view ∙ before.4,
    )
