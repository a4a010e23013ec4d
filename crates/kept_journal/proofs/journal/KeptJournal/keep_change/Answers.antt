use Rattle.std.proofs.Common.{rules, ◌≡◌, ℕ, List, [], ◌∷◌, ◌++◌, IsTrue, refl, ◌∙◌, ap}
use Rattle.kept_log.specs.Log.{recovered}
use Rattle.kept_journal.specs.Lines.{text_of, seal_of, sealed}
use Rattle.kept_journal.specs.declared.told.Told.TheVariants.{Change}
use Rattle.kept_journal.proofs.Adding.{widened, told_by, tells_on}
use Rattle.kept_journal.proofs.journal.KeptJournal.keep_change.Goals as goal

pub returns-in_err-append-clause-any_moment : goal.returns-in_err-append-clause-any_moment
returns-in_err-append-clause-any_moment g c head told tells is_open =
    let entry = c.args.entry.now in
    let old = c.args.self.now in
    let line : c.in_ok-body.body.items ≡ sealed (text_of (Change entry)) c.in_ok-body.seal = search rules in
    let seal : c.in_ok-body.seal ≡ seal_of old.key old.seal (text_of (Change entry)) = search rules in
    widened g.D.Device.moment g.D.Device.left_since old.log.device c.append.new.self.device _ _ (c.append.ensures.any_moment is_open)
    (told_by old (Change entry) c.in_ok-body.body.items c.in_ok-body.seal line seal head told tells is_open _ (ap (λ (b : List ℕ). b ∷ []) c.as_slice.ensures.value))

pub returns-clause-any_moment : goal.returns-clause-any_moment
returns-clause-any_moment g c head told tells is_open =
    let entry = c.args.entry.now in
    let old = c.args.self.now in
    let line : c.in_ok-body.body.items ≡ sealed (text_of (Change entry)) c.in_ok-body.seal = search rules in
    let seal : c.in_ok-body.seal ≡ seal_of old.key old.seal (text_of (Change entry)) = search rules in
    widened g.D.Device.moment g.D.Device.left_since old.log.device c.append.new.self.device _ _ (c.append.ensures.any_moment is_open)
    (told_by old (Change entry) c.in_ok-body.body.items c.in_ok-body.seal line seal head told tells is_open _ (ap (λ (b : List ℕ). b ∷ []) c.as_slice.ensures.value))

pub returns-clause-kept : goal.returns-clause-kept
returns-clause-kept g c =
    let entry = c.args.entry.now in
    let old = c.args.self.now in
    let line : c.in_ok-body.body.items ≡ sealed (text_of (Change entry)) c.in_ok-body.seal = search rules in
    let seal : c.in_ok-body.seal ≡ seal_of old.key old.seal (text_of (Change entry)) = search rules in
    let kept = c.in_ok-append.ensures.kept in
    let file = kept.2 ∙ ap (λ (b : List ℕ). recovered (g.D.Device.seen old.log.device) ++ b ∷ []) c.as_slice.ensures.value in (
      kept.0,
      kept.1,
      λ head told tells. tells_on old (Change entry) c.in_ok-body.body.items c.in_ok-body.seal line seal head told tells kept.0
          (record { log = c.append.new.self; key = old.key; seal = c.in_ok-body.seal }) refl refl file,
    )
