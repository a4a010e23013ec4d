use Rattle.std.proofs.Common.{◌≡◌, ◌<◌, ◌≤◌, refl, ap, sym, ◌∙◌, subst, arith, ℕ, length, length-append, ◌++◌, ◌∷◌, []}
use Rattle.account_core.specs.Decide.{IsNext}
use Rattle.account_steps.specs.History.{Entry}
use Rattle.published_account.specs.Pairs.{IsHistory, entries_of}
use Rattle.published_account.specs.Growing.{Pairs}
use Rattle.published_account.proofs.Lists.{history_push}
use Rattle.published_account.proofs.prefix.Prefix.push.Goals as goal

pub invariant_of-self : goal.invariant_of-self
invariant_of-self g c =
    let old : Pairs = c.self.inside.seen.log in
    let pair : Entry × ℕ = c.args.pair.now in
    let e : c.append.new.seen.log ≡ old ++ pair ∷ [] = c.if-not-append.ensures.log refl ∙ ap (λ s. s.log ++ pair ∷ []) c.again-seen.ensures in
    let next : IsNext g.R.Realm.facts (entries_of old) pair.0 × (0 < pair.1) × (pair.1 ≤ g.R.Realm.passes) = subst (λ (l : Pairs). IsNext g.R.Realm.facts (entries_of l) pair.0 × (0 < pair.1) × (pair.1 ≤ g.R.Realm.passes)) (sym c.self.view_is) c.requires.next in (
      omega (arith, c.self.invariant.0, ap length e, length-append old (pair ∷ [])),
      c.append.ensures.book ∙ (ap (λ s. s.book) c.again-seen.ensures ∙ c.self.invariant.1),
      subst (IsHistory g.R.Realm.facts g.R.Realm.passes g.R.Realm.loaded) (sym e) (history_push g.R.Realm.facts g.R.Realm.passes g.R.Realm.loaded old pair c.self.invariant.2 next),
    )
