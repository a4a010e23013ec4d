use Rattle.std.proofs.Common.{◌≡◌, length, sym, ap, ◌∙◌, subst}
use Rattle.published_account.specs.Growing.{Pairs}
use Rattle.published_account.specs.Pairs.{entries_of}
use Rattle.keepers.specs.Keeping.{IsKept}
use Rattle.publish_pass.specs.Pass.{Agree}
use Rattle.publish_pass.specs.Desks.{Desk}
use Rattle.publish_pass.proofs.Agreeing.{agree_whole}
use Rattle.publish_pass.proofs.service.Service.end.Goals as goal

pub returns : goal.returns
returns g c = λ passes made keeps.
    let told = c.args.told.now in
    let size = ap (λ (d : Desk _). length d.pairs) c.audit.ensures.desk ∙ sym (c.audit.ensures.whole passes) ∙ made in
    let agree = subst (λ (h : Pairs). Agree h told) c.tell.ensures c.agrees-2.ensures in
    let same = agree_whole c.audit.new.self.pairs told size agree in
    let Kept : _ → Pairs → Type 0 = λ k h.
    IsKept (g.K.Keeps.tells g.R.Realm.facts) g.K.Keeps.is_open g.K.Keeps.moment g.K.Keeps.left_since (g.K.Keeps.reads g.R.Realm.facts) g.R.Realm.started g.R.Realm.loaded k (entries_of h) in
    subst (λ k. Kept k told) (sym c.close.ensures) (subst (λ (h : Pairs). Kept c.audit.new.self.keeper h) same (c.keeper-keeper.ensures.kept keeps))
