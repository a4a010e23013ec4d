use Rattle.std.proofs.Common.{◌≡◌, false, true, sym, ap, ◌∙◌, subst, Bool}
use Rattle.published_account.specs.declared.answered.Unread.{Unread}
use Rattle.publish_pass.specs.Pass.{Pass, Learns, LacksAccount}
use Rattle.kms_server.specs.declared.crew.Kept.TheVariants as kept
use Rattle.kms_server.specs.Crew.{KeepsOf, keeps_nothing, keeps_whole, lacks_memory}
use Rattle.kms_server.proofs.Crews.{meets_after}
use Rattle.kms_server.proofs.crew.keep.Goals as goal

pub returns-then-not-is_wanted : goal.returns-then-not-is_wanted
returns-then-not-is_wanted g c =
    subst (λ (wanted : Bool). KeepsOf g.R.Realm.facts wanted kept.Nothing c.args.pass.now c.args.pass.now) (sym c.if-not-is_wanted.true) keeps_nothing

pub returns-in-Ok : goal.returns-in-Ok
returns-in-Ok g c =
    let s = c.args.pass.now in
    let same = c.loop.invariant.2 in
    let gives = c.in-Ok.ensures.account in
    let of = gives.facts ∙ ap (λ (p : Pass). p.facts) same ∙ c.seen-seen.ensures.facts in
    subst (λ (wanted : Bool). KeepsOf g.R.Realm.facts wanted (kept.Whole c.in-Ok.account) s c.account.new.self) (sym c.if-not-is_wanted.false)
    (keeps_whole c.in-Ok.account (meets_after s c.loop.pass c.account.new.self same c.loop.invariant.3 gives.learns) of gives.entries)

pub returns-in-Err-NoMemory : goal.returns-in-Err-NoMemory
returns-in-Err-NoMemory g c =
    let s = c.args.pass.now in
    let learns = subst (λ (why : Unread). LacksAccount c.loop.pass why c.account.new.self) c.in-Err-NoMemory.field-0-is c.in-Err-NoMemory.ensures.lacks in
    subst (λ (wanted : Bool). KeepsOf g.R.Realm.facts wanted kept.NoMemory s c.account.new.self) (sym c.if-not-is_wanted.false)
    (lacks_memory (meets_after s c.loop.pass c.account.new.self c.loop.invariant.2 c.loop.invariant.3 learns))
