use Rattle.std.proofs.Common.{Bool, sym, ap, ◌∙◌, subst}
use Rattle.account_core.specs.Account.{Account}
use Rattle.published_account.specs.Pairs.{entries_of}
use Rattle.kms_server.specs.declared.crew.Kept.TheVariants as kept
use Rattle.kms_server.specs.Crew.{KeepsOf, keeps_nothing, keeps_whole, lacks_memory}
use Rattle.kms_server.proofs.Crews.{meets_self}
use Rattle.kms_server.proofs.crew.keep_here.Goals as goal

pub returns-then-not-is_wanted : goal.returns-then-not-is_wanted
returns-then-not-is_wanted g c = λ pass same.
    subst (λ (wanted : Bool). KeepsOf g.R.Realm.facts wanted kept.Nothing pass pass) (sym c.if-not-is_wanted.true) keeps_nothing

pub returns-in-Ok : goal.returns-in-Ok
returns-in-Ok g c = λ pass same.
    let account = c.in-Ok.account in
    let facts = ap (λ (a : Account). a.facts) c.in-Ok.ensures in
    let entries = ap (λ (a : Account). a.entries) c.in-Ok.ensures ∙ ap entries_of (sym same) in
    subst (λ (wanted : Bool). KeepsOf g.R.Realm.facts wanted (kept.Whole account) pass pass) (sym c.if-not-is_wanted.false) (keeps_whole account (meets_self pass) facts entries)

pub returns-in-Err : goal.returns-in-Err
returns-in-Err g c = λ pass same.
    subst (λ (wanted : Bool). KeepsOf g.R.Realm.facts wanted kept.NoMemory pass pass) (sym c.if-not-is_wanted.false) (lacks_memory (meets_self pass))
