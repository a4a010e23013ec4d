use Rattle.std.proofs.Common.{List, map, [], inl, refl, sym, subst}
use Rattle.account_core.specs.Account.{Account}
use Rattle.published_account.specs.Growing.{Pairs}
use Rattle.account_steps.specs.History.{Entry}
use Rattle.keepers.specs.Keeping.{IsKept}
use Rattle.published_account.specs.Pairs.{Whole, account_in, entries_of, whole_of}
use Rattle.published_account.proofs.Lists.{account_of_whole, entries_of-loaded}
use Rattle.kms_server.specs.Server.{wanted_by, surroundings, Fulfils, KeepsServed}
use Rattle.kms_server.proofs.server.serve.Goals as goal

pub serve_realm-requires-clause-kept : goal.serve_realm-requires-clause-kept
serve_realm-requires-clause-kept g c κs within = λ keeps.
    let Kept : Whole → List Entry → Type 0 = λ w history. IsKept (g.K.Keeps.tells w.facts) g.K.Keeps.is_open g.K.Keeps.moment g.K.Keeps.left_since (g.K.Keeps.reads w.facts) (g.K.Keeps.moment c.args.keeper) w.loaded
    c.args.keeper history in
    let first = subst (Kept (whole_of c.args.account c.args.order.now.workers)) (sym (entries_of-loaded c.args.account.entries)) (c.requires.kept keeps) in
    subst (λ (w : Whole). Kept w (entries_of w.pairs)) (sym c.in-Ok.ensures.0) first

pub returns-in_default : goal.returns-in_default
returns-in_default g c = ([], record { asked = inl refl; clocks = refl }, tt)

pub returns : goal.returns
returns g c =
    let Ends : Account → Pairs → Type 0 = λ a history. Fulfils g.K.Keeps.keeps a c.args.trust.now (wanted_by c.args.order.now) history c.serve_realm.result.0
    (surroundings (g.D.Door.shows c.args.door.now) (map g.C.Clock.told c.args.clocks.now.items))
    (surroundings (g.D.Door.shows c.serve_realm.new.door) (map g.C.Clock.told c.serve_realm.new.clocks.items)) in
    let Keeps : Whole → Pairs → Type 0 = λ w history. KeepsServed g.K.Keeps.keeps (g.K.Keeps.tells w.facts) g.K.Keeps.is_open g.K.Keeps.moment g.K.Keeps.left_since (g.K.Keeps.reads w.facts)
    (g.K.Keeps.moment c.args.keeper) w.loaded history c.serve_realm.result.0 c.serve_realm.result.1 in
    let done = subst (λ (w : Whole). (history : Pairs) × Ends (account_in w) history × Keeps w history) c.in-Ok.ensures.0 c.serve_realm.ensures in
    (done.0, subst (λ (a : Account). Ends a done.0) (account_of_whole c.args.account c.args.order.now.workers) done.1, done.2)
