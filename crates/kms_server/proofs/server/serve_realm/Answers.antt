use Rattle.std.proofs.Common.{[], inl, refl, length, map, sym, subst, ap, ◌∙◌}
use Rattle.account_steps.specs.declared.facts.RealmFacts.{RealmFacts}
use Rattle.account_core.specs.Account.{Account}
use Rattle.kms_server.specs.Server.{wanted_by, surroundings, ServesDoor}
use Rattle.published_account.specs.Pairs.{entries_of}
use Rattle.kms_server.proofs.Crews.{length_fresh}
use Rattle.kms_server.proofs.Unserved.{unserved}
use Rattle.kms_server.proofs.server.serve_realm.Goals as goal

pub serve_with-requires-clause-passes : goal.serve_with-requires-clause-passes
serve_with-requires-clause-passes g c = λ _ _.
    c.in-Ok.passes.ok.0 ∙ ap length c.in-Ok.ensures.passes ∙ length_fresh g.R.Realm.facts g.R.Realm.passes (entries_of c.args.opening.shown.whole.pairs) g.R.Realm.passes

pub returns-in_default : goal.returns-in_default
returns-in_default g c = ([], record { asked = inl refl; clocks = refl }, tt)

pub returns-in-Ok-serve_with : goal.returns-in-Ok-serve_with
returns-in-Ok-serve_with g c =
    let done = c.in-Ok-serve_with.ensures in
    let ended = c.in-Ok-serve_with.ended in
    let entries = entries_of c.args.opening.shown.whole.pairs in
    let Serves : RealmFacts → Type 0 = λ facts.
    let first : Account = record { facts = facts; entries = entries } in
    ServesDoor g.K.Keeps.keeps first c.args.trust.now (wanted_by c.args.order.now) ended.told ended.served ended.kept
    (surroundings (g.D.Door.shows c.args.door.now) (map g.C.Clock.told c.args.clocks.now.items))
    (surroundings (g.D.Door.shows c.serve_with.new.door) (map g.C.Clock.told c.serve_with.new.clocks.items)) in
    (ended.told, subst Serves (sym c.requires.names.1) (done.served entries c.in-Ok.ensures.passes c.in-Ok.ensures.loaded), λ keeps. c.end-keeper.ensures done.all.0 done.all.1 keeps)

pub returns-in-Err : goal.returns-in-Err
returns-in-Err g c = (
  [],
  c.in-Err.ensures.nobody _ [],
  unserved g.K.Keeps.keeps (g.K.Keeps.tells g.R.Realm.facts) g.K.Keeps.is_open g.K.Keeps.moment g.K.Keeps.left_since (g.K.Keeps.reads g.R.Realm.facts) g.R.Realm.started g.R.Realm.loaded [] c.in-Err.outcome _ c.in-Err.ensures.none,
)
