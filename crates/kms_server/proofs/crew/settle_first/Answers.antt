use Rattle.std.proofs.Common.{◌≡◌, ◌∷◌, map, refl, sym, subst, arith}
use Rattle.std.specs.Sync.Mutex.{mutex_guard_value}
use Rattle.published_account.proofs.Lists.{prefix_trans}
use Rattle.kms_server.specs.Crew.{Pairwise, both, Settles, HoldsAll, FirstHolds}
use Rattle.kms_server.specs.States.{state_of}
use Rattle.kms_server.proofs.Crews.{settled_all, first_and_rest}
use Rattle.kms_server.proofs.crew.settle_first.Goals as goal

pub returns-clause-settles : goal.returns-clause-settles
returns-clause-settles g c =
    let seen = state_of g.C.Clock.told g.E.Ear.shows in
    let first = c.remove-first.result in
    let rest = c.remove-first.new.self.items in
    let learnt = record first { pass = c.settle-desk.new.self } in
    let made : Pairwise Settles (map seen (first ∷ rest)) (map seen (learnt ∷ rest)) = both (record { learns = c.settle-desk.ensures.all.seen; others = refl }) (settled_all (map seen rest)) in
    let whole : first ∷ rest ≡ c.args.crew.now.items = first_and_rest c.args.crew.now.items rest first (omega (arith, c.args.crew.now.ok)) c.remove-first.ensures.value c.remove-first.ensures.by_index.2 in
    let put : learnt ∷ rest ≡ c.put_first.new.items.items = sym c.put_first.ensures.items in
    subst (λ workers. Pairwise Settles (map seen c.args.crew.now.items) (map seen workers)) put
    (subst (λ workers. Pairwise Settles (map seen workers) (map seen (learnt ∷ rest))) whole made)

pub returns-clause-longest : goal.returns-clause-longest
returns-clause-longest g c =
    let seen = state_of g.C.Clock.told g.E.Ear.shows in
    let first = c.remove-first.result in
    let rest = c.remove-first.new.self.items in
    let history = c.settle-desk.new.self.history in
    let whole : first ∷ rest ≡ c.args.crew.now.items = first_and_rest c.args.crew.now.items rest first (omega (arith, c.args.crew.now.ok)) c.remove-first.ensures.value c.remove-first.ensures.by_index.2 in
    let before : HoldsAll (map seen (first ∷ rest)) = subst (λ workers. HoldsAll (map seen workers)) (sym whole) c.requires.longest in
    subst (λ workers. HoldsAll (map seen workers)) (sym c.put_first.ensures.items)
    (λ k d lt. prefix_trans _ first.pass.history history (before k d lt) c.settle-desk.ensures.all.seen.history)

pub returns-clause-holds : goal.returns-clause-holds
returns-clause-holds g c =
    let seen = state_of g.C.Clock.told g.E.Ear.shows in
    subst (λ workers. FirstHolds (mutex_guard_value c.settle-desk.result).pairs (map seen workers)) (sym c.put_first.ensures.items) c.settle-desk.ensures.holds
