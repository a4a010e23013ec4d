use Rattle.std.proofs.Common.{◌∷◌, ◌≡◌, All, map, refl, sym, subst, arith}
use Rattle.std.proofs.lemmas.List.Elements.{All-map}
use mathlib.Core.List.{IsPrefix}
use Rattle.kms_server.specs.Crew.{Pairwise, both, Settles, HoldsAll}
use Rattle.kms_server.specs.States.{state_of}
use Rattle.kms_server.proofs.Crews.{settled_all, first_and_rest}
use Rattle.kms_server.proofs.crew.learn_all.Goals as goal

pub returns-clause-settles : goal.returns-clause-settles
returns-clause-settles g c =
    let seen = state_of g.C.Clock.told g.E.Ear.shows in
    let first = c.remove-first.result in
    let rest = c.remove-first.new.self.items in
    let learnt = record first { pass = c.learn_from.new.pass } in
    let made : Pairwise Settles (map seen (first ∷ rest)) (map seen (learnt ∷ rest)) = both (record { learns = c.learn_from.ensures.learns; others = refl }) (settled_all (map seen rest)) in
    let whole : first ∷ rest ≡ c.args.crew.now.items = first_and_rest c.args.crew.now.items rest first (omega (arith, c.args.crew.now.ok)) c.remove-first.ensures.value c.remove-first.ensures.by_index.2 in
    let put : learnt ∷ rest ≡ c.put_first.new.items.items = sym c.put_first.ensures.items in
    subst (λ workers. Pairwise Settles (map seen c.args.crew.now.items) (map seen workers)) put
    (subst (λ workers. Pairwise Settles (map seen workers) (map seen (learnt ∷ rest))) whole made)

pub returns-clause-longest : goal.returns-clause-longest
returns-clause-longest g c =
    let seen = state_of g.C.Clock.told g.E.Ear.shows in
    let rest = c.remove-first.new.self.items in
    let history = c.learn_from.new.pass.history in
    subst (λ workers. HoldsAll (map seen workers)) (sym c.put_first.ensures.items)
    (All-map (λ worker. IsPrefix worker.pass.history history) seen rest (subst (λ workers. All (λ worker. IsPrefix worker.pass.history history) workers) c.deref.ensures.value c.learn_from.ensures.begins))
