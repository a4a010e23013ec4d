use Rattle.std.proofs.Common.{◌≡◌, ◌++◌, ◌∷◌, [], ℤ, List, sym, subst, FitsSigned, w64, rules}
use Rattle.std.proofs.lemmas.Int.{to_z-of_z}
use Rattle.cond_ops.proofs.IntegerFacts.{AreReadSoFar, one_more, none_more, all_read}
use Rattle.cond_ops.proofs.integers.integers_of.Goals as goal

pub loop-text-preserved-in_ok-push : goal.loop-text-preserved-in_ok-push
loop-text-preserved-in_ok-push c =
    let texts = c.args.texts.now in
    let others = c.in-Some.others in
    let integer = c.in-Some-read_integer.integer in
    let so_far = c.loop-text.integers.items in
    let fits : FitsSigned w64 integer = search rules in
    let items : c.push.new.self.items ≡ so_far ++ integer ∷ [] = simp to_z-of_z at c.in_ok-push.ensures.items in
    subst (λ (integers : List ℤ). AreReadSoFar c.args.reading texts integers others) (sym items)
    (one_more c.args.reading texts so_far c.in-Some.text.now c.loop-text.rest others c.in-Some.ensures c.loop-text.invariant integer c.in-Some-read_integer.ensures)

pub loop-text-preserved : goal.loop-text-preserved
loop-text-preserved c =
    none_more c.args.reading c.args.texts.now c.loop-text.integers.items c.in-Some.text.now c.loop-text.rest c.in-Some.others c.in-Some.ensures c.loop-text.invariant
    c.in_default-read_integer.ensures

pub returns : goal.returns
returns c = all_read c.args.reading c.args.texts.now c.loop-text.integers.items c.loop-text.rest c.in_default.ensures c.loop-text.invariant
