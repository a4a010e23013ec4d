-- Each character narrows the flags to the places at which it stands.
use Rattle.std.proofs.Common.{◌≡◌, ℕ, ◌+◌, ◌<◌, ◌≤◌, false, ◌&&◌, ◌∷◌, length, get_or, rules, arith, ap, ◌∙◌}
use Rattle.std.proofs.lemmas.List.{length-map}
use Rattle.glob_patterns.specs.Fits.{takes}
use Rattle.glob_patterns.specs.Letters.{folded, letters, read_as, units_of}
use Rattle.glob_patterns.proofs.MarkFacts.{marks_one, takes_any, takes_itself}
use Rattle.glob_patterns.proofs.fitting.mark.Goals as goal
use Rattle.glob_patterns.proofs.fitting.mark.Goals.{then-wanted-ne63, else-wanted-ne63}

pub loop-wanted-preserved : goal.loop-wanted-preserved
loop-wanted-preserved g c =
    let wanted = c.in-Some.wanted in
    let left = letters c.args.case c.in-Some.others.now in
    let text = read_as c.args.case c.args.units in
    let flags = c.loop-wanted.flags in
    let narrowed = c.if-wanted-ne63.flags in
    let place = c.loop-wanted.place in
    let one : length (letters c.args.case c.loop-wanted.rest.now) ≡ length (wanted ∷ left) = ap length c.in-Some.ensures.0 in
    let same : length narrowed ≡ length flags = omega arith in
    let room : place + length flags ≤ length text = omega (arith, one, length-map (units_of c.args.units) (folded c.args.case)) in
    let clears : (k : ℕ) → k < length flags → get_or narrowed k false ≡ (get_or flags k false && takes wanted (get_or text (place + k) 0)) =
    elim c.if-wanted-ne63.branch [
      | then-wanted-ne63 w ↦ λ k within. ap (λ fs. get_or fs k false) w.flags-is ∙ w.narrow.ensures k within ∙ takes_itself wanted (get_or text (place + k) 0) (get_or flags k false) w.if-wanted-ne63.true
      | else-wanted-ne63 w ↦ λ k within. ap (λ fs. get_or fs k false) w.flags-is ∙ takes_any wanted (get_or text (place + k) 0) (get_or flags k false) w.if-wanted-ne63.false
    ] in
    record {
      utf8 = search rules;
      room = omega (arith, one, same);
      marks = marks_one _ text wanted left place flags narrowed same room clears (rw c.in-Some.ensures.0 at c.loop-wanted.invariant.marks);
      cost = omega (arith, one);
    }
