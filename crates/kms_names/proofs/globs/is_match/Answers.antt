-- Each move keeps what the loop keeps.
use Rattle.kms_names.proofs.GlobLoop.{star_keeps, advance_keeps, later_place_keeps}
use Rattle.kms_names.proofs.globs.is_match.Goals as goal

pub moves-preserved-in-Star : goal.moves-preserved-in-Star
moves-preserved-in-Star g c =
    let moves = c.in-Star.ensures.moves in
    rw moves.1 (star_keeps _ _ _ _ _ _ _ _ c.in-Star.ensures.cost (rw moves.0 at c.moves.invariant))

pub moves-preserved-in-Advance : goal.moves-preserved-in-Advance
moves-preserved-in-Advance g c =
    let moves = c.in-Advance.ensures.moves in
    advance_keeps _ _ _ moves.0 moves.1 _ _ _ _ _ c.in-Advance.ensures.cost moves.2 moves.3 (rw (moves.4, moves.5) at c.moves.invariant)

pub moves-preserved : goal.moves-preserved
moves-preserved g c =
    later_place_keeps _ _ _ _ _ _ _ _ c.moves.last_star _ c.in-Some.ensures c.in-Stuck.ensures.moves c.in-Stuck.ensures.cost c.moves.invariant
