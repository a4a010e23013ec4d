use Rattle.std.proofs.Common.{◌≡◌, ◌++◌, [], ℕ, ◌+◌, ◌*◌, List, take, drop, get_or, ap, ◌∙◌, arith, append-nil}
use Rattle.std.proofs.lemmas.List.{get_or-take}
use Rattle.account_rows.proofs.replay.place_in_grant.Goals as goal

pub returns : goal.returns
returns c =
    let low : List ℕ = drop 26 c.args.grant.now in
    let same : c.copy_from_slice.new.self ≡ take 6 low = c.copy_from_slice.ensures.after ∙ ap (λ (b : List ℕ). take 6 (drop 26 b)) c.as_bytes.ensures in
    let whole : c.copy_from_slice.new.self ++ [] ≡ take 6 low = append-nil c.copy_from_slice.new.self ∙ same in
    let e0 = get_or-take 6 low 0 0 (omega arith) in
    let e1 = get_or-take 6 low 1 0 (omega arith) in
    let e2 = get_or-take 6 low 2 0 (omega arith) in
    let e3 = get_or-take 6 low 3 0 (omega arith) in
    let e4 = get_or-take 6 low 4 0 (omega arith) in
    let e5 = get_or-take 6 low 5 0 (omega arith) in
    let is = c.from_be_bytes.ensures in
    cc
