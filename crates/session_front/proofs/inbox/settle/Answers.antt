use Rattle.std.proofs.Common.{◌≡◌, ◌-◌, ◌+◌, ℕ, take, drop, length, length-take, length-drop, sym, ap, ◌∙◌, arith}
use Rattle.std.proofs.lemmas.List.{drop-take, take_at}
use Rattle.session_front.proofs.inbox.settle.Goals as goal

pub returns-clause-bytes : goal.returns-clause-bytes
returns-clause-bytes c =
    let bytes = c.args.bytes.now in
    let start = c.args.start.now in
    let size = c.args.end.now - start in
    let all : start + size ≡ c.args.end.now = omega arith in
    let whole : length (take size (drop start bytes)) ≡ size = omega (arith, length-take size (drop start bytes), length-drop start bytes) in
    ap (take size) c.copy_within.ensures.after
    ∙ take_at (take size (drop start bytes)) (drop (0 + size) bytes) size whole
    ∙ sym (drop-take start size bytes) ∙ ap (λ (n : ℕ). drop start (take n bytes)) all
