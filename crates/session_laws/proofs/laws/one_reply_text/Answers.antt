use Rattle.std.proofs.Common.{ℕ, List, ◌++◌, ap, sym, ◌∙◌}
use Rattle.http_front.proofs.OneHead.{one_head}
use Rattle.session_laws.proofs.laws.one_reply_text.Goals as goal

pub returns : goal.returns
returns c = λ answer second front closes text other one two.
    one.whole ∙ ap (λ (head : List ℕ). head ++ answer.body) (one_head _ _ _ _ _ one.head two.head one.is_head two.is_head) ∙ sym two.whole
