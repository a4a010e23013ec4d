use Rattle.std.proofs.Common.{ap, ◌∙◌, List, ℕ}
use Rattle.gcm_seal.specs.Gcm.{opened_text}
use Rattle.gcm_seal.proofs.SealFacts.{answered_true, answered_false}
use Rattle.gcm_seal.proofs.gcm.open.Goals as goal

pub returns-then-authentic-clause-answer : goal.returns-then-authentic-clause-answer
returns-then-authentic-clause-answer c =
    let iv = c.args.iv.now in
    let text = c.args.text.now in
    answered_true c.args.key.now iv c.args.aad.now text c.args.tag.now c.new-key.result c.tag_of.result
    c.add_key_stream.new.text c.are_equal-authentic.result c.new-key.ensures c.tag_of.ensures c.are_equal-authentic.ensures
    c.if-authentic.true (c.add_key_stream.ensures.opened ∙ ap (λ (key : List ℕ). opened_text key iv text) c.new-key.ensures)

pub returns-else-authentic-clause-answer : goal.returns-else-authentic-clause-answer
returns-else-authentic-clause-answer c =
    answered_false c.args.key.now c.args.iv.now c.args.aad.now c.args.text.now c.args.tag.now c.new-key.result c.tag_of.result
    c.args.text.now c.are_equal-authentic.result c.new-key.ensures c.tag_of.ensures c.are_equal-authentic.ensures c.if-authentic.false
