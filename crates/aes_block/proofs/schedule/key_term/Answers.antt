use Rattle.std.proofs.Common.{arith, sym, ◌∙◌}
use Rattle.aes_block.proofs.Expanding.{key_term-first, key_term-middle, key_term-other}
use Rattle.aes_block.proofs.schedule.key_term.Goals as goal

pub returns-in-0 : goal.returns-in-0
returns-in-0 c =
    c.xor_words.ensures
    ∙ rw (c.sub_word.ensures, c.rot_word.ensures, c.rcon.ensures) (sym (key_term-first c.args.previous c.args.i c.in-0.is))

pub returns-in-4 : goal.returns-in-4
returns-in-4 c = c.sub_word-in-4.ensures ∙ sym (key_term-middle c.args.previous c.args.i c.in-4.is)

pub returns-in_default : goal.returns-in_default
returns-in_default c = sym (key_term-other c.args.previous c.args.i (λ e. omega arith) (λ e. omega arith))
