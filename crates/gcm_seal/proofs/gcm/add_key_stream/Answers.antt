use Rattle.std.proofs.Common.{refl}
use Rattle.gcm_seal.specs.Gcm.{sealed_text, opened_text}
use Rattle.gcm_seal.proofs.gcm.add_key_stream.Goals as goal

pub returns-clause-sealed : goal.returns-clause-sealed
unfolding sealed_text
returns-clause-sealed c = rw (c.gctr.ensures, c.inc32-first.ensures, c.pre_counter_block-pre_counter.ensures) refl

pub returns-clause-opened : goal.returns-clause-opened
unfolding opened_text
returns-clause-opened c = rw (c.gctr.ensures, c.inc32-first.ensures, c.pre_counter_block-pre_counter.ensures) refl
