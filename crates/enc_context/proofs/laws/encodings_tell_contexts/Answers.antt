use Rattle.enc_context.proofs.EncodingFacts.{tell_contexts}
use Rattle.enc_context.proofs.laws.encodings_tell_contexts.Goals as goal

pub returns : goal.returns
returns c = tell_contexts
