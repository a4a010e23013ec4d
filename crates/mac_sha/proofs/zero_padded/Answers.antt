-- What is left of the block behind the copied text is zeros.
use Rattle.std.proofs.lemmas.List.{drop-replicate}
use Rattle.mac_sha.proofs.zero_padded.Goals as goal

pub returns : goal.returns
returns c = rw (c.copy_from_slice.ensures.after, drop-replicate)
