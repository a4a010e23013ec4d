use Rattle.std.proofs.Common.{◌<◌, length, rules}
use Rattle.packed_texts.proofs.CutFacts.{first_ends}
use Rattle.packed_texts.proofs.slices.TextSlice.split_first.Goals as goal

pub split_at-requires : goal.split_at-requires
split_at-requires c =
    let some : 0 < length c.self.inside.lengths.now = search rules in
    first_ends c.self.inside.lengths.now c.self.inside.joined.now some c.self.invariant
