use Rattle.std.proofs.Common.{◌<◌, length, arith, get_or}
use Rattle.std.proofs.lemmas.List.{get_or_default}
use Rattle.std.proofs.lemmas.List.Edits.{map_over_more}
use Rattle.std.specs.Prelude.{bit_xor}
use Rattle.mac_sha.proofs.xor_each.Goals as goal

pub loop-byte-preserved : goal.loop-byte-preserved
loop-byte-preserved c =
    let in_block : c.loop-byte.byte-index < length c.args.block = omega arith in
    let in_items : c.loop-byte.byte-index < length c.loop-byte.byte-items = omega arith in
    let byte = get_or c.loop-byte.byte-items c.loop-byte.byte-index 0 in
    map_over_more (λ byte. bit_xor byte c.args.pad) c.args.block c.loop-byte.byte-items
    c.loop-byte.byte-index byte in_block c.loop-byte.invariant
    (get_or_default c.loop-byte.byte-items c.loop-byte.byte-index 0 byte in_items)
