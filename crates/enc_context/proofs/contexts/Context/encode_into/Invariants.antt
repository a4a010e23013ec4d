use Rattle.std.proofs.Common.{◌≡◌, ◌≤◌, ◌+◌, ◌++◌, length, take, vec_len, vec_capacity}
use Rattle.enc_context.specs.Encoding.{encoding_of}
use Rattle.enc_context.proofs.contexts.Context.encode_into.Given as goal

abbrev pub invariant-loop-pair : goal.invariant-loop-pair
invariant-loop-pair l =
    (l.out.items ≡ l.initial.out.items ++ encoding_of (take l.pair-index l.pair-items))
    × (vec_len l.initial.out + length (encoding_of l.pair-items) ≤ vec_capacity l.out)
