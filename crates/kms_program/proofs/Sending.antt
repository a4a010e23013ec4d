-- Two texts that are written one behind the other.
use Rattle.std.proofs.Common.{ℕ, List, ◌++◌, Bool, true, false}
use Rattle.std.specs.Bool.{MatchBool}
use Rattle.kms_io.specs.Wire.{Wire}
use Rattle.session_front.specs.Sending.{SendsWhole, SendsShort}
use Rattle.session_front.proofs.Wires.{whole_on, sends_short_after}

pub both_sent : (sent : Bool) (old mid new : Wire) (first second : List ℕ) → SendsWhole old mid first → MatchBool sent (SendsWhole mid new second) (SendsShort mid new second)
    → MatchBool sent (SendsWhole old new (first ++ second)) (SendsShort old new (first ++ second))
both_sent true old mid new first second whole rest = whole_on whole rest
both_sent false old mid new first second whole rest = sends_short_after whole rest
