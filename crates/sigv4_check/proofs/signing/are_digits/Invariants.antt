use Rattle.std.proofs.Common.{◌≡◌, ◌==◌, take}
use Rattle.std.specs.Str.{bytes_eq}
use Rattle.sigv4_check.proofs.signing.are_digits.Given as goal

abbrev pub invariant-loop-i : goal.invariant-loop-i
invariant-loop-i l = (l.difference == 0) ≡ bytes_eq (take l.i l.digits) (take l.i l.text)
