use Rattle.std.proofs.Common.{◌≡◌, ◌++◌, drop}
use Rattle.serde_json.specs.Data.{Members}
use Rattle.kms_json.specs.Texts.{closing_tokens, listed}
use Rattle.kms_json.proofs.objects.write_members.Given as goal

abbrev pub invariant-loop-member : goal.invariant-loop-member
invariant-loop-member l = (rest : Members) → l.text ++ closing_tokens (listed (drop l.member-index l.members) rest) ≡ l.initial.text ++ closing_tokens (listed l.members rest)
