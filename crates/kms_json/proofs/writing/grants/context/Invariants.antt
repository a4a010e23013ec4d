use Rattle.std.proofs.Common.{◌≡◌, ◌++◌, drop}
use Rattle.serde_json.specs.Data.{no_members}
use Rattle.kms_json.specs.Texts.{closing_tokens}
use Rattle.kms_json.proofs.ContextTexts.{pairs_listed}
use Rattle.kms_json.proofs.writing.grants.context.Given as goal

abbrev pub invariant-loop-pair : goal.invariant-loop-pair
invariant-loop-pair l = l.text ++ closing_tokens (pairs_listed (drop l.pair-index l.context) no_members) ≡ l.initial.text ++ closing_tokens (pairs_listed l.context no_members)
