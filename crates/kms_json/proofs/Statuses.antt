-- What is refused isn't served.
use Rattle.std.proofs.Common.{◌≡◌, ◌==◌, false, refl}
use Rattle.kms_json.specs.declared.replies.Reply.TheVariants.{Refused}
use Rattle.kms_json.specs.declared.refusals.Refusal.{Refusal}
use Rattle.kms_json.specs.declared.refusals.Refusal.TheVariants.{DependencyTimeout, DryRun}
use Rattle.kms_json.specs.Replies.{status_of}

-- the status of a refusal is never that of what is served
pub refused_unserved : (r : Refusal) → (status_of (Refused r) == 200) ≡ false
refused_unserved (DependencyTimeout entries wanted) = refl
refused_unserved DryRun = refl
refused_unserved _ = refl
