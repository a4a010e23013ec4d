use Rattle.std.proofs.Common.{◌≡◌, take}
use Rattle.key_states.proofs.versions.VersionList.copy.Given as goal

abbrev pub invariant-loop-version : goal.invariant-loop-version
invariant-loop-version l = l.items.items ≡ take l.version-index l.version-items
