use Rattle.std.proofs.Common.{refl}
use Rattle.journal_lines.specs.Entries.{what_of}
use Rattle.journal_lines.proofs.NameFacts.{skip}
use Rattle.journal_lines.proofs.entries.what_of.Goals as goal

pub returns-in_default : goal.returns-in_default
unfolding what_of
returns-in_default c =
    skip _ _ _ _ c.in_default.not-CreateKey (skip _ _ _ _ c.in_default.not-Enable (skip _ _ _ _ c.in_default.not-Disable (skip _ _ _ _ c.in_default.not-Schedule (skip _ _ _ _ c.in_default.not-Cancel (skip _ _ _ _ c.in_default.not-RotationOn (skip _ _ _ _ c.in_default.not-RotationOff (skip _ _ _ _ c.in_default.not-RotateNow (skip _ _ _ _ c.in_default.not-Policy (skip _ _ _ _ c.in_default.not-Description (skip _ _ _ _ c.in_default.not-Tag (skip _ _ _ _ c.in_default.not-Untag (skip _ _ _ _ c.in_default.not-AliasPut (skip _ _ _ _ c.in_default.not-AliasDrop (skip _ _ _ _ c.in_default.not-GrantAdd (skip _ _ _ _ c.in_default.not-GrantDrop (skip _ _ _ _ c.in_default.not-House refl))))))))))))))))
