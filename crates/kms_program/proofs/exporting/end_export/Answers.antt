use Rattle.std.proofs.Common.{⊎_elim, ◌≡◌, sym, subst}
use Rattle.session_front.specs.declared.ends.SessionEnd.{SessionEnd}
use Rattle.session_front.specs.declared.ends.SessionEnd.TheVariants.{Ended, Closed}
use Rattle.kms_program.specs.Program.{EndsExport}
use Rattle.kms_program.proofs.exporting.end_export.Goals as goal

pub returns-in-Ended : goal.returns-in-Ended
returns-in-Ended g c =
    let old = g.L.Link.shows c.args.link.now in
    let new = g.L.Link.shows c.write_kept.new.link in
    ⊎_elim (λ (is : c.args.end ≡ Ended). subst (λ (e : SessionEnd). EndsExport e c.args.kept.now c.write_kept.result old new) (sym is) c.write_kept.ensures)
    (λ (is : c.args.end ≡ Closed). subst (λ (e : SessionEnd). EndsExport e c.args.kept.now c.write_kept.result old new) (sym is) c.write_kept.ensures) c.in-Ended.is
