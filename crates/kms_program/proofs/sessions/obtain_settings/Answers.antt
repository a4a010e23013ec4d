use Rattle.std.proofs.Common.{ℕ, List, Option, sym, subst, refl}
use Rattle.std.specs.Prelude.{IfErr}
use Rattle.kms_words.specs.declared.asked.SessionWords.{SessionWords}
use Rattle.kms_words.specs.Words.{source_in}
use Rattle.kms_program.specs.Program.{around, FromSource}
use Rattle.kms_program.proofs.Programs.{on_status}
use Rattle.kms_program.proofs.sessions.obtain_settings.Goals as goal

pub returns-in-Values-clause-status : goal.returns-in-Values-clause-status
returns-in-Values-clause-status g c =
    let shelf = g.F.Files.shows c.args.files.now in
    subst
    (λ (words : SessionWords). IfErr c.settings_of_values.result (λ status. (clock : Option (List ℕ)) → FromSource (source_in words) status (around (g.L.Link.shows c.args.link.now) clock shelf)
    (around (g.L.Link.shows c.settings_of_values.new.link) clock shelf) (λ settings. ⊥)))
    (sym c.in-Values.is)
    (on_status c.settings_of_values.result (λ status none clock. (none clock shelf, refl)) c.settings_of_values.ensures.status)

pub returns-in-File-clause-status : goal.returns-in-File-clause-status
returns-in-File-clause-status g c =
    subst
    (λ (words : SessionWords). IfErr c.settings_of_file.result (λ status. (clock : Option (List ℕ)) → FromSource (source_in words) status
    (around (g.L.Link.shows c.args.link.now) clock (g.F.Files.shows c.args.files.now))
    (around (g.L.Link.shows c.settings_of_file.new.link) clock (g.F.Files.shows c.settings_of_file.new.files)) (λ settings. ⊥)))
    (sym c.in-File.is)
    c.settings_of_file.ensures.status
