use Rattle.std.proofs.Common.{codes, inl, refl}
use Rattle.journal_file.specs.declared.faults.JournalFault.TheVariants.{At, OldBoot}
use Rattle.kms_program.specs.Journals.{path_at, too_long, is_faulty}
use Rattle.kms_program.specs.Program.{no_journal, unread_journal}
use Rattle.kms_program.proofs.accounts.load_account.Goals as goal

pub returns-in-At-clause-status : goal.returns-in-At-clause-status
returns-in-At-clause-status g c = λ clock.
    no_journal c.args.name.now (path_at (At c.in-At.line)) refl (is_faulty (At c.in-At.line) (λ e. cc) c.in-At.ensures.1) c.in-At.ensures.0
    (c.refuse_line.ensures clock (g.F.Files.shows c.args.files.now) (g.F.Files.shows c.read_file.new.files))

pub returns-in-OldBoot-clause-status : goal.returns-in-OldBoot-clause-status
returns-in-OldBoot-clause-status g c = λ clock.
    no_journal c.args.name.now (path_at OldBoot) refl (is_faulty OldBoot (λ e. cc) c.in-OldBoot.ensures.1) c.in-OldBoot.ensures.0
    (inl (record { says = c.say_refused.ensures; status_is = refl; clock = refl }))

pub returns-in-TooLong-clause-status : goal.returns-in-TooLong-clause-status
returns-in-TooLong-clause-status g c = λ clock.
    no_journal c.args.name.now (codes "/load") refl (too_long c.in-TooLong.ensures.1) c.in-TooLong.ensures.0
    (inl (record { says = c.say_refused_journal.ensures; status_is = refl; clock = refl }))

pub returns-in-Failed-clause-status : goal.returns-in-Failed-clause-status
returns-in-Failed-clause-status g c = λ clock.
    unread_journal c.args.name.now refl c.in-Failed.ensures.1 c.in-Failed.ensures.0 (record { nothing = refl; status_is = refl; clock = refl })
