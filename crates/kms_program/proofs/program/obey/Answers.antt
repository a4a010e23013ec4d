use Rattle.std.proofs.Common.{Some, map, slice_set, subst, sym, refl, arith}
use Rattle.kms_words.specs.declared.asked.Asked.{Asked}
use Rattle.kms_words.specs.Words.{source_in, journal_in, shown}
use Rattle.kms_program.specs.Program.{around, everything, first_of, Serves, Explains, Exports, WithSession, Does}
use Rattle.kms_program.proofs.Clocks.{in_first_place, others_rest}
use Rattle.kms_program.proofs.program.obey.Goals as goal

pub returns-in-Run : goal.returns-in-Run
returns-in-Run g c =
    let told = g.C.Clock.told in
    let clocks = c.args.clocks.now.items in
    let held = c.hold_session in
    let old_shelf = g.F.Files.shows c.args.files.now in
    let new_shelf = g.F.Files.shows held.new.files in
    let door = g.D.Door.shows c.args.door.now in
    let before = g.L.Link.shows c.args.link.now in
    let after = g.L.Link.shows held.new.link in
    let session = c.in-Run.session in
    let source = source_in session.words in
    let journal = journal_in session in
    let status = held.result in
    subst (λ (asked : Asked). Does (Some (shown asked)) status (everything before old_shelf door (map told clocks)) (everything after new_shelf door (map told (slice_set clocks 0 held.new.clock)))) (sym c.in-Run.is) (
      in_first_place told clocks c.index_mut-clock.result.now held.new.clock
          (λ old new. WithSession source journal status (around before old old_shelf) (around after new new_shelf) (λ settings account met. Serves account settings.trust status met (around after new new_shelf)))
          (omega arith) c.index_mut-clock.ensures.value held.ensures,
      record { door = refl; clocks = others_rest told clocks held.new.clock },
    )

pub returns-in-Explain : goal.returns-in-Explain
returns-in-Explain g c =
    let told = g.C.Clock.told in
    let clocks = c.args.clocks.now.items in
    let held = c.hold_session-in-Explain in
    let old_shelf = g.F.Files.shows c.args.files.now in
    let new_shelf = g.F.Files.shows held.new.files in
    let door = g.D.Door.shows c.args.door.now in
    let before = g.L.Link.shows c.args.link.now in
    let after = g.L.Link.shows held.new.link in
    let session = c.in-Explain.session in
    let source = source_in session.words in
    let journal = journal_in session in
    let status = held.result in
    subst (λ (asked : Asked). Does (Some (shown asked)) status (everything before old_shelf door (map told clocks)) (everything after new_shelf door (map told (slice_set clocks 0 held.new.clock)))) (sym c.in-Explain.is) (
      in_first_place told clocks c.index_mut-clock-in-Explain.result.now held.new.clock
          (λ old new. WithSession source journal status (around before old old_shelf) (around after new new_shelf) (λ settings account met. Explains account settings.trust status met (around after new new_shelf)))
          (omega arith) c.index_mut-clock-in-Explain.ensures.value held.ensures,
      record { door = refl; clocks = others_rest told clocks held.new.clock },
    )

pub returns-in-Export : goal.returns-in-Export
returns-in-Export g c =
    let told = g.C.Clock.told in
    let clocks = c.args.clocks.now.items in
    let held = c.hold_session-in-Export in
    let old_shelf = g.F.Files.shows c.args.files.now in
    let new_shelf = g.F.Files.shows held.new.files in
    let door = g.D.Door.shows c.args.door.now in
    let before = g.L.Link.shows c.args.link.now in
    let after = g.L.Link.shows held.new.link in
    let session = c.in-Export.session in
    let source = source_in session.words in
    let journal = journal_in session in
    let status = held.result in
    subst (λ (asked : Asked). Does (Some (shown asked)) status (everything before old_shelf door (map told clocks)) (everything after new_shelf door (map told (slice_set clocks 0 held.new.clock)))) (sym c.in-Export.is) (
      in_first_place told clocks c.index_mut-clock-in-Export.result.now held.new.clock
          (λ old new. WithSession source journal status (around before old old_shelf) (around after new new_shelf) (λ settings account met. Exports account settings.trust status met (around after new new_shelf)))
          (omega arith) c.index_mut-clock-in-Export.ensures.value held.ensures,
      record { door = refl; clocks = others_rest told clocks held.new.clock },
    )

pub returns-in-Check : goal.returns-in-Check
returns-in-Check g c =
    let clocks = map g.C.Clock.told c.args.clocks.now.items in
    let door = g.D.Door.shows c.args.door.now in
    let old = everything (g.L.Link.shows c.args.link.now) (g.F.Files.shows c.args.files.now) door clocks in
    let new = everything (g.L.Link.shows c.check_file.new.link) (g.F.Files.shows c.check_file.new.files) door clocks in
    subst (λ (asked : Asked). Does (Some (shown asked)) c.check_file.result old new) (sym c.in-Check.is)
    (c.check_file.ensures (first_of clocks), record { door = refl; clocks = refl })

pub returns-in-Serve : goal.returns-in-Serve
returns-in-Serve g c =
    let told = g.C.Clock.told in
    let old = everything (g.L.Link.shows c.args.link.now) (g.F.Files.shows c.args.files.now) (g.D.Door.shows c.args.door.now) (map told c.args.clocks.now.items) in
    let new = everything (g.L.Link.shows c.serve_file.new.link) (g.F.Files.shows c.serve_file.new.files) (g.D.Door.shows c.serve_file.new.door) (map told c.serve_file.new.clocks.items) in
    subst (λ (asked : Asked). Does (Some (shown asked)) c.serve_file.result old new) (sym c.in-Serve.is) c.serve_file.ensures

pub returns-in-Load : goal.returns-in-Load
returns-in-Load g c =
    let clocks = map g.C.Clock.told c.args.clocks.now.items in
    let shelf = g.F.Files.shows c.args.files.now in
    let door = g.D.Door.shows c.args.door.now in
    let old = everything (g.L.Link.shows c.args.link.now) shelf door clocks in
    let new = everything (g.L.Link.shows c.load.new.link) shelf door clocks in
    subst (λ (asked : Asked). Does (Some (shown asked)) c.load.result old new) (sym c.in-Load.is)
    (c.load.ensures, record { shelf = refl; none = record { door = refl; clocks = refl } })
