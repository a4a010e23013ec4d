-- What was loaded is a history that an opened account holds.
use Rattle.std.proofs.Common.{List}
use Rattle.std.specs.Prelude.{All}
use Rattle.account_rows.specs.declared.entries.Entry.{Entry}
use Rattle.account_rows.specs.declared.entries.What.{What}
use Rattle.account_rows.specs.declared.entries.What.TheVariants as what
use Rattle.account_steps.specs.declared.facts.RealmFacts.{RealmFacts}
use Rattle.account_core.specs.Fitting.{IsSound, nothing, one_more, IsHeld, no_entry, fitted_to}
use Rattle.account_laws.specs.Laws.{KeyHasSize}
use Rattle.journal_lines.specs.Forms.{IsWhat, IsEntry}
use Rattle.journal_file.specs.Faults.{IsReadBack}
use Rattle.journal_laws.specs.Laws.{LoadedHistoriesAreOpened}
use Rattle.journal_laws.proofs.ReadForms.{read_formed}

sound_held : (facts : RealmFacts) (history : List Entry) → IsSound facts history → IsHeld facts history
sound_held facts _ nothing = no_entry
sound_held facts _ (one_more {history = history} entry sound fits) = fitted_to entry (sound_held facts history sound) fits

sized : (w : What) → IsWhat w → KeyHasSize w
sized (what.CreateKey key kind description policy tags) is = is.0.0
sized _ is = tt

formed : (history : List Entry) → All IsReadBack history → All IsEntry history
formed history read = λ k d lt. read_formed _ _ (read k d lt)

pub loaded_opened : LoadedHistoriesAreOpened
loaded_opened facts bytes history journal read =
    let forms = formed history read in
    (record { held = sound_held facts history journal.sound; sized = λ k d lt. sized _ (forms k d lt).1 }, forms)
