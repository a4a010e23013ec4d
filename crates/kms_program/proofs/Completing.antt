-- What the program comes to where nothing disturbs it, by what it does.
use Rattle.std.proofs.Common.{◌≡◌, ◌≤◌, ◌⊎◌, inl, inr, ℕ, List, [], Bool, true, false, Option, None, Some, refl, sym, ap, ◌∙◌, subst, arith}
use Rattle.std.specs.Prelude.{IfSome}
use Rattle.kms_io.specs.Shelf.{Shelf}
use Rattle.kms_io.specs.Wire.{Wire, RoseBy}
use Rattle.kms_io.specs.QuietLink.{LiesBeneath}
use Rattle.session_front.specs.declared.ends.SessionEnd.{SessionEnd}
use Rattle.session_front.specs.declared.ends.SessionEnd.TheVariants.{Ended, Closed, CutOff, ReadFault, WriteFault, NoMemory}
use Rattle.session_front.specs.Items.{Item, Cuts}
use Rattle.session_front.specs.Runs.{Run}
use Rattle.session_front.specs.Sending.{SendsWhole}
use Rattle.session_front.specs.Complete.{AnswersEach, IsAsked, end_of}
use Rattle.session_front.specs.Session.{Outside, Serves, outside}
use Rattle.session_front.proofs.Complete.{each_is_answered, ended, closed, not_inside, front_of, all_taken}
use Rattle.account_steps.specs.declared.facts.RealmFacts.{RealmFacts}
use Rattle.account_steps.specs.History.{Entry}
use Rattle.published_account.specs.Pairs.{entries_of}
use Rattle.journal_file.specs.Journal.{journal_text}
use Rattle.kms_server.specs.declared.crew.Kept.{Kept}
use Rattle.account_core.specs.Account.{Account}
use Rattle.kms_session.specs.Run.{turns}
use Rattle.kms_session.specs.Session.{EndsBy}
use Rattle.kms_words.specs.Words.{Command, Source, RunValues, of_values, of_file, run, explain, export, check, serve, load, command_of}
use Rattle.publish_pass.specs.Pass.{Pass, fresh_pass}
use Rattle.kms_config.specs.declared.config.Config.{Config}
use Rattle.kms_program.specs.declared.settings.Settings.{Settings}
use Rattle.kms_program.specs.Statuses.{well, no_memory}
use Rattle.kms_program.specs.Journals.{IsBegun}
use Rattle.kms_program.specs.Program.{Around, around, Everything, one_of, status_of_end, Serves as ServesSession, Explains, quiet_over, IsKeptOf, WritesKept, keeps_journal, lacks_journal, EndsExport, Exports, Rests, whole, short, WithValues, right, refuses, lacks, too_long, fails, WithConfig, FromSource, AsksSource, NoAccount, no_journal, unread_journal, no_room, begun, not_begun, WithSession, with_settings, no_settings, Checks, tells, WithFile, configured, not_configured, Sums, sums, Does, Runs}
use Rattle.kms_program.specs.Complete.{ServesEach, ExplainsEach, ExportsEach, IsRight, ComesTo, comes_to_each, is_refused, is_starved, IsCalm, OnMessages, RunCompletes, ExplainCompletes, ExportCompletes, CheckComesTo, tells_numbers, is_no_config, has_no_memory, LoadComesTo, sums_up, lacks_memory, Completes}

status_of : (closes : Bool) → status_of_end (end_of closes) ≡ well
status_of true = refl
status_of false = refl

-- what a journal's file holds is what it held before others were asked for
begun_before : (old met : Shelf) (journal : Option (List ℕ)) (facts : RealmFacts) (account : Account) → met.content ≡ old.content → IsBegun met journal facts account → IsBegun old journal facts account
begun_before old met None facts account same is = is
begun_before old met (Some name) facts account same is = record {
  bytes = is.bytes;
  holds = subst (λ (content : List ℕ → Option (List ℕ)). IfSome (content name) (λ (all : List ℕ). is.bytes ≡ all)) same is.holds;
  facts_are = is.facts_are;
  is = is.is;
  read = is.read;
  held = is.held;
}

same_content : (source : Source) (old met : Shelf) → AsksSource source old met → met.content ≡ old.content
same_content (of_values values) old met asks = ap (λ (s : Shelf). s.content) asks
same_content (of_file file caller) old met asks = asks.content

no_fewer : (source : Source) (old met : Shelf) → AsksSource source old met → old.faults ≤ met.faults
no_fewer (of_values values) old met asks = let same = ap (λ (s : Shelf). s.faults) asks in omega (arith, same)
no_fewer (of_file file caller) old met asks = asks.faults

rose_before : (by old met new : ℕ) → old ≤ met → RoseBy by met new → RoseBy by old new
rose_before by old met new le rose = omega (arith, le, rose)

-- the replies of a run over items are those of the same items
answered : {S : Type 0} (Step : S → Item → ℕ → Bool → List ℕ → S → Type 0) {before after : Outside S} {closes : Bool} {count : ℕ} {rest : List ℕ} {items : List Item}
    (s : Serves Step before after closes count rest) → items ≡ s.items → AnswersEach Step items before after
answered Step {before = before} {after = after} s same = record {
  clocks = s.clocks;
  text = s.text;
  run = subst (λ (all : List Item). Run Step before.state after.state all s.clocks s.text) (sym same) s.run;
  written = s.written;
}

-- ---- what is written of an export leaves the count of faults of reads

sent_reads : (left : Kept) (status : ℕ) (old new : Wire) → WritesKept left status old new → old.read_faults ≤ new.read_faults
sent_reads left status old new (keeps_journal account is (inl both)) = let e = both.0.sends.read_faults in omega (arith, e)
sent_reads left status old new (keeps_journal account is (inr both)) = let e = both.0.sends.read_faults in omega (arith, e)
sent_reads left status old new (lacks_journal same is) = let e = ap (λ (w : Wire). w.read_faults) same in omega (arith, e)

reads_stay : (end : SessionEnd) (left : Kept) (status : ℕ) (old new : Wire) → EndsExport end left status old new → old.read_faults ≤ new.read_faults
reads_stay Ended left status old new does = sent_reads left status old new does
reads_stay Closed left status old new does = sent_reads left status old new does
reads_stay CutOff left status old new does = let e = ap (λ (w : Wire). w.read_faults) does.0 in omega (arith, e)
reads_stay ReadFault left status old new does = let e = ap (λ (w : Wire). w.read_faults) does.0 in omega (arith, e)
reads_stay WriteFault left status old new does = let e = ap (λ (w : Wire). w.read_faults) does.0 in omega (arith, e)
reads_stay NoMemory left status old new does = let e = ap (λ (w : Wire). w.read_faults) does.0 in omega (arith, e)

module _ (status : ℕ) (old new : Around) where
  -- a session that is served
  comes_served : (Right : Settings → Account → Type 0) (settings : Settings) (account : Account) (met : Shelf) → Right settings account
      → ServesSession account settings.trust status (around old.wire old.clock met) new → RunCompletes Right status old new
  comes_served Right settings account met fit s input closes items calm gives asked =
      let before = outside old.wire old.clock (fresh_pass account.facts 1 account.entries 1) in
      let after = outside new.wire new.clock s.serving.pass in
      elim (each_is_answered (turns false settings.trust) (after ≡ before) s.end before after s.serving.ends input closes items (record { gives = gives; reads = calm.reads; writes = calm.writes }) asked)
      as (λ _. ComesTo Right (λ settings account. ServesEach items account settings.trust status old new) (new.wire ≡ old.wire) status) [
        | inl none ↦ is_starved (s.status_is ∙ ap status_of_end none.0) (ap (λ (o : Outside Pass). o.wire) none.1)
        | inr each ↦ comes_to_each settings account fit (record { pass = s.serving.pass; each = each.1; status_is = s.status_is ∙ ap status_of_end each.0 ∙ status_of closes })
      ]

  -- one that is explained
  comes_explained : (Right : Settings → Account → Type 0) (settings : Settings) (account : Account) (met : Shelf) → Right settings account
      → Explains account settings.trust status (around old.wire old.clock met) new → ExplainCompletes Right status old new
  comes_explained Right settings account met fit s input closes items calm gives asked =
      elim (s.explained.complete input closes items (record { gives = gives; reads = calm.reads; writes = calm.writes }) asked)
      as (λ _. ComesTo Right (λ settings account. ExplainsEach items account settings.trust status old new) (Unit {0}) status) [
        | inl none ↦ is_starved (s.status_is ∙ ap status_of_end none.0) tt
        | inr each ↦ comes_to_each settings account fit (record { last = s.explained.last; each = each.1; status_is = s.status_is ∙ ap status_of_end each.0 ∙ status_of closes })
      ]

  -- one whose replies are kept back, and the journal that is written of it
  writes_kept : (pass : Pass) (left : Kept) (beneath : Wire) → IsKeptOf pass left → beneath.write_faults ≡ old.wire.write_faults → ¬ (RoseBy 1 old.wire.write_faults new.wire.write_faults)
      → WritesKept left status beneath new.wire → ((status ≡ no_memory) × (new.wire ≡ beneath)) ⊎ ((status ≡ well) × SendsWhole beneath new.wire (journal_text pass.facts (entries_of pass.history)))
  writes_kept pass left beneath kept same calm (keeps_journal account is (inl both)) =
      let fits = subst (IsKeptOf pass) is kept in
      inr (
        both.1,
        subst (λ (facts : RealmFacts). SendsWhole beneath new.wire (journal_text facts (entries_of pass.history))) fits.0
            (subst (λ (entries : List Entry). SendsWhole beneath new.wire (journal_text account.facts entries)) fits.1 both.0),
      )
  writes_kept pass left beneath kept same calm (keeps_journal account is (inr both)) = absurd (calm (subst (λ (n : ℕ). RoseBy 1 n new.wire.write_faults) same both.0.rose))
  writes_kept pass left beneath kept same calm (lacks_journal none is) = inl (is, none)

  module _ (Right : Settings → Account → Type 0) (settings : Settings) (account : Account) (fit : Right settings account) (items : List Item) (closes : Bool) where
    abbrev Exported : Type 0
    Exported = ComesTo Right (λ settings account. ExportsEach items account settings.trust status old new) (new.wire.written ≡ old.wire.written) status

    exports_each : (pass : Pass) (left : Kept) (quiet beneath : Wire) → IsKeptOf pass left → LiesBeneath old.wire quiet beneath → ¬ (RoseBy 1 old.wire.write_faults new.wire.write_faults)
        → AnswersEach (turns false settings.trust) items (outside (quiet_over old.wire) old.clock (fresh_pass account.facts 1 account.entries 1)) (outside quiet new.clock pass)
        → WritesKept left status beneath new.wire → Exported
    exports_each pass left quiet beneath kept lies calm each writes =
        elim (writes_kept pass left beneath kept lies.unwritten.write_faults calm writes) as (λ _. Exported) [
          | inl none ↦ is_starved none.0 (ap (λ (w : Wire). w.written) none.1 ∙ lies.unwritten.written)
          | inr written ↦ comes_to_each settings account fit (record { pass = pass; quiet = quiet; each = each; beneath = beneath; lies = lies; writes = written.1; status_is = written.0 })
        ]

    exports_none : (quiet beneath : Wire) → LiesBeneath old.wire quiet beneath → (new.wire ≡ beneath) × (status ≡ no_memory) → Exported
    exports_none quiet beneath lies both = is_starved both.1 (ap (λ (w : Wire). w.written) both.0 ∙ lies.unwritten.written)

    module _ (input : List ℕ) (calm : IsCalm old new) (gives : old.wire.left ≡ Some input) (asked : IsAsked input closes items) where
      comes_by : (end : SessionEnd) (left : Kept) (quiet beneath : Wire) (pass : Pass)
          → EndsBy false settings.trust end (outside (quiet_over old.wire) old.clock (fresh_pass account.facts 1 account.entries 1)) (outside quiet new.clock pass)
          → IsKeptOf pass left → LiesBeneath old.wire quiet beneath → beneath.read_faults ≤ new.wire.read_faults → EndsExport end left status beneath new.wire → Exported
      comes_by Ended left quiet beneath pass ends kept lies reads does =
          let f = front_of quiet.left input ends.serves.input (sym gives ∙ ends.serves.left) in
          let all : ends.serves.input ≡ input = all_taken f ends.at_end in
          let both = ended input closes items ends.serves.items asked (subst (λ (bytes : List ℕ). Cuts bytes false ends.serves.items []) all ends.serves.cuts) in
          exports_each pass left quiet beneath kept lies calm.writes (answered (turns false settings.trust) ends.serves both.1) does
      comes_by Closed left quiet beneath pass ends kept lies reads does =
          let f = front_of quiet.left input ends.serves.input (sym gives ∙ ends.serves.left) in
          let both = closed ends.serves.input f.left closes items ends.serves.items ends.rest (subst (λ (bytes : List ℕ). IsAsked bytes closes items) f.joined asked) ends.serves.cuts in
          exports_each pass left quiet beneath kept lies calm.writes (answered (turns false settings.trust) ends.serves both.1) does
      comes_by CutOff left quiet beneath pass ends kept lies reads does =
          let f = front_of quiet.left input ends.serves.input (sym gives ∙ ends.serves.left) in
          let all : ends.serves.input ≡ input = all_taken f ends.at_end in
          absurd (not_inside input closes items ends.serves.items ends.rest asked (subst (λ (bytes : List ℕ). Cuts bytes false ends.serves.items ends.rest) all ends.serves.cuts) ends.awaits ends.some)
      comes_by ReadFault left quiet beneath pass ends kept lies reads does =
          absurd (calm.reads (omega (arith, ends.rose, lies.read_faults, reads)))
      comes_by WriteFault left quiet beneath pass ends kept lies reads does = exports_none quiet beneath lies does
      comes_by NoMemory left quiet beneath pass ends kept lies reads does = exports_none quiet beneath lies does

  comes_exported : (Right : Settings → Account → Type 0) (settings : Settings) (account : Account) (met : Shelf) → Right settings account
      → Exports account settings.trust status (around old.wire old.clock met) new → ExportCompletes Right status old new
  comes_exported Right settings account met fit both input closes items calm gives asked =
      let exports = both.0 in
      comes_by Right settings account fit items closes input calm gives asked exports.end exports.left exports.quiet exports.beneath exports.held.serving.pass exports.held.serving.ends
      exports.held.keeps exports.lies (reads_stay exports.end exports.left status exports.beneath new.wire exports.ends) exports.ends

  -- ---- whatever is done with settings and an account

  module _ (Right : Settings → Account → Type 0) (Does : Settings → Account → Around → Type 0) (Each : List Item → Settings → Account → Type 0) (Starved : Type 0)
      (comes : (settings : Settings) (account : Account) (met : Shelf) → Right settings account → Does settings account (around old.wire old.clock met)
      → OnMessages old new (λ items. ComesTo Right (Each items) Starved status))
      (starved : new.wire ≡ old.wire → Starved) where
    abbrev Comes : Type 0
    Comes = OnMessages old new (λ items. ComesTo Right (Each items) Starved status)

    rests_anyhow : status ≡ no_memory → new.wire ≡ old.wire → Comes
    rests_anyhow is same input closes items calm gives asked = is_starved is (starved same)

    refused_anyhow : status ≡ 3 → Comes
    refused_anyhow is input closes items calm gives asked = is_refused is

    no_values : (values : RunValues) → WithValues values status old new (λ settings. ⊥) → Comes
    no_values values (right settings is none) = absurd none
    no_values values (refuses option is says) = refused_anyhow says.status_is
    no_values values (lacks rests) = rests_anyhow rests.status_is rests.nothing

    no_config : (config : Config) (caller : Option (List ℕ)) → WithConfig config caller status old new (λ settings. ⊥) → Comes
    no_config config caller (right settings is none) = absurd none
    no_config config caller (refuses nobody says) = refused_anyhow says.status_is
    no_config config caller (lacks rests) = rests_anyhow rests.status_is rests.nothing

    no_file : (file : List ℕ) (caller : Option (List ℕ)) → WithFile file status old new (λ config. WithConfig config caller status old new (λ settings. ⊥)) → Comes
    no_file file caller (configured config is policies asks runs) = no_config config caller runs
    no_file file caller (not_configured (refuses path is says) asks) = refused_anyhow says.status_is
    no_file file caller (not_configured (too_long is says) asks) = refused_anyhow says.status_is
    no_file file caller (not_configured (fails rose rests) asks) = λ input closes items calm gives asked. absurd (calm.files rose)
    no_file file caller (lacks rests asks) = rests_anyhow rests.status_is rests.nothing

    none_from : (source : Source) → FromSource source status old new (λ settings. ⊥) → Comes
    none_from (of_values values) none = no_values values none.0
    none_from (of_file file caller) none = no_file file caller none

    no_account : (facts : RealmFacts) (journal : Option (List ℕ)) (met : Shelf) → old.shelf.faults ≤ met.faults → NoAccount facts journal status (around old.wire old.clock met) new → Comes
    no_account facts journal met le (no_journal file path named is asks (inl says)) = refused_anyhow says.status_is
    no_account facts journal met le (no_journal file path named is asks (inr rests)) = rests_anyhow rests.status_is rests.nothing
    no_account facts journal met le (unread_journal file named rose asks rests) =
        λ input closes items calm gives asked. absurd (calm.files (rose_before 1 old.shelf.faults met.faults new.shelf.faults le rose))
    no_account facts journal met le (no_room asks rests) = rests_anyhow rests.status_is rests.nothing

    of_session : (source : Source) (journal : Option (List ℕ)) → ((settings : Settings) (account : Account) → IsRight old.shelf source journal settings account → Right settings account)
        → WithSession source journal status old new Does → Comes
    of_session source journal so (with_settings settings met is policies asks (begun account last begins more does)) =
        comes settings account last
        (so settings account (record { settings_are = is; begun = begun_before old.shelf met journal settings.facts account (same_content source old.shelf met asks) begins })) does
    of_session source journal so (with_settings settings met is policies asks (not_begun none)) = no_account settings.facts journal met (no_fewer source old.shelf met asks) none
    of_session source journal so (no_settings none) = none_from source none

  of_run : (source : Source) (journal : Option (List ℕ)) → WithSession source journal status old new (λ settings account met. ServesSession account settings.trust status met new)
      → RunCompletes (IsRight old.shelf source journal) status old new
  of_run source journal does =
      of_session (IsRight old.shelf source journal) (λ settings account met. ServesSession account settings.trust status met new)
      (λ items settings account. ServesEach items account settings.trust status old new) (new.wire ≡ old.wire) (comes_served (IsRight old.shelf source journal)) (λ same. same) source journal
      (λ settings account is. is) does

  of_explain : (source : Source) (journal : Option (List ℕ)) → WithSession source journal status old new (λ settings account met. Explains account settings.trust status met new)
      → ExplainCompletes (IsRight old.shelf source journal) status old new
  of_explain source journal does =
      of_session (IsRight old.shelf source journal) (λ settings account met. Explains account settings.trust status met new)
      (λ items settings account. ExplainsEach items account settings.trust status old new) (Unit {0}) (comes_explained (IsRight old.shelf source journal)) (λ same. tt) source journal
      (λ settings account is. is) does

  of_export : (source : Source) (journal : Option (List ℕ)) → WithSession source journal status old new (λ settings account met. Exports account settings.trust status met new)
      → ExportCompletes (IsRight old.shelf source journal) status old new
  of_export source journal does =
      of_session (IsRight old.shelf source journal) (λ settings account met. Exports account settings.trust status met new)
      (λ items settings account. ExportsEach items account settings.trust status old new) (new.wire.written ≡ old.wire.written) (comes_exported (IsRight old.shelf source journal))
      (λ same. ap (λ (w : Wire). w.written) same) source journal (λ settings account is. is) does

  of_check : (file : List ℕ) → WithFile file status old new (λ config. Checks config status old new) → IsCalm old new → CheckComesTo file status old new
  of_check file (configured config is policies asks (tells (whole sends st clock))) calm = tells_numbers (record { config = config; is = is; tells = sends }) st
  of_check file (configured config is policies asks (tells (short sends st clock))) calm = absurd (calm.writes sends.rose)
  of_check file (configured config is policies asks (lacks rests)) calm = has_no_memory rests.status_is
  of_check file (not_configured (refuses path is says) asks) calm = is_no_config says.status_is
  of_check file (not_configured (too_long is says) asks) calm = is_no_config says.status_is
  of_check file (not_configured (fails rose rests) asks) calm = absurd (calm.files rose)
  of_check file (lacks rests asks) calm = has_no_memory rests.status_is

  of_load : (seed requests : ℕ) → Sums seed requests status old.wire new.wire → IsCalm old new → LoadComesTo seed requests status old.wire new.wire
  of_load seed requests (sums lines is (inl both)) calm = sums_up lines is both.0 both.1
  of_load seed requests (sums lines is (inr both)) calm = absurd (calm.writes both.0.rose)
  of_load seed requests (lacks same is) calm = lacks_memory is

  of_want : (command : Option Command) → Rests no_memory status old new → Completes command status old new
  of_want None rests = tt
  of_want (Some (run source journal)) rests = λ input closes items calm gives asked. is_starved rests.status_is rests.nothing
  of_want (Some (explain source journal)) rests = λ input closes items calm gives asked. is_starved rests.status_is tt
  of_want (Some (export source journal)) rests = λ input closes items calm gives asked. is_starved rests.status_is (ap (λ (w : Wire). w.written) rests.nothing)
  of_want (Some (check file)) rests = λ calm. has_no_memory rests.status_is
  of_want (Some (serve values)) rests = tt
  of_want (Some (load seed requests)) rests = λ calm. lacks_memory rests.status_is

of_command : (status : ℕ) (old new : Everything) (command : Option Command) → Does command status old new → Completes command status (one_of old) (one_of new)
of_command status old new None does = tt
of_command status old new (Some (run source journal)) does = of_run status (one_of old) (one_of new) source journal does.0
of_command status old new (Some (explain source journal)) does = of_explain status (one_of old) (one_of new) source journal does.0
of_command status old new (Some (export source journal)) does = of_export status (one_of old) (one_of new) source journal does.0
of_command status old new (Some (check file)) does = of_check status (one_of old) (one_of new) file does.0
of_command status old new (Some (serve values)) does = tt
of_command status old new (Some (load seed requests)) does = of_load status (one_of old) (one_of new) seed requests does.0

-- whatever the words are
pub completes : (words : List (List ℕ)) (status : ℕ) (old new : Everything) → Runs words status old new → Completes (command_of words) status (one_of old) (one_of new)
completes words status old new (inl does) = of_command status old new (command_of words) does
completes words status old new (inr rests) = of_want status (one_of old) (one_of new) (command_of words) rests.0
