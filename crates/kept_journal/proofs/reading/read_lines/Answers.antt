use Rattle.std.proofs.Common.{rules, ◌≡◌, ◌<◌, ◌≤◌, ◌++◌, true, false, ℕ, List, [], length, take, refl, sym, ◌∙◌, ap, ap₂, arith}
use Rattle.std.specs.Prelude.{IfErr}
use Rattle.std.specs.Option.{option_map}
use Rattle.std.proofs.lemmas.Bool.{eqb-true, eqb-false}
use Rattle.account_core.specs.Account.{Account}
use Rattle.journal_lines.proofs.FrameFacts.{behind_is}
use Rattle.kept_log.specs.Log.{lines, recovered}
use Rattle.kept_journal.specs.declared.faults.KeptFault.TheVariants.{NoMemory}
use Rattle.kept_journal.specs.Lines.{head_text, first_seal}
use Rattle.kept_journal.specs.Reading.{IsFault, zero_boot, first_line_of, head_of, text_at}
use Rattle.kept_journal.proofs.Readings.{none_behind, err_memory}
use Rattle.kept_journal.proofs.Whole.{seal_is_first, line_is_first, none_told, new_reading, old_reading, head_is_missing, fault_is, boot_is_old}
use Rattle.kept_journal.proofs.reading.read_lines.Goals as goal

pub returns-in_err-head-clause-fault : goal.returns-in_err-head-clause-fault
returns-in_err-head-clause-fault c =
    let memory : IfErr c.from_residual.result (λ fault. fault ≡ NoMemory) = search rules in
    err_memory c.args.facts _ c.from_residual.result memory

pub returns-in_err-first-clause-fault : goal.returns-in_err-first-clause-fault
returns-in_err-first-clause-fault c =
    let memory : IfErr c.from_residual-in_err-first.result (λ fault. fault ≡ NoMemory) = search rules in
    err_memory c.args.facts _ c.from_residual-in_err-first.result memory

pub returns-in_err-empty-clause-fault : goal.returns-in_err-empty-clause-fault
returns-in_err-empty-clause-fault c =
    let memory : IfErr c.from_residual-in_err-empty.result (λ fault. fault ≡ NoMemory) = search rules in
    err_memory c.args.facts _ c.from_residual-in_err-empty.result memory

pub returns-then-boot-eq0-clause-fault : goal.returns-then-boot-eq0-clause-fault
returns-then-boot-eq0-clause-fault c =
    let all = take c.whole.result c.args.bytes.now in
    let empty : length all ≡ 0 = eqb-true (length all) 0 (sym c.is_empty-2.ensures ∙ c.if-is_empty.true) in
    zero_boot (sym (ap length c.whole.ensures.lines) ∙ empty) (omega (arith, c.if-boot-eq0.true))

pub returns-then-is_empty-clause-ok : goal.returns-then-is_empty-clause-ok
returns-then-is_empty-clause-ok c =
    let facts = c.args.facts in
    let text = c.as_slice.ensures.value ∙ c.in_ok-head.ensures ∙ ap₂ (λ (a r : List ℕ). head_text a r) c.as_str.ensures.value c.as_str-2.ensures.value in
    let seal = seal_is_first facts c.key_of-key.result c.as_slice.result.now c.seal_of-seal.result c.key_of-key.ensures text c.seal_of-seal.ensures in
    let new : c.is_empty.result ≡ true = c.is_empty.ensures ∙ sym c.is_empty-2.ensures ∙ c.if-is_empty.true in
    let empty : length (take c.whole.result c.args.bytes.now) ≡ 0 = eqb-true (length (take c.whole.result c.args.bytes.now)) 0 (sym c.is_empty-2.ensures ∙ c.if-is_empty.true) in
    let low : 0 < facts.boot = omega (arith, c.if-boot-eq0.false) in
    ([], new_reading facts c.args.bytes.now (record { account = c.in_ok-empty.field-0; seal = c.seal_of-seal.result; last_start = 0; is_new = c.is_empty.result }) c.in_ok-empty.ensures seal refl new (sym (ap length c.whole.ensures.lines) ∙ empty) low)

pub returns-in_default-clause-fault : goal.returns-in_default-clause-fault
returns-in_default-clause-fault c =
    let facts = c.args.facts in
    let all = take c.whole.result c.args.bytes.now in
    let text = c.as_slice.ensures.value ∙ c.in_ok-head.ensures ∙ ap₂ (λ (a r : List ℕ). head_text a r) c.as_str.ensures.value c.as_str-2.ensures.value in
    let text_2 = c.as_slice-2.ensures.value ∙ c.in_ok-head.ensures ∙ ap₂ (λ (a r : List ℕ). head_text a r) c.as_str.ensures.value c.as_str-2.ensures.value in
    let seal = seal_is_first facts c.key_of-key.result c.as_slice.result.now c.seal_of-seal.result c.key_of-key.ensures text c.seal_of-seal.ensures in
    let first : c.as_slice-3.result.now ≡ first_line_of facts = c.as_slice-3.ensures.value ∙ line_is_first facts c.as_slice-2.result.now c.seal_of-seal.result c.in_ok-first.first.items text_2 seal c.in_ok-first.ensures in
    let some : 0 < length all = omega (arith, eqb-false (length all) 0 (sym c.is_empty-2.ensures ∙ c.if-is_empty.false)) in
    head_is_missing facts c.as_slice-3.result.now all (lines (recovered c.args.bytes.now)) c.whole.ensures.lines first some
    (none_behind c.as_slice-3.result.now all (sym c.behind.ensures ∙ ap (λ o. option_map (λ r. r.now) o) c.in_default.is))

pub with_lines-requires-clause-none : goal.with_lines-requires-clause-none
with_lines-requires-clause-none c =
    let facts = c.args.facts in
    let text = c.as_slice.ensures.value ∙ c.in_ok-head.ensures ∙ ap₂ (λ (a r : List ℕ). head_text a r) c.as_str.ensures.value c.as_str-2.ensures.value in
    let seal = seal_is_first facts c.key_of-key.result c.as_slice.result.now c.seal_of-seal.result c.key_of-key.ensures text c.seal_of-seal.ensures in
    none_told facts (record { account = c.in_ok-empty.field-0; seal = c.seal_of-seal.result; last_start = 0; is_new = c.is_empty.result }) c.in_ok-empty.ensures seal refl

pub returns-in_err-read-clause-fault : goal.returns-in_err-read-clause-fault
returns-in_err-read-clause-fault c =
    let facts = c.args.facts in
    let all = take c.whole.result c.args.bytes.now in
    let rest = c.in-Some.rest.now in
    let text = c.as_slice.ensures.value ∙ c.in_ok-head.ensures ∙ ap₂ (λ (a r : List ℕ). head_text a r) c.as_str.ensures.value c.as_str-2.ensures.value in
    let text_2 = c.as_slice-2.ensures.value ∙ c.in_ok-head.ensures ∙ ap₂ (λ (a r : List ℕ). head_text a r) c.as_str.ensures.value c.as_str-2.ensures.value in
    let seal = seal_is_first facts c.key_of-key.result c.as_slice.result.now c.seal_of-seal.result c.key_of-key.ensures text c.seal_of-seal.ensures in
    let first : c.as_slice-3.result.now ≡ first_line_of facts = c.as_slice-3.ensures.value ∙ line_is_first facts c.as_slice-2.result.now c.seal_of-seal.result c.in_ok-first.first.items text_2 seal c.in_ok-first.ensures in
    let is : lines (recovered c.args.bytes.now) ≡ first_line_of facts ++ rest =
    sym c.whole.ensures.lines ∙ behind_is c.as_slice-3.result.now all rest (sym c.behind.ensures ∙ ap (λ o. option_map (λ r. r.now) o) c.in-Some.is) ∙ ap (λ (l : List ℕ). l ++ rest) first in
    let same : c.in_ok-empty.field-0.facts ≡ facts = ap (λ (a : Account). a.facts) c.in_ok-empty.ensures in
    let fault : IfErr c.from_residual-in_err-read.result (λ e. e ≡ c.in_err-read.field-0.0) = search rules in
    fault_is facts c.in_ok-empty.field-0.facts (lines (recovered c.args.bytes.now)) rest c.in_err-read.field-0.0 c.from_residual-in_err-read.result same is c.in_err-read.ensures.fault fault

pub returns-then-boot-read-clause-fault : goal.returns-then-boot-read-clause-fault
returns-then-boot-read-clause-fault c =
    let facts = c.args.facts in
    let all = take c.whole.result c.args.bytes.now in
    let rest = c.in-Some.rest.now in
    let text = c.as_slice.ensures.value ∙ c.in_ok-head.ensures ∙ ap₂ (λ (a r : List ℕ). head_text a r) c.as_str.ensures.value c.as_str-2.ensures.value in
    let text_2 = c.as_slice-2.ensures.value ∙ c.in_ok-head.ensures ∙ ap₂ (λ (a r : List ℕ). head_text a r) c.as_str.ensures.value c.as_str-2.ensures.value in
    let seal = seal_is_first facts c.key_of-key.result c.as_slice.result.now c.seal_of-seal.result c.key_of-key.ensures text c.seal_of-seal.ensures in
    let first : c.as_slice-3.result.now ≡ first_line_of facts = c.as_slice-3.ensures.value ∙ line_is_first facts c.as_slice-2.result.now c.seal_of-seal.result c.in_ok-first.first.items text_2 seal c.in_ok-first.ensures in
    let is : lines (recovered c.args.bytes.now) ≡ first_line_of facts ++ rest =
    sym c.whole.ensures.lines ∙ behind_is c.as_slice-3.result.now all rest (sym c.behind.ensures ∙ ap (λ o. option_map (λ r. r.now) o) c.in-Some.is) ∙ ap (λ (l : List ℕ). l ++ rest) first in
    let same : c.in_ok-empty.field-0.facts ≡ facts = ap (λ (a : Account). a.facts) c.in_ok-empty.ensures in
    let read = c.in_ok-read.ensures.ok in
    let low : facts.boot ≤ c.in_ok-read.read.last_start = omega (arith, c.if-boot-read.true) in
    boot_is_old facts c.in_ok-empty.field-0.facts (lines (recovered c.args.bytes.now)) rest read.0.0 c.in_ok-read.read same is read.0.1 low

pub returns-clause-ok : goal.returns-clause-ok
returns-clause-ok c =
    let facts = c.args.facts in
    let all = take c.whole.result c.args.bytes.now in
    let rest = c.in-Some.rest.now in
    let text = c.as_slice.ensures.value ∙ c.in_ok-head.ensures ∙ ap₂ (λ (a r : List ℕ). head_text a r) c.as_str.ensures.value c.as_str-2.ensures.value in
    let text_2 = c.as_slice-2.ensures.value ∙ c.in_ok-head.ensures ∙ ap₂ (λ (a r : List ℕ). head_text a r) c.as_str.ensures.value c.as_str-2.ensures.value in
    let seal = seal_is_first facts c.key_of-key.result c.as_slice.result.now c.seal_of-seal.result c.key_of-key.ensures text c.seal_of-seal.ensures in
    let first : c.as_slice-3.result.now ≡ first_line_of facts = c.as_slice-3.ensures.value ∙ line_is_first facts c.as_slice-2.result.now c.seal_of-seal.result c.in_ok-first.first.items text_2 seal c.in_ok-first.ensures in
    let is : lines (recovered c.args.bytes.now) ≡ first_line_of facts ++ rest =
    sym c.whole.ensures.lines ∙ behind_is c.as_slice-3.result.now all rest (sym c.behind.ensures ∙ ap (λ o. option_map (λ r. r.now) o) c.in-Some.is) ∙ ap (λ (l : List ℕ). l ++ rest) first in
    let same : c.in_ok-empty.field-0.facts ≡ facts = ap (λ (a : Account). a.facts) c.in_ok-empty.ensures in
    let read = c.in_ok-read.ensures.ok in
    let old : c.in_ok-read.read.is_new ≡ false = read.1 ∙ c.is_empty.ensures ∙ sym c.is_empty-2.ensures ∙ c.if-is_empty.false in
    let low : c.in_ok-read.read.last_start < facts.boot = omega (arith, c.if-boot-read.false) in
    (read.0.0, old_reading facts c.in_ok-empty.field-0.facts c.args.bytes.now rest read.0.0 c.in_ok-read.read same c.as_str.ensures.digits.1 old is read.0.1 low)
