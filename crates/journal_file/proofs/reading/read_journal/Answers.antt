use Rattle.std.proofs.Common.{rules, ◌≡◌, ◌⊎◌, ℕ, List, [], codes, Some, None, IfErr, sym, ap, subst, ◌∙◌, arith, ◌<◌, ◌^◌}
use Rattle.std.specs.Option.{option_map}
use Rattle.account_steps.specs.declared.facts.RealmFacts.{RealmFacts}
use Rattle.account_core.specs.Account.{Account}
use Rattle.mac_sha.specs.Running.{IsMac}
use Rattle.journal_lines.specs.Frames.{head_in}
use Rattle.journal_lines.proofs.FrameFacts.{head_is}
use Rattle.journal_file.specs.Faults.{IsExpected, IsFault, IsFaultBehind, IsReadOf}
use Rattle.journal_file.specs.declared.faults.JournalFault.TheVariants.{NoMemory as OutOfMemory}
use Rattle.journal_file.proofs.Endings.{ok_is, err_is}
use Rattle.journal_file.proofs.HeadReading.{no_head, memory_fault, rest_within, headless, expected_of, head_mac, journal_is, fault_is}
use Rattle.journal_file.proofs.reading.read_journal.Goals as goal

pub returns-in_err-boot-clause-fault : goal.returns-in_err-boot-clause-fault
returns-in_err-boot-clause-fault c =
    let short : IfErr c.from_residual.result (λ fault. fault ≡ OutOfMemory) = search rules in
    err_is _ _ c.from_residual.result (memory_fault c.args.facts c.args.bytes.now) short

pub returns-in_err-account-clause-fault : goal.returns-in_err-account-clause-fault
returns-in_err-account-clause-fault c =
    let short : IfErr c.from_residual-in_err-account.result (λ fault. fault ≡ OutOfMemory) = search rules in
    err_is _ _ c.from_residual-in_err-account.result (memory_fault c.args.facts c.args.bytes.now) short

pub returns-in_default-clause-fault : goal.returns-in_default-clause-fault
returns-in_default-clause-fault c =
    let facts = c.args.facts in
    let none : head_in facts.account facts.region c.args.bytes.now ≡ None =
    ap (λ (r : List ℕ). head_in facts.account r c.args.bytes.now) (sym c.as_str.ensures.value) ∙ sym c.in_ok-boot.ensures ∙ ap (λ o. option_map (λ p. (p.0, p.1.now)) o) c.in_default.is in
    IsFault.no_head (no_head facts c.args.bytes.now none)

pub slice_bounds-add-count : goal.slice_bounds-add-count
slice_bounds-add-count c =
    let facts = c.args.facts in
    let some : head_in facts.account facts.region c.args.bytes.now ≡ Some (c.in-Some.boot, c.in-Some.rest.now) =
    ap (λ (r : List ℕ). head_in facts.account r c.args.bytes.now) (sym c.as_str.ensures.value) ∙ sym c.in_ok-boot.ensures ∙ ap (λ o. option_map (λ p. (p.0, p.1.now)) o) c.in-Some.is in
    let head = head_is facts.account facts.region c.args.bytes.now (c.in-Some.boot, c.in-Some.rest.now) some in
    rest_within facts c.args.bytes.now c.in-Some.boot c.in-Some.rest.now head.0 head.1

pub read_lines-requires-clause-mac : goal.read_lines-requires-clause-mac
read_lines-requires-clause-mac c =
    let facts = c.args.facts in
    let some : head_in facts.account facts.region c.args.bytes.now ≡ Some (c.in-Some.boot, c.in-Some.rest.now) =
    ap (λ (r : List ℕ). head_in facts.account r c.args.bytes.now) (sym c.as_str.ensures.value) ∙ sym c.in_ok-boot.ensures ∙ ap (λ o. option_map (λ p. (p.0, p.1.now)) o) c.in-Some.is in
    let head = head_is facts.account facts.region c.args.bytes.now (c.in-Some.boot, c.in-Some.rest.now) some in
    head_mac facts c.args.bytes.now c.in-Some.boot c.in-Some.rest.now head.0 head.1 c.in_ok-account.account c.add-2.new.self c.in_ok-account.ensures
    (c.add-2.ensures facts.root (codes "journal") (c.add.ensures facts.root [] (subst (λ (k : List ℕ). IsMac c.new-mac.result k []) c.as_slice.ensures c.new-mac.ensures)))

pub returns-clause-ok : goal.returns-clause-ok
returns-clause-ok c =
    let facts = c.args.facts in
    let some : head_in facts.account facts.region c.args.bytes.now ≡ Some (c.in-Some.boot, c.in-Some.rest.now) =
    ap (λ (r : List ℕ). head_in facts.account r c.args.bytes.now) (sym c.as_str.ensures.value) ∙ sym c.in_ok-boot.ensures ∙ ap (λ o. option_map (λ p. (p.0, p.1.now)) o) c.in-Some.is in
    let head = head_is facts.account facts.region c.args.bytes.now (c.in-Some.boot, c.in-Some.rest.now) some in
    let same : c.in_ok-account.account.facts ≡ facts = ap (λ (a : Account). a.facts) c.in_ok-account.ensures in
    ok_is _ _ c.read_lines.result (λ a read. journal_is facts c.args.bytes.now c.in-Some.boot c.in-Some.rest.now head.0 head.1 a
    (subst (λ (f : RealmFacts). IsReadOf f c.in-Some.boot c.in-Some.rest.now a) same read)) c.read_lines.ensures.ok

pub returns-clause-read : goal.returns-clause-read
returns-clause-read c = ok_is _ _ c.read_lines.result (λ a read. read.read) c.read_lines.ensures.ok

pub returns-clause-fault : goal.returns-clause-fault
returns-clause-fault c =
    let facts = c.args.facts in
    let some : head_in facts.account facts.region c.args.bytes.now ≡ Some (c.in-Some.boot, c.in-Some.rest.now) =
    ap (λ (r : List ℕ). head_in facts.account r c.args.bytes.now) (sym c.as_str.ensures.value) ∙ sym c.in_ok-boot.ensures ∙ ap (λ o. option_map (λ p. (p.0, p.1.now)) o) c.in-Some.is in
    let head = head_is facts.account facts.region c.args.bytes.now (c.in-Some.boot, c.in-Some.rest.now) some in
    let same : c.in_ok-account.account.facts ≡ facts = ap (λ (a : Account). a.facts) c.in_ok-account.ensures in
    err_is _ _ c.read_lines.result (λ fault is. fault_is facts c.args.bytes.now c.in-Some.boot c.in-Some.rest.now head.0 head.1 fault
    (subst (λ (f : RealmFacts). (fault ≡ OutOfMemory) ⊎ IsFaultBehind f c.in-Some.boot c.in-Some.rest.now fault) same is)) c.read_lines.ensures.fault

pub returns-in_default-clause-taken : goal.returns-in_default-clause-taken
returns-in_default-clause-taken c = λ history forms few is.
    let facts = c.args.facts in
    let none : head_in facts.account facts.region c.args.bytes.now ≡ None =
    ap (λ (r : List ℕ). head_in facts.account r c.args.bytes.now) (sym c.as_str.ensures.value) ∙ sym c.in_ok-boot.ensures ∙ ap (λ o. option_map (λ p. (p.0, p.1.now)) o) c.in_default.is in
    let small : facts.boot < 2 ^ 32 = omega arith in
    absurd (headless facts c.args.bytes.now history small is none)

pub returns-clause-taken : goal.returns-clause-taken
returns-clause-taken c = λ history forms few is.
    let facts = c.args.facts in
    let some : head_in facts.account facts.region c.args.bytes.now ≡ Some (c.in-Some.boot, c.in-Some.rest.now) =
    ap (λ (r : List ℕ). head_in facts.account r c.args.bytes.now) (sym c.as_str.ensures.value) ∙ sym c.in_ok-boot.ensures ∙ ap (λ o. option_map (λ p. (p.0, p.1.now)) o) c.in-Some.is in
    let same : c.in_ok-account.account.facts ≡ facts = ap (λ (a : Account). a.facts) c.in_ok-account.ensures in
    let small : facts.boot < 2 ^ 32 = omega arith in
    let expected = expected_of facts c.args.bytes.now history forms few small is c.in-Some.boot c.in-Some.rest.now some in
    c.read_lines.ensures.taken history (subst (λ (f : RealmFacts). IsExpected f c.in-Some.boot c.in-Some.rest.now history) (sym same) expected)
