-- What a reading is, by its first line.
use Rattle.std.proofs.Common.{◌≡◌, ◌≢◌, ◌⊎◌, inl, inr, ℕ, ◌+◌, ◌-◌, ◌<◌, ◌≤◌, ◌^◌, List, [], ◌++◌, length, take, codes, Some, None, sym, ap, ap₂, subst, ◌∙◌, append_assoc, length-append, arith}
use Rattle.std.proofs.Math.Seq.{take-append_seam}
use Rattle.mac_sha.specs.Running.{IsMac}
use Rattle.mac_sha.specs.declared.Mac.{Mac}
use Rattle.account_steps.specs.declared.facts.RealmFacts.{RealmFacts}
use Rattle.std.specs.Prelude.{All}
use Rattle.account_rows.specs.declared.entries.Entry.{Entry}
use Rattle.account_core.specs.Account.{Account}
use Rattle.journal_lines.specs.Forms.{IsEntry}
use Rattle.journal_lines.specs.FrameLines.{head_line, end_line}
use Rattle.journal_lines.specs.Frames.{head_in}
use Rattle.journal_lines.proofs.FrameFacts.{head_told}
use Rattle.journal_file.specs.Journal.{entries_text, text_under}
use Rattle.journal_file.specs.Faults.{IsExpected, IsFault, IsFaultBehind, IsJournalOf, IsReadOf, right_seal, text_at}
use Rattle.journal_file.specs.declared.faults.JournalFault.{JournalFault}
use Rattle.journal_file.specs.declared.faults.JournalFault.TheVariants.{NoMemory}

not_none : (found : ℕ × List ℕ) → None ≡ Some found → ⊥
not_none found e = cc

module _ (facts : RealmFacts) (bytes : List ℕ) where
  -- no first line is read, where there is none
  pub no_head : head_in facts.account facts.region bytes ≡ None → (boot : ℕ) (rest : List ℕ) → boot < 2 ^ 32 → bytes ≢ head_line facts.account facts.region boot ++ rest
  no_head none boot rest small is =
      let told : None ≡ Some (boot, rest) = sym none ∙ ap (head_in facts.account facts.region) is ∙ head_told facts.account facts.region boot rest small in
      not_none (boot, rest) told

  pub memory_fault : (fault : JournalFault) → fault ≡ NoMemory → IsFault facts bytes fault
  memory_fault fault e = subst (IsFault facts bytes) (sym e) IsFault.no_memory

  module _ (boot : ℕ) (rest : List ℕ) (small : boot < 2 ^ 32) (is : bytes ≡ head_line facts.account facts.region boot ++ rest) where
    size : length bytes ≡ length (head_line facts.account facts.region boot) + length rest
    size = ap (λ (t : List ℕ). length t) is ∙ length-append (head_line facts.account facts.region boot) rest

    pub rest_within : length rest ≤ length bytes
    rest_within = omega (arith, size)

    front : take (length bytes - length rest) bytes ≡ head_line facts.account facts.region boot
    front =
        let head : List ℕ = head_line facts.account facts.region boot in
        let count : length bytes - length rest ≡ length head = omega (arith, size) in
        ap₂ (λ (n : ℕ) (t : List ℕ). take n t) count is ∙ take-append_seam head rest

    pub head_mac : (account : Account) (mac : Mac) → account ≡ record { facts = facts; entries = [] } → IsMac mac facts.root (codes "journal" ++ take (length bytes - length rest) bytes)
        → IsMac mac account.facts.root (codes "journal" ++ head_line account.facts.account account.facts.region boot)
    head_mac account mac same holds =
        let same_facts : account.facts ≡ facts = ap (λ (a : Account). a.facts) same in
        subst (λ (f : RealmFacts). IsMac mac f.root (codes "journal" ++ head_line f.account f.region boot)) (sym same_facts)
        (subst (λ (t : List ℕ). IsMac mac facts.root (codes "journal" ++ t)) front holds)

    pub journal_is : (account : Account) → IsReadOf facts boot rest account → (account.facts ≡ facts) × IsJournalOf facts bytes account.entries
    unfolding text_under
    journal_is account read =
        let head : List ℕ = head_line facts.account facts.region boot in
        let last : List ℕ = end_line (length account.entries) (right_seal facts boot account.entries) in
        let text : bytes ≡ text_at facts boot account.entries =
        is ∙ ap (λ (t : List ℕ). head ++ t) read.text ∙ sym (append_assoc head (entries_text account.entries) last) in
        (read.same, record { boot = boot; lower = read.lower; sound = read.sound; text = text })

    pub fault_is : (fault : JournalFault) → (fault ≡ NoMemory) ⊎ IsFaultBehind facts boot rest fault → IsFault facts bytes fault
    fault_is fault (inl e) = memory_fault fault e
    fault_is fault (inr behind) = IsFault.behind boot rest small is behind

  -- ---- the text of a history

  journal_head : (history : List Entry) (small : facts.boot < 2 ^ 32) (is : IsJournalOf facts bytes history)
      → head_in facts.account facts.region bytes ≡ Some (is.boot, entries_text history ++ end_line (length history) (right_seal facts is.boot history))
  unfolding text_under
  journal_head history small is =
      let head : List ℕ = head_line facts.account facts.region is.boot in
      let last : List ℕ = end_line (length history) (right_seal facts is.boot history) in
      let lower : is.boot < facts.boot = is.lower in
      let text : bytes ≡ head ++ (entries_text history ++ last) = is.text ∙ append_assoc head (entries_text history) last in
      ap (head_in facts.account facts.region) text ∙ head_told facts.account facts.region is.boot (entries_text history ++ last) (omega (arith, small, lower))

  pub headless : (history : List Entry) → facts.boot < 2 ^ 32 → IsJournalOf facts bytes history → head_in facts.account facts.region bytes ≡ None → ⊥
  headless history small is none = not_none _ (sym none ∙ journal_head history small is)

  one_found : (a b : ℕ × List ℕ) → Some a ≡ Some b → a ≡ b
  one_found a b e = cc

  pub expected_of : (history : List Entry) → All IsEntry history → length history < 10 ^ 18 → facts.boot < 2 ^ 32 → IsJournalOf facts bytes history
      → (boot : ℕ) (rest : List ℕ) → head_in facts.account facts.region bytes ≡ Some (boot, rest) → IsExpected facts boot rest history
  expected_of history forms few small is boot rest head =
      let tail : List ℕ = entries_text history ++ end_line (length history) (right_seal facts is.boot history) in
      let both : (boot, rest) ≡ (is.boot, tail) = one_found (boot, rest) (is.boot, tail) (sym head ∙ journal_head history small is) in
      let same_boot : is.boot ≡ boot = sym (ap (λ (p : ℕ × List ℕ). p.0) both) in
      let same_rest : rest ≡ tail = ap (λ (p : ℕ × List ℕ). p.1) both in
      record {
        forms = forms;
        few = few;
        lower = subst (λ (b : ℕ). b < facts.boot) same_boot is.lower;
        sound = is.sound;
        text = same_rest ∙ ap (λ (b : ℕ). entries_text history ++ end_line (length history) (right_seal facts b history)) same_boot;
      }
