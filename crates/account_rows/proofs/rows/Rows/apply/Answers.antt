use Rattle.std.proofs.Common.{◌≡◌, ◌+◌, ◌<◌, ◌≤◌, min, ap, ap₂, ◌∙◌, sym, subst, arith, List, length, ℕ, ◌++◌, ◌∷◌, []}
use Rattle.key_states.specs.declared.rows.KeyRow.{KeyRow}
use Rattle.std.specs.Prelude.{All}
use Rattle.alias_map.specs.declared.rows.AliasRow.{AliasRow}
use Rattle.alias_map.specs.Aliases.{AreBefore}
use Rattle.grant_table.specs.declared.rows.GrantRow.{GrantRow}
use Rattle.account_rows.specs.declared.entries.Entry.{Entry}
use Rattle.account_rows.specs.History.{replay, latest_of, most_bytes, AreRows, IsGrantOf, IsMadeHere, TagsFit, IsFitting}
use Rattle.account_rows.specs.Changes.{keys_after}
use Rattle.account_rows.specs.AliasChanges.{aliases_after}
use Rattle.account_rows.specs.GrantChanges.{grants_after}
use Rattle.account_rows.specs.Sizes.{size_of, bytes_in}
use Rattle.account_rows.proofs.RowFacts.{rows_after, replay-push, latest-push, bytes-push, length-push}
use Rattle.account_rows.proofs.AliasFacts.{before_after, aliases-push}
use Rattle.account_rows.proofs.GrantFacts.{grants_rise, grants-push}
use Rattle.std.specs.Ordering.{nat_cmp}
use Rattle.persist_map.specs.Pairs.{with_pair}
use Rattle.account_rows.specs.Numbered.{entries_in, AreCounted}
use Rattle.account_rows.proofs.EntryFacts.{entry_more, counted_more, entries_more, as_many}
use Rattle.account_rows.proofs.rows.Rows.apply.Goals as goal

small : (a b : ℕ) → a + b ≤ most_bytes → min b 18446744073709551615 ≡ b
small a b le = grind (arith, le)

pub after-requires-clause-tagged : goal.after-requires-clause-tagged
after-requires-clause-tagged c =
    subst (λ (rows : List KeyRow). TagsFit rows c.args.entry.now.what) (ap (λ (h : List Entry). (replay h).keys) (sym c.self.view_is) ∙ sym c.self.invariant.keys) c.requires.tagged

pub aliases_after-requires-clause-before : goal.aliases_after-requires-clause-before
aliases_after-requires-clause-before c =
    let place : c.entries-place.result ≡ length c.self.inside.entries = c.entries-place.ensures.number ∙ ap length (sym c.self.view_is) ∙ as_many c.self.inside.entries in
    subst (λ (n : ℕ). AreBefore c.self.inside.aliases n) (sym place) c.self.invariant.before

pub grants_after-requires-clause-grants : goal.grants_after-requires-clause-grants
grants_after-requires-clause-grants c =
    let place : c.entries-place.result ≡ length c.self.inside.entries = c.entries-place.ensures.number ∙ ap length (sym c.self.view_is) ∙ as_many c.self.inside.entries in
    subst (λ (n : ℕ). All (IsGrantOf n) c.self.inside.grants) (sym place) c.self.invariant.granted

pub grants_after-requires-clause-made : goal.grants_after-requires-clause-made
grants_after-requires-clause-made c = subst (λ (n : ℕ). IsMadeHere n c.args.entry.now.what) (sym c.entries-place.ensures.number) c.requires.made

pub invariant_of-result : goal.invariant_of-result
invariant_of-result c =
    let pairs = c.self.inside.entries in
    let history = entries_in pairs in
    let entry = c.args.entry.now in
    let fitting = subst (λ (h : List Entry). IsFitting h entry) (sym c.self.view_is) c.requires in
    let many = as_many pairs in
    let place : c.entries-place.result ≡ length history = c.entries-place.ensures.number ∙ ap length (sym c.self.view_is) in
    let more = c.in_ok-insert.ensures ∙ ap (with_pair nat_cmp pairs c.entries-place.result) c.in_ok-copy.ensures ∙ entry_more pairs c.self.invariant.counted c.entries-place.result (place ∙ many) entry in
    let grown = ap entries_in more ∙ entries_more pairs c.entries-place.result entry in
    let keys = c.in_ok-after.ensures ∙ ap₂ (λ (n : ℕ) (rows : List KeyRow). keys_after n entry.time entry.what rows) place c.self.invariant.keys in
    let replayed = keys ∙ sym (replay-push history entry) ∙ ap (λ h. (replay h).keys) (sym grown) in
    let length_is : length c.in_ok-insert.field-0 ≡ length history + 1 = sym (as_many c.in_ok-insert.field-0) ∙ ap length grown ∙ length-push history entry in
    let bytes_are : bytes_in (entries_in c.in_ok-insert.field-0) ≡ bytes_in history + size_of entry.what = ap bytes_in grown ∙ bytes-push history entry in
    let were = subst (λ (n : ℕ). AreRows n c.self.inside.keys) (sym many) c.self.invariant.are in
    let rows : AreRows (length history + 1) (keys_after (length history) entry.time entry.what (replay history).keys) =
    rows_after (length history) entry.time entry.what (replay history).keys fitting.made (subst (AreRows (length history)) c.self.invariant.keys were) in
    let aliases : c.in_ok-aliases_after.field-0 ≡ aliases_after (length history) entry.time entry.what (replay history).keys (replay history).aliases =
    c.in_ok-aliases_after.ensures
    ∙ (ap₂ (λ (n : ℕ) (rows : List KeyRow). aliases_after n entry.time entry.what rows c.self.inside.aliases) place c.self.invariant.keys
    ∙ ap (λ (rows : List AliasRow). aliases_after (length history) entry.time entry.what (replay history).keys rows) c.self.invariant.aliases) in
    let were_before = subst (λ (n : ℕ). AreBefore c.self.inside.aliases n) (sym many) c.self.invariant.before in
    let before : AreBefore (aliases_after (length history) entry.time entry.what (replay history).keys (replay history).aliases) (length history + 1) =
    before_after (length history) entry.time entry.what (replay history).keys (replay history).aliases (subst (λ (rows : List AliasRow). AreBefore rows (length history)) c.self.invariant.aliases were_before) in
    let grants : c.in_ok-grants_after.field-0 ≡ grants_after (length history) entry.time entry.what (replay history).keys (replay history).grants =
    c.in_ok-grants_after.ensures
    ∙ (ap₂ (λ (n : ℕ) (rows : List KeyRow). grants_after n entry.time entry.what rows c.self.inside.grants) place c.self.invariant.keys
    ∙ ap (λ (rows : List GrantRow). grants_after (length history) entry.time entry.what (replay history).keys rows) c.self.invariant.grants) in
    let were_granted = subst (λ (n : ℕ). All (IsGrantOf n) c.self.inside.grants) (sym many) c.self.invariant.granted in
    let granted : All (IsGrantOf (length history + 1)) (grants_after (length history) entry.time entry.what (replay history).keys (replay history).grants) =
    grants_rise (length history) entry.time entry.what (replay history).keys (replay history).grants fitting.made (subst (λ (rows : List GrantRow). All (IsGrantOf (length history)) rows) c.self.invariant.grants were_granted) in
    let few : length history < 1000000 = fitting.few in
    let fits : bytes_in history + size_of entry.what ≤ 268435456 = fitting.fits in
    record {
      counted = subst (AreCounted 0) (sym more) (counted_more pairs 0 c.entries-place.result entry c.self.invariant.counted (omega (arith, place, many)));
      keys = replayed;
      are = subst (λ (n : ℕ). AreRows n c.in_ok-after.field-0) (sym length_is) (subst (AreRows (length history + 1)) (sym keys) rows);
      aliases = aliases ∙ sym (aliases-push history entry) ∙ ap (λ h. (replay h).aliases) (sym grown);
      before = subst (λ (n : ℕ). AreBefore c.in_ok-aliases_after.field-0 n) (sym length_is) (subst (λ (rows : List AliasRow). AreBefore rows (length history + 1)) (sym aliases) before);
      grants = grants ∙ sym (grants-push history entry) ∙ ap (λ h. (replay h).grants) (sym grown);
      granted = subst (λ (n : ℕ). All (IsGrantOf n) c.in_ok-grants_after.field-0) (sym length_is) (subst (λ (rows : List GrantRow). All (IsGrantOf (length history + 1)) rows) (sym grants) granted);
      latest = sym (latest-push history entry) ∙ ap latest_of (sym grown);
      bytes = ap₂ (λ (a b : ℕ). a + b) c.self.invariant.bytes (c.size.ensures ∙ small (bytes_in history) (size_of entry.what) fits) ∙ sym bytes_are;
      few = omega (arith, length_is, few);
      fits = omega (arith, bytes_are, fits);
    }

pub returns : goal.returns
returns c =
    let pairs = c.self.inside.entries in
    let entry = c.args.entry.now in
    let place : c.entries-place.result ≡ length (entries_in pairs) = c.entries-place.ensures.number ∙ ap length (sym c.self.view_is) in
    let more = c.in_ok-insert.ensures ∙ ap (with_pair nat_cmp pairs c.entries-place.result) c.in_ok-copy.ensures ∙ entry_more pairs c.self.invariant.counted c.entries-place.result (place ∙ as_many pairs) entry in
    ap entries_in more ∙ entries_more pairs c.entries-place.result entry ∙ ap (λ (h : List Entry). h ++ entry ∷ []) c.self.view_is
