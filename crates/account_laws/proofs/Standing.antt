-- The rows of the histories that accounts hold stand in order of making.
use Rattle.std.proofs.Common.{ℕ, ◌+◌, ◌<◌, not, List, [], ◌∷◌, ◌++◌, length, sym, subst, arith}
use Rattle.std.specs.Prelude.{All}
use Rattle.std.proofs.lemmas.List.Kept.{AllPairs-filter}
use Rattle.std.proofs.lemmas.List.Quantifiers.{all_pairs_push}
use Rattle.key_states.specs.declared.rows.KeyRow.{KeyRow}
use Rattle.alias_map.specs.declared.rows.AliasRow.{AliasRow}
use Rattle.alias_map.specs.Aliases.{row_named, AreBefore, AreAliases}
use Rattle.alias_map.proofs.AliasFacts.{with_row_keeps, without_keeps, without_keys_keeps}
use Rattle.grant_table.specs.declared.rows.GrantRow.{GrantRow}
use Rattle.grant_table.specs.Grants.{has_id, is_of_any}
use Rattle.account_rows.specs.declared.entries.Entry.{Entry}
use Rattle.account_rows.specs.declared.entries.What.{What}
use Rattle.account_rows.specs.declared.entries.What.TheVariants as what
use Rattle.account_rows.specs.Changes.{gone_keys}
use Rattle.account_rows.specs.AliasChanges.{put_row, aliases_after}
use Rattle.account_rows.specs.GrantChanges.{new_grant, grants_after}
use Rattle.account_rows.specs.History.{replay, IsGrantOf}
use Rattle.account_rows.proofs.AliasFacts.{may_put, before_after, aliases-push}
use Rattle.account_rows.proofs.GrantFacts.{grants-push}
use Rattle.account_rows.proofs.RowFacts.{length-push}
use Rattle.account_steps.specs.declared.facts.RealmFacts.{RealmFacts}
use Rattle.account_core.specs.Fitting.{IsHeld, no_entry, appended_to, fitted_to}
use Rattle.account_laws.specs.Laws.{AreInOrder, RowsStandInOrder}
use Rattle.account_laws.proofs.Histories.{held_laws}

-- ---- one entry more

aliases_stand : (n time : ℕ) (w : What) (keys : List KeyRow) (aliases : List AliasRow) → AreBefore aliases n → AreAliases aliases → AreAliases (aliases_after n time w keys aliases)
aliases_stand n time (what.AliasPut name key) keys aliases before are =
    with_row_keeps aliases (put_row n time name key (row_named aliases name)) are (may_put n time name key aliases before)
aliases_stand n time (what.AliasDrop name) keys aliases before are = without_keeps aliases name are
aliases_stand n time what.House keys aliases before are = without_keys_keeps aliases (gone_keys time keys) are
aliases_stand n time other keys aliases before are = are

abbrev Rise : List GrantRow → Type 0
Rise grants = AreInOrder (λ (grant : GrantRow). grant.born) grants

grants_stand : (n time : ℕ) (w : What) (keys : List KeyRow) (grants : List GrantRow) → All (IsGrantOf n) grants → Rise grants → Rise (grants_after n time w keys grants)
grants_stand n time (what.GrantAdd grant key grantee retiring operations constraint name) keys grants all rise =
    all_pairs_push (λ (p q : GrantRow). p.born < q.born) grants (new_grant n time grant key grantee retiring operations constraint name) rise (λ k d lt. (all k d lt).before)
grants_stand n time (what.GrantDrop grant) keys grants all rise = AllPairs-filter (λ (p q : GrantRow). p.born < q.born) (λ row. not (has_id grant row)) grants rise
grants_stand n time what.House keys grants all rise = AllPairs-filter (λ (p q : GrantRow). p.born < q.born) (λ row. not (is_of_any (gone_keys time keys) row)) grants rise
grants_stand n time other keys grants all rise = rise

-- ---- along a history that an account holds

record Stand (history : List Entry) : Type 0 where
  aliases : AreAliases (replay history).aliases
  before : AreBefore (replay history).aliases (length history)
  grants : Rise (replay history).grants

stand_with : (front : List Entry) (entry : Entry) → All (IsGrantOf (length front)) (replay front).grants → Stand front → Stand (front ++ entry ∷ [])
stand_with front entry made so_far =
    let keys : List KeyRow = (replay front).keys in
    let aliases : List AliasRow = (replay front).aliases in
    record {
      aliases = subst AreAliases (sym (aliases-push front entry)) (aliases_stand (length front) entry.time entry.what keys aliases so_far.before so_far.aliases);
      before = subst (λ (n : ℕ). AreBefore (replay (front ++ entry ∷ [])).aliases n) (sym (length-push front entry))
          (subst (λ (rows : List AliasRow). AreBefore rows (length front + 1)) (sym (aliases-push front entry)) (before_after (length front) entry.time entry.what keys aliases so_far.before));
      grants = subst Rise (sym (grants-push front entry)) (grants_stand (length front) entry.time entry.what keys (replay front).grants made so_far.grants);
    }

stand : (facts : RealmFacts) (history : List Entry) → IsHeld facts history → Stand history
stand facts history no_entry = record {
  aliases = ((λ i j d lt within. absurd (omega (arith, within))), (λ i j d lt within. absurd (omega (arith, within))));
  before = λ k d lt. absurd (omega (arith, lt));
  grants = λ i j d lt within. absurd (omega (arith, within));
}
stand facts history (appended_to {history = front} entry held next) = stand_with front entry (held_laws facts front held).grants (stand facts front held)
stand facts history (fitted_to {history = front} entry held fits) = stand_with front entry (held_laws facts front held).grants (stand facts front held)

pub stand_in_order : RowsStandInOrder
stand_in_order facts history held =
    let rows = stand facts history held in
    record { keys = (held_laws facts history held).rows.rise; aliases = rows.aliases.1; grants = rows.grants }
