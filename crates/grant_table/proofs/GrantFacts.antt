-- What stays true of grants.
use Rattle.std.proofs.Common.{◌≡◌, ◌≢◌, ℕ, ◌<◌, length, arith, Bool, true, false, ◌&&◌, List, [], ap, not}
use Rattle.std.specs.Prelude.{◌↔◌, IsTrue}
use Rattle.std.specs.Bool.{Decides}
use Rattle.std.proofs.lemmas.Bool.Decides.{same_from_decides}
use Rattle.std.proofs.lemmas.List.Kept.{AllPairs-filter}
use Rattle.grant_table.specs.declared.rows.GrantRow.{GrantRow}
use Rattle.kms_names.specs.declared.operations.GrantOps.{GrantOps}
use Rattle.kms_names.specs.GrantOps.{contains, IsSubset}
use Rattle.kms_names.proofs.OperationFacts.{all_implied, all_imply}
use Rattle.grant_table.specs.Grants.{is_subset, has_id, without, AreGrants}

pub without_keeps : (rows : List GrantRow) (grant : List ℕ) → AreGrants rows → AreGrants (without rows grant)
without_keeps rows grant (ids, births) = (
  AllPairs-filter (λ (p q : GrantRow). p.grant ≢ q.grant) (λ row. not (has_id grant row)) rows ids,
  AllPairs-filter (λ (p q : GrantRow). p.born < q.born) (λ row. not (has_id grant row)) rows births,
)

-- the test of operations decides that they are among others
pub subset_decides : (ops others : GrantOps) → Decides (is_subset ops others) (IsSubset ops others)
subset_decides ops others = (all_implied (contains ops) (contains others), all_imply (contains ops) (contains others))

-- so a test that tells the same is that test
pub is_subset_is : (ops others : GrantOps) (b : Bool) → IsTrue b ↔ IsSubset ops others → b ≡ is_subset ops others
is_subset_is ops others b told = same_from_decides b (is_subset ops others) told (subset_decides ops others)

pub and_after : (x y z : Bool) → x ≡ true → z ≡ y → z ≡ (x && y)
and_after true y z is same = same
and_after false y z is same = absurd (cc)

pub and_without : (x y z : Bool) → x ≡ false → z ≡ false → z ≡ (x && y)
and_without true y z is fails = absurd (cc)
and_without false y z is fails = fails

pub none_yet : (rows : List GrantRow) → rows ≡ [] → AreGrants rows
none_yet rows none = ((λ i j d before within e. no_place within), (λ i j d before within. absurd (no_place within)))
  where
    no_place : {j : ℕ} → j < length rows → ⊥
    no_place within = omega (arith, ap length none)
