-- What a request that changes the account does, where it is served.
use Rattle.std.proofs.Common.{◌≡◌, ℕ, List, Option, Some, None, Ok, sym, ap, ◌∙◌, subst}
use Rattle.grant_table.specs.declared.rows.GrantRow.{GrantRow}
use Rattle.grant_table.specs.Grants.{grant_with}
use Rattle.account_rows.specs.declared.entries.What.{What}
use Rattle.account_rows.specs.declared.entries.What.TheVariants as what
use Rattle.account_rows.specs.History.{TagsFit}
use Rattle.account_rows.proofs.HouseFacts.{GivesDays}
use Rattle.account_steps.specs.declared.facts.RealmFacts.{RealmFacts}
use Rattle.account_steps.specs.Ids.{key_id_at, grant_id_at}
use Rattle.account_steps.specs.View.{View}
use Rattle.account_steps.specs.Parts.{ChangeParts, Outcome, limited, overfull, changes}
use Rattle.account_steps.proofs.Passing.{change_passed}

-- a key or grant that it makes has the id of its place
abbrev pub IsMadeAt : RealmFacts → ℕ → What → Type 0
IsMadeAt facts place (what.CreateKey key kind description policy tags) = key ≡ key_id_at facts place
IsMadeAt facts place (what.GrantAdd grant key grantee retiring operations constraint name) = grant ≡ grant_id_at facts place
IsMadeAt facts place _ = Unit {0}

-- a grant that it drops is there
abbrev pub HoldsDropped : List GrantRow → What → Type 0
HoldsDropped grants (what.GrantDrop grant) = (id : List ℕ) × (row : GrantRow) × (grant_with grants id ≡ Some row) × (row.grant ≡ grant)
HoldsDropped grants _ = Unit {0}

-- a key or grant that it makes has the id of its place, a period that it gives has days, a grant that it drops is there, and no key has too many tags
pub record IsDone (view : View) (did : What) : Type 0 where
  pub made : IsMadeAt view.facts view.place did
  pub gives : GivesDays did
  pub holds : HoldsDropped view.grants did
  pub tagged : TagsFit view.keys did

-- so much each operation has to say of what it does
abbrev pub DoesWell : {F R : Type 0} → View → ChangeParts F R → Type 0
DoesWell {F} {R} view op = (found : F) (ready : R) (did : What) → op.parts.found ≡ Ok found → op.parts.own found ≡ Ok ready → op.does found ready ≡ Some did → IsDone view did

pub does_this : (view : View) (this did : What) → IsDone view this → ◌≡◌ {A = Option What} (Some this) (Some did) → IsDone view did
does_this view this did done e = subst (IsDone view) (same this did e) done
  where
    same : (this did : What) → ◌≡◌ {A = Option What} (Some this) (Some did) → this ≡ did
    same this did e = cc

-- and then the limits leave room for it, whichever operation it is
pub record HasRoom (view : View) (did : What) : Type 0 where
  pub done : IsDone view did
  pub left : overfull view did ≡ None

pub done_by : {F R : Type 0} (view : View) (op : ChangeParts F R) → DoesWell view op → (o : Outcome (Option What)) (did : What) → changes view op ≡ Ok o → o.effect ≡ Some did → HasRoom view did
done_by view op well o did served is =
    let p = change_passed view op o served in
    let does : op.does p.found p.ready ≡ Some did = ap (λ (out : Outcome (Option What)). out.effect) p.outcome_is ∙ is in
    record {
      done = well p.found p.ready did p.found_is p.own_is does;
      left = sym (ap (limited view) does) ∙ p.left;
    }
