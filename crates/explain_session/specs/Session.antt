-- How a session that is explained ends.
use Rattle.std.specs.Prelude.{◌≡◌, ◌<◌, ◌⊎◌, ◌∷◌, ◌++◌, ℕ, List, [], Bool, false, Option}
use Rattle.kms_names.specs.Moment.{year_10000}
use Rattle.kms_io.specs.Wire.{Wire, TellsMore}
use Rattle.account_core.specs.Account.{Account}
use Rattle.session_front.specs.declared.ends.SessionEnd.{SessionEnd}
use Rattle.session_front.specs.declared.trust.Trust.{Trust}
use Rattle.session_front.specs.Complete as front
use Rattle.session_front.specs.Items.{Item, Cuts}
use Rattle.session_front.specs.Sending.{Writes, WritesShort}
use Rattle.session_front.specs.Session as session
use Rattle.session_front.specs.Session.{outside}
use Rattle.explain_session.specs.declared.session.Told.{Told}
use Rattle.explain_session.specs.declared.session.Told.TheVariants.{Whole, Short, Lacking}
use Rattle.explain_session.specs.Explaining.{Explainer, fresh, tells}

-- what a link and a clock tell, and what the account is
abbrev pub Outside : Type 0
Outside = session.Outside Explainer

-- what became of a line of this kind
abbrev pub IsTold : (List ℕ → Type 0) → Wire → Told → Wire → Type 0
IsTold Is old Whole new = Writes Is old new
IsTold Is old Short new = WritesShort Is old new
IsTold Is old Lacking new = new ≡ old

-- the lines of a run over the items into which the bytes taken are cut, up to this rest, were written
abbrev pub Explains : Trust → Outside → Outside → Bool → ℕ → List ℕ → Type 0
Explains trust old new closes count rest = session.Serves (tells trust) old new closes count rest

-- memory was wanting for the line of one more item: the lines of those before it were written, and nothing of its own
pub record Starves (trust : Trust) (old new : Outside) : Type 0 where
  pub so_far : Outside
  pub count : ℕ
  pub buffer : List ℕ
  pub explains : Explains trust old so_far false count buffer
  pub item : Item
  pub closes : Bool
  pub rest : List ℕ
  pub cuts : Cuts explains.input closes (explains.items ++ item ∷ []) rest
  pub c : ℕ
  pub before_year_10000 : c < year_10000
  pub told : TellsMore so_far.clock (c ∷ []) new.clock
  pub wire : new.wire ≡ so_far.wire

-- nothing was done for want of memory, or memory was wanting for a line
abbrev pub Wants : Trust → Outside → Outside → Type 0
Wants trust old new = (new ≡ old) ⊎ Starves trust old new

-- each end by its cause
abbrev pub EndsBy : Trust → SessionEnd → Outside → Outside → Type 0
EndsBy trust end old new = session.EndsBy (tells trust) (Wants trust old new) end old new

-- the session goes on after one more message, or ends
abbrev pub GoesOn : Trust → Option SessionEnd → Outside → Outside → ℕ → List ℕ → Type 0
GoesOn trust end old new count rest = session.GoesOn (tells trust) (Wants trust old new) end old new count rest

-- where nothing disturbs the session, each message that it is asked has its line, and it ends as they say; or memory was wanting
abbrev pub IsComplete : Trust → SessionEnd → Outside → Outside → Type 0
IsComplete trust end old new = front.IsComplete (tells trust) (Wants trust old new) end old new

-- a session of this account: the account at its end, each end by its cause, and where nothing disturbs it
pub record Explained (account : Account) (trust : Trust) (end : SessionEnd) (old : Wire) (told : Option (List ℕ)) (new : Wire) (later : Option (List ℕ)) : Type 0 where
  pub last : Explainer
  pub ends : EndsBy trust end (outside old told (fresh account)) (outside new later last)
  pub complete : IsComplete trust end (outside old told (fresh account)) (outside new later last)
