-- How a session that is explained goes on and ends.
use Rattle.std.proofs.Common.{◌≡◌, ◌<◌, ℕ, List, [], ◌∷◌, ◌++◌, Bool, true, false, Option, inr}
use Rattle.kms_names.specs.Moment.{year_10000}
use Rattle.kms_io.specs.Wire.{Wire, TellsMore}
use Rattle.account_core.specs.Account.{Account}
use Rattle.http_front.specs.declared.judge.HttpFault.{HttpFault}
use Rattle.http_front.specs.Message.{Message, CutsOff, IsRefused}
use Rattle.http_front.specs.Offsets.{Offsets}
use Rattle.session_front.specs.declared.ends.SessionEnd.{SessionEnd}
use Rattle.session_front.specs.declared.trust.Trust.{Trust}
use Rattle.session_front.specs.Session.{outside}
use Rattle.session_front.specs.Items.{Item, Cuts, whole, fault, closes_at, no_message}
use Rattle.session_front.proofs.Complete.{each_is_answered}
use Rattle.session_front.proofs.Runs.{cuts_message}
use Rattle.explain_session.specs.Explaining.{Explainer, fresh, tells}
use Rattle.explain_session.specs.Session.{Outside, Explains, Starves, Wants, EndsBy, Explained}

starves : {trust : Trust} {start old new : Outside} {count c : ℕ} {buffer rest : List ℕ} (item : Item) (closes : Bool) (s : Explains trust start old false count buffer)
    → Cuts s.input closes (s.items ++ item ∷ []) rest → c < year_10000 → TellsMore old.clock (c ∷ []) new.clock → new.wire ≡ old.wire → Starves trust start new
starves {old = old} {count = count} {c = c} {buffer = buffer} {rest = rest} item closes s cuts before told same = record {
  so_far = old;
  count = count;
  buffer = buffer;
  explains = s;
  item = item;
  closes = closes;
  rest = rest;
  cuts = cuts;
  c = c;
  before_year_10000 = before;
  told = told;
  wire = same;
}

-- for that of a message at the front of the buffer
pub wants_at_message : {trust : Trust} {start old new : Outside} {count c : ℕ} {buffer : List ℕ} {closes : Bool} (cut : Offsets) (m : Message) → Explains trust start old false count buffer
    → CutsOff buffer cut m → closes ≡ closes_at count (whole m) → c < year_10000 → TellsMore old.clock (c ∷ []) new.clock → new.wire ≡ old.wire → Wants trust start new
wants_at_message {closes = closes} cut m s cuts is before told same = inr (starves (whole m) closes s (cuts_message cut m s cuts is) before told same)

-- for that of bytes that are refused
pub wants_at_fault : {trust : Trust} {start old new : Outside} {count c : ℕ} {buffer : List ℕ} (why : HttpFault) → Explains trust start old false count buffer → IsRefused buffer why
    → c < year_10000 → TellsMore old.clock (c ∷ []) new.clock → new.wire ≡ old.wire → Wants trust start new
wants_at_fault why s refused before told same = inr (starves (fault why) true s (no_message why s.cuts refused) before told same)

-- ---- a session from its beginning

pub explained : (account : Account) (trust : Trust) (end : SessionEnd) (old : Wire) (told : Option (List ℕ)) (new : Wire) (later : Option (List ℕ)) (last : Explainer)
    → EndsBy trust end (outside old told (fresh account)) (outside new later last) → Explained account trust end old told new later
explained account trust end old told new later last ends =
    let before = outside old told (fresh account) in
    let after = outside new later last in
    record { last = last; ends = ends; complete = each_is_answered (tells trust) (Wants trust before after) end before after ends }
