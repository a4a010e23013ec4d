-- What the calls of an ear do.
use Rattle.std.specs.Prelude.{◌≡◌, ◌≤◌, [], ◌∷◌, true, false, IfSome}
use Rattle.kms_io.specs.Wire.{Wire, with_more, RoseBy}
use Rattle.kms_io.specs.Listening.{Listening}
use Rattle.kms_io.specs.declared.ear.Next.{Next}
use Rattle.kms_io.specs.declared.ear.Next.TheVariants.{Conn, Failed}

-- nothing was taken or written, where that is told, and no fault was counted
pub record IsNewWire (wire : Wire) : Type 0 where
  pub taken : IfSome wire.taken (λ taken. taken ≡ [])
  pub written : IfSome wire.written (λ written. written ≡ [])
  pub moves : IfSome wire.moves (λ moves. moves ≡ [])
  pub read_faults : wire.read_faults ≡ 0
  pub write_faults : wire.write_faults ≡ 0

-- the connections given back are as they were
pub record KeepsGivenBack (old new : Listening) : Type 0 where
  pub given_back : new.given_back ≡ old.given_back
  pub faults : old.faults ≤ new.faults

-- waits for a connection, of which this is what it shows
abbrev pub Hears : {L : Type 0} → (L → Wire) → Listening → Next L → Listening → Type 0
Hears wire old (Conn conn) new = IsNewWire (wire conn) × (new.is_out ≡ true) × KeepsGivenBack old new
Hears wire old Failed new = RoseBy 1 old.faults new.faults × (new.is_out ≡ old.is_out) × KeepsGivenBack old new

-- a connection that shows this is given back
pub record TakesBack (old : Listening) (wire : Wire) (new : Listening) : Type 0 where
  pub given_back : new.given_back ≡ with_more old.given_back (wire ∷ [])
  pub is_in : new.is_out ≡ false
  pub faults : old.faults ≤ new.faults
