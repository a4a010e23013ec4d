-- One session of a new service.
use Rattle.std.specs.Prelude.{◌≡◌, ℕ, List, [], Option, Some, length, Bool, true, false}
use Rattle.kms_io.specs.Wire.{Wire}
use Rattle.account_steps.specs.declared.facts.RealmFacts.{RealmFacts}
use Rattle.publish_pass.specs.Pass.{Pass, fresh_pass, first_places}
use Rattle.session_front.specs.declared.trust.Trust.{Trust}
use Rattle.session_front.specs.declared.ends.SessionEnd.{SessionEnd}
use Rattle.session_front.specs.declared.ends.SessionEnd.TheVariants.{Ended, Closed, CutOff, ReadFault, WriteFault, NoMemory}
use Rattle.session_front.specs.Session.{outside}
use Rattle.kms_session.specs.Session.{EndsBy}
use Rattle.kms_workload.specs.declared.serve.Past.{Past}

-- one session is served from an empty history by the one pass of a service that keeps nothing, and ends so, with so many entries, all its own
pub record Serving (facts : RealmFacts) (trust : Trust) (past : Past) (old : Wire) (told : Option (List ℕ)) (new : Wire) (later : Option (List ℕ)) : Type 0 where
  pub pass : Pass
  pub ends : EndsBy false trust past.end (outside old told (fresh_pass facts 1 [] 1)) (outside new later pass)
  pub front : past.front ≡ length pass.history
  pub made_all : pass.own ≡ first_places (length pass.history)

-- a link in memory that has these bytes to give
abbrev pub wire_before : List ℕ → Wire
wire_before input = record { taken = Some []; written = Some []; left = Some input; moves = Some []; read_faults = 0; write_faults = 0 }

-- all that the link had to give is answered, or the last reply closed the session
abbrev pub is_over : SessionEnd → Bool
is_over Ended = true
is_over Closed = true
is_over CutOff = false
is_over ReadFault = false
is_over WriteFault = false
is_over NoMemory = false
