-- How a session ends.
use Rattle.std.specs.Prelude.{◌≡◌, ℕ, List, Option, Bool}
use Rattle.kms_io.specs.Wire.{Wire}
use Rattle.session_front.specs.declared.ends.SessionEnd.{SessionEnd}
use Rattle.session_front.specs.declared.trust.Trust.{Trust}
use Rattle.session_front.specs.Sending.{Writes, WritesShort}
use Rattle.session_front.specs.Session as front
use Rattle.publish_pass.specs.Pass.{Pass}
use Rattle.kms_session.specs.Run.{Plan, Replies, turns}

-- what a link and a clock tell, and what a pass holds
abbrev pub Outside : Type 0
Outside = front.Outside Pass

-- the reply to a plan was written
abbrev pub Responds : Bool → Pass → Plan → ℕ → Bool → Wire → Wire → Pass → Type 0
Responds keeps s plan c closes before after t = Writes (λ text. Replies keeps s plan c closes text t) before after

-- a front of it was written, and then the link failed
abbrev pub RespondsShort : Bool → Pass → Plan → ℕ → Bool → Wire → Wire → Pass → Type 0
RespondsShort keeps s plan c closes before after t = WritesShort (λ text. Replies keeps s plan c closes text t) before after

-- the replies of a run over the items into which the bytes taken are cut, up to this rest, were written
abbrev pub Serves : Bool → Trust → Outside → Outside → Bool → ℕ → List ℕ → Type 0
Serves keeps trust old new closes count rest = front.Serves (turns keeps trust) old new closes count rest

-- each end by its cause; for want of memory nothing was done
abbrev pub EndsBy : Bool → Trust → SessionEnd → Outside → Outside → Type 0
EndsBy keeps trust end old new = front.EndsBy (turns keeps trust) (new ≡ old) end old new

-- the session goes on after one more message, or ends
abbrev pub GoesOn : Bool → Trust → Option SessionEnd → Outside → Outside → ℕ → List ℕ → Type 0
GoesOn keeps trust end old new count rest = front.GoesOn (turns keeps trust) (new ≡ old) end old new count rest
