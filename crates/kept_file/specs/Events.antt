-- The calls on a file and what they make of it: what a read would return, and what a crash may leave.
use Rattle.std.specs.Prelude.{◌≡◌, ◌⊎◌, ◌≤◌, ℕ, Bool, true, IsTrue, List, [], ◌∷◌, All, map, reverse, length, take, drop, if◌then◌else◌}
use Rattle.kept_log.specs.Device.{Torn, Cut, overlaid}
use Rattle.http_server.specs.declared.log.Log.{Log}
use Rattle.kept_file.specs.declared.record.Call.{Call}
use Rattle.kept_file.specs.declared.record.Call.TheVariants.{Held, Wrote, CutTo, Synced}

-- a call, and its bytes
abbrev pub Event : Type 0
Event = Call × List ℕ

abbrev pub bytes_of : List (ℕ × Unit {0}) → List ℕ
bytes_of noted = map (λ n. n.0) noted

-- the calls as they were noted one after another, the newest first
abbrev pub events_of : List (Call × Log ℕ (Unit {0})) → List Event
events_of noted = reverse (map (λ n. (n.0, bytes_of n.1.items)) noted)

abbrev pub was_done : Call → Bool
was_done Held = true
was_done (Wrote at is_done) = is_done
was_done (CutTo len is_done) = is_done
was_done (Synced is_done) = is_done

-- what a read returns after a call, from what it returned before. After one that failed nothing is read any more
abbrev pub seen_by : Call → List ℕ → List ℕ → List ℕ
seen_by Held bytes old = bytes
seen_by (Wrote at is_done) bytes old = if is_done then overlaid old at bytes else old
seen_by (CutTo len is_done) bytes old = if is_done then take len old else old
seen_by (Synced is_done) bytes old = old

abbrev pub seen_of : List Event → List ℕ
seen_of [] = []
seen_of (e ∷ earlier) = seen_by e.0 e.1 (seen_of earlier)

-- What a crash may leave after a call, from what a read returned and what a crash might leave before it. The flag is the hypothesis on torn writes.
abbrev pub LeavesBy : Bool → Call → List ℕ → List ℕ → (List ℕ → Type 0) → List ℕ → Type 0
LeavesBy mixes Held bytes old before c = c ≡ bytes
LeavesBy mixes (Wrote at is_done) bytes old before c = (d : List ℕ) × before d × Torn mixes at bytes d c
LeavesBy mixes (CutTo len is_done) bytes old before c = (d : List ℕ) × before d × Cut len d c
LeavesBy mixes (Synced is_done) bytes old before c = before c × (IsTrue is_done → c ≡ old)

abbrev pub Leaves : Bool → List Event → List ℕ → Type 0
Leaves mixes [] c = ⊥
Leaves mixes (e ∷ earlier) c = LeavesBy mixes e.0 e.1 (seen_of earlier) (Leaves mixes earlier) c

-- a crash at some moment, which is a number of calls, from that one on: now, or earlier
abbrev pub LeftSince : Bool → List Event → ℕ → List ℕ → Type 0
LeftSince mixes [] t c = ⊥
LeftSince mixes (e ∷ earlier) t c = Leaves mixes (e ∷ earlier) c ⊎ ((t ≤ length earlier) × LeftSince mixes earlier t c)

-- the calls on a file, the newest first, and how often it has failed
pub record Asked : Type 0 where
  pub calls : List Event
  pub faults : ℕ

abbrev pub WasDone : Event → Type 0
WasDone e = IsTrue (was_done e.0)

-- no call stands behind one that failed, and while there is no fault none has
pub record IsQuiet (asked : Asked) : Type 0 where
  pub earlier : All WasDone (drop 1 asked.calls)
  pub faultless : asked.faults ≡ 0 → All WasDone asked.calls
