-- A batch behind the lines of a file that is settled.
use Rattle.std.proofs.Common.{◌≡◌, ◌⊎◌, inl, inr, ℕ, ◌+◌, ◌-◌, ◌^◌, ◌<◌, ◌≤◌, Bool, All, List, [], ◌∷◌, ◌++◌, length, drop, replicate, sym, ◌∙◌, ap, subst, arith, length-append}
use Rattle.std.proofs.lemmas.List.{append-nil, length-replicate}
use Rattle.std.proofs.lemmas.List.Elements.{All-append, All-map}
use Rattle.std.proofs.lemmas.Bool.{cases_eq}
use Rattle.std.specs.Borrow.{Bor}
use Rattle.kept_log.specs.Device.{Torn, overlaid, Only}
use Rattle.kept_log.specs.Log.{IsPlain, batch_of, lines, recovered, at_rest, IsSettled, IsBeforeOrAfter}
use Rattle.kept_log.proofs.Lines.{plain_recovered, read_nothing, fill_none, lines_append}
use Rattle.kept_log.proofs.Append.{settled, staged, first_gate, torn_behind, written_behind, length_staged, torn_gate, written_gate}

pub batch_plain : (bodies : List (Bor (List ℕ))) → All (λ (body : Bor (List ℕ)). IsPlain body.now) bodies → All IsPlain (batch_of bodies)
batch_plain bodies plain = All-map IsPlain (λ (body : Bor (List ℕ)). body.now) bodies plain

pub nothing_more : (bodies : List (Bor (List ℕ))) (all : List (List ℕ)) → length bodies ≡ 0 → all ≡ all ++ batch_of bodies
nothing_more [] all none = sym (append-nil all)
nothing_more (body ∷ bodies) all none = absurd (omega (arith, none))

-- the bytes of a batch, with room behind it
module _ (batch : List (List ℕ)) (plain : All IsPlain batch) (bytes : List ℕ) (pad : ℕ) (is : bytes ≡ at_rest batch pad) where
  pub stands_for : recovered bytes ≡ batch
  stands_for = ap recovered is ∙ read_nothing batch (replicate pad 9) plain (fill_none pad)

  pub rests : bytes ≡ at_rest (recovered bytes) pad
  rests = is ∙ ap (λ (l : List (List ℕ)). at_rest l pad) (sym stands_for)

pub length_rest_of : (batch : List (List ℕ)) (pad : ℕ) → length (at_rest batch pad) ≡ length (lines batch) + pad
length_rest_of batch pad = omega (arith, length-append (lines batch) (replicate pad 9), length-replicate {A = ℕ} pad 9)

pub length_settled : (file : List ℕ) (may_leave : List ℕ → Type 0) (end room : ℕ) → IsSettled file may_leave end room → length file ≡ end + room
length_settled file may_leave end room s = omega (arith, ap length s.whole, length_rest_of (recovered file) room, s.ends)

-- no byte of a batch that isn't too long is written past the longest file
pub within_max : (file : List ℕ) (may_leave : List ℕ → Type 0) (end room : ℕ) → IsSettled file may_leave end room → (batch : List (List ℕ)) (bytes : List ℕ) (pad : ℕ) → bytes ≡ at_rest batch pad → pad ≤ 16384
    → length (lines (recovered file ++ batch)) + 16384 ≤ 2 ^ 31 → end + length bytes ≤ 2 ^ 31
within_max file may_leave end room s batch bytes pad is little low =
    omega (arith, s.ends, ap length is, length_rest_of batch pad, ap length (lines_append (recovered file) batch), length-append (lines (recovered file)) (lines batch), little, low)

-- such bytes, written in two steps
module _ (file : List ℕ) (may_leave : List ℕ → Type 0) (end room : ℕ) (s : IsSettled file may_leave end room) (bytes : List ℕ) (pad : ℕ) (is : bytes ≡ at_rest (recovered bytes) pad) (some : 0 < length (recovered bytes)) where
  plain : All IsPlain (recovered bytes)
  plain = plain_recovered bytes

  opened : lines (recovered bytes) ≡ 123 ∷ drop 1 (lines (recovered bytes))
  opened = first_gate (recovered bytes) some

  size : length bytes ≡ length (drop 1 (lines (recovered bytes))) + 1 + pad
  size = omega (arith, ap length is, length_rest_of (recovered bytes) pad, ap length opened)

  behind_is : drop 1 bytes ≡ drop 1 (lines (recovered bytes)) ++ replicate pad 9
  behind_is = ap (λ (l : List ℕ). drop 1 l) is ∙ ap (λ (l : List ℕ). drop 1 (l ++ replicate pad 9)) opened

  pub has_gate : 0 < length bytes
  has_gate = omega (arith, size)

  -- the room behind the new lines
  abbrev left : ℕ
  left = pad + (room - (length (drop 1 (lines (recovered bytes))) + 1 + pad))

  abbrev pub stage : List ℕ
  stage = staged (recovered file) (drop 1 (lines (recovered bytes))) left

  pub stage_is : (lent new : List ℕ) → lent ≡ drop 1 bytes → new ≡ overlaid file (end + 1) lent → new ≡ stage
  stage_is lent new lent_is new_is =
      new_is ∙ ap (λ (f : List ℕ). overlaid f (end + 1) lent) s.whole ∙ ap (λ (b : List ℕ). overlaid (at_rest (recovered file) room) (end + 1) b) (lent_is ∙ behind_is)
      ∙ written_behind (recovered file) (plain_recovered file) end room s.ends s.some (recovered bytes) plain (drop 1 (lines (recovered bytes))) opened pad

  pub within_stage : (file_now : List ℕ) → file_now ≡ stage → end ≤ length file_now
  within_stage file_now now_is =
      omega (arith, ap length now_is, length_staged (recovered file) (plain_recovered file) end room s.ends s.some (recovered bytes) plain (drop 1 (lines (recovered bytes))) opened pad)

  -- the first step leaves the records as they were
  pub stays : (mixes : Bool) (lent c : List ℕ) → Torn mixes (end + 1) lent file c → IsBeforeOrAfter (recovered file) (recovered bytes) c
  stays mixes lent c torn =
      inl (torn_behind (recovered file) (plain_recovered file) end room s.ends s.some mixes lent c (subst (λ (d : List ℕ). Torn mixes (end + 1) lent d c) s.whole torn))

  -- the second leaves all of the batch or none
  pub opens : (mixes : Bool) (file_now c : List ℕ) → file_now ≡ stage → Torn mixes end (123 ∷ []) file_now c → IsBeforeOrAfter (recovered file) (recovered bytes) c
  opens mixes file_now c now_is torn =
      torn_gate (recovered file) (plain_recovered file) end room s.ends s.some (recovered bytes) plain (drop 1 (lines (recovered bytes))) opened pad mixes c
      (subst (λ (d : List ℕ). Torn mixes end (123 ∷ []) d c) now_is torn)

  pub written : (file_now new : List ℕ) → file_now ≡ stage → new ≡ overlaid file_now end (123 ∷ []) → new ≡ at_rest (recovered file ++ recovered bytes) (pad + (room - length bytes))
  written file_now new now_is new_is =
      new_is ∙ ap (λ (f : List ℕ). overlaid f end (123 ∷ [])) now_is
      ∙ written_gate (recovered file) (plain_recovered file) end room s.ends s.some (recovered bytes) plain (drop 1 (lines (recovered bytes))) opened pad
      ∙ ap (λ (n : ℕ). at_rest (recovered file ++ recovered bytes) (pad + (room - n))) (sym size)

-- and where the lines end then
module _ (file : List ℕ) (may_leave : List ℕ → Type 0) (end room : ℕ) (s : IsSettled file may_leave end room) (bytes : List ℕ) (pad : ℕ) (is : bytes ≡ at_rest (recovered bytes) pad) where
  pub pad_within : pad ≤ length bytes
  pad_within = omega (arith, ap length is, length_rest_of (recovered bytes) pad)

  pub settles : (new : List ℕ) (leaves : List ℕ → Type 0) (end_now room_now : ℕ) → new ≡ at_rest (recovered file ++ recovered bytes) (pad + (room - length bytes)) → Only new leaves
      → (pad ≡ 0 → length bytes < room) → ((pad ≡ 0) ⊎ (room ≤ length bytes)) → pad ≤ 16384 → end_now ≡ end + (length bytes - pad) → room_now ≡ pad + (room - length bytes)
      → IsSettled new leaves end_now room_now × (recovered new ≡ recovered file ++ recovered bytes)
  settles new leaves end_now room_now new_is only fits more low end_is room_is =
      let both = recovered file ++ recovered bytes in
      let plain : All IsPlain both = All-append IsPlain (recovered file) (recovered bytes) (plain_recovered file) (plain_recovered bytes) in
      let rests_now : new ≡ at_rest both room_now = new_is ∙ ap (λ (r : ℕ). at_rest both r) (sym room_is) in
      let ends : end_now ≡ length (lines both) = omega (arith, end_is, s.ends, ap length is, length_rest_of (recovered bytes) pad, ap length (lines_append (recovered file) (recovered bytes)), length-append (lines (recovered file)) (lines (recovered bytes))) in
      let some : 0 < room_now = elim (cases_eq pad 0) [
        | inl none ↦ omega (arith, none, fits none, room_is)
        | inr more ↦ omega (arith, more, room_is)
      ] in
      let little : room_now ≤ 16384 = elim more [
        | inl none ↦ omega (arith, none, s.little, room_is)
        | inr over ↦ omega (arith, over, low, room_is)
      ] in
      settled new leaves both end_now room_now plain rests_now ends some little only
