-- What a connection shows of itself.
use Rattle.std.specs.Prelude.{◌≡◌, ◌≤◌, ◌+◌, ◌-◌, ◌^◌, ℕ, min, List, ◌++◌, Option, option_map, Some, IfSome}
use Rattle.kms_io.specs.declared.link.Move.{Move}

-- the bytes taken from it, written to it and still to come, and the calls that moved them, in order, each where it is told, and
-- how often it has failed
pub record Wire : Type 0 where
  pub taken : Option (List ℕ)
  pub written : Option (List ℕ)
  pub left : Option (List ℕ)
  pub moves : Option (List Move)
  pub read_faults : ℕ
  pub write_faults : ℕ

-- the list with these at its end, where it is told
abbrev pub with_more : {X : Type 0} → Option (List X) → List X → Option (List X)
with_more told more = option_map (λ all. all ++ more) told

-- the list with these at its front, where it is told
abbrev pub with_first : {X : Type 0} → List X → Option (List X) → Option (List X)
with_first first told = option_map (λ all. first ++ all) told

-- the count rose by so much, or stands at the last value of a u64
abbrev pub RoseBy : ℕ → ℕ → ℕ → Type 0
RoseBy by old new = min (old + by) (2 ^ 64 - 1) ≤ new

-- where it is told afterwards, it was told before, and these came to its end
abbrev pub TellsMore : {X : Type 0} → Option (List X) → List X → Option (List X) → Type 0
TellsMore before more after = IfSome after (λ all. with_more before more ≡ Some all)
