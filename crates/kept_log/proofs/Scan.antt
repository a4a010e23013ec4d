-- A walk over a file, byte by byte.
use Rattle.std.specs.Prelude.{ℕ, ◌+◌, Bool, true, false, List, [], ◌∷◌, if◌then◌else◌, ◌==◌}

-- where the whole lines end: whether a line has begun, how many bytes were read, where the whole lines so far end, and what is left to read
abbrev pub end_of : Bool → ℕ → ℕ → List ℕ → ℕ
end_of inside at end [] = end
end_of false at end (byte ∷ rest) = if byte == 123 then end_of true (at + 1) end rest else end
end_of true at end (byte ∷ rest) = if byte == 10 then end_of false (at + 1) (at + 1) rest else if byte == 9 then end else end_of true (at + 1) end rest
