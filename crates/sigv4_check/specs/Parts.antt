-- Texts in parts.
use Rattle.std.specs.Prelude.{ℕ, Bool, ◌==◌, if◌then◌else◌, List, [], ◌∷◌, Option, Some, None}
use Rattle.std.specs.List.{slice_split}

-- a byte is this one
abbrev pub is_byte : ℕ → ℕ → Bool
is_byte mark byte = byte == mark

-- what stands between the marks
abbrev pub parts_at : ℕ → List ℕ → List (List ℕ)
parts_at mark text = slice_split (is_byte mark) text

-- without the spaces at the front
abbrev pub skip_spaces : List ℕ → List ℕ
skip_spaces [] = []
skip_spaces (c ∷ text) = if c == 32 then skip_spaces text else c ∷ text

-- the values that are there
abbrev pub present : {A : Type 0} → List (Option A) → List A
present [] = []
present (None ∷ values) = present values
present (Some x ∷ values) = x ∷ present values

-- the one of them, where there is one and no other
abbrev pub only : {A : Type 0} → List A → Option A
only [] = None
only (x ∷ []) = Some x
only (x ∷ y ∷ more) = None
