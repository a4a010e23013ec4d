-- The initialization vectors of a line, of 96 bits in SP 800-38D's deterministic construction (8.2.1).
use Rattle.std.specs.Prelude.{ℕ, List, ◌++◌}
use Rattle.std.specs.Int.{w16, w32, to_be_bytes, bytes_high_first}

-- the fixed field of 48 bits is the boot and the pass number, and the invocation field of 48 bits is
-- the count; each number has its high byte first
unfoldable pub iv_at : ℕ → ℕ → ℕ → List ℕ
iv_at boot pass_number count =
    to_be_bytes w32 boot ++ to_be_bytes w16 pass_number ++ bytes_high_first 6 count
