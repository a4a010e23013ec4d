-- The statuses with which the program ends.
use Rattle.std.specs.Prelude.{ℕ}

-- all is done
abbrev pub well : ℕ
well = 0

-- words that are no command
abbrev pub misused : ℕ
misused = 2

-- a configuration that is refused
abbrev pub refused : ℕ
refused = 3

-- input that ended inside a message
abbrev pub cut_off : ℕ
cut_off = 4

-- a read, a file, a door or its ears that failed
abbrev pub unread : ℕ
unread = 5

-- a write that failed
abbrev pub unwritten : ℕ
unwritten = 6

-- want of memory
abbrev pub no_memory : ℕ
no_memory = 7
