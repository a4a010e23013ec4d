-- Where the parts of a message stand.
use Rattle.std.specs.Prelude.{ℕ, List, Bool, ◌+◌}
use Rattle.httparse.specs.declared.spans.HeaderSpan.{HeaderSpan}

-- The places of the headers, in order; the sizes of the head and of the body; and whether the connection closes after the reply.
pub record Offsets : Type 0 where
  pub headers : List HeaderSpan
  pub head : ℕ
  pub body : ℕ
  pub closes : Bool

-- how many bytes the message has
abbrev pub size_of : Offsets → ℕ
size_of cut = cut.head + cut.body
