-- The headers and the body of a message, where a cut says that they stand.
use Rattle.std.specs.Prelude.{ℕ, List, map, take, drop}
use Rattle.httparse.specs.Spans.{header_bytes}
use Rattle.http_front.specs.Heading.{Field}
use Rattle.http_front.specs.Offsets.{Offsets}

abbrev pub fields_in : List ℕ → Offsets → List Field
fields_in buffer cut = map (header_bytes buffer) cut.headers

abbrev pub body_in : List ℕ → Offsets → List ℕ
body_in buffer cut = take cut.body (drop cut.head buffer)
