use Rattle.std.proofs.Common.{◌≡◌, drop, map, slice_get}
use Rattle.httparse.specs.Spans.{header_bytes}
use Rattle.http_front.specs.Heading.{values_in}
use Rattle.http_front.proofs.fields.value_at.Given as goal

abbrev pub invariant-loop-header : goal.invariant-loop-header
invariant-loop-header l = slice_get (values_in l.name (map (header_bytes l.buffer) (drop l.header-index l.headers))) l.left ≡ slice_get (values_in l.name (map (header_bytes l.buffer) l.headers)) l.k
