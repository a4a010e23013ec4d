use Rattle.std.proofs.Common.{◌≡◌, drop, map}
use Rattle.std.specs.List.{list_any}
use Rattle.httparse.specs.Spans.{header_bytes}
use Rattle.http_front.specs.Judge.{asks_to_close}
use Rattle.http_front.proofs.closing.any_says_close.Given as goal

abbrev pub invariant-loop-header : goal.invariant-loop-header
invariant-loop-header l = list_any asks_to_close (map (header_bytes l.buffer) (drop l.header-index l.headers)) ≡ list_any asks_to_close (map (header_bytes l.buffer) l.headers)
