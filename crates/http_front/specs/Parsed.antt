-- A head that was parsed.
use Rattle.std.specs.Prelude.{◌≡◌, ◌≤◌, ℕ, List, length, take, drop, map, All}
use Rattle.httparse.specs.declared.spans.HeaderSpan.{HeaderSpan}
use Rattle.httparse.specs.Grammar.{RequestHead, print_request, ReadsRequest, HasNoRequest, NeverHasRequest, MayBecomeRequest}
use Rattle.httparse.specs.Spans.{RequestOverflows, RequestExceeds, span_bytes, header_bytes, name_and_value, IsWithin, IsHeaderWithin}
use Rattle.http_front.specs.declared.parsed.Parsed.{Parsed}
use Rattle.http_front.specs.declared.parsed.Look.{Look}
use Rattle.http_front.specs.declared.parsed.Look.TheVariants.{Whole, Short, Crowded, Differs}

abbrev pub headers_in : Parsed → List HeaderSpan
headers_in p = take p.spans.headers p.headers

-- the bytes begin with this head, and its parts stand where the parsed one says
pub record Shows (bytes : List ℕ) (p : Parsed) (head : RequestHead) : Type 0 where
  pub reads : ReadsRequest bytes head (drop p.spans.len bytes)
  pub few : length head.fields ≤ 64
  pub count : p.spans.headers ≤ 64
  pub len : p.spans.len ≡ length (print_request head)
  pub fits : p.spans.len ≤ length bytes
  pub method : span_bytes bytes p.spans.method ≡ head.method
  pub method_within : IsWithin (length bytes) p.spans.method
  pub target : span_bytes bytes p.spans.path ≡ head.target
  pub target_within : IsWithin (length bytes) p.spans.path
  pub minor : p.spans.version ≡ head.minor
  pub fields : map (header_bytes bytes) (headers_in p) ≡ map name_and_value head.fields
  pub fields_within : All (IsHeaderWithin (length bytes)) (headers_in p)

-- what was found at the front of the bytes
abbrev pub Sees : List ℕ → Look → Type 0
Sees bytes (Whole p) = (head : RequestHead) × Shows bytes p head
Sees bytes Short = HasNoRequest bytes × MayBecomeRequest bytes
Sees bytes Crowded = RequestExceeds 64 bytes × RequestOverflows 64 bytes
Sees bytes Differs = NeverHasRequest bytes
