-- Heads at the front of bytes.
use Rattle.std.proofs.Common.{◌≡◌, ◌≤◌, ◌+◌, ◌-◌, ℕ, List, [], ◌∷◌, ◌++◌, length, take, drop, map, refl, sym, ap, ap₂, subst, ◌∙◌, append_assoc, length-append, arith}
use Rattle.std.specs.Prelude.{All}
use Rattle.std.proofs.Math.Seq.{take-append-add}
use Rattle.std.proofs.lemmas.List.{take-append-drop, drop-append-le}
use Rattle.std.proofs.lemmas.List.Elements.{All-head, All-tail, All-cons, All-nil}
use Rattle.httparse.specs.declared.spans.Span.{Span}
use Rattle.httparse.specs.declared.spans.HeaderSpan.{HeaderSpan}
use Rattle.httparse.specs.Grammar.{RequestHead, print_request, ReadsRequest, NeverHasRequest}
use Rattle.httparse.specs.Spans.{span_bytes, header_bytes, IsWithin, IsHeaderWithin, RequestOverflows, RequestExceeds}
use Rattle.httparse.proofs.GrammarLemmas.{request_unique, ReadsRequest-append}
use Rattle.http_front.specs.declared.parsed.Parsed.{Parsed}
use Rattle.http_front.specs.Parsed.{Shows, headers_in}
use Rattle.http_front.specs.Message.{HasHead, HasLongHead, IsCrowded}
use Rattle.http_front.proofs.Bytes.{range_on}

-- ---- what stands at places stays where more bytes follow

pub span_on : (bytes more : List ℕ) (s : Span) → IsWithin (length bytes) s → span_bytes (bytes ++ more) s ≡ span_bytes bytes s
span_on bytes more s w = range_on bytes more s.start s.end w.0 w.1

pub headers_on : (bytes more : List ℕ) (headers : List HeaderSpan) → All (IsHeaderWithin (length bytes)) headers → map (header_bytes (bytes ++ more)) headers ≡ map (header_bytes bytes) headers
headers_on bytes more [] w = refl
headers_on bytes more (h ∷ headers) w =
    let first = All-head (IsHeaderWithin (length bytes)) h headers w in
    let name = span_on bytes more h.name first.0 in
    let value = span_on bytes more h.value first.1 in
    ap₂ (λ (f : List ℕ × List ℕ) (fs : List (List ℕ × List ℕ)). f ∷ fs) (ap₂ (λ (n v : List ℕ). let p : List ℕ × List ℕ = (n, v) in p) name value) (headers_on bytes more headers (All-tail (IsHeaderWithin (length bytes)) h headers w))

pub within_on : (m n : ℕ) (headers : List HeaderSpan) → m ≤ n → All (IsHeaderWithin m) headers → All (IsHeaderWithin n) headers
within_on m n [] h w = All-nil (IsHeaderWithin n)
within_on m n (s ∷ headers) h w =
    let first = All-head (IsHeaderWithin m) s headers w in
    All-cons (IsHeaderWithin n) s headers ((first.0.0, omega (arith, first.0.1)), (first.1.0, omega (arith, first.1.1))) (within_on m n headers h (All-tail (IsHeaderWithin m) s headers w))

pub shows_on : (bytes more : List ℕ) (p : Parsed) (head : RequestHead) → Shows bytes p head → Shows (bytes ++ more) p head
shows_on bytes more p head s =
    let longer : length bytes ≤ length (bytes ++ more) = omega (arith, length-append bytes more) in
    record {
      reads = subst (ReadsRequest (bytes ++ more) head) (sym (drop-append-le p.spans.len bytes more s.fits)) (ReadsRequest-append bytes head (drop p.spans.len bytes) more s.reads);
      few = s.few;
      count = s.count;
      len = s.len;
      fits = omega (arith, s.fits);
      method = span_on bytes more p.spans.method s.method_within ∙ s.method;
      method_within = (s.method_within.0, omega (arith, s.method_within.1));
      target = span_on bytes more p.spans.path s.target_within ∙ s.target;
      target_within = (s.target_within.0, omega (arith, s.target_within.1));
      minor = s.minor;
      fields = headers_on bytes more (headers_in p) s.fields_within ∙ s.fields;
      fields_within = within_on (length bytes) (length (bytes ++ more)) (headers_in p) longer s.fields_within;
    }

-- ---- the front of bytes

module _ (n : ℕ) (bytes : List ℕ) where
  whole : take n bytes ++ drop n bytes ≡ bytes
  whole = take-append-drop n bytes

  pub shows_front : (p : Parsed) (head : RequestHead) → Shows (take n bytes) p head → Shows bytes p head
  shows_front p head s = subst (λ (all : List ℕ). Shows all p head) whole (shows_on (take n bytes) (drop n bytes) p head s)

  pub never_front : NeverHasRequest (take n bytes) → NeverHasRequest bytes
  never_front never = λ more h rest reads. never (drop n bytes ++ more) h rest (subst (λ (all : List ℕ). ReadsRequest all h rest) (sym (joined more)) reads)
    where
      joined : (more : List ℕ) → take n bytes ++ (drop n bytes ++ more) ≡ bytes ++ more
      joined more = sym (append_assoc (take n bytes) (drop n bytes) more) ∙ ap (λ (all : List ℕ). all ++ more) whole

  pub overflows_front : (room : ℕ) → RequestOverflows room (take n bytes) → RequestOverflows room bytes
  overflows_front room o = λ more h rest reads. o (drop n bytes ++ more) h rest (subst (λ (all : List ℕ). ReadsRequest all h rest) (sym (joined more)) reads)
    where
      joined : (more : List ℕ) → take n bytes ++ (drop n bytes ++ more) ≡ bytes ++ more
      joined more = sym (append_assoc (take n bytes) (drop n bytes) more) ∙ ap (λ (all : List ℕ). all ++ more) whole

  pub exceeds_front : (room : ℕ) → RequestExceeds room (take n bytes) → RequestExceeds room bytes
  exceeds_front room e = (
    e.0,
    e.1 ++ drop n bytes,
    sym whole ∙ ap (λ (all : List ℕ). all ++ drop n bytes) e.2 ∙ append_assoc e.0 e.1 (drop n bytes),
    e.3,
    e.4,
    e.5,
  )

-- ---- a head that fits is in the front

front_of : (text rest bytes : List ℕ) (n : ℕ) → bytes ≡ text ++ rest → length text ≤ n → take n bytes ≡ text ++ take (n - length text) rest
front_of text rest bytes n e short =
    let size : n ≡ length text + (n - length text) = omega arith in
    ap₂ (λ (k : ℕ) (all : List ℕ). take k all) size e ∙ take-append-add text rest (n - length text)

pub has_head_in : (bytes : List ℕ) (head : RequestHead) (rest : List ℕ) → HasHead bytes head rest → (more : List ℕ) × ReadsRequest (take 16384 bytes) head more
has_head_in bytes head rest has =
    let text = print_request head in
    (take (16384 - length text) rest, (has.reads.0, front_of text rest bytes 16384 has.reads.1 has.short))

pub longest_head : (bytes : List ℕ) (head : RequestHead) (rest : List ℕ) → HasLongHead bytes → HasHead bytes head rest → ⊥
longest_head bytes head rest long has = let front = has_head_in bytes head rest has in long.none head front.0 front.1

pub not_crowded : (bytes : List ℕ) (head : RequestHead) (rest : List ℕ) → IsCrowded bytes → HasHead bytes head rest → ⊥
not_crowded bytes head rest crowded has =
    let over = crowded.overflows [] head (rest ++ []) (ReadsRequest-append bytes head rest [] has.reads) in
    absurd (omega (arith, over, has.few))

pub not_hopeless : (bytes : List ℕ) (head : RequestHead) (rest : List ℕ) → NeverHasRequest bytes → HasHead bytes head rest → ⊥
not_hopeless bytes head rest never has = never [] head (rest ++ []) (ReadsRequest-append bytes head rest [] has.reads)

pub one_head : (bytes : List ℕ) (head other : RequestHead) (rest last : List ℕ) → HasHead bytes head rest → HasHead bytes other last → (head ≡ other) × (rest ≡ last)
one_head bytes head other rest last h k = request_unique bytes head other rest last h.reads k.reads

pub shows_head : (bytes : List ℕ) (p : Parsed) (head : RequestHead) → Shows bytes p head → p.spans.len ≤ 16384 → HasHead bytes head (drop p.spans.len bytes)
shows_head bytes p head s short = record { reads = s.reads; few = s.few; short = omega (arith, s.len, short) }

-- the head and the first bytes behind it
pub head_of_message : (bytes : List ℕ) (p : Parsed) (head : RequestHead) (size : ℕ) → Shows bytes p head → p.spans.len ≤ 16384
    → HasHead (take (p.spans.len + size) bytes) head (take size (drop p.spans.len bytes))
head_of_message bytes p head size s short =
    let text = print_request head in
    let rest = drop p.spans.len bytes in
    let enough : length text ≤ p.spans.len + size = omega (arith, s.len) in
    let left : p.spans.len + size - length text ≡ size = omega (arith, s.len) in
    record {
      reads = (s.reads.0, front_of text rest bytes (p.spans.len + size) s.reads.1 enough ∙ ap (λ (k : ℕ). text ++ take k rest) left);
      few = s.few;
      short = omega (arith, s.len, short);
    }
