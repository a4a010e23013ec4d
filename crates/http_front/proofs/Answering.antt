-- What bytes begin with.
use Rattle.std.proofs.Common.{◌≡◌, ◌<◌, ◌≤◌, ◌+◌, ◌-◌, ◌⊎◌, inl, inr, ℕ, List, ◌++◌, length, take, drop, Bool, Result, Ok, Err, refl, sym, ap, ap₂, subst, ◌∙◌, length-append, length-drop, arith}
use Rattle.httparse.specs.Grammar.{RequestHead, print_request, HasNoRequest, NeverHasRequest, MayBecomeRequest}
use Rattle.httparse.proofs.GrammarLemmas.{ReadsRequest-append}
use Rattle.http_front.specs.declared.judge.HttpFault.{HttpFault}
use Rattle.http_front.specs.Heading.{Heading, heading_of, values_of}
use Rattle.http_front.specs.Judge.{judged, closes_after, size_within, size_in}
use Rattle.kms_names.specs.Digits.{number_in}
use Rattle.std.proofs.Common.{nat_le, cond, true, false, Option, Some, None, codes, rules, [], ◌∷◌, append-nil, arith}
use Rattle.httparse.specs.Grammar.{ReadsRequest, print_request}
use Rattle.std.proofs.lemmas.Bool.Decides.{nat_tests}
use Rattle.httparse.specs.Grammar.{lf}
use Rattle.httparse.proofs.OnLiterals.{httparse_on_literals}
use Rattle.http_front.specs.Message.{Message, IsMessage, HasHead, AwaitsHead, AwaitsBody, Awaits, awaits_head, awaits_body, IsCrowded, IsRefused, hopeless, long_head, crowded, at_fault, CutsOff}
use Rattle.http_front.specs.Laws.{OneFault, HasMessage, OneAnswer}
use Rattle.http_front.proofs.Bytes.{same_sizes}
use Rattle.http_front.proofs.Heads.{one_head, not_hopeless, not_crowded, longest_head, shows_head, head_of_message, exceeds_front, overflows_front}
use Rattle.http_front.specs.declared.judge.HttpFault.TheVariants.{NotPost, NotRoot, Chunked, TooLong}
use Rattle.http_front.specs.declared.parsed.Parsed.{Parsed}
use Rattle.http_front.specs.Parsed.{Shows, headers_in}
use Rattle.httparse.specs.Spans.{RequestExceeds, RequestOverflows}
use Rattle.std.proofs.lemmas.List.{length-take-le, take_all}

-- the head stands at the front of what follows the message too
pub head_on : {bytes : List ℕ} {head : RequestHead} {rest : List ℕ} (more : List ℕ) → HasHead bytes head rest → HasHead (bytes ++ more) head (rest ++ more)
head_on {bytes} {head} {rest} more h = record { reads = ReadsRequest-append bytes head rest more h.reads; few = h.few; short = h.short }

same_size : (r : Result ℕ HttpFault) (m n : ℕ) → r ≡ Ok m → r ≡ Ok n → m ≡ n
same_size r m n e h = cc

-- the heads, and so the sizes of the bodies
pub same_message : (m n : Message) (text other rest last : List ℕ) → IsMessage m text → IsMessage n other → text ++ rest ≡ other ++ last
    → (m ≡ n) × (text ≡ other) × (rest ≡ last)
same_message m n text other rest last is has e =
    let there = subst (λ (all : List ℕ). HasHead all has.head (n.body ++ last)) (sym e) (head_on last has.has) in
    let heads = one_head (text ++ rest) is.head has.head (m.body ++ rest) (n.body ++ last) (head_on rest is.has) there in
    let says : m.head ≡ n.head = is.says ∙ ap heading_of heads.0 ∙ sym has.says in
    let sizes : length m.body ≡ length n.body = same_size (judged m.head) (length m.body) (length n.body) is.size (ap judged says ∙ has.size) in
    let bodies = same_sizes m.body n.body rest last sizes heads.1 in
    let messages : m ≡ n = ap₂ (λ (h : Heading) (b : List ℕ). let w : Message = record { head = h; body = b } in w) says bodies.0 in
    let texts : text ≡ other = is.has.reads.1 ∙ ap₂ (λ (h : RequestHead) (b : List ℕ). print_request h ++ b) heads.0 bodies.0 ∙ sym has.has.reads.1 in
    (messages, texts, bodies.1)

-- ---- a message is not also awaited or refused

message_head : {bytes : List ℕ} (h : HasMessage bytes) → HasHead bytes h.3.head (h.0.body ++ h.2)
message_head {bytes} h = subst (λ (all : List ℕ). HasHead all h.3.head (h.0.body ++ h.2)) (sym h.4) (head_on h.2 h.3.has)

not_awaited : {bytes : List ℕ} {whole : ℕ} → HasMessage bytes → Awaits bytes whole → ⊥
not_awaited {bytes} h (awaits_head a) = a.none h.3.head (h.0.body ++ h.2) (message_head h).reads
not_awaited {bytes} h (awaits_body a) =
    let heads = one_head bytes h.3.head a.head (h.0.body ++ h.2) a.rest (message_head h) a.has in
    let says : judged h.0.head ≡ Ok a.size = ap judged (h.3.says ∙ ap heading_of heads.0) ∙ a.judged_size in
    let size : length h.0.body ≡ a.size = same_size (judged h.0.head) (length h.0.body) a.size h.3.size says in
    let rest : length h.0.body + length h.2 ≡ length a.rest = sym (length-append h.0.body h.2) ∙ ap length heads.1 in
    absurd (omega (arith, a.few))

not_refused : {bytes : List ℕ} {why : HttpFault} → HasMessage bytes → IsRefused bytes why → ⊥
not_refused {bytes} h (hopeless never) = not_hopeless bytes h.3.head (h.0.body ++ h.2) never (message_head h)
not_refused {bytes} h (long_head long) = longest_head bytes h.3.head (h.0.body ++ h.2) long (message_head h)
not_refused {bytes} h (crowded many) = not_crowded bytes h.3.head (h.0.body ++ h.2) many (message_head h)
not_refused {bytes} h (at_fault {head} {rest} {why} has fault) =
    let heads = one_head bytes h.3.head head (h.0.body ++ h.2) rest (message_head h) has in
    let says : Ok (length h.0.body) ≡ Err why = sym h.3.size ∙ ap judged (h.3.says ∙ ap heading_of heads.0) ∙ fault in
    cc

-- ---- bytes that are awaited and refused

body_or_refused : {bytes : List ℕ} {whole : ℕ} {why : HttpFault} → AwaitsBody bytes whole → IsRefused bytes why → ⊥
body_or_refused {bytes} a (hopeless never) = not_hopeless bytes a.head a.rest never a.has
body_or_refused {bytes} a (long_head long) = longest_head bytes a.head a.rest long a.has
body_or_refused {bytes} a (crowded many) = not_crowded bytes a.head a.rest many a.has
body_or_refused {bytes} a (at_fault {head} {rest} {why} has fault) =
    let heads = one_head bytes a.head head a.rest rest a.has has in
    let says : Ok a.size ≡ Err why = sym a.judged_size ∙ ap judged (ap heading_of heads.0) ∙ fault in
    cc

head_or_refused : {bytes : List ℕ} {why : HttpFault} → AwaitsHead bytes → IsRefused bytes why → NeverHasRequest bytes ⊎ IsCrowded bytes
head_or_refused {bytes} a (hopeless never) = inl never
head_or_refused {bytes} a (long_head long) = absurd (omega (arith, a.few, long.many))
head_or_refused {bytes} a (crowded many) = inr many
head_or_refused {bytes} a (at_fault {head} {rest} has fault) = absurd (a.none head rest has.reads)

awaited_or_refused : {bytes : List ℕ} {whole : ℕ} {why : HttpFault} → Awaits bytes whole → IsRefused bytes why → NeverHasRequest bytes ⊎ IsCrowded bytes
awaited_or_refused (awaits_head a) r = head_or_refused a r
awaited_or_refused (awaits_body a) r = absurd (body_or_refused a r)

two_refusals : {bytes : List ℕ} {why other : HttpFault} → IsRefused bytes why → IsRefused bytes other → (why ≡ other) ⊎ NeverHasRequest bytes
two_refusals (hopeless never) r = inr never
two_refusals r (hopeless never) = inr never
two_refusals (long_head a) (long_head b) = inl refl
two_refusals (long_head a) (crowded b) = inl refl
two_refusals (crowded a) (long_head b) = inl refl
two_refusals (crowded a) (crowded b) = inl refl
two_refusals {bytes} (long_head a) (at_fault {head} {rest} has fault) = absurd (longest_head bytes head rest a has)
two_refusals {bytes} (at_fault {head} {rest} has fault) (long_head a) = absurd (longest_head bytes head rest a has)
two_refusals {bytes} (crowded a) (at_fault {head} {rest} has fault) = absurd (not_crowded bytes head rest a has)
two_refusals {bytes} (at_fault {head} {rest} has fault) (crowded a) = absurd (not_crowded bytes head rest a has)
two_refusals {bytes} (at_fault {head} {rest} {why} has fault) (at_fault {head = other} {rest = last} {why = second} k again) =
    let heads = one_head bytes head other rest last has k in
    let says : Err why ≡ Err second = sym fault ∙ ap judged (ap heading_of heads.0) ∙ again in
    inl cc

pub one_answer_lem : OneAnswer
one_answer_lem bytes = record {
  not_message_and_open = λ h o. not_awaited h o.1;
  not_message_and_refused = λ why h r. not_refused h r;
  open_and_refused = λ why o r. awaited_or_refused o.1 r;
  two_faults = λ why other r q. two_refusals r q;
}

module _ {bytes : List ℕ} {head : RequestHead} {rest : List ℕ} {why : HttpFault} (has : HasHead bytes head rest) (fault : judged (heading_of head) ≡ Err why) where
  fault_not_open : {whole : ℕ} → Awaits bytes whole → ⊥
  fault_not_open (awaits_head a) = a.none head rest has.reads
  fault_not_open (awaits_body a) = body_or_refused a (at_fault has fault)

  no_other_fault : {other : HttpFault} → IsRefused bytes other → other ≡ why
  no_other_fault (hopeless never) = absurd (not_hopeless bytes head rest never has)
  no_other_fault (long_head long) = absurd (longest_head bytes head rest long has)
  no_other_fault (crowded many) = absurd (not_crowded bytes head rest many has)
  no_other_fault (at_fault {head = second} {rest = last} {why = other} k again) =
      let heads = one_head bytes head second rest last has k in
      let says : Err other ≡ Err why = sym again ∙ ap judged (ap heading_of (sym heads.0)) ∙ fault in
      cc

pub one_fault_lem : OneFault
one_fault_lem bytes head rest why has fault = record { not_open = λ o. fault_not_open has fault o.1; no_other = λ other r. no_other_fault has fault r }

-- ---- what a head that was parsed comes to

pub cut_from : (bytes : List ℕ) (p : Parsed) (head : RequestHead) (size : ℕ) (closes : Bool) → Shows bytes p head → p.spans.len ≤ 16384
    → Ok size ≡ judged (heading_of head) → size ≤ length bytes - p.spans.len → closes ≡ closes_after (heading_of head)
    → (m : Message) × CutsOff bytes (record { headers = headers_in p; head = p.spans.len; body = size; closes = closes }) m
cut_from bytes p head size closes s short judges fits closing =
    let body = take size (drop p.spans.len bytes) in
    let m : Message = record { head = heading_of head; body = body } in
    let full : length body ≡ size = length-take-le size (drop p.spans.len bytes) (omega (arith, length-drop p.spans.len bytes)) in (
      m,
      record {
        within = omega (arith, s.fits);
        message = record {
          head = head;
          has = head_of_message bytes p head size s short;
          says = refl;
          size = sym judges ∙ ap Ok (sym full);
        };
        fields = s.fields;
        fields_within = s.fields_within;
        body = refl;
        closes = closing;
      },
    )

pub body_awaited : (bytes : List ℕ) (p : Parsed) (head : RequestHead) (size : ℕ) → Shows bytes p head → p.spans.len ≤ 16384
    → Ok size ≡ judged (heading_of head) → length bytes - p.spans.len < size → Awaits bytes (p.spans.len + size)
body_awaited bytes p head size s short judges few = awaits_body (record {
  head = head;
  rest = drop p.spans.len bytes;
  has = shows_head bytes p head s short;
  size = size;
  judged_size = sym judges;
  is_whole = ap (λ (n : ℕ). n + size) s.len;
  few = omega (arith, few, length-drop p.spans.len bytes);
})

-- ---- what the front of the bytes comes to

pub head_awaited : (bytes : List ℕ) → length bytes < 16384 → HasNoRequest (take 16384 bytes) → MayBecomeRequest (take 16384 bytes) → Awaits bytes (length bytes + 1)
head_awaited bytes few none goes_on =
    let all = take_all 16384 bytes (omega (arith, few)) in
    awaits_head (record { few = few; none = subst HasNoRequest all none; goes_on = subst MayBecomeRequest all goes_on })

pub crowded_front : (bytes : List ℕ) → RequestExceeds 64 (take 16384 bytes) → RequestOverflows 64 (take 16384 bytes) → IsRefused bytes TooLong
crowded_front bytes e o = crowded (record { exceeds = exceeds_front 16384 bytes 64 e; overflows = overflows_front 16384 bytes 64 o })

-- ---- how long things are

sized_small : (n : ℕ) (value : Option ℕ) → size_within value ≡ Ok n → n ≤ 131072
sized_small n None e = cc
sized_small n (Some k) e = within (nat_le k 131072) refl e
  where
    within : (b : Bool) → nat_le k 131072 ≡ b → cond b (Ok k) (Err TooLong) ≡ Ok n → n ≤ 131072
    within true is e = let same : k ≡ n = cc in grind (arith, nat_tests, is, same)
    within false is e = cc

sizes_small : (n : ℕ) (values : List (List ℕ)) → size_in values ≡ Ok n → n ≤ 131072
sizes_small n [] e = cc
sizes_small n (value ∷ []) e = sized_small n (number_in 9 value) e
sizes_small n (value ∷ other ∷ more) e = cc

past : (b : Bool) (why : HttpFault) (r : Result ℕ HttpFault) (n : ℕ) → cond b (Err why) r ≡ Ok n → r ≡ Ok n
past true why r n e = cc
past false why r n e = e

pub judged_small : (h : Heading) (n : ℕ) → judged h ≡ Ok n → n ≤ 131072
judged_small h n e =
    let a = past _ NotPost _ n e in
    let b = past _ NotRoot _ n a in
    sizes_small n (values_of (codes "Content-Length") h) (past _ Chunked _ n b)

pub whole_fits : {bytes : List ℕ} {whole : ℕ} → Awaits bytes whole → whole ≤ 147456
whole_fits (awaits_head a) = omega (arith, a.few)
whole_fits (awaits_body a) = omega (arith, a.is_whole, a.has.short, judged_small (heading_of a.head) a.size a.judged_size)

pub whole_more : {bytes : List ℕ} {whole : ℕ} → Awaits bytes whole → length bytes < whole
whole_more (awaits_head a) = omega arith
whole_more {bytes} (awaits_body a) =
    let size : length bytes ≡ length (print_request a.head) + length a.rest = ap length a.has.reads.1 ∙ length-append (print_request a.head) a.rest in
    omega (arith, size, a.is_whole, a.few)

-- bytes that are awaited are awaited where some of them have come
pub awaits_more : {bytes : List ℕ} {whole : ℕ} (piece : List ℕ) → Awaits bytes whole → length (bytes ++ piece) < whole → Awaits (bytes ++ piece) whole
awaits_more {bytes} {whole} [] a short = subst (λ (all : List ℕ). Awaits all whole) (sym (append-nil bytes)) a
awaits_more {bytes} (byte ∷ piece) (awaits_head a) short = absurd (omega (arith, length-append bytes (byte ∷ piece)))
awaits_more {bytes} (byte ∷ piece) (awaits_body a) short =
    let more = byte ∷ piece in
    let size : length bytes ≡ length (print_request a.head) + length a.rest = ap length a.has.reads.1 ∙ length-append (print_request a.head) a.rest in
    awaits_body (record {
      head = a.head;
      rest = a.rest ++ more;
      has = head_on more a.has;
      size = a.size;
      judged_size = a.judged_size;
      is_whole = a.is_whole;
      few = omega (arith, size, a.is_whole, length-append bytes more, length-append a.rest more);
    })

-- ---- no bytes

abbrev small_head : RequestHead
small_head = record { blank = []; method = codes "A"; target = codes "/"; minor = 1; line_end = lf; fields = []; last = lf }

small_text : (text : List ℕ) × ReadsRequest text small_head []
unfolding httparse_on_literals
small_text = (print_request small_head, (record { method = search rules; target = search rules; target_text = search rules; minor = search rules; fields = search rules }, sym (append-nil (print_request small_head))))

print_some : (h : RequestHead) → 0 < length (print_request h)
unfolding print_request
print_some h = simp length-append (omega arith)

pub empty_awaited : Awaits [] 1
empty_awaited = awaits_head (record {
  few = omega arith;
  none = λ h rest reads. let size : 0 ≡ length (print_request h) + length rest = ap length reads.1 ∙ length-append (print_request h) rest in absurd (omega (arith, print_some h, size));
  goes_on = inl (small_text.0, small_head, small_text.1);
})

pub empty_decided : NeverHasRequest [] ⊎ IsCrowded [] → ⊥
empty_decided (inl never) = never small_text.0 small_head [] small_text.1
empty_decided (inr many) = absurd (omega (arith, many.overflows small_text.0 small_head [] small_text.1))
