-- What a reply's text is made of.
use Rattle.std.proofs.Common.{◌≡◌, ◌≢◌, ◌+◌, ◌-◌, ◌≤◌, ◌/◌, ◌%◌, ◌||◌, ◌&&◌, ℕ, zero, suc, List, [], ◌∷◌, ◌++◌, length, Bool, true, false, ◌==◌, refl, sym, ap, ◌∙◌, subst, arith, append_assoc, length-append}
use Rattle.std.specs.Prelude.{codes, decimal, nat_lt, if◌then◌else◌, not, slice_index_or, nat_eq}
use Rattle.std.specs.Cmp.Lexicographic.{pointwise}
use Rattle.std.specs.List.{list_all}
use Rattle.std.specs.Fmt.{digits, digits_onto, digit_glyph}
use Rattle.std.proofs.lemmas.Bool.{eqb-true, ne_eqb}
use Rattle.std.proofs.lemmas.Slice.Eq.{bytes_eq-Decides}
use Rattle.httpdate.specs.Date.{date_text}
use Rattle.httpdate.specs.declared.parts.Parts.{Parts}
use Rattle.httpdate.specs.Text.{day_name, month_name, two_digits, four_digits, time_of_day, imf_fixdate}
use Rattle.http_front.specs.Head.{reason_of, close_line, head_of}
use Rattle.kms_session.specs.Answers.{five_hundred}
use Rattle.kms_workload.specs.Replies.{IsReply, replies, wants, AreReplies, no_reply, one_reply, served_in}
use Rattle.kms_workload.specs.Lines.{has_return, line_text, IsLine, IsRest, no_line, two_lines, three_lines}

-- the first line of a reply, and the line of its body's size
abbrev pub status_line : ℕ → List ℕ
status_line status = codes "HTTP/1.1 " ++ (decimal status ++ (codes " " ++ reason_of status))

abbrev pub size_line : ℕ → List ℕ
size_line size = codes "Content-Length: " ++ decimal size

-- ---- no carriage return stands in these

or_plain : (x y z : Bool) → (x || y) ≡ false → (y ≡ false → z ≡ false) → (x || z) ≡ false
or_plain true y z h goes = cc
or_plain false y z h goes = goes h

pub has_return-append : (a b : List ℕ) → has_return a ≡ false → has_return b ≡ false → has_return (a ++ b) ≡ false
has_return-append [] b h k = k
has_return-append (byte ∷ a) b h k = or_plain (byte == 13) (has_return a) (has_return (a ++ b)) h (λ plain. has_return-append a b plain k)

either_plain : (b : Bool) (x y : List ℕ) → has_return x ≡ false → has_return y ≡ false → has_return (if b then x else y) ≡ false
either_plain true x y h k = h
either_plain false x y h k = k

glyph_plain : (d : ℕ) → (digit_glyph false d == 13) ≡ false
glyph_plain d = by (nat_lt d 10)
  where
    by : (small : Bool) → ((if small then 48 + d else (87 + d)) == 13) ≡ false
    by true = ne_eqb (48 + d) 13 (omega arith)
    by false = ne_eqb (87 + d) 13 (omega arith)

onto_plain : (k n : ℕ) (acc : List ℕ) → has_return acc ≡ false → has_return (digits_onto k 10 false n acc) ≡ false
onto_plain zero n acc h = h
onto_plain (suc k) n acc h =
    let more : has_return (digit_glyph false (n % 10) ∷ acc) ≡ false = rw (glyph_plain (n % 10)) h in
    either_plain (n / 10 == 0) _ _ more (onto_plain k (n / 10) (digit_glyph false (n % 10) ∷ acc) more)

pub decimal_plain : (n : ℕ) → has_return (decimal n) ≡ false
unfolding digits
decimal_plain n = onto_plain 64 n [] refl

two_plain : (n : ℕ) → has_return (two_digits n) ≡ false
two_plain n = rw (ne_eqb (48 + n / 10) 13 (omega arith), ne_eqb (48 + n % 10) 13 (omega arith))

pub reason_plain : (status : ℕ) → has_return (reason_of status) ≡ false
reason_plain status =
    either_plain (status == 200) _ _ refl (either_plain (status == 400) _ _ refl (either_plain (status == 404) _ _ refl (either_plain (status == 405) _ _ refl
    (either_plain (status == 411) _ _ refl (either_plain (status == 412) _ _ refl (either_plain (status == 413) _ _ refl (either_plain (status == 501) _ _ refl
    (either_plain (status == 503) _ _ refl refl))))))))

plain_both : (b c : Bool) → (not b && c) ≡ true → (b ≡ false) × (c ≡ true)
plain_both true c h = cc
plain_both false c h = (refl, h)

name_plain : (names : List (List ℕ)) (i : ℕ) → list_all (λ name. not (has_return name)) names ≡ true → has_return (slice_index_or names i []) ≡ false
name_plain [] i h = refl
name_plain (name ∷ names) zero h = (plain_both (has_return name) (list_all (λ name. not (has_return name)) names) h).0
name_plain (name ∷ names) (suc i) h = name_plain names i (plain_both (has_return name) (list_all (λ name. not (has_return name)) names) h).1

day_plain : (wday : ℕ) → has_return (day_name wday) ≡ false
day_plain wday = name_plain (codes "Mon" ∷ codes "Tue" ∷ codes "Wed" ∷ codes "Thu" ∷ codes "Fri" ∷ codes "Sat" ∷ codes "Sun" ∷ []) (wday - 1) refl

month_plain : (mon : ℕ) → has_return (month_name mon) ≡ false
month_plain mon =
    name_plain (codes "Jan" ∷ codes "Feb" ∷ codes "Mar" ∷ codes "Apr" ∷ codes "May" ∷ codes "Jun" ∷ codes "Jul" ∷ codes "Aug" ∷ codes "Sep" ∷ codes "Oct" ∷ codes "Nov" ∷ codes "Dec" ∷ [])
    (mon - 1) refl

record Plain (bytes : List ℕ) : Type 0 where
  none : has_return bytes ≡ false

joined : {a b : List ℕ} → Plain a → Plain b → Plain (a ++ b)
joined {a = a} {b = b} one two = record { none = has_return-append a b one.none two.none }

two : (n : ℕ) → Plain (two_digits n)
two n = record { none = two_plain n }

blank : Plain (codes " ")
blank = record { none = refl }

colon : Plain (codes ":")
colon = record { none = refl }

comma : Plain (codes ", ")
comma = record { none = refl }

zone : Plain (codes " GMT")
zone = record { none = refl }

pub date_plain : (p : Parts) → has_return (imf_fixdate p) ≡ false
date_plain p =
    let day : Plain (day_name p.wday) = record { none = day_plain p.wday } in
    let month : Plain (month_name p.mon) = record { none = month_plain p.mon } in
    let year : Plain (four_digits p.year) = joined (two (p.year / 100)) (two (p.year % 100)) in
    let clock : Plain (time_of_day p) = joined (joined (joined (joined (two p.hour) colon) (two p.min)) colon) (two p.sec) in
    let whole : Plain (imf_fixdate p) = joined (joined (joined (joined (joined (joined (joined (joined (joined day comma) (two p.day)) blank) month) blank) year) blank) clock) zone in
    whole.none

-- ---- the reply's lines

-- the first lines of a reply, the bytes of its body, and what stands between
pub record IsCut (status : ℕ) (text more : List ℕ) : Type 0 where
  pub second : List ℕ
  pub body : List ℕ
  pub rest : List ℕ
  pub second_plain : has_return second ≡ false
  pub short : length body ≤ length text
  pub is : text ≡ line_text (status_line status) (line_text second (line_text (size_line (length body)) rest))
  pub behind : IsRest rest (body ++ more)

pub status_plain : (status : ℕ) → has_return (status_line status) ≡ false
status_plain status = has_return-append (codes "HTTP/1.1 ") (decimal status ++ (codes " " ++ reason_of status)) refl (has_return-append (decimal status) (codes " " ++ reason_of status) (decimal_plain status) (reason_plain status))

pub size_plain : (size : ℕ) → has_return (size_line size) ≡ false
size_plain size = has_return-append (codes "Content-Length: ") (decimal size) refl (decimal_plain size)

head_split : (d r s date f close body more : List ℕ) →
    (codes "HTTP/1.1 " ++ d ++ codes " " ++ r ++ codes "\r\nContent-Type: application/x-amz-json-1.1\r\nContent-Length: " ++ s ++ codes "\r\nDate: " ++ date ++ codes "\r\nx-kms-front: " ++ f ++ codes "\r\n" ++ close ++ codes "\r\n") ++ body ++ more
    ≡ line_text (codes "HTTP/1.1 " ++ (d ++ (codes " " ++ r))) (line_text (codes "Content-Type: application/x-amz-json-1.1") (line_text (codes "Content-Length: " ++ s)
    (line_text (codes "Date: " ++ date) (line_text (codes "x-kms-front: " ++ f) (close ++ (13 ∷ 10 ∷ (body ++ more)))))))
head_split d r s date f close body more = simp append_assoc

date_line : (date : List ℕ) → has_return date ≡ false → IsLine (codes "Date: " ++ date)
date_line date plain = record { first = 68; others = codes "ate: " ++ date; is = refl; one = has_return-append (codes "Date: ") date refl plain }

front_line : (front : List ℕ) → has_return front ≡ false → IsLine (codes "x-kms-front: " ++ front)
front_line front plain = record { first = 120; others = codes "-kms-front: " ++ front; is = refl; one = has_return-append (codes "x-kms-front: ") front refl plain }

behind_lines : (closes : Bool) (date front more : List ℕ) → has_return date ≡ false → has_return front ≡ false
    → IsRest (line_text (codes "Date: " ++ date) (line_text (codes "x-kms-front: " ++ front) (close_line closes ++ (13 ∷ 10 ∷ more)))) more
behind_lines true date front more one two =
    three_lines (codes "Date: " ++ date) (codes "x-kms-front: " ++ front) (codes "Connection: close") (date_line date one) (front_line front two)
    (record { first = 67; others = codes "onnection: close"; is = refl; one = refl }) refl
behind_lines false date front more one two = two_lines (codes "Date: " ++ date) (codes "x-kms-front: " ++ front) (date_line date one) (front_line front two) refl

short_part : (head body more : List ℕ) → length body ≤ length ((head ++ body) ++ more)
short_part head body more = simp (length-append) (omega arith)

wanting_cut : (status : ℕ) (text more : List ℕ) → status ≡ 500 → text ≡ five_hundred ++ more → IsCut status text more
unfolding digits
wanting_cut status text more same split =
    let body = codes "{\"__type\":\"KMSInternalException\",\"message\":\"Want of memory.\"}" in
    subst (λ (n : ℕ). IsCut n text more) (sym same) (record {
      second = codes "Content-Type: application/x-amz-json-1.1";
      body = body;
      rest = 13 ∷ 10 ∷ (body ++ more);
      second_plain = refl;
      short = subst (λ (t : List ℕ). 61 ≤ length t) (sym split) (omega arith);
      is = split;
      behind = no_line refl;
    })

-- a reply at the front of a text
pub reply_cut : (status : ℕ) (reply text more : List ℕ) → IsReply status reply → text ≡ reply ++ more → IsCut status text more
reply_cut status reply text more (replies answer second front closes h same) split =
    let date = date_text h.is_head.date in
    let whole : text ≡ (h.head ++ answer.body) ++ more = split ∙ ap (λ (r : List ℕ). r ++ more) h.whole in
    let lines : text ≡ head_of status (length answer.body) date front closes ++ answer.body ++ more =
    whole ∙ ap (λ (l : List ℕ). l ++ answer.body ++ more) (h.is_head.lines ∙ ap (λ (n : ℕ). head_of n (length answer.body) date front closes) (sym same)) in
    record {
      second = codes "Content-Type: application/x-amz-json-1.1";
      body = answer.body;
      rest = line_text (codes "Date: " ++ date) (line_text (codes "x-kms-front: " ++ decimal front) (close_line closes ++ (13 ∷ 10 ∷ (answer.body ++ more))));
      second_plain = refl;
      short = subst (λ (t : List ℕ). length answer.body ≤ length t) (sym whole) (short_part h.head answer.body more);
      is = lines ∙ head_split (decimal status) (reason_of status) (decimal (length answer.body)) date (decimal front) (close_line closes) answer.body more;
      behind = behind_lines closes date (decimal front) (answer.body ++ more) (date_plain h.is_head.date.parts) (decimal_plain front);
    }
reply_cut status reply text more (wants is same) split = wanting_cut status text more same (split ∙ ap (λ (r : List ℕ). r ++ more) is)

-- ---- the status 200

long_either : (b : Bool) (x y : List ℕ) → 9 ≤ length x → 9 ≤ length y → 9 ≤ length (if b then x else y)
long_either true x y h k = h
long_either false x y h k = k

-- every other reason has more bytes
reason_long : (status : ℕ) → (status == 200) ≡ false → 9 ≤ length (reason_of status)
reason_long status other =
    rw other (long_either (status == 400) _ _ (omega arith) (long_either (status == 404) _ _ (omega arith) (long_either (status == 405) _ _ (omega arith)
    (long_either (status == 411) _ _ (omega arith) (long_either (status == 412) _ _ (omega arith) (long_either (status == 413) _ _ (omega arith) (long_either (status == 501) _ _ (omega arith)
    (long_either (status == 503) _ _ (omega arith) (omega arith)))))))))

served_line : List ℕ
served_line = codes "HTTP/1.1 200 OK"

tells_true : (status : ℕ) → status ≡ 200 → pointwise nat_eq (status_line status) (codes "HTTP/1.1 200 OK") ≡ true
unfolding digits
tells_true status is = subst (λ (n : ℕ). pointwise nat_eq (status_line n) (codes "HTTP/1.1 200 OK") ≡ true) (sym is) refl

tells_false : (status : ℕ) → (status == 200) ≡ false → status_line status ≡ codes "HTTP/1.1 200 OK" → ⊥
tells_false status other same =
    let sizes : length (status_line status) ≡ 15 = ap length same in
    let long : 9 ≤ length (reason_of status) = reason_long status other in
    absurd (omega (arith, sizes, long, length-append (decimal status) (codes " " ++ reason_of status)))

told_by : (status : ℕ) (served says : Bool) → (status == 200) ≡ served → pointwise nat_eq (status_line status) (codes "HTTP/1.1 200 OK") ≡ says
    → says ≡ served
told_by status true says is told = sym told ∙ tells_true status (eqb-true _ _ is)
told_by status false true is told = absurd (tells_false status is ((bytes_eq-Decides (status_line status) (codes "HTTP/1.1 200 OK")).0 told))
told_by status false false is told = refl

-- the first line tells whether the status is 200
pub status_tells : (status : ℕ) → pointwise nat_eq (status_line status) (codes "HTTP/1.1 200 OK") ≡ (status == 200)
status_tells status = told_by status (status == 200) _ refl refl

-- ---- the count

-- so many replies are counted, and these are left
pub record IsLeft (statuses rest : List ℕ) (count served : ℕ) : Type 0 where
  pub left : List ℕ
  pub are : AreReplies rest left
  pub number : length statuses ≡ count + length left
  pub served_is : served_in statuses ≡ served + served_in left

-- what a look at the first reply tells
abbrev pub Tells : List ℕ → Bool → List ℕ → Type 0
Tells text served behind = (status : ℕ) (reply more : List ℕ) → IsReply status reply → text ≡ reply ++ more → (served ≡ (status == 200)) × (behind ≡ more)

record OneLess (left : List ℕ) (served : Bool) (behind : List ℕ) : Type 0 where
  others : List ℕ
  are : AreReplies behind others
  number : length left ≡ 1 + length others
  served_is : served_in left ≡ (if served then 1 else 0) + served_in others

add_if : (b : Bool) (n : ℕ) → (if b then 1 + n else n) ≡ (if b then 1 else 0) + n
add_if true n = refl
add_if false n = omega arith

one_less : {text left : List ℕ} (served : Bool) (behind : List ℕ) → AreReplies text left → length text ≢ 0 → Tells text served behind → OneLess left served behind
one_less served behind no_reply filled tells = absurd (filled refl)
one_less served behind (one_reply {status = status} {statuses = statuses} {more = more} reply is are split) filled tells =
    let told = tells status reply more is split in
    record {
      others = statuses;
      are = subst (λ (t : List ℕ). AreReplies t statuses) (sym told.1) are;
      number = omega arith;
      served_is = rw told.0 (add_if (status == 200) (served_in statuses));
    }

served_more : (served : Bool) (before after all others : ℕ) → (served ≡ true → after ≡ before + 1) → (served ≡ false → after ≡ before)
    → all ≡ before + ((if served then 1 else 0) + others) → all ≡ after + others
served_more true before after all others one none is = let e = one refl in omega (arith, e, is)
served_more false before after all others one none is = let e = none refl in omega (arith, e, is)

-- one more reply is counted
pub left_more : (statuses text behind : List ℕ) (count before after : ℕ) (served : Bool) → IsLeft statuses text count before → length text ≢ 0 → Tells text served behind
    → (served ≡ true → after ≡ before + 1) → (served ≡ false → after ≡ before) → IsLeft statuses behind (count + 1) after
left_more statuses text behind count before after served h filled tells one none =
    let less = one_less served behind h.are filled tells in
    record {
      left = less.others;
      are = less.are;
      number = omega (arith, h.number, less.number);
      served_is = served_more served before after (served_in statuses) (served_in less.others) one none (h.served_is ∙ ap (λ (n : ℕ). before + n) less.served_is);
    }

reply_filled : (status : ℕ) (reply text more : List ℕ) → IsReply status reply → text ≡ reply ++ more → length text ≡ 0 → ⊥
reply_filled status reply text more is split empty = let cut = reply_cut status reply text more is split in absurd (omega (arith, ap length cut.is, empty))

none_left : {text left : List ℕ} → AreReplies text left → length text ≡ 0 → left ≡ []
none_left no_reply empty = refl
none_left {text = text} (one_reply {status = status} {more = more} reply is are split) empty = absurd (reply_filled status reply text more is split empty)

-- all are counted
pub left_all : (statuses text : List ℕ) (count served : ℕ) → IsLeft statuses text count served → length text ≡ 0 → (length statuses ≡ count) × (served ≡ served_in statuses)
left_all statuses text count served h empty =
    let none = none_left h.are empty in
    let number : length statuses ≡ count + length h.left = h.number in
    let all : served_in statuses ≡ served + served_in h.left = h.served_is in
    (number ∙ ap (λ (l : List ℕ). count + length l) none ∙ omega arith, sym (all ∙ ap (λ (l : List ℕ). served + served_in l) none ∙ omega arith))
