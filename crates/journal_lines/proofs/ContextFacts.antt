-- The reading of encodings.
use Rattle.std.proofs.Common.{◌≡◌, ℕ, zero, suc, ◌<◌, ◌≤◌, ◌^◌, Bool, true, false, cond, nat_le, List, [], ◌∷◌, ◌++◌, length, take, drop, get_or, Option, Some, None, refl, sym, ap, ap₂, ◌∙◌, append_assoc, append-nil, length-append, length-drop, arith}
use Rattle.std.specs.Prelude.{◌&&◌}
use Rattle.std.specs.Option.{option_map, option_and_then}
use Rattle.std.specs.Str.{IsUtf8, is_utf8}
use Rattle.std.specs.Int.{w32, to_be_bytes, from_be_bytes, byte_at, bytes_high_first}
use Rattle.std.specs.List.{flat_map, All}
use Rattle.std.specs.Cmp.Lexicographic.{slice_cmp}
use Rattle.std.specs.Ordering.{nat_cmp, is_lt}
use Rattle.std.specs.declared.cmp.Ordering.{Ordering}
use Rattle.std.specs.declared.cmp.Ordering.TheVariants.{Less, Equal, Greater}
use Rattle.std.proofs.Math.Seq.{take-append_seam, drop-append_seam}
use Rattle.std.proofs.lemmas.Bool.{and_parts, leb-true, le-leb}
use Rattle.std.proofs.lemmas.Cmp.{nat_list_cmp_total}
use Rattle.std.proofs.lemmas.Nat.{from_be_bytes-to_be_bytes_4}
use Rattle.std.proofs.lemmas.Str.{is_utf8-from_IsUtf8}
use Rattle.kms_names.specs.Reading.{some_if}
use Rattle.enc_context.specs.Encoding.{text_encoding, pair_encoding, encoding_of}
use Rattle.enc_context.specs.Pairs.{ComesBefore, IsInOrder}
use Rattle.enc_context.specs.declared.pairs.Pair.{Pair}
use Rattle.journal_lines.specs.Contexts.{cut_by, cut_text, pair_and, value_behind, cut_pair, pairs_within, pairs_of, ascend_behind, ascend, context_by, context_of}
use Rattle.journal_lines.specs.Forms.{IsPair, IsContextOfTexts}
use Rattle.journal_lines.proofs.ByteFacts.{nil, cons, append, from_utf8}
use Rattle.base64.specs.GeneralPurpose.{IsBytes}
use Rattle.enc_context.proofs.EncodingFacts.{pair_encoding_size}

-- ---- what is left is shorter

cut_rest : (fits text : Bool) (t r : List ℕ) (p : List ℕ × List ℕ) → cond fits (some_if text (t, r)) None ≡ Some p → p ≡ (t, r)
cut_rest true true t r p e = cc
cut_rest true false t r p e = cc
cut_rest false text t r p e = cc

if_some : {A : Type 0} (b : Bool) (o : Option A) (p : A) → cond b o None ≡ Some p → (b ≡ true) × (o ≡ Some p)
if_some true o p e = (refl, e)
if_some false o p e = cc

text_shorter : (bytes : List ℕ) (p : List ℕ × List ℕ) → cut_text bytes ≡ Some p → length p.1 < length bytes
text_shorter bytes p e =
    let size : ℕ = from_be_bytes w32 (take 4 bytes) in
    let rest : List ℕ = drop 4 bytes in
    let by = if_some (nat_le 4 (length bytes)) (cut_by size rest) p e in
    let is = cut_rest (nat_le size (length rest)) (is_utf8 (take size rest)) (take size rest) (drop size rest) p by.1 in
    omega (arith, ap (λ (q : List ℕ × List ℕ). length q.1) is, length-drop size rest, length-drop 4 bytes, leb-true 4 (length bytes) by.0)

value_shorter : (k : List ℕ × List ℕ) (o : Option (List ℕ × List ℕ)) (p : Pair × List ℕ) → ((v : List ℕ × List ℕ) → o ≡ Some v → length v.1 < length k.1)
    → option_map (pair_and k.0) o ≡ Some p → length p.1 < length k.1
value_shorter k None p shorter e = cc
value_shorter k (Some v) p shorter e =
    let is : pair_and k.0 v ≡ p = cc in
    omega (arith, shorter v refl, ap (λ (q : Pair × List ℕ). length q.1) is)

pair_from : (o : Option (List ℕ × List ℕ)) (n : ℕ) (p : Pair × List ℕ) → ((k : List ℕ × List ℕ) → o ≡ Some k → length k.1 < n)
    → option_and_then value_behind o ≡ Some p → length p.1 < n
pair_from None n p shorter e = cc
pair_from (Some k) n p shorter e = omega (arith, value_shorter k (cut_text k.1) p (text_shorter k.1) e, shorter k refl)

pub pair_shorter : (bytes : List ℕ) (p : Pair × List ℕ) → cut_pair bytes ≡ Some p → length p.1 < length bytes
unfolding cut_pair
pair_shorter bytes p e = pair_from (cut_text bytes) (length bytes) p (text_shorter bytes) e

-- ---- enough steps

abbrev pairs_by : Option (Pair × List ℕ) → ℕ → Option (List Pair)
pairs_by o n = option_and_then (λ p. option_map (λ pairs. p.0 ∷ pairs) (pairs_within n p.1)) o

same_behind : (n m : ℕ) (o : Option (Pair × List ℕ)) → ((p : Pair × List ℕ) → o ≡ Some p → pairs_within n p.1 ≡ pairs_within m p.1) → pairs_by o n ≡ pairs_by o m
same_behind n m None same = refl
same_behind n m (Some p) same = ap (λ (o : Option (List Pair)). option_map (λ pairs. p.0 ∷ pairs) o) (same p refl)

pairs_enough : (n m : ℕ) (bytes : List ℕ) → length bytes ≤ n → length bytes ≤ m → pairs_within n bytes ≡ pairs_within m bytes
pairs_enough n m [] h k = refl
pairs_enough zero m (b ∷ bytes) h k = absurd (omega arith)
pairs_enough (suc n) zero (b ∷ bytes) h k = absurd (omega arith)
pairs_enough (suc n) (suc m) (b ∷ bytes) h k =
    same_behind n m (cut_pair (b ∷ bytes)) (λ p e. pairs_enough n m p.1 (omega (arith, pair_shorter (b ∷ bytes) p e)) (omega (arith, pair_shorter (b ∷ bytes) p e)))

regroup : (pairs : List Pair) (pair : Pair) (o : Option (List Pair))
    → option_map (λ more. (pairs ++ pair ∷ []) ++ more) o ≡ option_map (λ more. pairs ++ more) (option_map (λ more. pair ∷ more) o)
regroup pairs pair None = refl
regroup pairs pair (Some more) = ap Some (append_assoc pairs (pair ∷ []) more)

-- one pair more
pub pairs_step : (pairs : List Pair) (bytes : List ℕ) (p : Pair × List ℕ) → cut_pair bytes ≡ Some p
    → option_map (λ more. (pairs ++ p.0 ∷ []) ++ more) (pairs_within (length p.1) p.1) ≡ option_map (λ more. pairs ++ more) (pairs_within (length bytes) bytes)
pairs_step pairs [] p e = let short = pair_shorter [] p e in absurd (omega arith)
pairs_step pairs (b ∷ bytes) p e =
    let same = pairs_enough (length p.1) (length bytes) p.1 (omega arith) (omega (arith, pair_shorter (b ∷ bytes) p e)) in
    ap (λ (o : Option (List Pair)). option_map (λ more. (pairs ++ p.0 ∷ []) ++ more) o) same
    ∙ regroup pairs p.0 (pairs_within (length bytes) p.1)
    ∙ ap (λ (o : Option (Pair × List ℕ)). option_map (λ more. pairs ++ more) (pairs_by o (length bytes))) (sym e)

-- no pair there
pub pairs_none : (pairs : List Pair) (bytes : List ℕ) → 0 < length bytes → cut_pair bytes ≡ None → None ≡ option_map (λ more. pairs ++ more) (pairs_within (length bytes) bytes)
pairs_none pairs [] some e = absurd (omega arith)
pairs_none pairs (b ∷ bytes) some e = ap (λ (o : Option (Pair × List ℕ)). option_map (λ more. pairs ++ more) (pairs_by o (length bytes))) (sym e)

-- ---- order

is_less : (o : Ordering) → is_lt o ≡ true → o ≡ Less
is_less Less e = refl
is_less Equal e = cc
is_less Greater e = cc

behind_all : (key : List ℕ) (pairs : List Pair) → ascend_behind key pairs ≡ true → (j : ℕ) (d : Pair) → j < length pairs → ComesBefore key (get_or pairs j d).key
behind_all key [] e j d below = absurd (omega arith)
behind_all key (p ∷ pairs) e zero d below = is_less _ (and_parts (is_lt (slice_cmp nat_cmp key p.key)) (ascend_behind p.key pairs) e).0
behind_all key (p ∷ pairs) e (suc j) d below =
    let parts = and_parts (is_lt (slice_cmp nat_cmp key p.key)) (ascend_behind p.key pairs) e in
    nat_list_cmp_total.trans key p.key (get_or pairs j d).key (is_less _ parts.0) (behind_all p.key pairs parts.1 j d (omega arith))

behind_order : (key : List ℕ) (pairs : List Pair) → ascend_behind key pairs ≡ true → IsInOrder pairs
behind_order key [] e i j d less below = absurd (omega arith)
behind_order key (p ∷ pairs) e i zero d less below = absurd (omega arith)
behind_order key (p ∷ pairs) e zero (suc j) d less below =
    behind_all p.key pairs (and_parts (is_lt (slice_cmp nat_cmp key p.key)) (ascend_behind p.key pairs) e).1 j d (omega arith)
behind_order key (p ∷ pairs) e (suc i) (suc j) d less below =
    behind_order p.key pairs (and_parts (is_lt (slice_cmp nat_cmp key p.key)) (ascend_behind p.key pairs) e).1 i j d (omega arith) (omega arith)

pub in_order : (pairs : List Pair) → ascend pairs ≡ true → IsInOrder pairs
in_order [] e i j d less below = absurd (omega arith)
in_order (p ∷ pairs) e i zero d less below = absurd (omega arith)
in_order (p ∷ pairs) e zero (suc j) d less below = behind_all p.key pairs e j d (omega arith)
in_order (p ∷ pairs) e (suc i) (suc j) d less below = behind_order p.key pairs e i j d (omega arith) (omega arith)

-- nothing is left
pub pairs_end : (pairs : List Pair) (bytes : List ℕ) → length bytes ≡ 0 → Some pairs ≡ option_map (λ more. pairs ++ more) (pairs_within (length bytes) bytes)
pairs_end pairs [] none = ap Some (sym (append-nil pairs))
pairs_end pairs (b ∷ bytes) none = absurd (omega arith)

pub taken : (pairs : List Pair) (found : Option (List Pair)) → ascend pairs ≡ true → length (encoding_of pairs) ≤ 8192 → found ≡ Some pairs
    → Some pairs ≡ option_and_then context_by found
taken pairs found ascending fits is =
    sym (ap (λ (o : Option (List Pair)). option_and_then context_by o) is
    ∙ ap (λ (b : Bool). cond b (some_if (nat_le (length (encoding_of pairs)) 8192) pairs) None) ascending
    ∙ ap (λ (b : Bool). some_if b pairs) (le-leb (length (encoding_of pairs)) 8192 fits))

-- ---- what is encoded reads back

fits_true : (b : Bool) (o : Option (List ℕ × List ℕ)) → b ≡ true → cond b o None ≡ o
fits_true true o e = refl
fits_true false o e = cc

text_if : (b : Bool) (p : List ℕ × List ℕ) → b ≡ true → some_if b p ≡ Some p
text_if true p e = refl
text_if false p e = cc

cut_by_read : (text rest : List ℕ) → IsUtf8 text → cut_by (length text) (text ++ rest) ≡ Some (text, rest)
cut_by_read text rest u =
    fits_true (nat_le (length text) (length (text ++ rest))) _ (le-leb (length text) (length (text ++ rest)) (omega (arith, length-append text rest)))
    ∙ ap₂ (λ (t r : List ℕ). some_if (is_utf8 t) (t, r)) (take-append_seam text rest) (drop-append_seam text rest)
    ∙ text_if (is_utf8 text) (text, rest) (is_utf8-from_IsUtf8 text u)

cut_text_read : (text rest : List ℕ) → IsUtf8 text → length text < 2 ^ 32 → cut_text (text_encoding text ++ rest) ≡ Some (text, rest)
unfolding text_encoding
cut_text_read text rest u small =
    let behind : List ℕ = text ++ rest in
    let size = to_be_bytes w32 (length text) in
    ap cut_text (append_assoc size text rest)
    ∙ fits_true (nat_le 4 (length (size ++ behind))) (cut_by (from_be_bytes w32 (take 4 (size ++ behind))) (drop 4 (size ++ behind))) (le-leb 4 (length (size ++ behind)) (omega (arith, length-append size behind)))
    ∙ ap (λ (n : ℕ). cut_by n behind) (from_be_bytes-to_be_bytes_4 (length text) small)
    ∙ cut_by_read text rest u

pair_read : (pair : Pair) (rest : List ℕ) → IsPair pair → length (pair_encoding pair) < 2 ^ 32 → cut_pair (pair_encoding pair ++ rest) ≡ Some (pair, rest)
unfolding cut_pair
pair_read pair rest form small =
    let size = pair_encoding_size pair in
    let behind : List ℕ = text_encoding pair.value ++ rest in
    ap (λ (bytes : List ℕ). option_and_then value_behind (cut_text bytes)) (append_assoc (text_encoding pair.key) (text_encoding pair.value) rest)
    ∙ ap (λ (o : Option (List ℕ × List ℕ)). option_and_then value_behind o) (cut_text_read pair.key behind form.0 (omega arith))
    ∙ ap (λ (o : Option (List ℕ × List ℕ)). option_map (pair_and pair.key) o) (cut_text_read pair.value rest form.1 (omega arith))

step_within : (n : ℕ) (bytes : List ℕ) → 0 < length bytes → pairs_within (suc n) bytes ≡ pairs_by (cut_pair bytes) n
step_within n [] some = absurd (omega arith)
step_within n (b ∷ bytes) some = refl

pairs_read : (n : ℕ) (pairs : List Pair) → length (flat_map pair_encoding pairs) ≤ n → length (flat_map pair_encoding pairs) < 2 ^ 32 → All IsPair pairs
    → pairs_within n (flat_map pair_encoding pairs) ≡ Some pairs
pairs_read n [] enough small forms = refl
pairs_read zero (pair ∷ pairs) enough small forms =
    absurd (omega (arith, pair_encoding_size pair, length-append (pair_encoding pair) (flat_map pair_encoding pairs)))
pairs_read (suc n) (pair ∷ pairs) enough small forms =
    let rest : List ℕ = flat_map pair_encoding pairs in
    let size = pair_encoding_size pair in
    let whole = length-append (pair_encoding pair) rest in
    step_within n (pair_encoding pair ++ rest) (omega arith)
    ∙ ap (λ (o : Option (Pair × List ℕ)). pairs_by o n) (pair_read pair rest (forms 0 pair (omega arith)) (omega arith))
    ∙ ap (λ (o : Option (List Pair)). option_map (λ pairs. pair ∷ pairs) o) (pairs_read n pairs (omega arith) (omega arith) (λ k d lt. forms (suc k) d (omega arith)))

less_is : (o : Ordering) → o ≡ Less → is_lt o ≡ true
less_is o e = ap is_lt e

ascend_from : (key : List ℕ) (pairs : List Pair) → ((d : Pair) → 0 < length pairs → ComesBefore key (get_or pairs 0 d).key) → IsInOrder pairs → ascend_behind key pairs ≡ true
ascend_from key [] first order = refl
ascend_from key (p ∷ pairs) first order =
    ap₂ (λ (a b : Bool). a && b) (less_is _ (first p (omega arith)))
    (ascend_from p.key pairs (λ d some. order 0 1 d (omega arith) (omega arith)) (λ i j d less lt. order (suc i) (suc j) d (omega arith) (omega arith)))

ascend_order : (pairs : List Pair) → IsInOrder pairs → ascend pairs ≡ true
ascend_order [] order = refl
ascend_order (p ∷ pairs) order =
    ascend_from p.key pairs (λ d some. order 0 1 d (omega arith) (omega arith)) (λ i j d less lt. order (suc i) (suc j) d (omega arith) (omega arith))

pub context_of_read : (pairs : List Pair) → IsContextOfTexts pairs → context_of (encoding_of pairs) ≡ Some pairs
unfolding pairs_of encoding_of
context_of_read pairs form =
    let fits = form.0.fits in
    sym (taken pairs (pairs_of (encoding_of pairs)) (ascend_order pairs form.0.in_order) fits
    (pairs_read (length (flat_map pair_encoding pairs)) pairs (omega arith) (omega arith) form.1))

-- ---- bytes

byte_small : (i n : ℕ) → byte_at i n < 256
byte_small zero n = omega arith
byte_small (suc i) n = omega arith

be_bytes : (k n : ℕ) → IsBytes (bytes_high_first k n)
be_bytes zero n = nil
be_bytes (suc k) n = cons (byte_at k n) (bytes_high_first k n) (byte_small k n) (be_bytes k n)

text_bytes : (text : List ℕ) → IsUtf8 text → IsBytes (text_encoding text)
unfolding text_encoding
text_bytes text u = append (to_be_bytes w32 (length text)) text (be_bytes 4 (length text)) (from_utf8 text u)

pairs_bytes : (pairs : List Pair) → All IsPair pairs → IsBytes (flat_map pair_encoding pairs)
pairs_bytes [] forms = nil
pairs_bytes (pair ∷ pairs) forms =
    let form : IsPair pair = forms 0 pair (omega arith) in
    append (pair_encoding pair) (flat_map pair_encoding pairs) (append (text_encoding pair.key) (text_encoding pair.value) (text_bytes pair.key form.0) (text_bytes pair.value form.1))
    (pairs_bytes pairs (λ k d lt. forms (suc k) d (omega arith)))

pub encoding_bytes : (pairs : List Pair) → All IsPair pairs → IsBytes (encoding_of pairs)
unfolding encoding_of
encoding_bytes pairs forms = pairs_bytes pairs forms
