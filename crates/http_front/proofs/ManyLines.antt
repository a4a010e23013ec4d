-- Bytes of more than 64 headers have that many lines.
use Rattle.std.proofs.Common.{◌≡◌, ◌≢◌, ◌<◌, ◌≤◌, ◌==◌, ℕ, zero, suc, List, [], ◌∷◌, ◌++◌, length, length-drop, drop, Bool, true, false, IsTrue, refl, sym, ap, ◌∙◌, append_assoc, append-nil, arith}
use Rattle.std.specs.Prelude.{All}
use Rattle.std.specs.List.{flat_map}
use Rattle.std.proofs.lemmas.Bool.{cond-false}
use Rattle.std.proofs.lemmas.Bool.Decides.{nat_tests}
use Rattle.std.proofs.lemmas.List.{same_from_push}
use Rattle.std.proofs.lemmas.List.Elements.{All-head, All-tail}
use Rattle.httparse.specs.Grammar.{AllPass, is_token_byte, is_uri_byte, is_value_byte, IsToken, LineEnd, crlf, lf, print_end, print_blank, print_version, Field, IsField, print_field, RequestHead, IsRequestHead, print_request}
use Rattle.httparse.proofs.OnLiterals.{httparse_on_literals}
use Rattle.httparse.proofs.GrammarLemmas.{cons-append}
use Rattle.http_front.specs.Message.{IsCrowded}
use Rattle.http_front.specs.Laws.{is_end_byte, behind_ends, behind_lines, HasManyLines}

-- ---- bytes of a class without a line feed

module _ (test : ℕ → Bool) (no : test 10 ≡ false) where
  skips_first : (c : ℕ) (x : List ℕ) (n : ℕ) (b : Bool) → (c == 10) ≡ b → test c ≡ true → behind_lines (suc n) (c ∷ x) ≡ behind_lines (suc n) x
  skips_first c x n true is pass =
      let same : c ≡ 10 = grind (arith, nat_tests, is) in
      let bad : true ≡ false = sym pass ∙ ap test same ∙ no in
      cc
  skips_first c x n false is pass = cond-false _ _ _ is

  skips : (a x : List ℕ) (n : ℕ) → AllPass test a → behind_lines (suc n) (a ++ x) ≡ behind_lines (suc n) x
  skips [] x n all = refl
  skips (c ∷ a) x n all =
      skips_first c (a ++ x) n (c == 10) refl (All-head (λ b. IsTrue (test b)) c a all) ∙ skips a x n (All-tail (λ b. IsTrue (test b)) c a all)

no_token : is_token_byte 10 ≡ false
unfolding httparse_on_literals
no_token = refl

ends : (e : LineEnd) (x : List ℕ) (n : ℕ) → behind_lines (suc n) (print_end e ++ x) ≡ behind_lines n x
ends crlf x n = refl
ends lf x n = refl

version_skips : (minor : ℕ) (x : List ℕ) (n : ℕ) → minor ≤ 1 → behind_lines (suc n) (print_version minor ++ x) ≡ behind_lines (suc n) x
version_skips zero x n h = refl
version_skips (suc zero) x n h = refl
version_skips (suc (suc m)) x n h = absurd (omega arith)

one_field : (f : Field) (x : List ℕ) (n : ℕ) → IsField f → behind_lines (suc n) (print_field f ++ x) ≡ behind_lines n x
one_field f x n is =
    let parts : print_field f ++ x ≡ f.name ++ (58 ∷ (f.raw ++ (print_end f.end ++ x))) = simp append_assoc in
    ap (behind_lines (suc n)) parts
    ∙ skips is_token_byte no_token f.name (58 ∷ (f.raw ++ (print_end f.end ++ x))) n is.name.1
    ∙ skips is_value_byte refl f.raw (print_end f.end ++ x) n is.raw
    ∙ ends f.end x n

many_fields : (n : ℕ) (fields : List Field) (x : List ℕ) → All IsField fields → n ≤ length fields → behind_lines n (flat_map print_field fields ++ x) ≡ flat_map print_field (drop n fields) ++ x
many_fields zero fields x all h = refl
many_fields (suc n) [] x all h = absurd (omega arith)
many_fields (suc n) (f ∷ fields) x all h =
    ap (behind_lines (suc n)) (append_assoc (print_field f) (flat_map print_field fields) x)
    ∙ one_field f (flat_map print_field fields ++ x) n (All-head IsField f fields all)
    ∙ many_fields n fields x (All-tail IsField f fields all) (omega arith)

-- ---- the request line, and what stands before it

record IsNoEnd (c : ℕ) : Type 0 where
  not_cr : c ≢ 13
  not_lf : c ≢ 10

token_no_end : (c : ℕ) → is_token_byte c ≡ true → IsNoEnd c
unfolding httparse_on_literals
token_no_end c pass = record {
  not_cr = λ same. let bad : true ≡ false = sym pass ∙ ap is_token_byte same in cc;
  not_lf = λ same. let bad : true ≡ false = sym pass ∙ ap is_token_byte same in cc;
}

no_end_byte : (c : ℕ) → IsNoEnd c → is_end_byte c ≡ false
no_end_byte c is = grind (arith, nat_tests, is.not_cr, is.not_lf)

blanks_go : (blank : List LineEnd) (c : ℕ) (x : List ℕ) → IsNoEnd c → behind_ends (print_blank blank ++ c ∷ x) ≡ c ∷ x
blanks_go [] c x is = cond-false _ _ _ (no_end_byte c is)
blanks_go (crlf ∷ blank) c x is = blanks_go blank c x is
blanks_go (lf ∷ blank) c x is = blanks_go blank c x is

token_blanks_go : (blank : List LineEnd) (method x : List ℕ) → IsToken method → behind_ends (print_blank blank ++ (method ++ x)) ≡ method ++ x
token_blanks_go blank [] x is = absurd (omega (arith, is.0))
token_blanks_go blank (c ∷ method) x is = blanks_go blank c (method ++ x) (token_no_end c (All-head (λ b. IsTrue (is_token_byte b)) c method is.1))

-- what stands behind a request line
abbrev line_on : RequestHead → List ℕ → List ℕ
line_on h x = h.method ++ (32 ∷ (h.target ++ (32 ∷ (print_version h.minor ++ (print_end h.line_end ++ x)))))

one_line : (h : RequestHead) (x : List ℕ) (n : ℕ) → IsRequestHead h → behind_lines (suc n) (line_on h x) ≡ behind_lines n x
one_line h x n is =
    skips is_token_byte no_token h.method _ n is.method.1
    ∙ skips is_uri_byte refl h.target _ n is.target.1
    ∙ version_skips h.minor _ n is.minor
    ∙ ends h.line_end x n

-- ---- a head without its end

abbrev body_of : RequestHead → List ℕ
body_of h = print_blank h.blank ++ line_on h (flat_map print_field h.fields)

head_text : (h : RequestHead) → print_request h ≡ body_of h ++ print_end h.last
unfolding print_request
head_text h = simp (append_assoc, cons-append)

front_of_end : (a b : List ℕ) (e : LineEnd) → a ++ 10 ∷ [] ≡ b ++ print_end e → (extra : List ℕ) × (a ≡ b ++ extra)
front_of_end a b lf e = ([], (same_from_push a b 10 10 e).0 ∙ sym (append-nil b))
front_of_end a b crlf e = (13 ∷ [], (same_from_push a (b ++ 13 ∷ []) 10 10 (e ∙ sym (append_assoc b (13 ∷ []) (10 ∷ [])))).0)

lines_of : (h : RequestHead) (x : List ℕ) → IsRequestHead h → 64 ≤ length h.fields → behind_lines 65 (behind_ends (body_of h ++ x)) ≡ flat_map print_field (drop 64 h.fields) ++ x
lines_of h x is many =
    let rest = flat_map print_field h.fields ++ x in
    let parts : body_of h ++ x ≡ print_blank h.blank ++ line_on h rest = simp append_assoc in
    ap (λ (b : List ℕ). behind_lines 65 (behind_ends b)) parts
    ∙ ap (behind_lines 65) (token_blanks_go h.blank h.method _ is.method)
    ∙ one_line h rest 64 is
    ∙ many_fields 64 h.fields x is.fields many

-- a field begins with no end of a line
field_begins : (fields : List Field) (x : List ℕ) → All IsField fields → 0 < length fields → (c : ℕ) × (more : List ℕ) × (flat_map print_field fields ++ x ≡ c ∷ more) × IsNoEnd c
field_begins [] x all h = absurd (omega arith)
field_begins (f ∷ fields) x all h = name_begins f.name (All-head IsField f fields all).name refl
  where
    name_begins : (name : List ℕ) → IsToken name → name ≡ f.name → (c : ℕ) × (more : List ℕ) × (flat_map print_field (f ∷ fields) ++ x ≡ c ∷ more) × IsNoEnd c
    name_begins [] is e = absurd (omega (arith, is.0))
    name_begins (c ∷ name) is e =
        let whole : flat_map print_field (f ∷ fields) ++ x ≡ f.name ++ (58 ∷ (f.raw ++ (print_end f.end ++ (flat_map print_field fields ++ x)))) = simp append_assoc in
        (c, name ++ (58 ∷ (f.raw ++ (print_end f.end ++ (flat_map print_field fields ++ x)))), whole ∙ ap (λ (n : List ℕ). n ++ (58 ∷ (f.raw ++ (print_end f.end ++ (flat_map print_field fields ++ x))))) (sym e), token_no_end c (All-head (λ b. IsTrue (is_token_byte b)) c name is.1))

all_behind : (n : ℕ) (fields : List Field) → All IsField fields → All IsField (drop n fields)
all_behind zero fields all = all
all_behind (suc n) [] all = all
all_behind (suc n) (f ∷ fields) all = all_behind n fields (All-tail IsField f fields all)

pub many_lines : (bytes : List ℕ) → IsCrowded bytes → HasManyLines bytes
many_lines bytes crowded =
    let front = crowded.exceeds.0 in
    let rest = crowded.exceeds.1 in
    let h = crowded.exceeds.3 in
    let reads = crowded.exceeds.4 in
    let many = crowded.exceeds.5 in
    let text : front ++ 10 ∷ [] ≡ body_of h ++ print_end h.last = reads.1 ∙ append-nil (print_request h) ∙ head_text h in
    let extra = front_of_end front (body_of h) h.last text in
    let whole : bytes ≡ body_of h ++ (extra.0 ++ rest) = crowded.exceeds.2 ∙ ap (λ (a : List ℕ). a ++ rest) extra.1 ∙ append_assoc (body_of h) extra.0 rest in
    let lines = lines_of h (extra.0 ++ rest) reads.0 (omega (arith, many)) in
    let next = field_begins (drop 64 h.fields) (extra.0 ++ rest) (all_behind 64 h.fields reads.0.fields) (omega (arith, many, length-drop 64 h.fields)) in
    record {
      first = next.0;
      rest = next.1;
      is = ap (λ (b : List ℕ). behind_lines 65 (behind_ends b)) whole ∙ lines ∙ next.2;
      not_cr = next.3.not_cr;
      not_lf = next.3.not_lf;
    }
