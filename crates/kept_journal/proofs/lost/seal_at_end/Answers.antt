use Rattle.std.proofs.Common.{◌≡◌, ◌-◌, Bool, true, false, ℕ, List, [], ◌∷◌, ◌++◌, length, take, drop, length-append, take-append-drop, sym, ap, ◌∙◌, arith}
use Rattle.std.specs.Prelude.{slice_range}
use Rattle.std.proofs.lemmas.Slice.Eq.{bytes_eq-Decides}
use Rattle.hex.specs.Hex.{encode_lower}
use Rattle.kept_journal.specs.Lines.{sealed}
use Rattle.kept_journal.specs.Lost.{seal_end}
use Rattle.kept_journal.proofs.Following.{end_size, end_is, end_all, digits_are, one_seal}
use Rattle.kept_journal.proofs.lost.seal_at_end.Goals as goal

pub returns-then-line-lt76 : goal.returns-then-line-lt76
returns-then-line-lt76 c front last form e =
    absurd (omega (arith, ap length e, length-append front (seal_end last), end_size last form.0, c.if-line-lt76.true))

pub returns-in_default : goal.returns-in_default
returns-in_default c front last form e =
    let line = c.args.line.now in
    let n = length line - 76 in
    let end : slice_range line n (length line) ≡ seal_end last = end_all n line ∙ end_is front last line form.0 e in
    c.in_default.ensures last form (ap (λ (l : List ℕ). slice_range l 9 73) end ∙ digits_are last form.0)

pub returns-then-eq : goal.returns-then-eq
returns-then-eq c =
    let line = c.args.line.now in
    let n = length line - 76 in
    let seal = c.in-Some.seal in
    let right : c.as_slice.result.now ≡ seal_end seal =
    c.as_slice.ensures.value ∙ c.in_ok-push.ensures.items ∙ ap (λ (l : List ℕ). l ++ 10 ∷ []) (c.in_ok-append_seal.ensures ∙ ap (λ (t : List ℕ). sealed t seal) c.new-right.ensures.items) in
    let same : c.as_slice.result.now ≡ slice_range line n (length line) = (bytes_eq-Decides c.as_slice.result.now (slice_range line n (length line))).0 (sym c.if-eq.ensures) in
    (c.in-Some.ensures.0, (take n line, sym (take-append-drop n line) ∙ ap (λ (l : List ℕ). take n line ++ l) (sym (end_all n line) ∙ sym same ∙ right)))

pub returns : goal.returns
returns c front last form e =
    let line = c.args.line.now in
    let n = length line - 76 in
    let seal = c.in-Some.seal in
    let end : slice_range line n (length line) ≡ seal_end last = end_all n line ∙ end_is front last line form.0 e in
    let one : seal ≡ last = one_seal seal last c.in-Some.ensures.0 form (sym c.in-Some.ensures.1 ∙ ap (λ (l : List ℕ). slice_range l 9 73) end ∙ digits_are last form.0) in
    let right : c.as_slice.result.now ≡ seal_end seal =
    c.as_slice.ensures.value ∙ c.in_ok-push.ensures.items ∙ ap (λ (l : List ℕ). l ++ 10 ∷ []) (c.in_ok-append_seal.ensures ∙ ap (λ (t : List ℕ). sealed t seal) c.new-right.ensures.items) in
    let both : false ≡ true = c.if-eq.ensures ∙ (bytes_eq-Decides c.as_slice.result.now (slice_range line n (length line))).1 (right ∙ ap seal_end one ∙ sym end) in
    cc
