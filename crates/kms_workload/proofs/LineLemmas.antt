-- Lines that are cut off a text.
use Rattle.std.proofs.Common.{◌≡◌, ◌≢◌, ◌+◌, ℕ, suc, List, [], ◌∷◌, ◌++◌, length, take, drop, Bool, true, false, ◌==◌, ◌||◌, if◌then◌else◌, refl, sym, ap, ◌∙◌, arith, take_at, drop_at}
use Rattle.kms_workload.specs.Lines.{line_size, has_return, line_text, IsLine, IsRest, no_line, two_lines, three_lines}

one_more : (ends others : Bool) (n m : ℕ) → (ends || others) ≡ false → (others ≡ false → n ≡ m) → (if ends then 0 else 1 + n) ≡ suc m
one_more true others n m h same = cc
one_more false others n m h same = let e = same h in omega (arith, e)

-- a line ends before its carriage return
line_size-line : (line more : List ℕ) → has_return line ≡ false → line_size (line ++ 13 ∷ more) ≡ length line
line_size-line [] more h = refl
line_size-line (byte ∷ line) more h = one_more (byte == 13) (has_return line) (line_size (line ++ 13 ∷ more)) (length line) h (line_size-line line more)

pub line_cut : (text line more : List ℕ) (size : ℕ) → size ≡ line_size text → has_return line ≡ false → text ≡ line_text line more
    → (take size text ≡ line) × (drop 2 (drop size text) ≡ more)
line_cut text line more size is one split =
    let e : size ≡ length line = is ∙ ap line_size split ∙ line_size-line line (10 ∷ more) one in
    let front : take size text ≡ line = ap (take size) split ∙ take_at line (13 ∷ 10 ∷ more) size (sym e) in
    let back : drop size text ≡ 13 ∷ 10 ∷ more = ap (drop size) split ∙ drop_at line (13 ∷ 10 ∷ more) size (sym e) in
    (front, ap (drop 2) back)

-- the text begins with this line, before this rest, if it begins with any
abbrev pub BeginsWith : List ℕ → List ℕ → List ℕ → Type 0
BeginsWith text first rest = (line more : List ℕ) → has_return line ≡ false → text ≡ line_text line more → (first ≡ line) × (rest ≡ more)

filled : (line first : List ℕ) → IsLine line → first ≡ line → length first ≡ 0 → ⊥
filled line first is same empty = absurd (omega (arith, ap length (same ∙ is.is)))

empty_not : (first : List ℕ) → first ≡ [] → length first ≢ 0 → ⊥
empty_not first is filled = filled (ap length is)

pub behind_none : (text first rest more : List ℕ) → BeginsWith text first rest → length first ≡ 0 → IsRest text more → rest ≡ more
behind_none text first rest more begins empty (no_line is) = (begins [] more refl is).1
behind_none text first rest more begins empty (two_lines date front one two is) = absurd (filled date first one (begins date _ one.one is).0 empty)
behind_none text first rest more begins empty (three_lines date front close one two three is) = absurd (filled date first one (begins date _ one.one is).0 empty)

pub behind_two : (text first rest second rest_two third rest_three more : List ℕ) → BeginsWith text first rest → length first ≢ 0 → BeginsWith rest second rest_two
    → BeginsWith rest_two third rest_three → length third ≡ 0 → IsRest text more → rest_three ≡ more
behind_two text first rest second rest_two third rest_three more begins some begins_two begins_three empty (no_line is) = absurd (empty_not first (begins [] more refl is).0 some)
behind_two text first rest second rest_two third rest_three more begins some begins_two begins_three empty (two_lines date front one two is) =
    let first_is = (begins date _ one.one is).1 in
    let second_is = (begins_two front _ two.one first_is).1 in
    (begins_three [] more refl second_is).1
behind_two text first rest second rest_two third rest_three more begins some begins_two begins_three empty (three_lines date front close one two three is) =
    let first_is = (begins date _ one.one is).1 in
    let second_is = (begins_two front _ two.one first_is).1 in
    absurd (filled close third three (begins_three close _ three.one second_is).0 empty)

pub behind_three : (text first rest second rest_two third rest_three fourth rest_four more : List ℕ) → BeginsWith text first rest → length first ≢ 0 → BeginsWith rest second rest_two
    → BeginsWith rest_two third rest_three → length third ≢ 0 → BeginsWith rest_three fourth rest_four → IsRest text more → rest_four ≡ more
behind_three text first rest second rest_two third rest_three fourth rest_four more begins some begins_two begins_three some_more begins_four (no_line is) = absurd (empty_not first (begins [] more refl is).0 some)
behind_three text first rest second rest_two third rest_three fourth rest_four more begins some begins_two begins_three some_more begins_four (two_lines date front one two is) =
    let first_is = (begins date _ one.one is).1 in
    let second_is = (begins_two front _ two.one first_is).1 in
    absurd (empty_not third (begins_three [] more refl second_is).0 some_more)
behind_three text first rest second rest_two third rest_three fourth rest_four more begins some begins_two begins_three some_more begins_four (three_lines date front close one two three is) =
    let first_is = (begins date _ one.one is).1 in
    let second_is = (begins_two front _ two.one first_is).1 in
    let third_is = (begins_three close _ three.one second_is).1 in
    (begins_four [] more refl third_is).1
