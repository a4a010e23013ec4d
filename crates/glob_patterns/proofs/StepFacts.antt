-- Sums of the steps of windows and of parts.
use Rattle.std.proofs.Common.{◌≡◌, ℕ, ◌+◌, ◌*◌, ◌/◌, ◌≤◌, List, ◌∷◌, ◌++◌, length, ap, sym, ◌∙◌, subst, arith}
use Rattle.std.proofs.Math.Nat.{mul-le-mul_left}
use Rattle.std.proofs.lemmas.List.{length-append}
use Rattle.std.proofs.lemmas.Str.{chars-IsAscii}
use Rattle.std.specs.Str.{chars, IsAscii}
use Rattle.kms_names.specs.Glob.{star}
use Rattle.glob_patterns.specs.Costs.{read_cost, match_cost}
use Rattle.glob_patterns.specs.declared.letters.Letters.{Letters}
use Rattle.glob_patterns.specs.declared.letters.Letters.TheVariants.{Ascii}

-- one window fewer is left
pub window_passed : (p before after left next end : ℕ) → after ≤ before + p → next + 1 ≡ left → before + p * left ≤ end → after + p * next ≤ end
window_passed p before after left next end one less h = omega (arith, one, subst (λ l. before + p * l ≤ end) (sym less) h)

-- all places of a part stand in the windows of the text
pub windows_fit : (p places len before after : ℕ) → places ≤ len + 1 → after ≤ before + p * ((places + 255) / 256) → after ≤ before + p * (len / 256 + 1)
windows_fit p places len before after fit h =
    let fewer : (places + 255) / 256 ≤ len / 256 + 1 = omega arith in
    omega (arith, h, mul-le-mul_left p fewer)

pub cut_long : (text front rest : List ℕ) → chars text ≡ chars front ++ star ∷ chars rest → length (chars text) ≡ length (chars front) + (length (chars rest) + 1)
cut_long text front rest cut = omega (arith, ap length cut, length-append (chars front) (star ∷ chars rest))

-- the windows of what is left of a text are no more than those of the whole
windows_left : (left whole : ℕ) → left ≤ whole → left / 256 + 1 ≤ whole / 256 + 1
windows_left left whole h = omega arith

-- a part of m characters between two `*` was found
pub part_passed : (m others rest left whole before after end : ℕ) → rest ≡ m + (others + 1) → left ≤ whole
    → after ≤ before + (m + 1) * (left / 256 + 1) → before + rest * (whole / 256 + 1) ≤ end → after + others * (whole / 256 + 1) ≤ end
part_passed m others rest left whole before after end cut shorter one h =
    let all : before + (m + (others + 1)) * (whole / 256 + 1) ≤ end = subst (λ r. before + r * (whole / 256 + 1) ≤ end) cut h in
    let more : (m + 1) * (left / 256 + 1) ≤ (m + 1) * (whole / 256 + 1) = mul-le-mul_left (m + 1) (windows_left left whole shorter) in
    omega (arith, one, all, more)

-- a step for each character is no more than one for each character and window
pub one_by_one : (p len before after : ℕ) → after ≤ before + p → after ≤ before + p * (len / 256 + 1)
one_by_one p len before after h = omega (arith, h)

-- the part of m characters before the first `*`, and what stands behind it
pub front_passed : (m others all left whole before middle after : ℕ) → all ≡ m + (others + 1) → left ≤ whole
    → middle ≤ before + m → after ≤ middle + others * (left / 256 + 1) → after ≤ before + all * (whole / 256 + 1)
front_passed m others all left whole before middle after cut shorter front rest =
    let more : others * (left / 256 + 1) ≤ others * (whole / 256 + 1) = mul-le-mul_left others (windows_left left whole shorter) in
    subst (λ r. after ≤ before + r * (whole / 256 + 1)) (sym cut) (omega (arith, front, rest, more))

-- an ASCII text has as many bytes as characters
pub cost_ascii : (p t bytes : List ℕ) (read : Letters) (before after : ℕ) → IsAscii t → bytes ≡ t → read ≡ Ascii
    → after ≤ before + length (chars p) * (length bytes / 256 + 1) → after ≤ before + match_cost p t read
cost_ascii p t bytes read before after ascii same is h =
    let counted : after ≤ before + read_cost p t = subst (λ (l : List ℕ). after ≤ before + length (chars p) * (length l / 256 + 1)) (same ∙ sym (chars-IsAscii t ascii)) h in
    subst (λ r. after ≤ before + match_cost p t r) (sym is) counted
