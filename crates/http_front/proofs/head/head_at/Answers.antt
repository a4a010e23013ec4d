use Rattle.std.proofs.Common.{◌≡◌, List, ℕ, ◌++◌, decimal, ap, ◌∙◌, refl}
use Rattle.http_front.proofs.head.head_at.Goals as goal

-- one more part
with_part : {a b x y z : List ℕ} → a ≡ x → b ≡ a ++ y → y ≡ z → b ≡ x ++ z
with_part {x = x} {y = y} h k e = k ∙ ap (λ front. front ++ y) h ∙ ap (λ part. x ++ part) e

pub returns : goal.returns
returns c =
    let a = with_part c.new-head.ensures c.push.ensures refl in
    let b = with_part a c.push_number.ensures.new (ap decimal c.from.ensures) in
    let d = with_part b c.push-2.ensures refl in
    let e = with_part d c.push-3.ensures c.reason.ensures.value in
    let f = with_part e c.push-4.ensures refl in
    let g = with_part f c.push_number-2.ensures.new refl in
    let h = with_part g c.push-5.ensures refl in
    let i = with_part h c.push-6.ensures refl in
    let j = with_part i c.push-7.ensures refl in
    let k = with_part j c.push_number-3.ensures.new refl in
    let l = with_part k c.push-8.ensures refl in
    let m = with_part l c.push-9.ensures c.close.ensures.value in
    with_part m c.push-10.ensures refl
