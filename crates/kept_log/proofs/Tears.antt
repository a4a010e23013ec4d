-- A file in memory after steps, of which the last was done in part.
use Rattle.std.proofs.Common.{◌≡◌, inl, inr, ℕ, zero, suc, ◌+◌, ◌-◌, ◌≤◌, Bool, List, [], ◌∷◌, length, min, take, drop, refl, sym, ◌∙◌, ap, subst, arith, length-take, length-drop}
use Rattle.std.proofs.lemmas.List.{drop-drop, take_min, take_all}
use Rattle.std.proofs.lemmas.Bool.{cases_lt}
use Rattle.std.proofs.lemmas.Bool.Decides.{nat_tests}
use Rattle.kept_log.specs.Device.{IsMix, Torn, Cut, overlaid}
use Rattle.kept_log.specs.declared.memory.Step.{Step}
use Rattle.kept_log.specs.declared.memory.Step.TheVariants.{Wrote, CutTo, Synced}
use Rattle.kept_log.specs.Memory.{LeftSince, done, partly, torn_after}
use Rattle.kept_log.proofs.Steps.{mix_old}
use Rattle.kept_log.proofs.Past.{torn_whole, cut_whole, takes_done}

-- a mix of the first bytes, and the old ones behind them
mix_front : (part : ℕ) (old bytes new : List ℕ) → length old ≡ length bytes → IsMix (take part old) (take part bytes) (take part new) → drop part new ≡ drop part old → IsMix old bytes new
mix_front zero old bytes new size mix same = subst (IsMix old bytes) (sym same) (mix_old old bytes size)
mix_front (suc part) [] [] [] size mix same = tt
mix_front (suc part) [] [] (n ∷ new) size mix same = absurd mix
mix_front (suc part) [] (b ∷ bytes) new size mix same = absurd (omega (arith, size))
mix_front (suc part) (o ∷ old) [] new size mix same = absurd (omega (arith, size))
mix_front (suc part) (o ∷ old) (b ∷ bytes) [] size mix same = absurd mix
mix_front (suc part) (o ∷ old) (b ∷ bytes) (n ∷ new) size mix same = (mix.0, mix_front part old bytes new (omega (arith, size)) mix.1 same)

-- a write of the first bytes, so many, is one that was torn
torn_front : (mixes : Bool) (at part : ℕ) (bytes old new : List ℕ) → Torn mixes at (take part bytes) old new → Torn mixes at bytes old new
torn_front mixes at part bytes old new torn =
    let came = length (take part bytes) in
    let fewer : came ≡ min part (length bytes) = length-take part bytes in
    let more = length bytes - came in
    let sum : at + came + more ≡ at + length bytes = omega (arith, fewer) in
    let behind : drop (at + length bytes) new ≡ drop (at + length bytes) old =
    ap (λ (n : ℕ). drop n new) (sym sum) ∙ sym (drop-drop more (at + came) new) ∙ ap (λ (l : List ℕ). drop more l) torn.after ∙ drop-drop more (at + came) old ∙ ap (λ (n : ℕ). drop n old) sum in
    record {
      before = torn.before;
      after = behind;
      no_shorter = torn.no_shorter;
      no_longer = omega (arith, torn.no_longer, fewer);
      mixed = λ is within.
          let n = length bytes in
          let olds = take n (drop at old) in
          let news = take n (drop at new) in
          let size : length olds ≡ n = omega (arith, within, length-take n (drop at old), length-drop at old) in
          let mix = torn.mixed is (omega (arith, within, fewer)) in
          let front : IsMix (take came olds) (take part bytes) (take came news) =
          subst (λ (l : List ℕ). IsMix l (take part bytes) (take came news)) (sym (take_take came n (drop at old) (omega (arith, fewer))))
          (subst (λ (l : List ℕ). IsMix (take came (drop at old)) (take part bytes) l) (sym (take_take came n (drop at new) (omega (arith, fewer)))) mix) in
          let rest : drop came news ≡ drop came olds =
          drop_take came n (drop at new) ∙ ap (λ (l : List ℕ). take (n - came) l) (drop-drop came at new ∙ torn.after ∙ sym (drop-drop came at old)) ∙ sym (drop_take came n (drop at old)) in
          mix_front came olds bytes news size (subst (λ (l : List ℕ). IsMix (take came olds) l (take came news)) (took part bytes) front) rest;
    }
  where
    take_take : (m n : ℕ) (l : List ℕ) → m ≤ n → take m (take n l) ≡ take m l
    take_take zero n l le = refl
    take_take (suc m) zero l le = absurd (omega (arith, le))
    take_take (suc m) (suc n) [] le = refl
    take_take (suc m) (suc n) (x ∷ l) le = ap (λ (t : List ℕ). x ∷ t) (take_take m n l (omega (arith, le)))

    drop_take : (m n : ℕ) (l : List ℕ) → drop m (take n l) ≡ take (n - m) (drop m l)
    drop_take zero n l = let e : n ≡ n - zero = omega arith in ap (λ (k : ℕ). take k l) e
    drop_take (suc m) zero l = let e : zero ≡ zero - suc m = omega arith in ap (λ (k : ℕ). take k (drop (suc m) l)) e
    drop_take (suc m) (suc n) [] = sym (take_all (suc n - suc m) [] (omega arith))
    drop_take (suc m) (suc n) (x ∷ l) = let e : n - m ≡ suc n - suc m = omega arith in drop_take m n l ∙ ap (λ (k : ℕ). take k (drop m l)) e

    took : (part : ℕ) (bytes : List ℕ) → take part bytes ≡ take (length (take part bytes)) bytes
    took part bytes = sym (take_min part bytes) ∙ ap (λ (n : ℕ). take n bytes) (sym (length-take part bytes))

cut_in_part : (n part : ℕ) (old : List ℕ) → Cut n old (take (n + part) old)
cut_in_part n part old =
    let whole = cut_whole (n + part) old in
    record { no_shorter = omega (arith, whole.no_shorter); front = whole.front }

wrote_in_part : (mixes : Bool) (at part : ℕ) (bytes old : List ℕ) → at ≤ length old → Torn mixes at bytes old (overlaid old at (take part bytes))
wrote_in_part mixes at part bytes old le = torn_front mixes at part bytes old (overlaid old at (take part bytes)) (torn_whole mixes at (take part bytes) old le)

-- once so many steps came whole, and a part of the next
torn_left : (mixes : Bool) (whole part : ℕ) (steps : List Step) (file : List ℕ) → LeftSince mixes file steps 0 (torn_after file steps whole part)
torn_left mixes zero part [] file = (0, omega arith, omega arith, refl)
torn_left mixes (suc whole) part [] file = (0, omega arith, omega arith, refl)
torn_left mixes zero part (Synced all ∷ later) file = (0, omega arith, omega arith, refl)
torn_left mixes zero part (CutTo n ∷ later) file = (1, omega arith, omega arith, (take (n + part) file, cut_in_part n part file, refl))
torn_left mixes zero part (Wrote at bytes ∷ later) file = elim (cases_lt (length file) at) [
  | inl high ↦
      let same : partly (Wrote at bytes) part file ≡ file = grind (arith, nat_tests) in
      (0, omega arith, omega arith, same)
  | inr low ↦
      let le : at ≤ length file = omega (arith, low) in
      let is : partly (Wrote at bytes) part file ≡ overlaid file at (take part bytes.items) = grind (arith, nat_tests) in
      (1, omega arith, omega arith, (overlaid file at (take part bytes.items), wrote_in_part mixes at part bytes.items file le, is))
]
torn_left mixes (suc whole) part (step ∷ later) file =
    let rest = torn_left mixes whole part later (done step file) in
    (suc rest.0, omega arith, omega (arith, rest.2), (done step file, takes_done mixes step file, rest.3))

pub left_in_part : (mixes : Bool) (file : List ℕ) (steps : List Step) (whole part : ℕ) → LeftSince mixes file steps 0 (torn_after file steps whole part)
left_in_part mixes file steps whole part = torn_left mixes whole part steps file
