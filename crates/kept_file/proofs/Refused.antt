-- A write that isn't made.
use Rattle.std.proofs.Common.{◌≡◌, inl, ℕ, Bool, List, [], ◌∷◌, length, take, drop, refl, subst, arith, length-take, length-drop}
use Rattle.kept_log.specs.Device.{IsMix, Torn, Follows}
use Rattle.kept_file.specs.Events.{Event, Leaves}

mix_old : (old bytes : List ℕ) → length old ≡ length bytes → IsMix old bytes old
mix_old [] [] e = tt
mix_old [] (b ∷ bytes) e = absurd (omega (arith, e))
mix_old (o ∷ old) [] e = absurd (omega (arith, e))
mix_old (o ∷ old) (b ∷ bytes) e = (inl refl, mix_old old bytes (omega (arith, e)))

torn_same : (mixes : Bool) (at : ℕ) (bytes file : List ℕ) → Torn mixes at bytes file file
torn_same mixes at bytes file = record {
  before = refl;
  after = refl;
  no_shorter = omega arith;
  no_longer = omega arith;
  mixed = λ _ within. mix_old (take (length bytes) (drop at file)) bytes (omega (arith, within, length-take (length bytes) (drop at file), length-drop at file));
}

pub no_write : (mixes : Bool) (events later : List Event) → later ≡ events → (at : ℕ) (bytes : List ℕ) → Follows (Torn mixes at bytes) (Leaves mixes events) (Leaves mixes later)
no_write mixes events later is at bytes c left = (c, subst (λ (l : List Event). Leaves mixes l c) is left, torn_same mixes at bytes c)
