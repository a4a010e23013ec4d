-- The steps keep the rule.
use Rattle.std.proofs.Common.{◌≡◌, ◌≢◌, ℕ, List, set, refl, ◌∙◌, subst, ⊎_elim, Option, Some, None}
use mathlib.Core.Option.{some}
use lib.ListN.{get_elem?}
use Rattle.left_right.specs.Register.{Admits, TurnsAt, Forks, Merges}
use Rattle.atomic_table.proofs.Lists.{at_set, at_snoc}
use Rattle.logbook.specs.Pages.{Book}
use Rattle.account_steps.specs.declared.facts.RealmFacts.{RealmFacts}
use Rattle.published_account.specs.Pairs.{Shown}
use Rattle.published_account.specs.Rules.{Fits, Keeps, GoesOn, Looks, Names, Knows}
use Rattle.published_account.proofs.Lists.{prefix_self, prefix_trans}

pub goes_self : (x : Shown) → GoesOn x x
goes_self x = record { pairs = prefix_self x.whole.pairs; book = refl; facts = refl; passes = refl; loaded = refl }

pub goes_trans : (x y z : Shown) → GoesOn x y → GoesOn y z → GoesOn x z
goes_trans x y z p q = record {
  pairs = prefix_trans x.whole.pairs y.whole.pairs z.whole.pairs p.pairs q.pairs;
  book = q.book ∙ p.book;
  facts = q.facts ∙ p.facts;
  passes = q.passes ∙ p.passes;
  loaded = q.loaded ∙ p.loaded;
}

pub fits_on : (x y : Shown) (v : Option Shown) → GoesOn x y → Fits x v → Fits y v
fits_on x y None on fits = tt
fits_on x y (Some u) on fits = goes_trans u x y fits on

-- a view at one seat is replaced by another that fits
pub keeps_set : (x : Shown) (views : List (Option Shown)) (seat : ℕ) (w : Option Shown) → Keeps x views → Fits x w → Keeps x (set views seat w)
keeps_set x views seat w h fits j u at = ⊎_elim (λ (t : (j ≡ seat) × (w ≡ u)). subst (Fits x) t.1 fits) (λ (t : (j ≢ seat) × (get_elem? views j ≡ some u)). h j u t.1) (at_set views seat j w u at)

pub admits : Admits Keeps None
admits x views h seat v at = ⊎_elim (h seat v) (λ (e : None ≡ v). subst (Fits x) e tt) (at_snoc views None v seat at)

pub turns : (seat : ℕ) (v : Option Shown) (x y : Shown) → GoesOn x y → TurnsAt Keeps seat v x y Looks
turns seat v x y on views h at = (
  Some y,
  keeps_set y views seat (Some y) (λ j u e. fits_on x y u on (h j u e)) (goes_self y),
  (refl, fits_on x y v on (h seat v at)),
)

pub forks : (seat : ℕ) (v : Option Shown) → Forks Keeps seat v v v
forks seat v x views h at j u e = ⊎_elim (keeps_set x views seat v h (h seat v at) j u) (λ (same : v ≡ u). subst (Fits x) same (h seat v at)) (at_snoc (set views seat v) v u j e)

-- a seat takes over what another has seen
pub merges : (seat : ℕ) (v : Option Shown) (other : ℕ) (w : Option Shown) → Merges Keeps seat v other w w None
merges seat v other w x views h at apart there =
    let wf : Fits x w = ⊎_elim (λ (t : (other ≡ seat) × (w ≡ w)). absurd (apart t.0)) (λ (t : (other ≢ seat) × (get_elem? views other ≡ some w)). h other w t.1) (at_set views seat other w w there) in
    keeps_set x (set views seat w) other None (keeps_set x views seat w h wf) tt

-- what a seat knows of the names goes for all that it sees
pub knows_on : (b : Book) (f : RealmFacts) (n l : ℕ) (v : Option Shown) (y : Shown) → Knows b f n l v → Fits y v → Names b f n l y
knows_on b f n l None y k fits = absurd k
knows_on b f n l (Some u) y k fits = (fits.book ∙ k.0, fits.facts ∙ k.1, fits.passes ∙ k.2, fits.loaded ∙ k.3)
