-- Why a question is allowed or denied: the first row of a table that fits.
use Rattle.std.specs.Prelude.{◌≡◌, ◌⊎◌, Bool, true, false, List, [], ◌∷◌}
use Rattle.access_explain.specs.declared.grounds.Ground.{Ground}
use Rattle.access_explain.specs.declared.grounds.Ground.TheVariants as ground
use Rattle.access_explain.specs.declared.subjects.Subject.{Subject}
use Rattle.access_explain.specs.declared.subjects.Subject.TheVariants as about

-- the rows of the table for questions about a key, about a resource that is no key, and about a grant that is to be retired, in their
-- order
abbrev pub rows_for : Subject → List Ground
rows_for (about.Key key) =
    ground.KeyDeny ∷ ground.IdentityDeny ∷ ground.Ceiling ∷ ground.KeyPolicy ∷ ground.RootAndIdentity ∷ ground.Grant ∷ ground.Nothing ∷ []
rows_for about.Other = ground.IdentityDeny ∷ ground.Ceiling ∷ ground.Identity ∷ ground.Root ∷ ground.Nothing ∷ []
rows_for (about.Retiring key grant) = ground.Retire ∷ ground.Nothing ∷ []

-- the ground is the first of these rows that fits
abbrev pub IsFirst : (Ground → Type 0) → List Ground → Ground → Type 0
IsFirst Fits [] g = ⊥
IsFirst Fits (row ∷ rows) g = (Fits row × (g ≡ row)) ⊎ (¬ (Fits row) × IsFirst Fits rows g)

-- the grounds by which a question is allowed; by the others it is denied
abbrev pub allows : Ground → Bool
allows ground.KeyDeny = false
allows ground.IdentityDeny = false
allows ground.Ceiling = false
allows ground.KeyPolicy = true
allows ground.RootAndIdentity = true
allows ground.Grant = true
allows ground.Identity = true
allows ground.Root = true
allows ground.Retire = true
allows ground.Nothing = false
