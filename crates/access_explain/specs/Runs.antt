-- Runs of marks beside what they are marks of.
use Rattle.std.specs.Prelude.{◌≡◌, ◌⊎◌, Bool, List, [], ◌∷◌, ⊤}
use Rattle.policy_doc.specs.declared.policies.Statement.{Statement}
use Rattle.access_explain.specs.declared.marks.Mark.{Mark}

-- two lists are of one length, and the relation holds of the items at each place
abbrev pub OneByOne : {X Y : Type 0} → (X → Y → Type 0) → List X → List Y → Type 0
OneByOne R [] [] = ⊤
OneByOne R [] (y ∷ ys) = ⊥
OneByOne R (x ∷ xs) [] = ⊥
OneByOne R (x ∷ xs) (y ∷ ys) = R x y × OneByOne R xs ys

-- some statement of this effect (Allow where it is true, else Deny) has this mark
abbrev pub SomeIs : Bool → Mark → List Statement → List Mark → Type 0
SomeIs allow mark [] marks = ⊥
SomeIs allow mark (s ∷ statements) [] = ⊥
SomeIs allow mark (s ∷ statements) (m ∷ marks) = ((s.allow ≡ allow) × (m ≡ mark)) ⊎ SomeIs allow mark statements marks
