-- Workers in order: the last one, and those before it.
use Rattle.std.proofs.Common.{◌≡◌, List, [], ◌∷◌, ◌++◌, All, refl, ap}
use Rattle.std.proofs.lemmas.List.Elements.{All-nil, All-cons, All-head, All-tail}
use Rattle.publish_pass.specs.Pass.{Pass}
use Rattle.pass_laws.specs.Calls.{Calls}
use Rattle.pass_laws.specs.Orders.{steps_of}
use Rattle.kms_server.specs.Work.{WorkerState}
use Rattle.kms_server.specs.Crew.{Pairwise, none, both}
use Rattle.session_laws.specs.Calls.{steps_by}

-- what a worker did with its pass
abbrev pub Did : Pass → WorkerState → Type 0
Did first worker = Calls first worker.pass

-- the last of these workers, and those before it
pub record EndsWith (ps : List Pass) (p : Pass) (workers : List WorkerState) (did : Pairwise Did (ps ++ p ∷ []) workers) : Type 0 where
  pub before : List WorkerState
  pub last : WorkerState
  pub are : workers ≡ before ++ last ∷ []
  pub each : Pairwise Did ps before
  pub end : Did p last
  pub steps : steps_by did ≡ steps_by each ++ steps_of end ∷ []

pub last_of : (ps : List Pass) (p : Pass) (workers : List WorkerState) (did : Pairwise Did (ps ++ p ∷ []) workers) → EndsWith ps p workers did
last_of [] p [] h = elim h [ ]
last_of [] p (y ∷ []) (both r none) = record { before = []; last = y; are = refl; each = none; end = r; steps = refl }
last_of [] p (y ∷ z ∷ zs) (both r h) = elim h [ ]
last_of (q ∷ qs) p [] h = elim h [ ]
last_of (q ∷ qs) p (y ∷ ys) (both r h) =
    let rest = last_of qs p ys h in
    record { before = y ∷ rest.before; last = rest.last; are = ap (λ zs. y ∷ zs) rest.are; each = both r rest.each; end = rest.end; steps = ap (λ all. steps_of r ∷ all) rest.steps }

pub All-left : {X : Type 0} (P : X → Type 0) (xs ys : List X) → All P (xs ++ ys) → All P xs
All-left P [] ys all = All-nil P
All-left P (x ∷ xs) ys all = All-cons P x xs (All-head P x (xs ++ ys) all) (All-left P xs ys (All-tail P x (xs ++ ys) all))

pub All-right : {X : Type 0} (P : X → Type 0) (xs ys : List X) → All P (xs ++ ys) → All P ys
All-right P [] ys all = all
All-right P (x ∷ xs) ys all = All-right P xs ys (All-tail P x (xs ++ ys) all)
