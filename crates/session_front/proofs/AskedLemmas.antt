-- What the values of a header ask.
use Rattle.std.proofs.Common.{◌≡◌, ℕ, List, [], ◌∷◌, Option, Some, None, Ok, refl, slice_get, false, Bor}
use Rattle.std.specs.Option.{is_some, option_copied}
use Rattle.kms_json.specs.declared.asks.AskBody.{AskBody}
use Rattle.kms_json.specs.Asks.{asked}
use Rattle.session_front.specs.Asked.{asked_once}

-- a header of which the first value is there and no second one stands once
pub one_value : (values : List (List ℕ)) (value : List ℕ) → Some value ≡ slice_get values 0 → None ≡ slice_get values 1 → values ≡ value ∷ []
one_value [] value first second = cc
one_value (a ∷ []) value first second = let same : value ≡ a = cc in cc
one_value (a ∷ b ∷ more) value first second = cc

-- an Option of a reference that is none
pub none_now : {X : Type 0} (found : Option (Bor X)) → false ≡ is_some found → None ≡ option_copied found
none_now None e = refl
none_now (Some x) e = cc

-- what is asked has a target
pub once_asked : (values : List (List ℕ)) (text : List ℕ) (body : AskBody) → asked_once values text ≡ Ok body → (target : List ℕ) × (asked target text ≡ Ok body)
once_asked [] text body is = cc
once_asked (target ∷ []) text body is = (target, is)
once_asked (target ∷ other ∷ more) text body is = cc
