-- What is written after one another.
use Rattle.std.proofs.Common.{◌≡◌, ℕ, List, [], ◌∷◌, ◌++◌, Option, Some, None, option_map, refl, ap, ◌∙◌, append_assoc, append-nil}
use Rattle.json.specs.Token.{Token}
use Rattle.json.specs.Tree.{items_tokens}
use Rattle.serde_json.specs.Data.{Data, Members, string}
use Rattle.serde_json.specs.Written.{items_outline}
use Rattle.serde_json.specs.View.{items_of}
use Rattle.kms_json.specs.Objects.{with_any}
use Rattle.kms_json.specs.Texts.{member_tokens, closing_tokens}

-- the tokens of a list's last rows, with the closing bracket
abbrev pub closing_items : List Data → List Token
closing_items ds = items_tokens (items_outline (items_of ds))

-- a member more
pub member_adds : (old new : List Token) (name : List ℕ) (o : Option Data) (more : Members)
    → new ≡ old ++ member_tokens name o → new ++ closing_tokens more ≡ old ++ closing_tokens (with_any name o more)
member_adds old new name None more e = ap (λ (ts : List Token). ts ++ closing_tokens more) (e ∙ append-nil old)
member_adds old new name (Some d) more e = ap (λ (ts : List Token). ts ++ closing_tokens more) e ∙ append_assoc old (member_tokens name (Some d)) (closing_tokens more)

-- a token more
pub token_adds : (old new : List Token) (t : Token) (more : List Token) → new ≡ old ++ t ∷ [] → new ++ more ≡ old ++ t ∷ more
token_adds old new t more e = ap (λ (ts : List Token). ts ++ more) e ∙ append_assoc old (t ∷ []) more

-- tokens behind tokens
pub behind : (old mid new a b : List Token) → mid ≡ old ++ a → new ≡ mid ++ b → new ≡ old ++ (a ++ b)
behind old mid new a b first then = then ∙ ap (λ (ts : List Token). ts ++ b) first ∙ append_assoc old a b

-- a text, if there is one
pub texts_if : {A : Type 0} (f : A → List ℕ) (o : Option A) → option_map (λ a. string (f a)) o ≡ option_map string (option_map f o)
texts_if f None = refl
texts_if f (Some a) = refl
