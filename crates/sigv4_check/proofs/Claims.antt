-- What an Authorization header's parts come to.
use Rattle.std.proofs.Common.{◌≡◌, ◌≢◌, inl, inr, ℕ, List, ◌∷◌, length, map, Bool, false, ◌&&◌, None, sym, ap, ◌∙◌, arith, codes}
use Rattle.std.proofs.lemmas.List.{length-map}
use Rattle.std.specs.Str.{bytes_eq}
use Rattle.kms_names.specs.Reading.{some_if}
use Rattle.sigv4_check.specs.Parts.{parts_at, skip_spaces}
use Rattle.sigv4_check.specs.Authorization.{scope_in, scope_of}
use Rattle.sigv4_check.proofs.Cuts.{one_or_more, parts_some}

-- four parts, and what stands behind them
module _ (text a b c d : List ℕ) (id date region service : List ℕ)
    (first : parts_at 47 text ≡ id ∷ parts_at 47 a) (second : parts_at 47 a ≡ date ∷ parts_at 47 b)
    (third : parts_at 47 b ≡ region ∷ parts_at 47 c) (fourth : parts_at 47 c ≡ service ∷ parts_at 47 d) where
  abbrev behind : List (List ℕ) → List (List ℕ)
  behind parts = id ∷ date ∷ region ∷ service ∷ parts

  all : parts_at 47 text ≡ behind (parts_at 47 d)
  all = first ∙ ap (λ (ps : List (List ℕ)). id ∷ ps) (second ∙ ap (λ (ps : List (List ℕ)). date ∷ ps) (third ∙ ap (λ (ps : List (List ℕ)). region ∷ ps) fourth))

  -- no scope, where it isn't of this service
  pub no_scope : false ≡ (bytes_eq service (codes "kms") && bytes_eq d (codes "aws4_request")) → None ≡ scope_of text
  no_scope is = elim (one_or_more 47 d) [
    | inl one ↦ sym (ap scope_in (all ∙ ap behind one) ∙ ap (λ (t : Bool). some_if t (record { id = id; date = date; region = region })) (sym is))
    | inr more ↦ sym (ap scope_in (all ∙ ap behind more.3))
  ]

-- more than three parts
pub not_three : (text a b c : List ℕ) (first second third : List ℕ) → parts_at 44 text ≡ first ∷ parts_at 44 a → parts_at 44 a ≡ second ∷ parts_at 44 b
    → parts_at 44 b ≡ third ∷ parts_at 44 c → length (map skip_spaces (parts_at 44 text)) ≢ 3
not_three text a b c first second third one two three h =
    omega (arith, h, length-map (parts_at 44 text) skip_spaces, ap length one, ap length two, ap length three, parts_some 44 c)
