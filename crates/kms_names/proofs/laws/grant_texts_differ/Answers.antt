use Rattle.std.proofs.Common.{◌≡◌, List, ℕ, Result, Ok, sym, ◌∙◌, ap}
use Rattle.hex.specs.Hex.{decode_of}
use Rattle.hex.proofs.HexLemmas.{decode_of-encode_lower}
use Rattle.kms_names.proofs.AsciiFacts.{IsBytes-from_list}
use Rattle.kms_names.proofs.laws.grant_texts_differ.Goals as goal

Ok-injective : {E : Type 0} (a b : List ℕ) → ◌≡◌ {A = Result (List ℕ) E} (Ok a) (Ok b) → a ≡ b
Ok-injective a b same = cc

pub returns : goal.returns
returns c = λ a b id_a id_b same. Ok-injective _ _ (sym (decode_of-encode_lower a (IsBytes-from_list 32 a id_a)) ∙ ap decode_of same ∙ decode_of-encode_lower b (IsBytes-from_list 32 b id_b))
