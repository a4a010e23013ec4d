-- What the kind of a request means.
use Rattle.std.specs.Prelude.{◌≡◌, ◌↔◌, ℕ, List, Option, unwrap_or}
use Rattle.hmac_keys.specs.declared.kinds.KeyKind.{KeyKind}
use Rattle.hmac_keys.specs.declared.kinds.KeyKind.TheVariants.{Symmetric}
use Rattle.hmac_keys.specs.declared.kinds.KindRead.TheVariants.{Kind}
use Rattle.hmac_keys.specs.Kind.{usage_text, spec_text}
use Rattle.hmac_keys.specs.Asked.{kind_of}

-- A request fits a kind: each text is the kind's own. An absent usage stands for that of symmetric keys,
-- and an absent spec for the other one, or for that of symmetric keys where both are absent.
pub record Fits (usage master spec : Option (List ℕ)) (kind : KeyKind) : Type 0 where
  pub usage_own : unwrap_or usage (usage_text Symmetric) ≡ usage_text kind
  pub master_own : unwrap_or master (unwrap_or spec (spec_text Symmetric)) ≡ spec_text kind
  pub spec_own : unwrap_or spec (unwrap_or master (spec_text Symmetric)) ≡ spec_text kind

-- the answer is a kind exactly where the request fits it
abbrev pub KindOfFits : Type 0
KindOfFits =
    (usage master spec : Option (List ℕ)) (kind : KeyKind)
    → (kind_of usage master spec ≡ Kind kind) ↔ Fits usage master spec kind
