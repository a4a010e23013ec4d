-- What a signing key is kept under.
use Rattle.std.specs.Prelude.{ℕ, Bool, ◌&&◌, List, codes}
use Rattle.std.specs.Str.{bytes_eq}
use Rattle.sigv4_check.specs.Signing.{signing_key_of}

-- whose key of this service it is: the secret, the day and the region
pub record Scoped : Type 0 where
  pub secret : List ℕ
  pub date : List ℕ
  pub region : List ℕ

-- the secret, the day and the region are these
abbrev pub is_of : Scoped → List ℕ → List ℕ → List ℕ → Bool
is_of scoped secret date region = bytes_eq scoped.secret secret && (bytes_eq scoped.date date && bytes_eq scoped.region region)

-- the signing key of this service for a secret, a day and a region
abbrev pub service_key_of : List ℕ → List ℕ → List ℕ → List ℕ
service_key_of secret date region = signing_key_of secret date region (codes "kms")
