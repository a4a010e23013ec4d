-- What the resource of an ARN names.
use Rattle.std.specs.Prelude.{◌≡◌, ℕ, List}
use Rattle.kms_names.specs.Alias.{IsAliasName}
use Rattle.kms_names.specs.Reference.{IsKeyResource}
use Rattle.kms_names.specs.declared.references.Target.{Target}
use Rattle.kms_names.specs.declared.references.Target.TheVariants.{Key, Alias}

abbrev pub IsTarget : List ℕ → Target → Type 0
IsTarget resource (Key key) = IsKeyResource resource key
IsTarget resource (Alias name) = IsAliasName resource × (name.now ≡ resource)
