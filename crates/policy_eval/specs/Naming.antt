-- Whom a statement of a key policy names (AWS KMS Developer Guide, "Key policies").
use Rattle.std.specs.Prelude.{◌⊎◌, List, Contains}
use Rattle.kms_names.specs.Principal.{account_of}
use Rattle.kms_names.specs.declared.principals.Principal.{Principal}
use Rattle.kms_names.specs.declared.principals.Principal.TheVariants.{Root}
use Rattle.policy_doc.specs.declared.policies.Named.{Named}
use Rattle.policy_doc.specs.declared.policies.Named.TheVariants.{Everyone, One}

-- the root of a principal's account
abbrev pub root_of : Principal → Principal
root_of principal = Root (account_of principal)

-- those named are everyone, by `*`, or the caller
abbrev pub NamesCaller : List Named → Principal → Type 0
NamesCaller names caller = Contains names Everyone ⊎ Contains names (One caller)

-- the root of the caller's account, which stands for the account, is among those named
abbrev pub NamesAccount : List Named → Principal → Type 0
NamesAccount names caller = Contains names (One (root_of caller))
