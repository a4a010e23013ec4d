-- Whether two principals are the same.
use Rattle.std.specs.Prelude.{Bool, false, ◌&&◌}
use Rattle.std.specs.Str.{bytes_eq}
use Rattle.kms_names.specs.declared.principals.Principal.{Principal}
use Rattle.kms_names.specs.declared.principals.Principal.TheVariants.{Root, User, Role}

abbrev pub same_principal : Principal → Principal → Bool
same_principal (Root a) (Root b) = bytes_eq a b
same_principal (User a m) (User b n) = bytes_eq a b && bytes_eq m n
same_principal (Role a m) (Role b n) = bytes_eq a b && bytes_eq m n
same_principal p q = false
