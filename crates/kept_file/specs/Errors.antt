-- Why a file isn't opened.
use Rattle.std.specs.Prelude.{◌≡◌, ◌≢◌, ℕ, List, Option, Some, None, codes}
use Rattle.std.specs.IoError.{error_kind}
use Rattle.std.specs.declared.io.Error.{Error}
use Rattle.std.specs.declared.io.ErrorKind.TheVariants.{OutOfMemory}
use Rattle.kept_file.specs.declared.file.OpenError.{OpenError}
use Rattle.kept_file.specs.declared.file.OpenError.TheVariants.{InUse, TooLong, NoMemory, Io}

-- want of memory is told apart from what else the system answers
pub record IsOpenError (error : Error) (fault : OpenError) : Type 0 where
  pub memory : error_kind error ≡ OutOfMemory → fault ≡ NoMemory
  pub other : error_kind error ≢ OutOfMemory → fault ≡ Io error

-- what is written of it: of what the system answered, the system's own words
abbrev pub words_of : OpenError → Option (List ℕ)
words_of InUse = Some (codes "in use")
words_of TooLong = Some (codes "longer than 2 GiB")
words_of NoMemory = Some (codes "out of memory")
words_of (Io error) = None
