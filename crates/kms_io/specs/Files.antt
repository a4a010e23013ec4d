-- What a call of files does.
use Rattle.std.specs.Prelude.{◌≡◌, ◌⊎◌, ◌<◌, ◌≤◌, ℕ, List, [], ◌∷◌, length, IfSome}
use Rattle.kms_io.specs.Wire.{with_more, RoseBy}
use Rattle.kms_io.specs.Shelf.{Shelf}
use Rattle.kms_io.specs.declared.files.FileAnswer.{FileAnswer}
use Rattle.kms_io.specs.declared.files.FileAnswer.TheVariants.{Read, TooLong, Failed, NoMemory}

-- the name was asked for, and the files are as they were
pub record Asks (old : Shelf) (name : List ℕ) (new : Shelf) : Type 0 where
  pub asked : new.asked ≡ with_more old.asked (name ∷ [])
  pub content : new.content ≡ old.content
  pub faults : old.faults ≤ new.faults

-- the name may have been asked for, and the files are as they were
pub record MayAsk (old : Shelf) (name : List ℕ) (new : Shelf) : Type 0 where
  pub asked : (new.asked ≡ old.asked) ⊎ (new.asked ≡ with_more old.asked (name ∷ []))
  pub content : new.content ≡ old.content
  pub faults : old.faults ≤ new.faults

-- the most bytes of a file that is read whole
abbrev pub whole_limit : ℕ
whole_limit = 4194304

-- the most bytes of a long file
abbrev pub long_limit : ℕ
long_limit = 2147483648

-- a read of the file of this name, of at most so many bytes, into a room that held `before` and then holds `after`
abbrev pub ReadsFile : ℕ → Shelf → List ℕ → List ℕ → FileAnswer → Shelf → List ℕ → Type 0
ReadsFile most old name before Read new after = Asks old name new × IfSome (old.content name) (λ all. (after ≡ all) × (length all ≤ most))
ReadsFile most old name before TooLong new after = Asks old name new × (after ≡ before) × IfSome (old.content name) (λ all. most < length all)
ReadsFile most old name before Failed new after = Asks old name new × (after ≡ before) × RoseBy 1 old.faults new.faults
ReadsFile most old name before NoMemory new after = MayAsk old name new × (after ≡ before)
