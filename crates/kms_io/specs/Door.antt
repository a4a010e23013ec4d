-- What the calls of a door do.
use Rattle.std.specs.Prelude.{◌≡◌, ◌⊎◌, ◌≤◌, ℕ, List, [], ◌∷◌, ◌++◌, length, All, option_map, true, false, IfSome}
use Rattle.kms_io.specs.Wire.{with_more, RoseBy}
use Rattle.kms_io.specs.Listening.{Listening}
use Rattle.kms_io.specs.Doorway.{Doorway}
use Rattle.kms_io.specs.declared.door.Opened.{Opened}
use Rattle.kms_io.specs.declared.door.Opened.TheVariants.{Open, Failed, NoMemory}

-- no fault was counted, no connection is out, and none was given back, where that is told
pub record IsNewEar (ear : Listening) : Type 0 where
  pub faults : ear.faults ≡ 0
  pub is_in : ear.is_out ≡ false
  pub given_back : IfSome ear.given_back (λ conns. conns ≡ [])

-- n new ears came to the end of the list
pub record GainsEars {E : Type 0} (listening : E → Listening) (old : List E) (n : ℕ) (new : List E) : Type 0 where
  pub ears : List E
  pub list : new ≡ old ++ ears
  pub number : length ears ≡ n
  pub each : All (λ ear. IsNewEar (listening ear)) ears

-- the address and the number were asked for, and the door is open
pub record OpensFor (old : Doorway) (address : List ℕ) (n : ℕ) (new : Doorway) : Type 0 where
  pub asked : new.asked ≡ with_more old.asked ((address, n) ∷ [])
  pub is_open : new.is_open ≡ option_map (λ _. true) old.is_open
  pub given_back : new.given_back ≡ old.given_back
  pub faults : old.faults ≤ new.faults

-- the address and the number were asked for, and nothing was opened
pub record AsksFor (old : Doorway) (address : List ℕ) (n : ℕ) (new : Doorway) : Type 0 where
  pub asked : new.asked ≡ with_more old.asked ((address, n) ∷ [])
  pub is_open : new.is_open ≡ old.is_open
  pub given_back : new.given_back ≡ old.given_back
  pub faults : old.faults ≤ new.faults

-- the address and the number may have been asked for, and nothing was opened
pub record MayAskFor (old : Doorway) (address : List ℕ) (n : ℕ) (new : Doorway) : Type 0 where
  pub asked : (new.asked ≡ old.asked) ⊎ (new.asked ≡ with_more old.asked ((address, n) ∷ []))
  pub is_open : new.is_open ≡ old.is_open
  pub given_back : new.given_back ≡ old.given_back
  pub faults : old.faults ≤ new.faults

-- n ears at this address are asked for, to the end of a list that held `before` and then holds `after`
abbrev pub Opens : {E : Type 0} → (E → Listening) → Doorway → List ℕ → ℕ → List E → Opened → Doorway → List E → Type 0
Opens listening old address n before Open new after = OpensFor old address n new × GainsEars listening before n after
Opens listening old address n before Failed new after = AsksFor old address n new × RoseBy 1 old.faults new.faults × (after ≡ before)
Opens listening old address n before NoMemory new after = MayAskFor old address n new × (after ≡ before)

-- ears that show this are given back, and the door is open no longer
pub record Closes (old : Doorway) (ears : List Listening) (new : Doorway) : Type 0 where
  pub is_open : new.is_open ≡ option_map (λ _. false) old.is_open
  pub given_back : new.given_back ≡ option_map (λ _. ears) old.given_back
  pub asked : new.asked ≡ old.asked
  pub faults : old.faults ≤ new.faults
