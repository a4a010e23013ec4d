-- What commands with a file do.
use Rattle.std.proofs.Common.{inl, inr, ℕ, List, Result, Ok, Err}
use Rattle.std.specs.Prelude.{IfErr}
use Rattle.kms_io.specs.Shelf.{Shelf}
use Rattle.kms_io.specs.Files.{Asks, MayAsk}
use Rattle.kms_config.specs.declared.config.Config.{Config}
use Rattle.kms_program.specs.Files.{IsFileRefused}
use Rattle.kms_program.specs.Program.{Around, Refuses, refuses, WithFile, configured, not_configured, lacks}

may_ask : (old new : Shelf) (file : List ℕ) → Asks old file new → MayAsk old file new
may_ask old new file asks = record { asked = inr asks.asked; content = asks.content; faults = asks.faults }

-- the file is refused at a path
pub refused_file : (file path : List ℕ) (status : ℕ) (old new : Around) → Asks old.shelf file new.shelf → IsFileRefused old.shelf file path → Refuses path status old new
    → WithFile file status old new (λ config. ⊥)
refused_file file path status old new asks is (inl says) = not_configured (refuses path is says) asks
refused_file file path status old new asks is (inr rests) = lacks rests (may_ask old.shelf new.shelf file asks)

-- without a configuration, whatever is done with one
pub widened : (file : List ℕ) (status : ℕ) (old new : Around) (Does : Config → Type 0) → WithFile file status old new (λ config. ⊥) → WithFile file status old new Does
widened file status old new Does (configured config is policies asks none) = absurd none
widened file status old new Does (not_configured none asks) = not_configured none asks
widened file status old new Does (lacks rests asks) = lacks rests asks

-- a status by another
pub on_status : {A : Type 0} {P Q : ℕ → Type 0} (r : Result A ℕ) → ((status : ℕ) → P status → Q status) → IfErr r P → IfErr r Q
on_status (Ok value) so is = tt
on_status (Err status) so is = so status is
