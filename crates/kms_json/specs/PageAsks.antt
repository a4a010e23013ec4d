-- Which part of a list is asked, by what is given to its fields.
use Rattle.std.specs.Prelude.{ℕ, List, codes}
use Rattle.kms_json.specs.declared.given.Given.{Given}
use Rattle.kms_json.specs.declared.asks.pages.Page.{Page}
use Rattle.kms_json.specs.Given.{text_if, number_or}

-- a number of rows stands for a limit that isn't given
abbrev pub page_by : ℕ → Given → Given → Page
page_by default limit marker = record { limit = number_or limit default; marker = text_if marker }

abbrev pub page : ℕ → (List ℕ → Given) → Page
page default at = page_by default (at (codes "Limit")) (at (codes "Marker"))
