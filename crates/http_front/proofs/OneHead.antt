-- A second has one date, and so a head has one text.
use Rattle.std.proofs.Common.{◌≡◌, ℕ, List, Bool, sym, ap, ◌∙◌}
use Rattle.httpdate.specs.declared.date.HttpDate.{HttpDate}
use Rattle.httpdate.specs.Date.{unix_secs, date_text}
use Rattle.httpdate.proofs.Theorems.{unix_secs_injective}
use Rattle.httpdate.specs.Text.{imf_fixdate}
use Rattle.http_front.specs.Head.{IsHead, head_of}
use Rattle.http_front.specs.Laws.{OneHead}

one_date : (a b : HttpDate) → unix_secs a ≡ unix_secs b → date_text a ≡ date_text b
one_date a b same = ap imf_fixdate (unix_secs_injective a b same)

pub one_head : OneHead
one_head status size second front closes text other one two =
    one.lines ∙ ap (λ (date : List ℕ). head_of status size date front closes) (one_date one.date two.date (one.at ∙ sym two.at)) ∙ sym two.lines
