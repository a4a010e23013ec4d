-- What a message asks is proper.
use Rattle.std.proofs.Common.{◌<◌, ℕ, sym, subst}
use Rattle.kms_names.specs.Moment.{year_10000}
use Rattle.kms_json.specs.declared.asks.Ask.{Ask}
use Rattle.account_steps.specs.declared.facts.RealmFacts.{RealmFacts}
use Rattle.account_core.specs.Decide.{IsProper}
use Rattle.session_front.specs.Early.{IsAskAt}

pub proper_at : (facts : RealmFacts) (c : ℕ) (x : Ask) → c < year_10000 → IsAskAt facts.account c x → IsProper facts x
proper_at facts c x before is = record { target = is.target; text = is.text; body = is.body; caller = is.caller; moment = subst (λ (n : ℕ). n < year_10000) (sym is.moment) before }
