-- Of two fronts of two lists, of which one begins the other, one begins the other.
use Rattle.std.proofs.Common.{◌≤◌, length, inl, inr, arith, lt_of_not-le}
use mathlib.Core.Logic.{dite}
use mathlib.Core.List.{IsPrefix}
use native.Mathlib.Decide.{dec_le}
use Rattle.published_account.specs.Growing.{Pairs}
use Rattle.published_account.proofs.Lists.{prefix_self, prefix_shorter, prefix_trans}
use Rattle.publish_pass.specs.Pass.{Pass, Agree}
use Rattle.pass_laws.specs.Calls.{Calls}
use Rattle.pass_laws.proofs.CallFacts.{fronts}

both_begin : (one other whole : Pairs) → IsPrefix one whole → IsPrefix other whole → Agree one other
both_begin one other whole p q = dite (dec_le (length one) (length other))
    (λ (le : length one ≤ length other). inl (prefix_shorter one other whole p q le))
    (λ (more : _). let lt = lt_of_not-le more in inr (prefix_shorter other one whole q p (omega (arith, lt))))

fronts_agree : (one before other earlier : Pairs) → IsPrefix before one → IsPrefix earlier other → Agree one other → Agree before earlier
fronts_agree one before other earlier p q (inl begins) = both_begin before earlier other (prefix_trans before one other p begins) q
fronts_agree one before other earlier p q (inr begins) = both_begin before earlier one p (prefix_trans earlier other one q begins)

-- what a pass held before, and what another did
pub held_before : (one before other earlier : Pass) → Agree one.history other.history → Calls before one → Calls earlier other → Agree before.history earlier.history
held_before one before other earlier agree calls more =
    fronts_agree one.history before.history other.history earlier.history (fronts before one calls) (fronts earlier other more) agree

pub held_and_told : (one before : Pass) (told : Pairs) → Agree one.history told → Calls before one → Agree before.history told
held_and_told one before told agree calls = fronts_agree one.history before.history told told (fronts before one calls) (prefix_self told) agree
