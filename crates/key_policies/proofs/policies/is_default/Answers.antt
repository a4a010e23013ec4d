use Rattle.std.proofs.Common.{◌≡◌, ◌≢◌, List, ℕ, ◌++◌, subst}
use Rattle.key_policies.specs.KeyPolicy.{default_front, default_back}
use Rattle.key_policies.proofs.DefaultFacts.{no_front, no_account, by_back}
use Rattle.key_policies.proofs.policies.is_default.Goals as goal

pub returns-in_default : goal.returns-in_default
unfolding default_front
returns-in_default c = no_front c.args.text.now c.args.account.now c.in_default.ensures

pub returns-in-None : goal.returns-in-None
unfolding default_front
returns-in-None c =
    no_account c.args.text.now c.in-Some.behind.now c.args.account.now c.in-Some.ensures
    (subst (λ (a : List ℕ). (rest : List ℕ) → c.in-Some.behind.now ≢ a ++ rest) c.as_str.ensures.value c.in-None.ensures)

pub returns-in-Some-after : goal.returns-in-Some-after
unfolding default_front default_back
returns-in-Some-after c =
    by_back c.args.text.now c.in-Some.behind.now c.args.account.now c.in-Some-after.back.now c.eq.result c.in-Some.ensures
    (subst (λ (a : List ℕ). c.in-Some.behind.now ≡ a ++ c.in-Some-after.back.now) c.as_str.ensures.value c.in-Some-after.ensures) c.eq.ensures
