-- Of two histories that have a longer one of both, one begins the other.
use Rattle.std.proofs.Common.{◌≡◌, length, inl, inr, sym, subst, arith}
use Rattle.published_account.proofs.Lists.{prefix_whole}
use mathlib.Core.List.{IsPrefix}
use Rattle.published_account.specs.Growing.{Pairs, IsLongerOf}
use Rattle.publish_pass.specs.Pass.{Agree}

pub agree_by : (one other longer : Pairs) → IsLongerOf one other longer → Agree one other
agree_by one other longer is = elim is.one [ inl h ↦ inl (subst (IsPrefix one) h.1 is.first) | inr h ↦ inr (subst (IsPrefix other) h.1 is.second) ]

-- and where they are as long, they are one
pub agree_whole : (one other : Pairs) → length one ≡ length other → Agree one other → one ≡ other
agree_whole one other same (inl is) = prefix_whole one other is (omega (arith, same))
agree_whole one other same (inr is) = sym (prefix_whole other one is (omega (arith, same)))
