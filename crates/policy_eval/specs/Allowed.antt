-- Whom statements allow: the caller before the caller's account.
use Rattle.std.specs.Prelude.{List}
use Rattle.cond_ops.specs.declared.facts.RequestFacts.{RequestFacts}
use Rattle.policy_doc.specs.declared.policies.Statement.{Statement}
use Rattle.policy_eval.specs.declared.allowed.Allowed.{Allowed}
use Rattle.policy_eval.specs.declared.allowed.Allowed.TheVariants.{TheCaller, TheAccount, Nobody}
use Rattle.policy_eval.specs.Verdict.{SomeAllowsCaller, SomeAllowsAccount}

-- whom the Allow statements among these allow
abbrev pub AllowsWhom : List Statement → RequestFacts → Allowed → Type 0
AllowsWhom statements request TheCaller = SomeAllowsCaller statements request
AllowsWhom statements request TheAccount = ¬ (SomeAllowsCaller statements request) × SomeAllowsAccount statements request
AllowsWhom statements request Nobody = ¬ (SomeAllowsCaller statements request) × ¬ (SomeAllowsAccount statements request)
