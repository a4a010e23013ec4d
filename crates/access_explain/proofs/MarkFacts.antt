-- Marks compared, and that each statement and each grant has one.
use Rattle.std.proofs.Common.{◌≡◌, Bool, true, false, refl, sym, ◌∙◌, arith, inl, inr}
use Rattle.std.specs.Bool.{Decides}
use Rattle.cond_ops.specs.declared.facts.RequestFacts.{RequestFacts}
use Rattle.kms_names.specs.declared.operations.GrantOp.{GrantOp}
use Rattle.kms_names.specs.declared.principals.Principal.{Principal}
use Rattle.policy_doc.specs.declared.policies.Statement.{Statement}
use Rattle.grant_table.specs.declared.rows.GrantRow.{GrantRow}
use Rattle.account_steps.specs.declared.questions.OfGrants.{OfGrants}
use Rattle.access_explain.specs.declared.marks.Mark.{Mark}
use Rattle.access_explain.specs.declared.marks.Mark.TheVariants as mark
use Rattle.access_explain.specs.contracts.marks.MarkPartialEq.TheImpl as derived
use Rattle.access_explain.specs.Marks.{IsMark, Names, CountsForCaller, CountsForRoot, IsKeyMark, IsGrantMark}

pub mark_decides : (a b : Mark) → Decides (derived.eq-value.it a b) (a ≡ b)
mark_decides a b = grind arith

pub not_both : {b : Bool} → b ≡ false → b ≡ true → ⊥
not_both e f = let bad : false ≡ true = sym e ∙ f in cc

module _ (s : Statement) (request : RequestFacts) where
  pub one_mark : (m n : Mark) → IsMark s request m → IsMark s request n → m ≡ n
  one_mark mark.Hit mark.Hit p q = refl
  one_mark mark.Hit mark.RootHit p q = absurd q
  one_mark mark.Hit mark.Principal p q = absurd q
  one_mark mark.Hit mark.Action (a, r, c) n' = absurd (n' a)
  one_mark mark.Hit mark.Resource (a, r, c) (a', n') = absurd (n' r)
  one_mark mark.Hit mark.Condition (a, r, c) (a', r', n') = absurd (n' c)
  one_mark mark.RootHit other p q = absurd p
  one_mark mark.Principal other p q = absurd p
  one_mark mark.Action mark.Hit n (a', r', c') = absurd (n a')
  one_mark mark.Action mark.RootHit p q = absurd q
  one_mark mark.Action mark.Principal p q = absurd q
  one_mark mark.Action mark.Action p q = refl
  one_mark mark.Action mark.Resource n (a', n') = absurd (n a')
  one_mark mark.Action mark.Condition n (a', r', n') = absurd (n a')
  one_mark mark.Resource mark.Hit (a, n) (a', r', c') = absurd (n r')
  one_mark mark.Resource mark.RootHit p q = absurd q
  one_mark mark.Resource mark.Principal p q = absurd q
  one_mark mark.Resource mark.Action (a, n) n' = absurd (n' a)
  one_mark mark.Resource mark.Resource p q = refl
  one_mark mark.Resource mark.Condition (a, n) (a', r', n') = absurd (n r')
  one_mark mark.Condition mark.Hit (a, r, n) (a', r', c') = absurd (n c')
  one_mark mark.Condition mark.RootHit p q = absurd q
  one_mark mark.Condition mark.Principal p q = absurd q
  one_mark mark.Condition mark.Action (a, r, n) n' = absurd (n' a)
  one_mark mark.Condition mark.Resource (a, r, n) (a', n') = absurd (n' r)
  one_mark mark.Condition mark.Condition p q = refl

  named_by_caller : CountsForCaller s request → Names s request
  named_by_caller (inl caller) = inl caller
  named_by_caller (inr denies) = inr denies.1

  not_both_count : CountsForCaller s request → CountsForRoot s request → ⊥
  not_both_count (inl caller) root = root.2 caller
  not_both_count (inr denies) root = not_both denies.0 root.0

  pub one_key_mark : (m n : Mark) → IsKeyMark s request m → IsKeyMark s request n → m ≡ n
  one_key_mark mark.Hit mark.Hit p q = refl
  one_key_mark mark.Hit mark.RootHit p q = absurd (not_both_count p.1 q.1)
  one_key_mark mark.Hit mark.Principal p q = absurd (q (named_by_caller p.1))
  one_key_mark mark.Hit mark.Action p q = let same : mark.Hit ≡ mark.Action = one_mark mark.Hit mark.Action p.0 q.1 in cc
  one_key_mark mark.Hit mark.Resource p q = let same : mark.Hit ≡ mark.Resource = one_mark mark.Hit mark.Resource p.0 q.1 in cc
  one_key_mark mark.Hit mark.Condition p q = let same : mark.Hit ≡ mark.Condition = one_mark mark.Hit mark.Condition p.0 q.1 in cc
  one_key_mark mark.RootHit mark.Hit p q = absurd (not_both_count q.1 p.1)
  one_key_mark mark.RootHit mark.RootHit p q = refl
  one_key_mark mark.RootHit mark.Principal p q = absurd (q (inr p.1.1))
  one_key_mark mark.RootHit mark.Action p q = let same : mark.Hit ≡ mark.Action = one_mark mark.Hit mark.Action p.0 q.1 in cc
  one_key_mark mark.RootHit mark.Resource p q = let same : mark.Hit ≡ mark.Resource = one_mark mark.Hit mark.Resource p.0 q.1 in cc
  one_key_mark mark.RootHit mark.Condition p q = let same : mark.Hit ≡ mark.Condition = one_mark mark.Hit mark.Condition p.0 q.1 in cc
  one_key_mark mark.Principal mark.Hit p q = absurd (p (named_by_caller q.1))
  one_key_mark mark.Principal mark.RootHit p q = absurd (p (inr q.1.1))
  one_key_mark mark.Principal mark.Principal p q = refl
  one_key_mark mark.Principal mark.Action p q = absurd (p (q.0))
  one_key_mark mark.Principal mark.Resource p q = absurd (p (q.0))
  one_key_mark mark.Principal mark.Condition p q = absurd (p (q.0))
  one_key_mark mark.Action mark.Hit p q = let same : mark.Action ≡ mark.Hit = one_mark mark.Action mark.Hit p.1 q.0 in cc
  one_key_mark mark.Action mark.RootHit p q = let same : mark.Action ≡ mark.Hit = one_mark mark.Action mark.Hit p.1 q.0 in cc
  one_key_mark mark.Action mark.Principal p q = absurd (q (p.0))
  one_key_mark mark.Action mark.Action p q = refl
  one_key_mark mark.Action mark.Resource p q = let same : mark.Action ≡ mark.Resource = one_mark mark.Action mark.Resource p.1 q.1 in cc
  one_key_mark mark.Action mark.Condition p q = let same : mark.Action ≡ mark.Condition = one_mark mark.Action mark.Condition p.1 q.1 in cc
  one_key_mark mark.Resource mark.Hit p q = let same : mark.Resource ≡ mark.Hit = one_mark mark.Resource mark.Hit p.1 q.0 in cc
  one_key_mark mark.Resource mark.RootHit p q = let same : mark.Resource ≡ mark.Hit = one_mark mark.Resource mark.Hit p.1 q.0 in cc
  one_key_mark mark.Resource mark.Principal p q = absurd (q (p.0))
  one_key_mark mark.Resource mark.Action p q = let same : mark.Resource ≡ mark.Action = one_mark mark.Resource mark.Action p.1 q.1 in cc
  one_key_mark mark.Resource mark.Resource p q = refl
  one_key_mark mark.Resource mark.Condition p q = let same : mark.Resource ≡ mark.Condition = one_mark mark.Resource mark.Condition p.1 q.1 in cc
  one_key_mark mark.Condition mark.Hit p q = let same : mark.Condition ≡ mark.Hit = one_mark mark.Condition mark.Hit p.1 q.0 in cc
  one_key_mark mark.Condition mark.RootHit p q = let same : mark.Condition ≡ mark.Hit = one_mark mark.Condition mark.Hit p.1 q.0 in cc
  one_key_mark mark.Condition mark.Principal p q = absurd (q (p.0))
  one_key_mark mark.Condition mark.Action p q = let same : mark.Condition ≡ mark.Action = one_mark mark.Condition mark.Action p.1 q.1 in cc
  one_key_mark mark.Condition mark.Resource p q = let same : mark.Condition ≡ mark.Resource = one_mark mark.Condition mark.Resource p.1 q.1 in cc
  one_key_mark mark.Condition mark.Condition p q = refl

module _ (caller : Principal) (op : GrantOp) (grants : OfGrants) (row : GrantRow) where
  pub one_grant_mark : (m n : Mark) → IsGrantMark caller op grants row m → IsGrantMark caller op grants row n → m ≡ n
  one_grant_mark mark.Hit mark.Hit p q = refl
  one_grant_mark mark.Hit mark.RootHit p q = absurd q
  one_grant_mark mark.Hit mark.Principal (g, o, s) n' = absurd (n' g)
  one_grant_mark mark.Hit mark.Action (g, o, s) (g', e') = absurd (not_both e' o)
  one_grant_mark mark.Hit mark.Resource p q = absurd q
  one_grant_mark mark.Hit mark.Condition (g, o, s) (g', o', n') = absurd (n' s)
  one_grant_mark mark.RootHit other p q = absurd p
  one_grant_mark mark.Principal mark.Hit n (g', o', s') = absurd (n g')
  one_grant_mark mark.Principal mark.RootHit p q = absurd q
  one_grant_mark mark.Principal mark.Principal p q = refl
  one_grant_mark mark.Principal mark.Action n (g', e') = absurd (n g')
  one_grant_mark mark.Principal mark.Resource p q = absurd q
  one_grant_mark mark.Principal mark.Condition n (g', o', n') = absurd (n g')
  one_grant_mark mark.Action mark.Hit (g, e) (g', o', s') = absurd (not_both e o')
  one_grant_mark mark.Action mark.RootHit p q = absurd q
  one_grant_mark mark.Action mark.Principal (g, e) n' = absurd (n' g)
  one_grant_mark mark.Action mark.Action p q = refl
  one_grant_mark mark.Action mark.Resource p q = absurd q
  one_grant_mark mark.Action mark.Condition (g, e) (g', o', n') = absurd (not_both e o')
  one_grant_mark mark.Resource other p q = absurd p
  one_grant_mark mark.Condition mark.Hit (g, o, n) (g', o', s') = absurd (n s')
  one_grant_mark mark.Condition mark.RootHit p q = absurd q
  one_grant_mark mark.Condition mark.Principal (g, o, n) n' = absurd (n' g)
  one_grant_mark mark.Condition mark.Action (g, o, n) (g', e') = absurd (not_both e' o)
  one_grant_mark mark.Condition mark.Resource p q = absurd q
  one_grant_mark mark.Condition mark.Condition p q = refl
