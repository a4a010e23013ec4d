-- What holds of all grant operations in their list holds of each; and sets of those that pass a test.
use Rattle.std.proofs.Common.{◌≡◌, ◌≢◌, ◌==◌, Bool, true, false, not, ◌||◌, ◌&&◌, if◌then◌else◌, ℕ, List, [], ◌∷◌, fold, refl, sym, ◌∙◌, ap, subst, lit<, unwrap_or}
use Rattle.std.specs.Prelude.{find}
use Rattle.std.proofs.lemmas.Bool.{eqb-true, eq-eqb}
use Rattle.std.specs.List.{list_all, list_any}
use Rattle.std.proofs.lemmas.List.Recursion.{and_at, and_from_places}
use Rattle.kms_names.specs.declared.operations.GrantOp.{GrantOp}
use Rattle.kms_names.specs.declared.operations.GrantOp.TheVariants.{Encrypt, Decrypt, GenerateDataKey, GenerateDataKeyWithoutPlaintext, ReEncryptFrom, ReEncryptTo, CreateGrant, RetireGrant, DescribeKey, GenerateMac, VerifyMac}
use Rattle.kms_names.specs.Action.{action_number}
use Rattle.kms_names.specs.declared.actions.Action.{Action}
use Rattle.kms_names.specs.GrantOps.{all_grant_ops, action_of, contains, with_op, those}
use Rattle.kms_names.proofs.ActionFacts.{same_number, has_added, has_others}

implied : (x y : Bool) → (not x || y) ≡ true → x ≡ true → y ≡ true
implied true y h e = h
implied false y h e = cc

implies : (x y : Bool) → (x ≡ true → y ≡ true) → (not x || y) ≡ true
implies true y h = h refl
implies false y h = refl

module _ (test : GrantOp → Bool) where
  each_passes : list_all test all_grant_ops ≡ true → (op : GrantOp) → test op ≡ true
  each_passes all Encrypt = and_at (list_all test) test refl (λ _ _. refl) all_grant_ops 0 Encrypt (lit< tt) all
  each_passes all Decrypt = and_at (list_all test) test refl (λ _ _. refl) all_grant_ops 1 Encrypt (lit< tt) all
  each_passes all GenerateDataKey = and_at (list_all test) test refl (λ _ _. refl) all_grant_ops 2 Encrypt (lit< tt) all
  each_passes all GenerateDataKeyWithoutPlaintext = and_at (list_all test) test refl (λ _ _. refl) all_grant_ops 3 Encrypt (lit< tt) all
  each_passes all ReEncryptFrom = and_at (list_all test) test refl (λ _ _. refl) all_grant_ops 4 Encrypt (lit< tt) all
  each_passes all ReEncryptTo = and_at (list_all test) test refl (λ _ _. refl) all_grant_ops 5 Encrypt (lit< tt) all
  each_passes all CreateGrant = and_at (list_all test) test refl (λ _ _. refl) all_grant_ops 6 Encrypt (lit< tt) all
  each_passes all RetireGrant = and_at (list_all test) test refl (λ _ _. refl) all_grant_ops 7 Encrypt (lit< tt) all
  each_passes all DescribeKey = and_at (list_all test) test refl (λ _ _. refl) all_grant_ops 8 Encrypt (lit< tt) all
  each_passes all GenerateMac = and_at (list_all test) test refl (λ _ _. refl) all_grant_ops 9 Encrypt (lit< tt) all
  each_passes all VerifyMac = and_at (list_all test) test refl (λ _ _. refl) all_grant_ops 10 Encrypt (lit< tt) all

module _ (a b : GrantOp → Bool) where
  pub all_implied : list_all (λ op. not (a op) || b op) all_grant_ops ≡ true → (op : GrantOp) → a op ≡ true → b op ≡ true
  all_implied all op = implied (a op) (b op) (each_passes (λ q. not (a q) || b q) all op)

  pub all_imply : ((op : GrantOp) → a op ≡ true → b op ≡ true) → list_all (λ op. not (a op) || b op) all_grant_ops ≡ true
  all_imply each =
      and_from_places (list_all (λ op. not (a op) || b op)) (λ op. not (a op) || b op) refl (λ _ _. refl) all_grant_ops Encrypt
      (λ i _. implies (a _) (b _) (each _))

-- the operation of an action, or this one
op_at : Action → GrantOp → GrantOp
op_at action d = unwrap_or (find (λ op. action_number (action_of op) == action_number action) all_grant_ops) d

at_action : (op d : GrantOp) → op_at (action_of op) d ≡ op
unfolding op_at
at_action Encrypt d = refl
at_action _ d = refl

-- different operations have different actions
same_action : (a b : GrantOp) → action_of a ≡ action_of b → a ≡ b
same_action a b e = sym (at_action a a) ∙ (ap (λ x. op_at x a) e ∙ at_action b a)

pub adds_op : (ops : ℕ) (op : GrantOp) → contains (with_op op ops) op ≡ true
adds_op ops op = has_added ops (action_of op)

pub keeps_ops : (ops : ℕ) (op other : GrantOp) → other ≢ op → contains (with_op op ops) other ≡ contains ops other
keeps_ops ops op other differ = has_others ops (action_of op) (action_of other) (λ e. differ (same_action other op e))

-- whether two operations are one
abbrev same_op : GrantOp → GrantOp → Bool
same_op a b = action_number (action_of a) == action_number (action_of b)

op_of_number : (a b : GrantOp) → action_number (action_of a) ≡ action_number (action_of b) → a ≡ b
op_of_number a b e = same_action a b (same_number (action_of a) (action_of b) e)

module _ (test : GrantOp → Bool) where
  abbrev passing : ℕ → GrantOp → ℕ
  passing ops op = if test op then with_op op ops else ops

  -- one operation more, where it passes
  one_more : (ops : ℕ) (one op : GrantOp) (b : Bool) → contains (if b then with_op one ops else ops) op ≡ (same_op one op && b) || contains ops op
  one_more ops one op b = by_same (same_op one op) b (λ e. op_of_number one op (eqb-true _ _ e)) (λ e. eq-eqb _ _ (ap (λ x. action_number (action_of x)) e))
    where
      by_same : (s b : Bool) → (s ≡ true → one ≡ op) → (one ≡ op → s ≡ true) → contains (if b then with_op one ops else ops) op ≡ (s && b) || contains ops op
      by_same true true same back = subst (λ x. contains (with_op x ops) op ≡ true) (sym (same refl)) (adds_op ops op)
      by_same true false same back = refl
      by_same false true same back = keeps_ops ops one op (λ e. let bad : false ≡ true = back (sym e) in cc)
      by_same false false same back = refl

  -- the operations of a list that pass
  all_more : (list : List GrantOp) (ops : ℕ) (op : GrantOp) → contains (fold passing ops list) op ≡ list_any (λ one. same_op one op && test one) list || contains ops op
  all_more [] ops op = refl
  all_more (one ∷ list) ops op =
      all_more list (passing ops one) op
      ∙ (ap (λ b. list_any (λ one. same_op one op && test one) list || b) (one_more ops one op (test one))
      ∙ moved (list_any (λ one. same_op one op && test one) list) (same_op one op && test one) (contains ops op))
    where
      moved : (x y z : Bool) → x || (y || z) ≡ (y || x) || z
      moved true true z = refl
      moved true false z = refl
      moved false true z = refl
      moved false false z = refl

  alone : (b : Bool) → (b || false) || false ≡ b
  alone true = refl
  alone false = refl

  pub those_have : (op : GrantOp) → contains (those test) op ≡ test op
  those_have Encrypt = all_more all_grant_ops 0 Encrypt ∙ alone (test Encrypt)
  those_have Decrypt = all_more all_grant_ops 0 Decrypt ∙ alone (test Decrypt)
  those_have GenerateDataKey = all_more all_grant_ops 0 GenerateDataKey ∙ alone (test GenerateDataKey)
  those_have GenerateDataKeyWithoutPlaintext = all_more all_grant_ops 0 GenerateDataKeyWithoutPlaintext ∙ alone (test GenerateDataKeyWithoutPlaintext)
  those_have ReEncryptFrom = all_more all_grant_ops 0 ReEncryptFrom ∙ alone (test ReEncryptFrom)
  those_have ReEncryptTo = all_more all_grant_ops 0 ReEncryptTo ∙ alone (test ReEncryptTo)
  those_have CreateGrant = all_more all_grant_ops 0 CreateGrant ∙ alone (test CreateGrant)
  those_have RetireGrant = all_more all_grant_ops 0 RetireGrant ∙ alone (test RetireGrant)
  those_have DescribeKey = all_more all_grant_ops 0 DescribeKey ∙ alone (test DescribeKey)
  those_have GenerateMac = all_more all_grant_ops 0 GenerateMac ∙ alone (test GenerateMac)
  those_have VerifyMac = all_more all_grant_ops 0 VerifyMac ∙ alone (test VerifyMac)
