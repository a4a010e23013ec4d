use Rattle.std.proofs.Common.{◌≡◌, ◌∙◌, ◌<◌, ◌+◌, sym, ap, ℕ, List, length, take, get_or, fold, Bool, true, false, if◌then◌else◌, rules}
use Rattle.std.proofs.lemmas.List.{get_or_default}
use Rattle.std.proofs.lemmas.List.Sums.{fold_more}
use Rattle.kms_names.specs.declared.operations.GrantOp.{GrantOp}
use Rattle.kms_names.specs.GrantOps.{all_grant_ops, contains, is_named, those, with_op}
use Rattle.kms_names.proofs.OperationFacts.{those_have}
use Rattle.kms_names.proofs.operations.GrantOps.named.Goals as goal
use Rattle.kms_names.proofs.operations.GrantOps.named.Goals.{then-is_named, else-is_named}

pub returns-clause-each : goal.returns-clause-each
returns-clause-each c = λ op.
    let whole : c.loop-op.ops ≡ those (is_named c.args.names.now) = search rules in
    ap (λ ops. contains ops op) whole ∙ those_have (is_named c.args.names.now) op

-- the set after one operation more, which is named or isn't
module _ (names : List (List ℕ)) (i old new : ℕ) (op : GrantOp) (within : i < length all_grant_ops) (is : op ≡ get_or all_grant_ops i op) where
  abbrev step : ℕ → GrantOp → ℕ
  step ops op = if is_named names op then with_op op ops else ops

  abbrev so_far : ℕ → ℕ
  so_far n = fold step 0 (take n all_grant_ops)

  one_more : new ≡ step old op → old ≡ so_far i → new ≡ so_far (i + 1)
  one_more e before = e ∙ (ap (λ ops. step ops op) before ∙ (ap (step (so_far i)) is ∙ sym (fold_more step 0 all_grant_ops i op within)))

  pub named_op : is_named names op ≡ true → new ≡ with_op op old → old ≡ so_far i → new ≡ so_far (i + 1)
  named_op named e before = one_more (e ∙ sym (ap (λ (b : Bool). if b then with_op op old else old) named)) before

  pub other_op : is_named names op ≡ false → new ≡ old → old ≡ so_far i → new ≡ so_far (i + 1)
  other_op named e before = one_more (e ∙ sym (ap (λ (b : Bool). if b then with_op op old else old) named)) before

pub loop-op-preserved : goal.loop-op-preserved
loop-op-preserved c =
    let names = c.args.names.now in
    let i = c.loop-op.op-index in
    elim c.if-is_named.branch [
      | then-is_named w ↦
          named_op names i c.loop-op.ops c.if-is_named.ops _ c.loop-op-test.true (get_or_default all_grant_ops i _ _ c.loop-op-test.true) (sym c.is_named.ensures ∙ w.if-is_named.true) (w.ops-is ∙ w.insert.ensures.sum) c.loop-op.invariant
      | else-is_named w ↦
          other_op names i c.loop-op.ops c.if-is_named.ops _ c.loop-op-test.true (get_or_default all_grant_ops i _ _ c.loop-op-test.true) (sym c.is_named.ensures ∙ w.if-is_named.false) w.ops-is c.loop-op.invariant
    ]
