use Rattle.std.proofs.Common.{sym, refl, subst}
use Rattle.std.specs.Prelude.{Any, ◌↔◌}
use Rattle.account_rows.specs.History.{replay}
use Rattle.access_explain.specs.Findings.{IsRetirable}
use Rattle.access_explain.proofs.GrantWalk.{own, on, fewer, ended, all_at_first, found_one, passed_one, none_left}
use Rattle.access_explain.proofs.grants.retires.Goals as goal

pub loop-row-init : goal.loop-row-init
loop-row-init c =
    let P = IsRetirable c.args.caller.now c.args.grant.now in
    let rows = own c.args.key.now (replay c.args.account.now.entries).grants in
    subst (λ left. Any P rows ↔ Any P left) (sym (all_at_first c.args.key.now (replay c.args.account.now.entries).grants)) (λ any. any, λ any. any)

pub returns-then-is_retirable : goal.returns-then-is_retirable
returns-then-is_retirable c =
    let P = IsRetirable c.args.caller.now c.args.grant.now in
    let grants = (replay c.args.account.now.entries).grants in (
      λ t. found_one P (own c.args.key.now grants) _ _ c.in-Some.row.now (on c.args.key.now grants c.in-Some.ensures.order c.loop-row.at c.in-Some.row.now (sym c.in-Some.ensures.first))
          c.loop-row.invariant (c.is_retirable.ensures.0 c.if-is_retirable.true),
      λ any. refl,
    )

pub loop-row-smaller : goal.loop-row-smaller
loop-row-smaller c =
    fewer c.args.key.now (replay c.args.account.now.entries).grants c.in-Some.ensures.order c.loop-row.at c.in-Some.row.now (sym c.in-Some.ensures.first)

pub loop-row-preserved : goal.loop-row-preserved
loop-row-preserved c =
    let P = IsRetirable c.args.caller.now c.args.grant.now in
    let grants = (replay c.args.account.now.entries).grants in
    passed_one P (own c.args.key.now grants) _ _ c.in-Some.row.now (on c.args.key.now grants c.in-Some.ensures.order c.loop-row.at c.in-Some.row.now (sym c.in-Some.ensures.first))
    c.loop-row.invariant (λ p. let bad = sym (c.is_retirable.ensures.1 p) in cc)

pub returns : goal.returns
returns c =
    let P = IsRetirable c.args.caller.now c.args.grant.now in
    let grants = (replay c.args.account.now.entries).grants in
    (λ t. absurd (cc), λ any. absurd (none_left P (own c.args.key.now grants) _ (ended c.args.key.now grants c.loop-row.at (sym c.in_default.ensures.first)) c.loop-row.invariant any))
