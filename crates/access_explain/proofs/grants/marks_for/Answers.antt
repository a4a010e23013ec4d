use Rattle.std.proofs.Common.{rules, ◌≡◌, [], ◌∷◌, ◌++◌, sym, subst}
use Rattle.account_rows.specs.History.{replay}
use Rattle.access_explain.specs.Marks.{IsGrantMark}
use Rattle.access_explain.specs.Runs.{OneByOne}
use Rattle.access_explain.proofs.GrantWalk.{own, on, fewer, ended, all_at_first, gone_on, gone_all}
use Rattle.access_explain.proofs.grants.marks_for.Goals as goal

pub loop-row-init : goal.loop-row-init
loop-row-init c =
    let rows = own c.args.key.now (replay c.args.account.now.entries).grants in
    record {
      before = [];
      are = sym (all_at_first c.args.key.now (replay c.args.account.now.entries).grants);
      each = subst (λ marks. OneByOne (IsGrantMark c.args.caller.now c.args.op c.args.asked.now) [] marks) (sym c.new-marks.ensures.items) tt;
    }

pub loop-row-smaller : goal.loop-row-smaller
loop-row-smaller c =
    fewer c.args.key.now (replay c.args.account.now.entries).grants c.in-Some.ensures.order c.loop-row.at c.in-Some.row.now (sym c.in-Some.ensures.first)

pub loop-row-preserved : goal.loop-row-preserved
loop-row-preserved c =
    let grants = (replay c.args.account.now.entries).grants in
    let pushed : c.push.new.self.items ≡ c.loop-row.marks.items ++ c.grant_mark_of.result ∷ [] = search rules in
    gone_on (IsGrantMark c.args.caller.now c.args.op c.args.asked.now) (own c.args.key.now grants) _ _ c.loop-row.marks.items c.push.new.self.items c.in-Some.row.now c.grant_mark_of.result
    (on c.args.key.now grants c.in-Some.ensures.order c.loop-row.at c.in-Some.row.now (sym c.in-Some.ensures.first)) pushed c.grant_mark_of.ensures c.loop-row.invariant

pub returns : goal.returns
returns c =
    let grants = (replay c.args.account.now.entries).grants in
    subst (λ marks. OneByOne (IsGrantMark c.args.caller.now c.args.op c.args.asked.now) (own c.args.key.now grants) marks) (sym c.new.ensures)
    (gone_all (IsGrantMark c.args.caller.now c.args.op c.args.asked.now) (own c.args.key.now grants) _ _ (ended c.args.key.now grants c.loop-row.at (sym c.in_default.ensures.first)) c.loop-row.invariant)
