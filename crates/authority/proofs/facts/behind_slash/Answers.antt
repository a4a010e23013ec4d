use Rattle.std.proofs.Common.{sym, ap, ◌∙◌, rules}
use Rattle.authority.specs.Facts.{behind_slash}
use Rattle.authority.proofs.SlashFacts.{behind_none, behind_more}
use Rattle.authority.proofs.facts.behind_slash.Goals as goal

pub loop-behind-preserved : goal.loop-behind-preserved
loop-behind-preserved c =
    let cut = c.in-Some.ensures in
    record {
      same = sym (behind_more c.in-Some.field-0-0.now c.in-Some.behind.now) ∙ sym (ap behind_slash cut.1) ∙ c.loop-behind.invariant.same;
      utf8 = search rules;
    }

pub returns : goal.returns
returns c = sym (behind_none c.loop-behind.rest.now c.in_default.ensures) ∙ c.loop-behind.invariant.same
