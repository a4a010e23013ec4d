use Rattle.std.proofs.Common.{refl, ap, ◌∙◌, subst}
use Rattle.account_core.specs.Account.{Account}
use Rattle.published_account.specs.Pairs.{Whole, account_in}
use Rattle.published_account.proofs.Lists.{account_of_whole}
use Rattle.publish_pass.specs.Pass.{fresh_pass}
use Rattle.kms_program.specs.Program.{Holding}
use Rattle.kms_program.proofs.Keeping.{loaded_alone}
use Rattle.kms_program.proofs.holding.serve.Goals as goal

pub returns-in_default : goal.returns-in_default
returns-in_default g c = record {
  serving = record { pass = fresh_pass c.args.account.facts 1 c.args.account.entries 1; ends = refl; made_all = loaded_alone c.args.account.entries };
  keeps = tt;
}

pub returns : goal.returns
returns g c =
    let same = ap (λ (w : Whole). account_in w) c.in-Ok.ensures.0 ∙ account_of_whole c.args.account 1 in
    subst
    (λ (a : Account). Holding a c.args.trust.now c.serve_once.result.0 c.serve_once.result.1 (g.L.Link.shows c.args.link.now) (g.C.Clock.told c.args.clock.now) (g.L.Link.shows c.serve_once.new.link)
    (g.C.Clock.told c.serve_once.new.clock))
    same
    c.serve_once.ensures
