use Rattle.std.proofs.Common.{ℕ, List, Option, option_map, sym, subst}
use Rattle.std.specs.Prelude.{IfErr}
use Rattle.kms_program.specs.Program.{around, NoAccount}
use Rattle.kms_program.proofs.accounts.obtain_account.Goals as goal

pub returns-in-Some-clause-status : goal.returns-in-Some-clause-status
returns-in-Some-clause-status g c =
    subst
    (λ given. IfErr c.load_account.result (λ status. (clock : Option (List ℕ)) → NoAccount c.args.facts (option_map (λ load. load.now) given) status
    (around (g.L.Link.shows c.args.link.now) clock (g.F.Files.shows c.args.files.now)) (around (g.L.Link.shows c.load_account.new.link) clock (g.F.Files.shows c.load_account.new.files))))
    (sym c.in-Some.is)
    c.load_account.ensures.status
