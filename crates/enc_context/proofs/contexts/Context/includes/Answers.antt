use Rattle.enc_context.proofs.PairFacts.{includes_decides}
use Rattle.std.proofs.lemmas.Bool.Decides.{Decides-at}
use Rattle.std.proofs.Common.{rules, ◌≡◌}
use Rattle.enc_context.specs.Pairs.{Includes, includes}
use Rattle.enc_context.proofs.contexts.Context.includes.Goals as goal

pub returns-clause-told : goal.returns-clause-told
returns-clause-told c =
    let test : c.has_all.result ≡ includes c.args.self.now c.args.other.now = search rules in
    Decides-at {P = Includes c.args.self.now c.args.other.now} c.has_all.result (includes c.args.self.now c.args.other.now) test (includes_decides c.args.self.now c.args.other.now)
