use Rattle.enc_context.proofs.PairFacts.{same_pairs_decides}
use Rattle.std.proofs.lemmas.Bool.Decides.{Decides-at}
use Rattle.std.proofs.Common.{rules, ◌≡◌}
use Rattle.enc_context.specs.Pairs.{same_pairs}
use Rattle.enc_context.proofs.contexts.Context.equal.Goals as goal

pub returns-clause-told : goal.returns-clause-told
returns-clause-told c =
    let test : c.eq.result ≡ same_pairs c.args.self.now c.args.other.now = search rules in
    Decides-at {P = c.args.self.now ≡ c.args.other.now} c.eq.result (same_pairs c.args.self.now c.args.other.now) test (same_pairs_decides c.args.self.now c.args.other.now)
