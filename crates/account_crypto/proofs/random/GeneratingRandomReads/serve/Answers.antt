use Rattle.std.proofs.Common.{ap, ◌∙◌, rules}
use Rattle.kms_json.specs.declared.replies.Reply.TheVariants as reply
use Rattle.account_crypto.proofs.DrawFacts.{drawn_is}
use Rattle.account_crypto.proofs.random.GeneratingRandomReads.serve.Goals as goal

pub returns-clause-reply : goal.returns-clause-reply
returns-clause-reply c =
    let op = c.args.self.now in
    ap reply.Random (c.in_ok-plaintext.ensures ∙ drawn_is op.view.now c.args.line.now op.size _ c.draw.new.room c.requires.line c.requires.places (search rules) c.draw.ensures.room)
