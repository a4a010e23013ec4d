use Rattle.account_crypto.proofs.DrawFacts.{drawn_is, sealed_is}
use Rattle.account_steps.proofs.Following.{ok_where}
use Rattle.account_crypto.proofs.data_keys.GeneratingDataKey.seal.Goals as goal

pub returns-clause-room : goal.returns-clause-room
returns-clause-room c =
    drawn_is c.args.self.now.view.now c.args.line.now c.args.self.now.request.now.size _ c.draw.new.room c.requires.line c.requires.places c.requires.size c.draw.ensures.room

pub returns-clause-blob : goal.returns-clause-blob
returns-clause-blob c =
    let view = c.args.self.now.view.now in
    let x = c.args.self.now.request.now in
    let drawn = drawn_is view c.args.line.now x.size _ c.draw.new.room c.requires.line c.requires.places c.requires.size c.draw.ensures.room in
    ok_where c.seal.result (λ b is. sealed_is view x c.args.lent.now c.args.line.now c.draw.new.line _ c.draw.new.room b c.requires.places drawn c.draw.ensures.used is) c.seal.ensures.blob
