use Rattle.std.proofs.Common.{◌≡◌, ap, ◌∙◌, rules}
use Rattle.httpdate.specs.Date.{unix_secs}
use Rattle.http_front.specs.Head.{head_of}
use Rattle.http_front.proofs.head.write_head.Goals as goal

pub returns : goal.returns
returns c =
    let at : unix_secs c.unwrap-date.result ≡ c.args.second = search rules in
    let lines = c.head_at.ensures ∙ ap (λ date. head_of c.args.status c.args.size date c.args.front c.args.closes) c.to_bytes.ensures in
    record { date = c.unwrap-date.result; at = at; lines = lines }
