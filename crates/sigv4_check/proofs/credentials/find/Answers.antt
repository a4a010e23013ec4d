use Rattle.sigv4_check.proofs.CredentialFacts.{found_first}
use Rattle.sigv4_check.proofs.credentials.find.Goals as goal

pub returns-in-Some : goal.returns-in-Some
returns-in-Some c =
    let among = c.in-Some.ensures in
    found_first c.args.id.now c.in-Some.credential.now c.args.creds.now among.place c.requires among.within among.is among.named
