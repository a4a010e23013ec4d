use Rattle.std.proofs.Common.{map, refl, subst}
use Rattle.kms_io.specs.Wire.{Wire}
use Rattle.session_front.specs.declared.trust.Trust.TheVariants.{Signed}
use Rattle.kms_words.specs.Words.{serve_values_in}
use Rattle.kms_program.specs.Program.{everything, first_of, ServesAccount, serves_begun, serves_none}
use Rattle.kms_program.proofs.serving.serve_config.Goals as goal

pub returns-in-Ok : goal.returns-in-Ok
returns-in-Ok g c =
    let told = g.C.Clock.told in
    let old = g.F.Files.shows c.args.files.now in
    let new = g.F.Files.shows c.obtain_account.new.files in
    let door = g.D.Door.shows c.args.door.now in
    let clocks = map told c.args.clocks.now.items in
    let after = everything (g.L.Link.shows c.serve_account.new.link) new (g.D.Door.shows c.serve_account.new.door) (map told c.serve_account.new.clocks.items) in
    let found = c.in-Ok.ensures.account in
    let values = serve_values_in c.args.words.now in
    serves_begun c.in-Ok.account found.0 found.1
    (subst (λ (wire : Wire). ServesAccount c.in-Ok.account (Signed c.args.config.credentials) values c.serve_account.result (everything wire old door clocks) after) found.2 (c.serve_account.ensures old new))

pub returns : goal.returns
returns g c = serves_none (c.in-Err.ensures.status (first_of (map g.C.Clock.told c.args.clocks.now.items))) (record { door = refl; clocks = refl })
