use Rattle.std.proofs.Common.{◌≡◌, ◌∙◌, ◌∷◌, ◌++◌, [], ℕ, List, sym, ap, codes, append_assoc}
use Rattle.hex.specs.Hex.{encode_lower}
use Rattle.sha2.specs.Sha256.{sha256}
use Rattle.sha2.specs.declared.Sha256.{Sha256}
use Rattle.sigv4_check.specs.Parts.{parts_at}
use Rattle.sigv4_check.specs.Fields.{fields_in, body_in}
use Rattle.sigv4_check.specs.Canonical.{canonical_request, body_hash}
use Rattle.sigv4_check.proofs.ValueFacts.{Adds, both_added, added_as, lines_of, empty_joined}
use Rattle.sigv4_check.proofs.canonical.canonical_hash.Goals as goal

-- six parts, and what they make
joined : (lines names hash : List ℕ) → ((((codes "POST\n/\n\n" ++ lines) ++ codes "\n") ++ names) ++ codes "\n") ++ hash ≡ codes "POST\n/\n\n" ++ (lines ++ 10 ∷ (names ++ 10 ∷ hash))
joined lines names hash = simp append_assoc

pub returns : goal.returns
unfolding canonical_request
returns c =
    let fields = fields_in c.args.buffer.now c.args.cut.now in
    let names = c.args.names.now in
    let hash = body_hash (body_in c.args.buffer.now c.args.cut.now) in
    let lines = lines_of fields (parts_at 59 names) in
    let a : Sha256 = c.new-hasher.result in
    let digits : c.as_slice-4.result.now ≡ hash =
    c.as_slice-4.ensures ∙ c.hex_of.ensures ∙ ap encode_lower (c.digest-body.ensures ∙ ap sha256 c.body_of.ensures) in
    let one : Adds a c.update.new.self (codes "POST\n/\n\n") = added_as a c.update.new.self _ (codes "POST\n/\n\n") c.as_slice.ensures c.update.ensures in
    let two = both_added a c.update.new.self c.add_lines.new.hasher (codes "POST\n/\n\n") lines one c.add_lines.ensures in
    let three = both_added a c.add_lines.new.hasher c.update-2.new.self _ (codes "\n") two (added_as c.add_lines.new.hasher c.update-2.new.self _ (codes "\n") c.as_slice-2.ensures c.update-2.ensures) in
    let four = both_added a c.update-2.new.self c.update-3.new.self _ names three c.update-3.ensures in
    let five = both_added a c.update-3.new.self c.update-4.new.self _ (codes "\n") four (added_as c.update-3.new.self c.update-4.new.self _ (codes "\n") c.as_slice-3.ensures c.update-4.ensures) in
    let six = both_added a c.update-4.new.self c.update-5.new.self _ hash five (added_as c.update-4.new.self c.update-5.new.self _ hash digits c.update-5.ensures) in
    c.finalize.ensures _ (six [] c.new-hasher.ensures)
    ∙ ap sha256 (joined lines names hash ∙ ap (λ (rest : List ℕ). codes "POST\n/\n" ++ rest) (sym (empty_joined fields names hash (parts_at 59 names))))
