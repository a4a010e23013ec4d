use Rattle.std.proofs.Common.{◌≡◌, ◌∙◌, ◌∷◌, ◌++◌, [], ℕ, List, ap, codes, append_assoc}
use Rattle.hex.specs.Hex.{encode_lower}
use Rattle.mac_sha.specs.Hmac.{hmac_sha256}
use Rattle.sigv4_check.specs.Signing.{signature_of, string_to_sign, scope_text}
use Rattle.sigv4_check.proofs.signing.signature.Goals as goal

-- eight parts, and what they make
joined : (stamp date region digits : List ℕ)
    → codes "AWS4-HMAC-SHA256\n" ++ stamp ++ codes "\n" ++ date ++ codes "/" ++ region ++ codes "/kms/aws4_request\n" ++ digits
    ≡ codes "AWS4-HMAC-SHA256" ++ 10 ∷ (stamp ++ 10 ∷ (scope_text date region ++ 10 ∷ digits))
joined stamp date region digits = simp append_assoc

pub returns : goal.returns
unfolding string_to_sign signature_of
returns c = λ key canonical keyed is.
    let one = c.add.ensures key [] keyed in
    let two = c.add-2.ensures key _ one in
    let three = c.add-3.ensures key _ two in
    let four = c.add-4.ensures key _ three in
    let five = c.add-5.ensures key _ four in
    let six = c.add-6.ensures key _ five in
    let seven = c.add-7.ensures key _ six in
    let end = c.end.ensures key _ (c.add-8.ensures key _ seven) in
    let text = joined c.args.stamp.now c.args.date.now c.args.region.now c.hex_of.result in
    let digits = c.hex_of.ensures ∙ ap encode_lower is in
    c.hex_of-2.ensures
    ∙ ap encode_lower (end ∙ ap (hmac_sha256 key) (text ∙ ap (λ (d : List ℕ). codes "AWS4-HMAC-SHA256" ++ 10 ∷ (c.args.stamp.now ++ 10 ∷ (scope_text c.args.date.now c.args.region.now ++ 10 ∷ d))) digits))
