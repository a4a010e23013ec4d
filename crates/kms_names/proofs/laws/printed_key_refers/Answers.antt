use Rattle.std.proofs.Common.{◌≡◌, Some, refl, sym, inl, inr}
use Rattle.uuid.specs.Text.{parsed_hyphenated, hyphenated_text, lower}
use Rattle.uuid.proofs.RoundTrips.{parses_hyphenated_text}
use Rattle.kms_names.proofs.laws.printed_key_refers.Goals as goal

pub returns : goal.returns
returns c = λ account region key number place id.
    let reads : parsed_hyphenated (hyphenated_text lower key) ≡ Some key = sym (parses_hyphenated_text lower key (inl refl) id.0 id.1) in
    (inl reads, inr (_, (place, number, refl), (hyphenated_text lower key, refl, reads)))
