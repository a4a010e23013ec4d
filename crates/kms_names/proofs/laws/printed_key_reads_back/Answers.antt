use Rattle.std.proofs.Common.{sym, inl, refl}
use Rattle.uuid.specs.Text.{lower}
use Rattle.uuid.proofs.RoundTrips.{parses_hyphenated_text}
use Rattle.kms_names.proofs.laws.printed_key_reads_back.Goals as goal

pub returns : goal.returns
returns c = λ key id. sym (parses_hyphenated_text lower key (inl refl) id.0 id.1)
