use Rattle.kms_names.specs.Reading.{key_ref_of}
use Rattle.kms_names.proofs.ReferenceReading.{key_ref_reads, one_reading}
use Rattle.kms_names.proofs.laws.key_ref_of_reads.Goals as goal

pub returns : goal.returns
returns c = λ text account region.
    (key_ref_reads text account region, λ answer reads. one_reading text account region answer (key_ref_of text account region) reads (key_ref_reads text account region))
