use Rattle.std.proofs.Common.{Option, ap, ok_or, rules}
use Rattle.kms_json.specs.declared.refusals.Refusal.TheVariants as refusal
use Rattle.blob_format.specs.Names.{BlobName}
use Rattle.blob_format.proofs.BlobNames.{named_read, named_none}
use Rattle.account_steps.proofs.sources.read.Goals as goal

pub returns-in-Some-clause-gives : goal.returns-in-Some-clause-gives
returns-in-Some-clause-gives c = ap (λ (found : Option BlobName). ok_or found refusal.InvalidCiphertext) (named_read c.args.bytes.now c.in-Some.blob c.in-Some.ensures)

pub returns-in-None-clause-gives : goal.returns-in-None-clause-gives
returns-in-None-clause-gives c = ap (λ (found : Option BlobName). ok_or found refusal.InvalidCiphertext) (named_none c.args.bytes.now (search rules) c.in-None.ensures)
