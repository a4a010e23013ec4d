use Rattle.blob_format.proofs.BlobNames.{blob_form, named_blob, named_only}
use Rattle.blob_format.proofs.laws.blobs_name_their_keys.Goals as goal

pub returns-clause-named : goal.returns-clause-named
returns-clause-named c = named_blob

pub returns-clause-forms : goal.returns-clause-forms
returns-clause-forms c = blob_form

pub returns-clause-blobs : goal.returns-clause-blobs
returns-clause-blobs c bytes name fit e = named_only bytes fit name e
