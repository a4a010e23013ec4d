-- Refusals: their statuses, names and texts (AWS KMS API Reference, Common Errors and the errors of each action).
use Rattle.std.specs.Prelude.{ℕ, List, [], ◌++◌, codes, decimal}
use Rattle.kms_names.specs.Action.{action_name}
use Rattle.kms_names.specs.Principal.{principal_text}
use Rattle.serde_json.specs.Data.{Data, object, member, no_members, string}
use Rattle.kms_json.specs.declared.refusals.Refusal.{Refusal}
use Rattle.kms_json.specs.declared.refusals.Refusal.TheVariants.{MissingAuthentication, IncompleteSignature, UnrecognizedClient, RequestExpired, InvalidSignature, UnknownOperation, Serialization, Validation, InvalidAliasName, DependencyTimeout, NotFound, InvalidArn, InvalidGrantId, InvalidCiphertext, IncorrectKey, AccessDenied, InvalidGrantToken, Disabled, InvalidState, UnsupportedOperation, InvalidKeyUsage, InvalidMac, AlreadyExists, InvalidMarker, InvalidTags, MalformedPolicy, LimitExceeded, DryRun}
use Rattle.kms_json.specs.declared.refusals.Missing.{Missing}
use Rattle.kms_json.specs.declared.refusals.Missing.TheVariants as missing
use Rattle.kms_json.specs.declared.refusals.Limit.{Limit}
use Rattle.kms_json.specs.declared.refusals.Limit.TheVariants as limit
use Rattle.kms_json.specs.declared.refusals.Unsupported.{Unsupported}
use Rattle.kms_json.specs.declared.refusals.Unsupported.TheVariants as unsupported
use Rattle.kms_json.specs.declared.refusals.PolicyFlaw.{PolicyFlaw}
use Rattle.kms_json.specs.declared.refusals.PolicyFlaw.TheVariants as flaw
use Rattle.kms_json.specs.States.{state_name}

-- the status of a request that isn't served (RFC 9110, section 15): 400 but for these two
abbrev pub refusal_status : Refusal → ℕ
refusal_status (DependencyTimeout entries wanted) = 503
refusal_status DryRun = 412
refusal_status _ = 400

-- the name of the exception
abbrev pub exception_name : Refusal → List ℕ
exception_name MissingAuthentication = codes "MissingAuthenticationTokenException"
exception_name IncompleteSignature = codes "IncompleteSignatureException"
exception_name UnrecognizedClient = codes "UnrecognizedClientException"
exception_name RequestExpired = codes "RequestExpired"
exception_name InvalidSignature = codes "InvalidSignatureException"
exception_name UnknownOperation = codes "UnknownOperationException"
exception_name Serialization = codes "SerializationException"
exception_name (Validation field) = codes "ValidationException"
exception_name InvalidAliasName = codes "InvalidAliasNameException"
exception_name (DependencyTimeout entries wanted) = codes "DependencyTimeoutException"
exception_name (NotFound what) = codes "NotFoundException"
exception_name InvalidArn = codes "InvalidArnException"
exception_name InvalidGrantId = codes "InvalidGrantIdException"
exception_name InvalidCiphertext = codes "InvalidCiphertextException"
exception_name IncorrectKey = codes "IncorrectKeyException"
exception_name (AccessDenied caller action resource) = codes "AccessDeniedException"
exception_name InvalidGrantToken = codes "InvalidGrantTokenException"
exception_name (Disabled arn) = codes "DisabledException"
exception_name (InvalidState arn state) = codes "KMSInvalidStateException"
exception_name (UnsupportedOperation field) = codes "UnsupportedOperationException"
exception_name InvalidKeyUsage = codes "InvalidKeyUsageException"
exception_name InvalidMac = codes "KMSInvalidMacException"
exception_name AlreadyExists = codes "AlreadyExistsException"
exception_name InvalidMarker = codes "InvalidMarkerException"
exception_name InvalidTags = codes "TagException"
exception_name (MalformedPolicy flaw) = codes "MalformedPolicyDocumentException"
exception_name (LimitExceeded what) = codes "LimitExceededException"
exception_name DryRun = codes "DryRunOperationException"

abbrev pub missing_word : Missing → List ℕ
missing_word missing.Key = codes "key"
missing_word missing.Alias = codes "alias"
missing_word missing.Grant = codes "grant"

abbrev pub limit_word : Limit → List ℕ
limit_word limit.Keys = codes "keys"
limit_word limit.KeyGrants = codes "key grants"
limit_word limit.Grants = codes "grants"
limit_word limit.Aliases = codes "aliases"
limit_word limit.Rotations = codes "rotations"
limit_word limit.Tags = codes "tags"
limit_word limit.Ivs = codes "ivs"
limit_word limit.Draws = codes "draws"
limit_word limit.Entries = codes "entries"
limit_word limit.Bytes = codes "bytes"

abbrev pub unsupported_name : Unsupported → List ℕ
unsupported_name unsupported.KeyUsage = codes "KeyUsage"
unsupported_name unsupported.CustomerMasterKeySpec = codes "CustomerMasterKeySpec"
unsupported_name unsupported.KeySpec = codes "KeySpec"
unsupported_name unsupported.Origin = codes "Origin"
unsupported_name unsupported.CustomKeyStoreId = codes "CustomKeyStoreId"
unsupported_name unsupported.MultiRegion = codes "MultiRegion"
unsupported_name unsupported.XksKeyId = codes "XksKeyId"
unsupported_name unsupported.Recipient = codes "Recipient"
unsupported_name unsupported.KeyId = codes "KeyId"

-- what is wrong with a policy; a path is a JSON pointer (RFC 6901)
abbrev pub flaw_text : PolicyFlaw → List ℕ
flaw_text flaw.TooLong = codes "TooLong"
flaw_text flaw.NotJson = codes "NotJson"
flaw_text (flaw.BadShape path) = codes "BadShape at " ++ path
flaw_text (flaw.Unsupported path) = codes "Unsupported at " ++ path
flaw_text flaw.Lockout = codes "lockout"

-- the text of an exception that says nothing of its request
abbrev pub fixed_text : Refusal → List ℕ
fixed_text MissingAuthentication = codes "The request carries no Authorization header."
fixed_text IncompleteSignature = codes "The signature is not complete."
fixed_text UnrecognizedClient = codes "The access key is not known."
fixed_text RequestExpired = codes "The request is outside the time window."
fixed_text InvalidSignature = codes "The signature does not match."
fixed_text UnknownOperation = codes "X-Amz-Target names no operation of this service."
fixed_text Serialization = codes "The body is not the JSON that the operation takes."
fixed_text InvalidAliasName = codes "The alias name is not valid."
fixed_text InvalidArn = codes "The ARN is not valid."
fixed_text InvalidGrantId = codes "The grant id is not valid."
fixed_text InvalidCiphertext = codes "The ciphertext does not open."
fixed_text IncorrectKey = codes "The ciphertext is of another key."
fixed_text InvalidGrantToken = codes "A grant token names no live grant."
fixed_text InvalidKeyUsage = codes "The algorithm does not fit the key."
fixed_text InvalidMac = codes "The MAC is not valid."
fixed_text AlreadyExists = codes "The alias exists."
fixed_text InvalidMarker = codes "The marker is not valid."
fixed_text InvalidTags = codes "The tags are not valid."
fixed_text DryRun = codes "The call would have been allowed."
fixed_text _ = []

-- the text of the exception
abbrev pub exception_text : Refusal → List ℕ
exception_text (Validation field) = codes "Field " ++ (field ++ codes " is not valid.")
exception_text (DependencyTimeout entries wanted) = codes "The history has " ++ (decimal entries ++ (codes " entries; " ++ (decimal wanted ++ codes " were asked for.")))
exception_text (NotFound what) = codes "Not found: " ++ (missing_word what ++ codes ".")
exception_text (AccessDenied caller action resource) = codes "User: " ++ (principal_text caller ++ (codes " is not authorized to perform: kms:" ++ (action_name action ++ (codes " on resource: " ++ resource))))
exception_text (Disabled arn) = arn ++ codes " is disabled."
exception_text (InvalidState arn state) = arn ++ (codes " is " ++ (state_name state ++ codes "."))
exception_text (UnsupportedOperation field) = codes "Field " ++ (unsupported_name field ++ codes " is not supported.")
exception_text (MalformedPolicy flaw) = codes "Policy: " ++ (flaw_text flaw ++ codes ".")
exception_text (LimitExceeded what) = codes "Limit reached: " ++ (limit_word what ++ codes ".")
exception_text refusal = fixed_text refusal

abbrev pub exception : List ℕ → List ℕ → Data
exception name text = object (member (codes "__type") (string name) (member (codes "message") (string text) no_members))

abbrev pub refusal_data : Refusal → Data
refusal_data refusal = exception (exception_name refusal) (exception_text refusal)
