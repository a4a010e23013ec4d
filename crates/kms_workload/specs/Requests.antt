-- What each message asks.
use Rattle.std.specs.Prelude.{◌≡◌, ℕ, ◌%◌, List, [], ◌∷◌, ◌++◌, codes, decimal, if◌then◌else◌, ◌==◌}
use Rattle.std.specs.Int.{w64, to_be_bytes}
use Rattle.base64.specs.Engines.{standard}
use Rattle.base64.specs.GeneralPurpose.{encode_of}
use Rattle.uuid.specs.Text.{hyphenated_text, lower}
use Rattle.serde_json.specs.Data.{Data, Members, object, member, no_members, string, number, unsigned, array, item, no_items}
use Rattle.serde_json.specs.Written.{compact_text}
use Rattle.draw_lines.specs.Iv.{iv_at}
use Rattle.enc_context.specs.declared.pairs.Pair.{Pair}
use Rattle.crypto_ops.specs.Sealed.{sealed}
use Rattle.kms_workload.specs.declared.words.Words.{Words}
use Rattle.kms_workload.specs.declared.requests.Request.{Request}
use Rattle.kms_workload.specs.Facts.{root_secret, key_at}

-- an operation and the JSON value that its body says
pub record Asked : Type 0 where
  pub operation : List ℕ
  pub body : Data

abbrev pub with_text : List ℕ → List ℕ → Members → Members
with_text name text more = member name (string text) more

abbrev pub base64_of : List ℕ → Data
base64_of bytes = string (encode_of standard bytes)

-- the text that the message of this number encrypts
abbrev pub text_of : ℕ → List ℕ
text_of n = to_be_bytes w64 n

-- and its context: the number in decimal, under the name n
abbrev pub context_data : ℕ → Data
context_data n = object (with_text (codes "n") (decimal n) no_members)

abbrev pub pairs_of : ℕ → List Pair
pairs_of n = record { key = codes "n"; value = decimal n } ∷ []

-- the blob that the message of this number has opened: its text, sealed by the first version of the key, with the vector of boot 1,
-- pass 65,535, which no service has, and the message's number
abbrev pub blob_of : List ℕ → ℕ → List ℕ
blob_of key n = sealed root_secret key 1 (iv_at 1 65535 n) (pairs_of n) (text_of n)

abbrev pub encrypts : List ℕ → ℕ → Data
encrypts id n = object (member (codes "EncryptionContext") (context_data n) (with_text (codes "KeyId") id (member (codes "Plaintext") (base64_of (text_of n)) no_members)))

abbrev pub decrypts : List ℕ → ℕ → Data
decrypts key n = object (member (codes "CiphertextBlob") (base64_of (blob_of key n)) (member (codes "EncryptionContext") (context_data n) no_members))

abbrev pub asks_data_key : List ℕ → Data
asks_data_key id = object (with_text (codes "KeyId") id (with_text (codes "KeySpec") (codes "AES_256") no_members))

abbrev pub names_key : List ℕ → Data
names_key id = object (with_text (codes "KeyId") id no_members)

-- the name of a grant, of which there are fifty
abbrev pub grant_name : ℕ → List ℕ
grant_name n = codes "g" ++ decimal (n % 50)

abbrev pub grants : List ℕ → ℕ → Data
grants id n = object (with_text (codes "GranteePrincipal") (codes "arn:aws:iam::111122223333:user/load") (with_text (codes "KeyId") id (with_text (codes "Name") (grant_name n) (member (codes "Operations") (array (item (string (codes "Decrypt")) no_items)) no_members))))

abbrev pub lists_grants : List ℕ → Data
lists_grants id = object (with_text (codes "KeyId") id (member (codes "Limit") (number (unsigned 100)) no_members))

-- the operation that the third word chooses
abbrev pub switch_of : ℕ → List ℕ
switch_of third = if third % 2 == 0 then codes "EnableKey" else codes "DisableKey"

-- what is asked of a key, with its printed id, by the message of this number: the choice is 0 to 7
abbrev pub asked_by : List ℕ → List ℕ → ℕ → ℕ → ℕ → Asked
asked_by key id n choice third =
    if choice == 0 then record { operation = codes "Encrypt"; body = encrypts id n }
    else (if choice == 1 then record { operation = codes "Decrypt"; body = decrypts key n }
    else (if choice == 2 then record { operation = codes "GenerateDataKey"; body = asks_data_key id }
    else (if choice == 3 then record { operation = codes "RotateKeyOnDemand"; body = names_key id }
    else (if choice == 4 then record { operation = codes "DescribeKey"; body = names_key id }
    else (if choice == 5 then record { operation = codes "CreateGrant"; body = grants id n }
    else (if choice == 6 then record { operation = codes "ListGrants"; body = lists_grants id }
    else record { operation = switch_of third; body = names_key id }))))))

-- what these words have the message of this number ask
abbrev pub asked_of : ℕ → Words → Asked
asked_of n words = let key = key_at (words.first % 8) in asked_by key (hyphenated_text lower key) n (words.second % 8) words.third

-- a key with nothing said of it
abbrev pub creates : Asked
creates = record { operation = codes "CreateKey"; body = object no_members }

-- the request is what is asked, its body in compact JSON
pub record IsRequest (asked : Asked) (request : Request) : Type 0 where
  pub operation : request.operation.now ≡ asked.operation
  pub body : request.body.items ≡ compact_text asked.body
