-- What a request is answered that gives the token of a grant that is gone (AWS KMS API Reference, InvalidGrantTokenException).
use Rattle.std.specs.Prelude.{◌≡◌, ℕ, Bool, List, [], ◌∷◌, ◌++◌, Contains, Some, None, Ok, Err}
use Rattle.kms_json.specs.declared.asks.Ask.{Ask}
use Rattle.kms_json.specs.declared.asks.Changing.TheVariants as changing
use Rattle.kms_json.specs.declared.asks.Reading.TheVariants as reading
use Rattle.kms_json.specs.declared.asks.cryptography.Encrypt.{Encrypt}
use Rattle.kms_json.specs.declared.asks.cryptography.Decrypt.{Decrypt}
use Rattle.kms_json.specs.declared.asks.cryptography.ReEncrypt.{ReEncrypt}
use Rattle.kms_json.specs.declared.asks.cryptography.DataKey.{DataKey}
use Rattle.kms_json.specs.declared.asks.grants.CreateGrant.{CreateGrant}
use Rattle.kms_json.specs.declared.asks.macs.GenerateMac.{GenerateMac}
use Rattle.kms_json.specs.declared.asks.macs.VerifyMac.{VerifyMac}
use Rattle.kms_json.specs.declared.asks.grants.RetiredGrant.TheVariants as retired
use Rattle.kms_json.specs.declared.refusals.Refusal.TheVariants as refusal
use Rattle.account_steps.specs.declared.facts.RealmFacts.{RealmFacts}
use Rattle.account_steps.specs.declared.places.Places.{Places}
use Rattle.account_rows.specs.declared.entries.Entry.{Entry}
use Rattle.account_rows.specs.declared.entries.What.TheVariants as what
use Rattle.account_steps.specs.View.{View, view_of}
use Rattle.account_steps.specs.Authority.{denied}
use Rattle.account_steps.specs.Parts.{Parts, grant_id_of}
use Rattle.account_crypto.specs.Crypto.{encrypts, decrypts, re_encrypts, generates_data_key, generates_mac, verifies_mac}
use Rattle.account_crypto.specs.declared.data_keys.DataKeyForm.TheVariants as form
use Rattle.account_keys.specs.Keys.{describes_key}
use Rattle.account_keys.specs.Grants.{creates_grant}
use Rattle.account_core.specs.Fitting.{IsHeld}
use Rattle.account_core.specs.Operations.{read_outcome, change_outcome}

-- a request comes to the step of grant tokens, and gives this one: its references are found, and authority passes
pub record ComesToTokens {F R : Type 0} (view : View) (parts : Parts F R) (token : List ℕ) : Type 0 where
  pub found : F
  pub is_found : parts.found ≡ Ok found
  pub allowed : denied view (parts.questions found) ≡ None
  pub gives : Contains parts.tokens token

-- whatever operation takes the token is refused by its name; RetireGrant, whose reference it is, already where references are looked up
pub record RefusesToken (view : View) (token : List ℕ) : Type 0 where
  pub describe_key : (key_id : List ℕ) (tokens : List (List ℕ)) → ComesToTokens view (describes_key view key_id tokens).parts token
      → read_outcome view (reading.DescribeKey key_id tokens) ≡ Err refusal.InvalidGrantToken
  pub encrypt : (x : Encrypt) → ComesToTokens view (encrypts view x).parts token → read_outcome view (reading.Encrypt x) ≡ Err refusal.InvalidGrantToken
  pub decrypt : (x : Decrypt) → ComesToTokens view (decrypts view x).parts token → read_outcome view (reading.Decrypt x) ≡ Err refusal.InvalidGrantToken
  pub re_encrypt : (x : ReEncrypt) → ComesToTokens view (re_encrypts view x).parts token → read_outcome view (reading.ReEncrypt x) ≡ Err refusal.InvalidGrantToken
  pub generate_sealed : (x : DataKey) → ComesToTokens view (generates_data_key view x form.Sealed).parts token
      → read_outcome view (reading.GenerateDataKeyWithoutPlaintext x) ≡ Err refusal.InvalidGrantToken
  pub generate_data_key : (x : DataKey) (recipient : Bool) → ComesToTokens view (generates_data_key view x (form.Plaintext recipient)).parts token
      → read_outcome view (reading.GenerateDataKey x recipient) ≡ Err refusal.InvalidGrantToken
  pub generate_mac : (x : GenerateMac) → ComesToTokens view (generates_mac view x).parts token → read_outcome view (reading.GenerateMac x) ≡ Err refusal.InvalidGrantToken
  pub verify_mac : (x : VerifyMac) → ComesToTokens view (verifies_mac view x).parts token → read_outcome view (reading.VerifyMac x) ≡ Err refusal.InvalidGrantToken
  pub create_grant : (x : CreateGrant) → ComesToTokens view (creates_grant view x).parts token → change_outcome view (changing.CreateGrant x) ≡ Err refusal.InvalidGrantToken
  pub retire_grant : (dry_run : Bool) → change_outcome view (changing.RetireGrant (retired.OfToken token) dry_run) ≡ Err refusal.InvalidGrantToken

-- so it is with the token of a grant that an entry of a history drops, at that history and at every one that an account holds and that begins with
-- it; no later grant has its id
abbrev pub DeadTokensAreRefused : Type 0
DeadTokensAreRefused =
    (facts : RealmFacts) (history more : List Entry) (entry : Entry) (grant token : List ℕ) (x : Ask) (places : Places) → IsHeld facts ((history ++ entry ∷ []) ++ more)
    → entry.what ≡ what.GrantDrop grant → grant_id_of token ≡ Some grant → RefusesToken (view_of facts ((history ++ entry ∷ []) ++ more) x places) token
