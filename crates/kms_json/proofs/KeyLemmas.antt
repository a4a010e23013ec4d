-- The members of a key's description.
use Rattle.std.proofs.Common.{◌≡◌, ℕ, List, codes, Bool, false, Option, ap, ◌∙◌}
use Rattle.std.specs.Option.{option_map}
use Rattle.serde_json.specs.Data.{Members, member, no_members, object, boolean}
use Rattle.hmac_keys.specs.Kind.{usage_text, spec_text}
use Rattle.kms_json.specs.declared.replies.KeyMetadata.{KeyMetadata}
use Rattle.kms_json.specs.States.{state_name, is_enabled, deletion_date}
use Rattle.kms_json.specs.Objects.{with_text, with_any, number_data, one_text}
use Rattle.kms_json.specs.KeyReplies.{encryption_algorithm, mac_algorithm, described_as}

module _ (account arn id description name usage spec : List ℕ) (created : ℕ) (enabled : Bool) where
  abbrev pub in_order : Option ℕ → Option (List ℕ) → Option (List ℕ) → Members
  in_order date encrypts makes =
      with_text (codes "AWSAccountId") account
      (with_text (codes "Arn") arn
      (member (codes "CreationDate") (number_data created)
      (with_text (codes "CustomerMasterKeySpec") spec
      (with_any (codes "DeletionDate") (option_map number_data date)
      (with_text (codes "Description") description
      (member (codes "Enabled") (boolean enabled)
      (with_any (codes "EncryptionAlgorithms") (option_map one_text encrypts)
      (with_text (codes "KeyId") id
      (with_text (codes "KeyManager") (codes "CUSTOMER")
      (with_text (codes "KeySpec") spec
      (with_text (codes "KeyState") name
      (with_text (codes "KeyUsage") usage
      (with_any (codes "MacAlgorithms") (option_map one_text makes)
      (member (codes "MultiRegion") (boolean false)
      (with_text (codes "Origin") (codes "AWS_KMS") no_members)))))))))))))))

-- they are those of the key
pub described_is : (account arn id description name usage spec : List ℕ) (enabled : Bool) (date : Option ℕ) (encrypts makes : Option (List ℕ)) (key : KeyMetadata)
    → description ≡ key.description → name ≡ state_name key.state → enabled ≡ is_enabled key.state → date ≡ deletion_date key.state
    → usage ≡ usage_text key.kind → spec ≡ spec_text key.kind → encrypts ≡ encryption_algorithm key.kind → makes ≡ mac_algorithm key.kind
    → object (in_order account arn id description name usage spec key.created enabled date encrypts makes) ≡ described_as account arn key id
described_is account arn id description name usage spec enabled date encrypts makes key described named able dated used specified encrypting making =
    ap object
    (ap (λ (t : List ℕ). in_order account arn id t name usage spec key.created enabled date encrypts makes) described
    ∙ ap (λ (t : List ℕ). in_order account arn id key.description t usage spec key.created enabled date encrypts makes) named
    ∙ ap (λ (t : List ℕ). in_order account arn id key.description (state_name key.state) t spec key.created enabled date encrypts makes) used
    ∙ ap (λ (t : List ℕ). in_order account arn id key.description (state_name key.state) (usage_text key.kind) t key.created enabled date encrypts makes) specified
    ∙ ap (λ (b : Bool). in_order account arn id key.description (state_name key.state) (usage_text key.kind) (spec_text key.kind) key.created b date encrypts makes) able
    ∙ ap (λ (o : Option ℕ). in_order account arn id key.description (state_name key.state) (usage_text key.kind) (spec_text key.kind) key.created (is_enabled key.state) o encrypts makes) dated
    ∙ ap (λ (o : Option (List ℕ)). in_order account arn id key.description (state_name key.state) (usage_text key.kind) (spec_text key.kind) key.created (is_enabled key.state) (deletion_date key.state) o makes) encrypting
    ∙ ap (in_order account arn id key.description (state_name key.state) (usage_text key.kind) (spec_text key.kind) key.created (is_enabled key.state) (deletion_date key.state) (encryption_algorithm key.kind)) making)
