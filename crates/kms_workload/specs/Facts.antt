-- Whose account the workload asks, and who asks it.
use Rattle.std.specs.Prelude.{ℕ, List, [], codes, replicate}
use Rattle.kms_names.specs.declared.principals.Principal.TheVariants.{Root}
use Rattle.account_steps.specs.declared.facts.RealmFacts.{RealmFacts}
use Rattle.account_steps.specs.Ids.{key_id_at}
use Rattle.session_front.specs.declared.trust.Trust.{Trust}
use Rattle.session_front.specs.declared.trust.Trust.TheVariants.{Word}

abbrev pub account_number : List ℕ
account_number = codes "111122223333"

-- a root secret of zeros
abbrev pub root_secret : List ℕ
root_secret = replicate 32 0

-- the facts of the account: nobody has policies of their own
abbrev pub load_facts : RealmFacts
load_facts = record { account = account_number; region = codes "us-east-1"; root = root_secret; boot = 1; identities = []; ceiling = [] }

-- each message is the account's root's
abbrev pub load_trust : Trust
load_trust = Word (Root account_number)

-- the id of the key that the entry at this place makes
abbrev pub key_at : ℕ → List ℕ
key_at place = key_id_at load_facts place
