-- What the operations on the rotation of keys answer, with members in byte order of their names (AWS KMS API Reference, GetKeyRotationStatus, RotateKeyOnDemand and ListKeyRotations).
use Rattle.std.specs.Prelude.{ℕ, List, codes, Option, Some, None, Bool, false, true, if◌then◌else◌}
use Rattle.uuid.specs.Text.{hyphenated_text, lower}
use Rattle.serde_json.specs.Data.{Data, object, Members, member, no_members, boolean}
use Rattle.kms_json.specs.declared.replies.AutomaticRotation.{AutomaticRotation}
use Rattle.kms_json.specs.declared.replies.lists.Rotation.{Rotation}
use Rattle.kms_json.specs.declared.replies.lists.RotationPage.{RotationPage}
use Rattle.kms_json.specs.Objects.{with_text, number_data, list_data}
use Rattle.kms_json.specs.PageReplies.{page_data}

abbrev pub rotated_data : List ℕ → Data
rotated_data key = object (with_text (codes "KeyId") (hyphenated_text lower key) no_members)

-- whether a key is rotated of itself, and when and how often
abbrev pub rotation_members : Option AutomaticRotation → Members
rotation_members None = member (codes "KeyRotationEnabled") (boolean false) no_members
rotation_members (Some rotation) =
    member (codes "KeyRotationEnabled") (boolean true)
    (member (codes "NextRotationDate") (number_data rotation.next)
    (member (codes "RotationPeriodInDays") (number_data rotation.period) no_members))

abbrev pub rotation_data : List ℕ → Option AutomaticRotation → Data
rotation_data key rotation = object (with_text (codes "KeyId") (hyphenated_text lower key) (rotation_members rotation))

-- how it came to a rotation
abbrev pub rotation_type : Bool → List ℕ
rotation_type on_demand = if on_demand then codes "ON_DEMAND" else codes "AUTOMATIC"

abbrev pub one_rotation_data : List ℕ → Rotation → Data
one_rotation_data id rotation = object
    (with_text (codes "KeyId") id
    (member (codes "RotationDate") (number_data rotation.date)
    (with_text (codes "RotationType") (rotation_type rotation.on_demand) no_members)))

abbrev pub rotations_data : RotationPage → Data
rotations_data page = page_data (codes "Rotations") (list_data (one_rotation_data (hyphenated_text lower page.key)) page.rotations) page.next
