-- What the operations on the states of keys answer, with members in byte order of their names (AWS KMS API Reference, ScheduleKeyDeletion and CancelKeyDeletion).
use Rattle.std.specs.Prelude.{ℕ, List, codes}
use Rattle.serde_json.specs.Data.{Data, object, member, no_members}
use Rattle.kms_json.specs.Objects.{with_text, number_data}

abbrev pub deletion_data : List ℕ → ℕ → ℕ → Data
deletion_data arn deletion_date days = object
    (member (codes "DeletionDate") (number_data deletion_date)
    (with_text (codes "KeyId") arn
    (with_text (codes "KeyState") (codes "PendingDeletion")
    (member (codes "PendingWindowInDays") (number_data days) no_members))))

abbrev pub cancelled_data : List ℕ → Data
cancelled_data arn = object (with_text (codes "KeyId") arn no_members)
