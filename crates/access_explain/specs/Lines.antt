-- The line of a certificate: a JSON object and a line feed.
use Rattle.std.specs.Prelude.{ℕ, Bool, true, false, List, [], ◌∷◌, ◌++◌, codes}
use Rattle.std.specs.List.{flat_map}
use Rattle.serde_json.specs.Data.{Data, object, member, no_members}
use Rattle.serde_json.specs.Written.{compact_text}
use Rattle.kms_names.specs.Action.{action_text}
use Rattle.kms_json.specs.Objects.{with_text, list_data}
use Rattle.access_explain.specs.declared.certificates.Certificate.{Certificate}
use Rattle.access_explain.specs.declared.findings.Finding.{Finding}
use Rattle.access_explain.specs.declared.grounds.Ground.{Ground}
use Rattle.access_explain.specs.declared.grounds.Ground.TheVariants as ground
use Rattle.access_explain.specs.declared.marks.Mark.{Mark}
use Rattle.access_explain.specs.declared.marks.Mark.TheVariants as mark

-- the letter of a mark
abbrev pub letter : Mark → List ℕ
letter mark.Hit = codes "H"
letter mark.RootHit = codes "T"
letter mark.Principal = codes "P"
letter mark.Action = codes "A"
letter mark.Resource = codes "R"
letter mark.Condition = codes "C"

abbrev pub letters : List Mark → List ℕ
letters marks = flat_map letter marks

-- the four runs of a finding
abbrev pub marks_text : Finding → List ℕ
marks_text f = letters f.key_marks ++ (codes "/" ++ (letters f.identity_marks ++ (codes "/" ++ (letters f.ceiling_marks ++ (codes "/" ++ letters f.grant_marks)))))

abbrev pub ground_text : Ground → List ℕ
ground_text ground.KeyDeny = codes "key deny"
ground_text ground.IdentityDeny = codes "identity deny"
ground_text ground.Ceiling = codes "ceiling"
ground_text ground.KeyPolicy = codes "key policy"
ground_text ground.RootAndIdentity = codes "root and identity"
ground_text ground.Identity = codes "identity"
ground_text ground.Root = codes "root"
ground_text ground.Grant = codes "grant"
ground_text ground.Retire = codes "retire"
ground_text ground.Nothing = codes "nothing"

abbrev pub decision_text : Bool → Bool → List ℕ
decision_text true allowed = codes "Early"
decision_text false true = codes "Allowed"
decision_text false false = codes "Denied"

abbrev pub question_data : Finding → Data
question_data f =
    object
    (with_text (codes "action") (action_text f.action)
    (with_text (codes "by") (ground_text f.ground) (with_text (codes "marks") (marks_text f) (with_text (codes "resource") f.resource no_members))))

-- with the exception of the reply, or what stands for it
abbrev pub certificate_data : Certificate → List ℕ → Data
certificate_data c outcome =
    object
    (with_text (codes "decision") (decision_text c.early c.allowed)
    (member (codes "questions") (list_data question_data c.findings) (with_text (codes "then") outcome no_members)))

-- the line feed is 10
unfoldable pub certificate_text : Certificate → List ℕ → List ℕ
certificate_text c outcome = compact_text (certificate_data c outcome) ++ 10 ∷ []
