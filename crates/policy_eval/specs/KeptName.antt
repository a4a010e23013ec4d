-- Those whom statements name, as they are kept.
use Rattle.kms_names.specs.declared.principals.Principal.TheVariants.{Root}
use Rattle.policy_doc.specs.declared.policies.Named.{Named}
use Rattle.policy_doc.specs.declared.policies.Named.TheVariants.{Everyone, One}
use Rattle.policy_eval.specs.declared.names.Form.{Form}
use Rattle.policy_eval.specs.declared.names.Form.TheVariants.{Star, RootOf, Other}

-- the one who is named
abbrev pub named_of : Form → Named
named_of Star = Everyone
named_of (RootOf account) = One (Root account)
named_of (Other principal) = One principal.value
