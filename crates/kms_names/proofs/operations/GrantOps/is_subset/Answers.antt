use Rattle.std.proofs.Common.{◌∙◌, sym}
use Rattle.kms_names.specs.GrantOps.{contains}
use Rattle.kms_names.proofs.OperationFacts.{all_implied, all_imply}
use Rattle.kms_names.proofs.operations.GrantOps.is_subset.Goals as goal

pub returns : goal.returns
returns c = (
  λ holds. all_implied (contains c.args.self.now) (contains c.args.other.now) (sym c.all_in.ensures ∙ holds),
  λ each. c.all_in.ensures ∙ all_imply (contains c.args.self.now) (contains c.args.other.now) each,
)
