use Rattle.kms_json.proofs.writing.grants.constraint.Goals as goal

pub returns-in-Equals : goal.returns-in-Equals
returns-in-Equals c = rw c.in-Equals.is c.constraint_by.ensures

pub returns-in-Subset : goal.returns-in-Subset
returns-in-Subset c = rw c.in-Subset.is c.constraint_by-in-Subset.ensures
