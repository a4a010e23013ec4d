use Rattle.kms_workload.proofs.MessageLemmas.{request_late}
use Rattle.kms_workload.proofs.requests.request_at.Goals as goal

pub returns-else-number-lt-KEYS : goal.returns-else-number-lt-KEYS
returns-else-number-lt-KEYS c = request_late c.args.seed c.args.number c.words_of.result c.request_by.result c.if-number-lt-KEYS.false c.words_of.ensures c.request_by.ensures
