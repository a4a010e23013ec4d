use Rattle.std.proofs.Common.{◌≤◌, length, arith}
use Rattle.serde_json.specs.View.{view}
use Rattle.policy_doc.proofs.ReadingFacts.{Answered, answered_of_value}
use Rattle.policy_doc.proofs.documents.read_policy.Goals as goal

pub returns : goal.returns
returns c =
    let short : length c.args.bytes.now ≤ 32768 = omega arith in
    let reads = c.in_ok-value.ensures.ok in
    let all : Answered c.args.kind c.args.bytes.now c.read_policy_value.result =
    answered_of_value c.args.kind c.args.bytes.now (view c.in_ok-value.value) c.read_policy_value.result short reads c.read_policy_value.ensures.ok c.read_policy_value.ensures.fault in
    record { too_long = all.0; ok = all.1; fault = all.2 }
