use Rattle.std.proofs.Common.{◌∙◌, [], Err, Ok, sym, ap, subst, List}
use Rattle.serde_json.specs.View.{view}
use Rattle.policy_doc.specs.Paths.{item_path}
use Rattle.sigv4_check.specs.Credentials.{placed}
use Rattle.sigv4_check.specs.declared.credentials.Credential.{Credential}
use Rattle.kms_config.specs.Answers.{Answers, ◌>>=◌, at}
use Rattle.kms_config.specs.Lists.{items_from}
use Rattle.policy_doc.specs.Paths.{path_text}
use Rattle.kms_config.specs.Credentials.{credential_in, next_credential}
use Rattle.kms_config.proofs.ItemFacts.{none_left, one_read, one_refused, stopped, passed}
use Rattle.kms_config.proofs.credentials.credentials_in.Goals as goal

pub returns-in-Err : goal.returns-in-Err
returns-in-Err c =
    let path = path_text c.args.place.now in
    let next = next_credential c.args.account.now path in
    let values = c.in-Some.values.now in
    let i = c.loop-index.index in
    let value = c.index-values-index.result in
    let before = c.loop-index.credentials in
    let whole = ap (λ o. at path o >>= items_from next [] 0) (sym c.in-Some.ensures) in
    subst (λ w. Answers {A = List Credential} w (Err c.in-Err.why)) (sym (whole ∙ sym c.loop-index.invariant))
    (one_refused next values before i value c.loop-index-test.true c.index-values-index.is c.in-Err.why
    (stopped (credential_in c.args.account.now before (item_path path i) (view value)) (λ credential. Ok (placed credential before)) c.in-Err.why c.in-Err.ensures.answer))

pub loop-index-preserved : goal.loop-index-preserved
loop-index-preserved c =
    let path = path_text c.args.place.now in
    let next = next_credential c.args.account.now path in
    let values = c.in-Some.values.now in
    let i = c.loop-index.index in
    let value = c.index-values-index.result in
    let before = c.loop-index.credentials in
    let read = passed (credential_in c.args.account.now before (item_path path i) (view value)) (λ credential. Ok (placed credential before)) c.in-Ok.credential c.in-Ok.ensures.answer in
    sym (one_read next values before i value c.loop-index-test.true c.index-values-index.is c.insert.new.self (read ∙ ap Ok (sym c.in_ok-insert-in-Ok.ensures.ok))) ∙ c.loop-index.invariant

pub returns : goal.returns
returns c =
    let path = path_text c.args.place.now in
    let next = next_credential c.args.account.now path in
    ap (λ o. at path o >>= items_from next [] 0) (sym c.in-Some.ensures)
    ∙ sym c.loop-index.invariant
    ∙ none_left next c.in-Some.values.now c.loop-index.credentials c.loop-index.index c.loop-index-test.false
