use Rattle.std.proofs.Common.{◌≡◌, List, [], ◌∷◌, ◌++◌, length, drop, sym, ap, ◌∙◌, arith}
use Rattle.std.proofs.lemmas.List.{drop_all}
use Rattle.std.proofs.lemmas.Result.{on_ok_weaker}
use Rattle.json.specs.Token.{begin_object, end_object}
use Rattle.serde_json.specs.Data.{Members, object, no_members}
use Rattle.enc_context.specs.declared.pairs.Pair.{Pair}
use Rattle.kms_json.specs.Texts.{data_tokens, closing_tokens}
use Rattle.kms_json.proofs.TextLemmas.{token_adds}
use Rattle.kms_json.proofs.ContextTexts.{pairs_listed, put_pairs_in_order}
use Rattle.kms_json.proofs.writing.grants.context.Goals as goal

pub returns : goal.returns
returns c =
    let pairs = c.args.context.now in
    let l = c.loop-pair in
    let none : drop l.pair-index pairs ≡ [] = drop_all l.pair-index pairs (omega (arith, ap (λ (ps : List Pair). length ps) c.pairs-pair-items.ensures.value)) in
    let written : l.text ++ end_object ∷ [] ≡ c.begin_object.new.self ++ closing_tokens (pairs_listed pairs no_members) =
    ap (λ (ps : List Pair). l.text ++ closing_tokens (pairs_listed ps no_members)) (sym none) ∙ l.invariant in
    let opened : c.begin_object.new.self ++ closing_tokens (pairs_listed pairs no_members) ≡ c.args.text.now ++ begin_object ∷ closing_tokens (pairs_listed pairs no_members) =
    token_adds c.args.text.now c.begin_object.new.self begin_object (closing_tokens (pairs_listed pairs no_members)) c.in_ok-begin_object.ensures in
    on_ok_weaker c.end_object.result
    (λ e. e ∙ written ∙ opened ∙ ap (λ (ms : Members). c.args.text.now ++ data_tokens (object ms)) (sym (put_pairs_in_order pairs c.pairs-pair-items.ensures.context.in_order)))
    c.end_object.ensures
