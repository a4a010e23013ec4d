use Rattle.std.proofs.Common.{◌≡◌, ◌++◌, ◌∷◌, [], ℕ, List, Some, String, string_bytes, sym, ap₂, ◌∙◌, subst, append-nil}
use Rattle.std.specs.Option.{option_map}
use Rattle.std.specs.declared.alloc.Global.{Global}
use Rattle.serde_json.specs.View.{view, members_view}
use Rattle.serde_json.specs.declared.value.Value.{Value}
use Rattle.enc_context.specs.declared.pairs.Pair.{Pair}
use Rattle.enc_context.specs.Pairs.{IsInOrder}
use Rattle.kms_json.specs.Fields.{pairs_of}
use Rattle.kms_json.proofs.ContextLemmas.{pair, one_more_pair, pairs_in_order}
use Rattle.kms_json.proofs.members.pairs_of.Goals as goal

pub loop-name-preserved : goal.loop-name-preserved
loop-name-preserved c =
    let pairs = c.loop-name.pairs.items in
    let whole = pairs_of (members_view c.args.members.now.entries) in
    let name = string_bytes c.in-Some.name.now in
    let value = c.in-Some.value.now in
    let left = c.next.new.self in
    let so_far : whole ≡ option_map (λ more. pairs ++ more) (pairs_of (members_view ((c.in-Some.name.now, value) ∷ left))) =
    subst (λ (it : List (String Global × Value)). whole ≡ option_map (λ more. pairs ++ more) (pairs_of (members_view it))) c.in-Some.ensures.steps c.loop-name.invariant in
    let next = one_more_pair pairs name c.in-Some-as_str.text.now (view value) (members_view left) whole (sym c.in-Some-as_str.ensures) so_far in
    let key : c.in_ok-from_str.field-0 ≡ name = c.in_ok-from_str.ensures ∙ c.as_str-in-loop-name.ensures.value in
    let pushed : c.push.new.self.items ≡ pairs ++ pair name c.in-Some-as_str.text.now ∷ [] =
    c.in_ok-push.ensures.items ∙ ap₂ (λ (k v : List ℕ). pairs ++ pair k v ∷ []) key c.in_ok-from_str-2.ensures in
    subst (λ (all : List Pair). whole ≡ option_map (λ more. all ++ more) (pairs_of (members_view left))) (sym pushed) next

pub returns-clause-order : goal.returns-clause-order
returns-clause-order c =
    let entries = c.args.members.now.entries in
    let pairs = c.loop-name.pairs.items in
    let all : pairs_of (members_view entries) ≡ Some (pairs ++ []) =
    subst (λ (left : List (String Global × Value)). pairs_of (members_view entries) ≡ option_map (λ more. pairs ++ more) (pairs_of (members_view left))) c.in-None.ensures.steps.0 c.loop-name.invariant in
    subst IsInOrder (append-nil pairs) (pairs_in_order entries (pairs ++ []) c.into_iter-name-iterator.ensures.into_iter_gives.5 all)
