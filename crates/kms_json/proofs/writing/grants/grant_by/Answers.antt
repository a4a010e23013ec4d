use Rattle.std.proofs.Common.{◌≡◌, ℕ, List, ◌++◌, codes, Option, Some, ap, ◌∙◌}
use Rattle.std.specs.Option.{option_map}
use Rattle.std.proofs.lemmas.Result.{on_ok_weaker}
use Rattle.json.specs.Token.{begin_object}
use Rattle.serde_json.specs.Data.{Data, Members, member, no_members, string}
use Rattle.kms_json.specs.Objects.{with_text, with_any, number_data}
use Rattle.kms_json.specs.GrantReplies.{constraint_data, operations_data}
use Rattle.kms_json.specs.Texts.{closing_tokens}
use Rattle.kms_json.proofs.TextLemmas.{member_adds, token_adds, texts_if}
use Rattle.kms_json.proofs.writing.grants.grant_by.Goals as goal

pub returns : goal.returns
returns c =
    let grant = c.args.grant.now in
    let parties = c.args.parties.now in
    let opened = c.begin_object.new.self in
    let constrained = c.constraint.new.text in
    let described = c.write_members.new.text in
    let listed = c.operations.new.text in
    let last : Members = with_any (codes "RetiringPrincipal") (option_map string parties.retiring) no_members in
    let later : Members = member (codes "Operations") (operations_data grant.operations) last in
    let members : List ℕ → List ℕ → Option Data → Members =
    λ grantee issuer name.
    member (codes "CreationDate") (number_data grant.created)
    (with_text (codes "GrantId") c.args.id.now
    (with_text (codes "GranteePrincipal") grantee (with_text (codes "IssuingAccount") issuer (with_text (codes "KeyId") c.args.arn.now (with_any (codes "Name") name later))))) in
    let name : option_map (λ t. string t.now) c.str_if.result ≡ option_map string grant.name = texts_if (λ t. t.now) c.str_if.result ∙ ap (option_map string) c.str_if.ensures in
    let told : Members = members parties.grantee parties.issuer (option_map string grant.name) in
    let all : Members = with_any (codes "Constraints") (constraint_data grant.constraint) told in
    let retired = member_adds listed c.write_text_if.new.text (codes "RetiringPrincipal") (option_map string parties.retiring) no_members c.in_ok-write_text_if.ensures in
    let done = member_adds described listed (codes "Operations") (Some (operations_data grant.operations)) last c.in_ok-operations.ensures in
    let known : described ++ closing_tokens later ≡ constrained ++ closing_tokens told =
    c.in_ok-write_members.ensures later
    ∙ ap (λ (o : Option Data). constrained ++ closing_tokens (members c.as_str.result.now c.as_str-2.result.now o)) name
    ∙ ap (λ (grantee : List ℕ). constrained ++ closing_tokens (members grantee c.as_str-2.result.now (option_map string grant.name))) c.as_str.ensures.value
    ∙ ap (λ (issuer : List ℕ). constrained ++ closing_tokens (members parties.grantee issuer (option_map string grant.name))) c.as_str-2.ensures.value in
    let held = member_adds opened constrained (codes "Constraints") (constraint_data grant.constraint) told c.in_ok-constraint.ensures in
    let begun = token_adds c.args.text.now opened begin_object (closing_tokens all) c.in_ok-begin_object.ensures in
    on_ok_weaker c.end_object.result (λ e. e ∙ retired ∙ done ∙ known ∙ held ∙ begun) c.end_object.ensures
