-- The token of a grant that is gone is refused by its name.
use Rattle.std.proofs.Common.{◌≡◌, ℕ, zero, suc, Bool, true, false, ◌||◌, if◌then◌else◌, List, [], ◌∷◌, ◌++◌, Option, Some, None, is_none, Result, Ok, Err, refl, ap, ◌∙◌, arith}
use Rattle.std.specs.Prelude.{Contains, option_and_then, ok_or}
use Rattle.std.specs.List.{list_any}
use Rattle.kms_json.specs.declared.refusals.Refusal.{Refusal}
use Rattle.kms_json.specs.declared.refusals.Refusal.TheVariants as refusal
use Rattle.account_steps.specs.View.{View, view_of, grant_held, if_live}
use Rattle.account_steps.specs.Steps.{and_then, unless}
use Rattle.account_steps.specs.Authority.{denied}
use Rattle.account_steps.specs.Parts.{Parts, Outcome, grant_id_of, grant_of_token, is_dead, dead_token, unfit_state, only_asked, cleared, outcome, spent, limited}
use Rattle.kms_json.specs.declared.asks.grants.RetiredGrant.TheVariants as retired
use Rattle.grant_table.specs.declared.rows.GrantRow.{GrantRow}
use Rattle.grant_table.specs.Grants.{grant_with}
use Rattle.account_crypto.specs.Crypto.{encrypts, decrypts, re_encrypts, generates_data_key, generates_mac, verifies_mac}
use Rattle.account_crypto.specs.declared.data_keys.DataKeyForm.TheVariants as form
use Rattle.account_keys.specs.Keys.{describes_key}
use Rattle.account_keys.specs.Grants.{creates_grant, retires_grant}
use Rattle.account_laws.specs.Tokens.{ComesToTokens, RefusesToken, DeadTokensAreRefused}
use Rattle.account_laws.proofs.Retiring.{dropped_stays_away}

by_or : (b c : Bool) → c ≡ true → (b || c) ≡ true
by_or true c e = refl
by_or false c e = e

finds : {X : Type 0} (test : X → Bool) (xs : List X) (x : X) → test x ≡ true → Contains xs x → list_any test xs ≡ true
finds test [] x is (k, lt, at) = absurd (omega (arith, lt))
finds test (y ∷ ys) x is (zero, lt, at) = ap (λ (b : Bool). b || list_any test ys) (ap test at ∙ is)
finds test (y ∷ ys) x is (suc k, lt, at) = by_or (test y) (list_any test ys) (finds test ys x is (k, omega (arith, lt), at))

-- no grant has the id, so its token names none
module _ (view : View) (grant token : List ℕ) (gone : grant_with view.grants grant ≡ None) (writes : grant_id_of token ≡ Some grant) where
  names_none : grant_of_token view token ≡ None
  names_none = ap (option_and_then (grant_held view)) writes ∙ ap (λ (o : Option GrantRow). option_and_then (if_live view) o) gone

  dead : is_dead view token ≡ true
  unfolding is_dead
  dead = ap is_none names_none

module _ {F R : Type 0} (view : View) (parts : Parts F R) (token : List ℕ) (is : is_dead view token ≡ true) (c : ComesToTokens view parts token) where
  given : dead_token view parts.tokens ≡ Some refusal.InvalidGrantToken
  given = ap (λ (b : Bool). if b then Some refusal.InvalidGrantToken else None) (finds (is_dead view) parts.tokens token is c.gives)

  abbrev behind : F → Result (F × R) Refusal
  behind found = unless (unfit_state view (parts.uses found)) (and_then (parts.own found) (λ ready. Ok (found, ready)))

  stops : cleared view parts ≡ Err refusal.InvalidGrantToken
  stops =
      ap (λ (r : Result F Refusal). and_then r (λ found. unless (denied view (parts.questions found)) (unless (dead_token view parts.tokens) (behind found)))) c.is_found
      ∙ ap (λ (o : Option Refusal). unless o (unless (dead_token view parts.tokens) (behind c.found))) c.allowed
      ∙ ap (λ (o : Option Refusal). unless o (behind c.found)) given

  pub refused : {E : Type 0} (limit : E → Option Refusal) (effect : F → R → E) → outcome view parts limit effect ≡ Err refusal.InvalidGrantToken
  refused {E} limit effect =
      ap (λ (r : Result (F × R) Refusal). and_then {B = Outcome E} r (λ passed. unless (limit (effect passed.0 passed.1)) (unless (only_asked parts.dry_run) (Ok (record { reply = parts.reply passed.0 passed.1; effect = effect passed.0 passed.1 }))))) stops

-- references that aren't found decide
unfound : {F R E : Type 0} (view : View) (parts : Parts F R) (why : Refusal) → parts.found ≡ Err why → (limit : E → Option Refusal) (effect : F → R → E)
    → outcome view parts limit effect ≡ Err why
unfound {F} {R} {E} view parts why missed limit effect =
    let behind : F → Result (F × R) Refusal =
    λ found. unless (denied view (parts.questions found)) (unless (dead_token view parts.tokens) (unless (unfit_state view (parts.uses found)) (and_then (parts.own found) (λ ready. Ok (found, ready))))) in
    ap (λ (r : Result F Refusal). and_then {A = F × R} {B = Outcome E} (and_then r behind)
    (λ passed. unless (limit (effect passed.0 passed.1)) (unless (only_asked parts.dry_run) (Ok (record { reply = parts.reply passed.0 passed.1; effect = effect passed.0 passed.1 }))))) missed

-- at a view where no grant has the id
module _ (view : View) (grant token : List ℕ) (gone : grant_with view.grants grant ≡ None) (writes : grant_id_of token ≡ Some grant) where
  abbrev is : is_dead view token ≡ true
  is = dead view grant token gone writes

  no_grant : ok_or (grant_of_token view token) refusal.InvalidGrantToken ≡ Err refusal.InvalidGrantToken
  no_grant = ap (λ (o : Option GrantRow). ok_or o refusal.InvalidGrantToken) (names_none view grant token gone writes)

  refuses_token : RefusesToken view token
  refuses_token = record {
    describe_key = λ key_id tokens c. let op = describes_key view key_id tokens in refused view op.parts token is c (spent view.places) (λ found ready. op.takes);
    encrypt = λ x c. let op = encrypts view x in refused view op.parts token is c (spent view.places) (λ found ready. op.takes);
    decrypt = λ x c. let op = decrypts view x in refused view op.parts token is c (spent view.places) (λ found ready. op.takes);
    re_encrypt = λ x c. let op = re_encrypts view x in refused view op.parts token is c (spent view.places) (λ found ready. op.takes);
    generate_sealed = λ x c. let op = generates_data_key view x form.Sealed in refused view op.parts token is c (spent view.places) (λ found ready. op.takes);
    generate_data_key = λ x recipient c. let op = generates_data_key view x (form.Plaintext recipient) in refused view op.parts token is c (spent view.places) (λ found ready. op.takes);
    generate_mac = λ x c. let op = generates_mac view x in refused view op.parts token is c (spent view.places) (λ found ready. op.takes);
    verify_mac = λ x c. let op = verifies_mac view x in refused view op.parts token is c (spent view.places) (λ found ready. op.takes);
    create_grant = λ x c. let op = creates_grant view x in refused view op.parts token is c (limited view) op.does;
    retire_grant = λ dry_run. let op = retires_grant view (retired.OfToken token) dry_run in unfound view op.parts refusal.InvalidGrantToken no_grant (limited view) op.does;
  }

pub dead_tokens_are_refused : DeadTokensAreRefused
dead_tokens_are_refused facts history more entry grant token x places held is writes =
    refuses_token (view_of facts ((history ++ entry ∷ []) ++ more) x places) grant token (dropped_stays_away facts history more entry grant held is) writes
