-- A request that is served has passed every step, and one that passes every step is served.
use Rattle.std.proofs.Common.{◌≡◌, Option, Some, None, Result, Ok, Err, refl, sym, ap, ◌∙◌, subst}
use Rattle.std.specs.Prelude.{ok_or}
use Rattle.kms_json.specs.declared.refusals.Refusal.{Refusal}
use Rattle.account_steps.specs.View.{View}
use Rattle.account_steps.specs.Steps.{unless, and_then, or_else}
use Rattle.account_steps.specs.Authority.{denied}
use Rattle.account_rows.specs.declared.entries.What.{What}
use Rattle.account_steps.specs.declared.places.Uses.{Uses}
use Rattle.account_steps.specs.Parts.{Parts, ReadParts, ChangeParts, Outcome, dead_token, unfit_state, spent, limited, only_asked, cleared, outcome, reads, changes}

-- ---- one step

-- what was found, and what came of it
pub record Found {A B : Type 0} (found : Result A Refusal) (next : A → Result B Refusal) (wanted : B) : Type 0 where
  pub value : A
  pub is : found ≡ Ok value
  pub came : next value ≡ Ok wanted

pub found_of : {A B : Type 0} (found : Result A Refusal) (next : A → Result B Refusal) (wanted : B) → and_then found next ≡ Ok wanted → Found found next wanted
found_of (Ok value) next wanted e = record { value = value; is = refl; came = e }
found_of (Err why) next wanted e = cc

pub none_of : {A : Type 0} (o : Option Refusal) (next : Result A Refusal) (wanted : A) → unless o next ≡ Ok wanted → o ≡ None
none_of (Some why) next wanted e = cc
none_of None next wanted e = refl

pub next_of : {A : Type 0} (o : Option Refusal) (next : Result A Refusal) (wanted : A) → unless o next ≡ Ok wanted → next ≡ Ok wanted
next_of (Some why) next wanted e = cc
next_of None next wanted e = e

pub ok_of : {A : Type 0} (o : Option A) (why : Refusal) (wanted : A) → ok_or o why ≡ Ok wanted → o ≡ Some wanted
ok_of (Some value) why wanted e = cc
ok_of None why wanted e = cc

pub ok_same : {A : Type 0} (a b : A) → ◌≡◌ {A = Result A Refusal} (Ok a) (Ok b) → a ≡ b
ok_same a b e = cc

one_of_two : {A : Type 0} (first second : Option Refusal) (next : Result A Refusal) → unless first (unless second next) ≡ unless (or_else first second) next
one_of_two (Some why) second next = refl
one_of_two None second next = refl

-- ---- all steps

-- each step passed, and the outcome is the operation's
pub record Passed {F R E : Type 0} (view : View) (parts : Parts F R) (limit : E → Option Refusal) (effect : F → R → E) (o : Outcome E) : Type 0 where
  pub found : F
  pub ready : R
  pub found_is : parts.found ≡ Ok found
  pub allowed : denied view (parts.questions found) ≡ None
  pub tokens_live : dead_token view parts.tokens ≡ None
  pub states_fit : unfit_state view (parts.uses found) ≡ None
  pub own_is : parts.own found ≡ Ok ready
  pub left : limit (effect found ready) ≡ None
  pub in_earnest : only_asked parts.dry_run ≡ None
  pub outcome_is : record { reply = parts.reply found ready; effect = effect found ready } ≡ o

module _ {F R E : Type 0} (view : View) (parts : Parts F R) (limit : E → Option Refusal) (effect : F → R → E) where
  abbrev given : F → R → Outcome E
  given found ready = record { reply = parts.reply found ready; effect = effect found ready }

  abbrev asked : F × R → Result (Outcome E) Refusal
  asked passed = unless (only_asked parts.dry_run) (Ok (given passed.0 passed.1))

  abbrev own_of : F → Result (F × R) Refusal
  own_of found = and_then (parts.own found) (λ ready. Ok (found, ready))

  abbrev fit_of : F → Result (F × R) Refusal
  fit_of found = unless (unfit_state view (parts.uses found)) (own_of found)

  abbrev live_of : F → Result (F × R) Refusal
  live_of found = unless (dead_token view parts.tokens) (fit_of found)

  pub passed : (o : Outcome E) → outcome view parts limit effect ≡ Ok o → Passed view parts limit effect o
  passed o e =
      let all = found_of (cleared view parts) (λ (p : F × R). unless (limit (effect p.0 p.1)) (asked p)) o e in
      let first = found_of parts.found (λ (found : F). unless (denied view (parts.questions found)) (live_of found)) all.value all.is in
      let second = next_of (denied view (parts.questions first.value)) (live_of first.value) all.value first.came in
      let third = next_of (dead_token view parts.tokens) (fit_of first.value) all.value second in
      let fourth = next_of (unfit_state view (parts.uses first.value)) (own_of first.value) all.value third in
      let own = found_of (parts.own first.value) (λ (ready : R). Ok (first.value, ready)) all.value fourth in
      let both : (first.value, own.value) ≡ all.value = ok_same (first.value, own.value) all.value own.came in
      let last : unless (limit (effect first.value own.value)) (asked (first.value, own.value)) ≡ Ok o =
      subst (λ (p : F × R). unless (limit (effect p.0 p.1)) (asked p) ≡ Ok o) (sym both) all.came in
      let earnest = next_of (limit (effect first.value own.value)) (asked (first.value, own.value)) o last in
      record {
        found = first.value;
        ready = own.value;
        found_is = first.is;
        allowed = none_of (denied view (parts.questions first.value)) (live_of first.value) all.value first.came;
        tokens_live = none_of (dead_token view parts.tokens) (fit_of first.value) all.value second;
        states_fit = none_of (unfit_state view (parts.uses first.value)) (own_of first.value) all.value third;
        own_is = own.is;
        left = none_of (limit (effect first.value own.value)) (asked (first.value, own.value)) o last;
        in_earnest = none_of (only_asked parts.dry_run) (Ok (given first.value own.value)) o earnest;
        outcome_is = ok_same (given first.value own.value) o (next_of (only_asked parts.dry_run) (Ok (given first.value own.value)) o earnest);
      }

  pub goes_through : (found : F) (ready : R) → parts.found ≡ Ok found → denied view (parts.questions found) ≡ None → dead_token view parts.tokens ≡ None → unfit_state view (parts.uses found) ≡ None → parts.own found ≡ Ok ready → limit (effect found ready) ≡ None → only_asked parts.dry_run ≡ None
      → outcome view parts limit effect ≡ Ok (record { reply = parts.reply found ready; effect = effect found ready })
  goes_through found ready found_is allowed live fit own_is left in_earnest =
      let rest : F × R → Result (Outcome E) Refusal = λ p. unless (limit (effect p.0 p.1)) (asked p) in
      ap (λ (f : Result F Refusal). and_then (and_then f (λ (v : F). unless (denied view (parts.questions v)) (live_of v))) rest) found_is
      ∙ ap (λ (o : Option Refusal). and_then (unless o (live_of found)) rest) allowed
      ∙ ap (λ (o : Option Refusal). and_then (unless o (fit_of found)) rest) live
      ∙ ap (λ (o : Option Refusal). and_then (unless o (own_of found)) rest) fit
      ∙ ap (λ (r : Result R Refusal). and_then (and_then r (λ (v : R). Ok (found, v))) rest) own_is
      ∙ ap (λ (o : Option Refusal). unless o (asked (found, ready))) left
      ∙ ap (λ (o : Option Refusal). unless o (Ok (given found ready))) in_earnest

  -- limits and DryRun, where all before has passed
  pub goes_by : (found : F) (ready : R) → cleared view parts ≡ Ok (found, ready)
      → outcome view parts limit effect ≡ unless (or_else (limit (effect found ready)) (only_asked parts.dry_run)) (Ok (given found ready))
  goes_by found ready clear =
      ap (λ (c : Result (F × R) Refusal). and_then c (λ (p : F × R). unless (limit (effect p.0 p.1)) (asked p))) clear
      ∙ one_of_two (limit (effect found ready)) (only_asked parts.dry_run) (Ok (given found ready))

  -- a key's state refuses
  pub stops_at_state : (found : F) (why : Refusal) → parts.found ≡ Ok found → denied view (parts.questions found) ≡ None → dead_token view parts.tokens ≡ None → unfit_state view (parts.uses found) ≡ Some why → outcome view parts limit effect ≡ Err why
  stops_at_state found why found_is allowed live unfit =
      let rest : F × R → Result (Outcome E) Refusal = λ p. unless (limit (effect p.0 p.1)) (asked p) in
      ap (λ (f : Result F Refusal). and_then (and_then f (λ (v : F). unless (denied view (parts.questions v)) (live_of v))) rest) found_is
      ∙ ap (λ (o : Option Refusal). and_then (unless o (live_of found)) rest) allowed
      ∙ ap (λ (o : Option Refusal). and_then (unless o (fit_of found)) rest) live
      ∙ ap (λ (o : Option Refusal). and_then (unless o (own_of found)) rest) unfit

  pub stops_at_own : (found : F) (why : Refusal) → parts.found ≡ Ok found → denied view (parts.questions found) ≡ None → dead_token view parts.tokens ≡ None → unfit_state view (parts.uses found) ≡ None → parts.own found ≡ Err why
      → outcome view parts limit effect ≡ Err why
  stops_at_own found why found_is allowed live fit own =
      let rest : F × R → Result (Outcome E) Refusal = λ p. unless (limit (effect p.0 p.1)) (asked p) in
      ap (λ (f : Result F Refusal). and_then (and_then f (λ (v : F). unless (denied view (parts.questions v)) (live_of v))) rest) found_is
      ∙ ap (λ (o : Option Refusal). and_then (unless o (live_of found)) rest) allowed
      ∙ ap (λ (o : Option Refusal). and_then (unless o (fit_of found)) rest) live
      ∙ ap (λ (o : Option Refusal). and_then (unless o (own_of found)) rest) fit
      ∙ ap (λ (r : Result R Refusal). and_then (and_then r (λ (ready : R). Ok (found, ready))) rest) own

-- ---- of the two kinds

abbrev pub ReadPassed : {F R : Type 0} → View → ReadParts F R → Outcome Uses → Type 0
ReadPassed view op o = Passed view op.parts (spent view.places) (λ found ready. op.takes) o

pub read_passed : {F R : Type 0} (view : View) (op : ReadParts F R) (o : Outcome Uses) → reads view op ≡ Ok o → ReadPassed view op o
read_passed view op o e = passed view op.parts (spent view.places) (λ found ready. op.takes) o e

abbrev pub ChangePassed : {F R : Type 0} → View → ChangeParts F R → Outcome (Option What) → Type 0
ChangePassed view op o = Passed view op.parts (limited view) op.does o

pub change_passed : {F R : Type 0} (view : View) (op : ChangeParts F R) (o : Outcome (Option What)) → changes view op ≡ Ok o → ChangePassed view op o
change_passed view op o e = passed view op.parts (limited view) op.does o e
