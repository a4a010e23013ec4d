-- The order in which passes made their calls: from the end on, the call that published last came last but for calls that publish nothing.
use Rattle.std.proofs.Common.{◌≡◌, ◌≢◌, ◌⊎◌, inl, inr, ℕ, zero, suc, ◌+◌, ◌-◌, ◌≤◌, ◌<◌, ◌==◌, Bool, true, false, cond, List, [], ◌∷◌, ◌++◌, length, length-append, drop, Option, Some, None, refl, sym, ap, ◌∙◌, subst, arith, lt_of_not-le}
use mathlib.Core.Logic.{dite}
use mathlib.Core.List.{IsPrefix}
use native.Mathlib.Decide.{dec_le}
use Rattle.std.proofs.lemmas.Bool.Decides.{nat_tests}
use Rattle.kms_json.specs.declared.asks.Ask.{Ask}
use Rattle.kms_json.specs.declared.replies.Reply.{Reply}
use Rattle.account_steps.specs.declared.facts.RealmFacts.{RealmFacts}
use Rattle.account_steps.specs.History.{Entry, housekeeping_of}
use Rattle.account_steps.specs.declared.places.Places.{Places}
use Rattle.account_core.specs.Decide.{decide}
use Rattle.published_account.specs.Pairs.{IsHistory, was_loaded, was_made, entries_of, loaded_pairs}
use Rattle.published_account.proofs.Lists.{prefix_self, prefix_push, prefix_trans, prefix_shorter, prefix_whole}
use Rattle.publish_pass.specs.Pass.{Pass, Meets, Learns, Decides, making_any, keeping_house, at_places, fresh_pass}
use Rattle.pass_laws.specs.Machine.{IsNumber, places_of_maker}
use Rattle.pass_laws.specs.Calls.{Call, read, wanted_to_read, missed, changed, wanted_to_change, kept_house, wanted_to_keep_house, learnt, changed_at_desk, kept_house_at_desk, Calls, no_call, one_more, Together, opened, looks, publishes}
use Rattle.pass_laws.specs.Orders.{steps_of, steps_in, CallsHaveOneOrder}
use Rattle.pass_laws.proofs.Kept.{loaded_length}

-- ---- places and makers

-- the place is among these
abbrev pub IsIn : ℕ → List ℕ → Type 0
IsIn j [] = ⊥
IsIn j (i ∷ is) = (j ≡ i) ⊎ IsIn j is

in_append : (j : ℕ) (is more : List ℕ) → IsIn j (is ++ more) → IsIn j is ⊎ IsIn j more
in_append j [] more has = inr has
in_append j (i ∷ is) more (inl same) = inl (inl same)
in_append j (i ∷ is) more (inr has) = in_rest (in_append j is more has)
  where
    in_rest : IsIn j is ⊎ IsIn j more → IsIn j (i ∷ is) ⊎ IsIn j more
    in_rest (inl here) = inl (inr here)
    in_rest (inr there) = inr there

-- the number at a place of a history
abbrev pub maker_at : List (Entry × ℕ) → ℕ → ℕ
maker_at [] j = 0
maker_at (pair ∷ pairs) zero = pair.1
maker_at (pair ∷ pairs) (suc j) = maker_at pairs j

maker_on : (pairs more : List (Entry × ℕ)) (j : ℕ) → j < length pairs → maker_at (pairs ++ more) j ≡ maker_at pairs j
maker_on [] more j lt = absurd (omega (arith, lt))
maker_on (pair ∷ pairs) more zero lt = refl
maker_on (pair ∷ pairs) more (suc j) lt = maker_on pairs more j (omega (arith, lt))

maker_last : (pairs : List (Entry × ℕ)) (pair : Entry × ℕ) (j : ℕ) → j ≡ length pairs → maker_at (pairs ++ pair ∷ []) j ≡ pair.1
maker_last [] pair zero is = refl
maker_last [] pair (suc j) is = absurd (omega (arith, is))
maker_last (first ∷ pairs) pair zero is = absurd (omega (arith, is))
maker_last (first ∷ pairs) pair (suc j) is = maker_last pairs pair j (omega (arith, is))

maker_in : (some all : List (Entry × ℕ)) (j : ℕ) → IsPrefix some all → j < length some → maker_at all j ≡ maker_at some j
maker_in some all j begins lt = ap (λ (pairs : List (Entry × ℕ)). maker_at pairs j) (sym begins.1) ∙ maker_on some begins.0 j lt

prefix_length : (some all : List (Entry × ℕ)) → IsPrefix some all → length some ≤ length all
prefix_length some all begins = omega (arith, length-append some begins.0, ap length begins.1)

-- ---- what a call adds

-- what the pass then holds begins with what the call met, which begins with what it held. What comes behind is its own, and bears its number
pub record Adds (old : Pass) (met : List (Entry × ℕ)) (new : Pass) : Type 0 where
  pub number : new.number ≡ old.number
  pub begins : IsPrefix old.history met
  pub goes_on : IsPrefix met new.history
  pub by : (j : ℕ) → length met ≤ j → j < length new.history → maker_at new.history j ≡ old.number
  pub own : (j : ℕ) → IsIn j new.own → IsIn j old.own ⊎ ((length met ≤ j) × (j < length new.history))
  pub still : length new.history ≤ length met → new.own ≡ old.own

-- what a pass adds to what it holds
record AddsOwn (met new : Pass) : Type 0 where
  number : new.number ≡ met.number
  goes_on : IsPrefix met.history new.history
  by : (j : ℕ) → length met.history ≤ j → j < length new.history → maker_at new.history j ≡ met.number
  own : (j : ℕ) → IsIn j new.own → IsIn j met.own ⊎ ((length met.history ≤ j) × (j < length new.history))
  still : length new.history ≤ length met.history → new.own ≡ met.own

adds_none : (met new : Pass) → new.number ≡ met.number → new.history ≡ met.history → new.own ≡ met.own → AddsOwn met new
adds_none met new number history own = record {
  number = number;
  goes_on = subst (IsPrefix met.history) (sym history) (prefix_self met.history);
  by = λ j le lt. absurd (omega (arith, le, lt, ap length history));
  own = λ j has. inl (subst (IsIn j) own has);
  still = λ le. own;
}

adds_itself : (met : Pass) → AddsOwn met met
adds_itself met = adds_none met met refl refl refl

adds_one : (met s : Pass) (entry : Entry) → AddsOwn met s → AddsOwn met (making_any s (Some entry))
adds_one met s entry adds =
    let pair : Entry × ℕ = (entry, s.number) in
    let few : length met.history ≤ length s.history = prefix_length met.history s.history adds.goes_on in
    let longer : length (s.history ++ pair ∷ []) ≡ length s.history + 1 = length-append s.history (pair ∷ []) in
    record {
      number = adds.number;
      goes_on = prefix_trans met.history s.history (s.history ++ pair ∷ []) adds.goes_on (prefix_push s.history pair);
      by = λ j le lt. dite (dec_le (length s.history) j)
          (λ (last : length s.history ≤ j). maker_last s.history pair j (omega (arith, last, lt, longer)) ∙ adds.number)
          (λ (earlier : _). let before = lt_of_not-le earlier in maker_on s.history (pair ∷ []) j before ∙ adds.by j le before);
      own = λ j has. own_or_last j (in_append j s.own (length s.history ∷ []) has) few longer (adds.own j);
      still = λ le. absurd (omega (arith, le, few, longer));
    }
  where
    own_before : (j size more : ℕ) → IsIn j met.own ⊎ ((size ≤ j) × (j < length s.history)) → more ≡ length s.history + 1 → IsIn j met.own ⊎ ((size ≤ j) × (j < more))
    own_before j size more (inl has) is = inl has
    own_before j size more (inr behind) is = inr (behind.0, omega (arith, is, behind.1))

    own_or_last : (j : ℕ) → IsIn j s.own ⊎ IsIn j (length s.history ∷ []) → length met.history ≤ length s.history → length (s.history ++ (entry, s.number) ∷ []) ≡ length s.history + 1
        → (IsIn j s.own → IsIn j met.own ⊎ ((length met.history ≤ j) × (j < length s.history)))
        → IsIn j met.own ⊎ ((length met.history ≤ j) × (j < length (s.history ++ (entry, s.number) ∷ [])))
    own_or_last j (inl has) few longer before = own_before j (length met.history) (length (s.history ++ (entry, s.number) ∷ [])) (before has) longer
    own_or_last j (inr (inl same)) few longer before = inr (omega (arith, same, few), omega (arith, same, longer))
    own_or_last j (inr (inr none)) few longer before = absurd none

adds_any : (met s : Pass) (made : Option Entry) → AddsOwn met s → AddsOwn met (making_any s made)
adds_any met s None adds = adds
adds_any met s (Some entry) adds = adds_one met s entry adds

-- where what the pass met is more of the history, and nothing else
adds_to : (old met new : Pass) → IsPrefix old.history met.history → met.number ≡ old.number → met.own ≡ old.own → AddsOwn met new → Adds old met.history new
adds_to old met new begins number own adds = record {
  number = adds.number ∙ number;
  begins = begins;
  goes_on = adds.goes_on;
  by = λ j le lt. adds.by j le lt ∙ number;
  own = λ j has. subst (λ (is : List ℕ). IsIn j is ⊎ ((length met.history ≤ j) × (j < length new.history))) own (adds.own j has);
  still = λ le. adds.still le ∙ own;
}

left_adds : (met new : Pass) (clock : ℕ) → (new ≡ met) ⊎ (new ≡ keeping_house met clock) → AddsOwn met new
left_adds met new clock (inl same) = subst (AddsOwn met) (sym same) (adds_itself met)
left_adds met new clock (inr house) = subst (AddsOwn met) (sym house) (adds_any met met (housekeeping_of (entries_of met.history) clock) (adds_itself met))

decided_adds : (met : Pass) (x : Ask) (reply : Reply) (new : Pass) → Decides (keeping_house met x.moment) x reply new → AddsOwn met new
decided_adds met x reply new h =
    let kept : Pass = keeping_house met x.moment in
    subst (AddsOwn met) (sym h.made)
    (adds_any met kept (decide kept.facts (entries_of kept.history) x kept.places).entry (adds_any met met (housekeeping_of (entries_of met.history) x.moment) (adds_itself met)))

meets_adds : (old met new : Pass) → Meets old met → AddsOwn met new → Adds old met.history new
meets_adds old met new seen adds = adds_to old met new seen.history (ap (λ (s : Pass). s.number) seen.others) (ap (λ (s : Pass). s.own) seen.others) adds

learns_adds : (old met new : Pass) → Learns old met → AddsOwn met new → Adds old met.history new
learns_adds old met new seen adds = adds_to old met new seen.history (ap (λ (s : Pass). s.number) seen.others) (ap (λ (s : Pass). s.own) seen.others) adds

here_adds : (old new : Pass) → AddsOwn old new → Adds old old.history new
here_adds old new adds = adds_to old old new (prefix_self old.history) refl refl adds

used_adds : (met new : Pass) (left : Places) → new ≡ at_places met left → AddsOwn met new
used_adds met new left used = adds_none met new (ap (λ (s : Pass). s.number) used) (ap (λ (s : Pass). s.history) used) (ap (λ (s : Pass). s.own) used)

was_met : (old new : Pass) (met history : List (Entry × ℕ)) → met ≡ history → Adds old history new → Adds old met new
was_met old new met history is adds = subst (λ (h : List (Entry × ℕ)). Adds old h new) (sym is) adds

call_adds : (old : Pass) (met : List (Entry × ℕ)) (new : Pass) → Call old met new → Adds old met new
call_adds old met new (read x reply proper reading h is) = was_met old new met h.met.history is (meets_adds old h.met new h.seen (used_adds h.met new _ h.used))
call_adds old met new (wanted_to_read x proper reading h is) = was_met old new met h.met.history is (meets_adds old h.met new h.seen (used_adds h.met new _ h.used))
call_adds old met new (missed h is) =
    was_met old new met old.history is
    (here_adds old new (adds_none old new (ap (λ (s : Pass). s.number) h.others) (ap (λ (s : Pass). s.history) h.others) (ap (λ (s : Pass). s.own) h.others)))
call_adds old met new (changed x reply proper changing h is) = was_met old new met h.met.history is (learns_adds old h.met new h.seen (decided_adds h.met x reply new h.decides))
call_adds old met new (wanted_to_change x proper h is) = was_met old new met h.met.history is (learns_adds old h.met new h.seen (left_adds h.met new x.moment h.left))
call_adds old met new (kept_house clock before h is) = was_met old new met h.met.history is (learns_adds old h.met new h.seen (left_adds h.met new clock (inr h.kept)))
call_adds old met new (wanted_to_keep_house clock before h is) = was_met old new met h.met.history is (learns_adds old h.met new h.seen (left_adds h.met new clock h.left))
call_adds old met new (learnt h is) = was_met old new met new.history is (learns_adds old new new h (adds_itself new))
call_adds old met new (changed_at_desk x reply proper changing h is) = was_met old new met old.history is (here_adds old new (decided_adds old x reply new h))
call_adds old met new (kept_house_at_desk clock before h is) = was_met old new met old.history is (here_adds old new (left_adds old new clock h))

-- ---- updates

by_test : {A : Type 0} (P : A → Type 0) (n m : ℕ) (x y : A) (b : Bool) → (n == m) ≡ b → (n ≡ m → P x) → (n ≢ m → P y) → P (cond b x y)
by_test P n m x y true is same apart = same (grind (arith, nat_tests))
by_test P n m x y false is same apart = apart (grind (arith, nat_tests))

pub at_one : {A : Type 0} (P : A → Type 0) (n m : ℕ) (x y : A) → (n ≡ m → P x) → (n ≢ m → P y) → P (cond (n == m) x y)
at_one P n m x y same apart = by_test P n m x y (n == m) refl same apart

pub is_same : {A : Type 0} (n m : ℕ) (x y : A) → n ≡ m → cond (n == m) x y ≡ x
is_same n m x y same = at_one (λ z. z ≡ x) n m x y (λ s. refl) (λ apart. absurd (apart same))

pub is_other : {A : Type 0} (n m : ℕ) (x y : A) → n ≢ m → cond (n == m) x y ≡ y
is_other n m x y apart = at_one (λ z. z ≡ y) n m x y (λ same. absurd (apart same)) (λ s. refl)

-- ---- the calls of one pass

abbrev pub Done : Type 0
Done = List (Entry × ℕ) × Pass

-- where a pass is, and the calls that led there
pub record At : Type 0 where
  pub pass : Pass
  pub steps : List Done

pub data Ran (first : Pass) : At → Type 0 where
  ran_none : Ran first (record { pass = first; steps = [] })
  ran_more : {from : At} (met : List (Entry × ℕ)) (new : Pass) → Ran first from → Call from.pass met new → Ran first (record { pass = new; steps = from.steps ++ (met, new) ∷ [] })

pub ran_of : {first last : Pass} (calls : Calls first last) → Ran first (record { pass = last; steps = steps_of calls })
ran_of no_call = ran_none
ran_of (one_more {new = new} met calls call) = ran_more met new (ran_of calls) call

-- calls by which nothing is published
data Looks (from : At) : At → Type 0 where
  looks_none : Looks from from
  looks_more : {to : At} (met : List (Entry × ℕ)) (new : Pass) → Looks from to → Call to.pass met new → new.history ≡ met → Looks from (record { pass = new; steps = to.steps ++ (met, new) ∷ [] })

-- no call at all, or the last one publishes
data Ends (first : Pass) : At → Type 0 where
  begun : Ends first (record { pass = first; steps = [] })
  published : {from : At} (met : List (Entry × ℕ)) (new : Pass) → Ran first from → Call from.pass met new → length met < length new.history
      → Ends first (record { pass = new; steps = from.steps ++ (met, new) ∷ [] })

-- the calls to the last that publishes, and those behind it
record Core (first : Pass) (to : At) : Type 0 where
  at : At
  ends : Ends first at
  rest : Looks at to

core_of : (first : Pass) (to : At) → Ran first to → Core first to
core_of first _ ran_none = record { at = record { pass = first; steps = [] }; ends = begun; rest = looks_none }
core_of first _ (ran_more {from = from} met new ran call) = dite (dec_le (length new.history) (length met))
    (λ (le : length new.history ≤ length met).
    let adds = call_adds from.pass met new call in
    let core = core_of first from ran in
    record { at = core.at; ends = core.ends; rest = looks_more met new core.rest call (sym (prefix_whole met new.history adds.goes_on le)) })
    (λ (more : _). record { at = record { pass = new; steps = from.steps ++ (met, new) ∷ [] }; ends = published met new ran call (lt_of_not-le more); rest = looks_none })

-- what is so of every pass after calls
record Goes (first : Pass) (to : At) : Type 0 where
  number : to.pass.number ≡ first.number
  begins : IsPrefix first.history to.pass.history
  within : first.own ≡ [] → (j : ℕ) → IsIn j to.pass.own → j < length to.pass.history

none_in : (j : ℕ) (own : List ℕ) → own ≡ [] → IsIn j own → ⊥
none_in j own none has = subst (IsIn j) none has

in_either : (k : ℕ) (old new : Pass) (j : ℕ) → IsIn j old.own ⊎ ((k ≤ j) × (j < length new.history)) → IsPrefix old.history new.history → (IsIn j old.own → j < length old.history)
    → j < length new.history
in_either k old new j (inl before) on within = omega (arith, within before, prefix_length old.history new.history on)
in_either k old new j (inr behind) on within = behind.1

ran_goes : (first : Pass) (to : At) → Ran first to → Goes first to
ran_goes first _ ran_none = record { number = refl; begins = prefix_self first.history; within = λ none j has. absurd (none_in j first.own none has) }
ran_goes first _ (ran_more {from = from} met new ran call) =
    let adds = call_adds from.pass met new call in
    let goes = ran_goes first from ran in
    let on = prefix_trans from.pass.history met new.history adds.begins adds.goes_on in
    record {
      number = adds.number ∙ goes.number;
      begins = prefix_trans first.history from.pass.history new.history goes.begins on;
      within = λ none j has. in_either (length met) from.pass new j (adds.own j has) on (λ before. goes.within none j before);
    }

pub ran_number : (first : Pass) (to : At) → Ran first to → to.pass.number ≡ first.number
ran_number first to ran = let goes = ran_goes first to ran in goes.number

ends_ran : (first : Pass) (to : At) → Ends first to → Ran first to
ends_ran first _ begun = ran_none
ends_ran first _ (published met new ran call more) = ran_more met new ran call

-- looking leaves its own as they are, and what it held begins what it holds
record Still (from to : At) : Type 0 where
  own : to.pass.own ≡ from.pass.own
  begins : IsPrefix from.pass.history to.pass.history

looks_still : (from to : At) → Looks from to → Still from to
looks_still from _ looks_none = record { own = refl; begins = prefix_self from.pass.history }
looks_still from _ (looks_more {to = to} met new before call same) =
    let adds = call_adds to.pass met new call in
    let still = looks_still from to before in
    let few : length new.history ≤ length met = omega (arith, ap length same) in
    record {
      own = adds.still few ∙ still.own;
      begins = prefix_trans from.pass.history to.pass.history new.history still.begins (prefix_trans to.pass.history met new.history adds.begins adds.goes_on);
    }

-- ---- the order

-- the place bears the number of a pass, whose own it is
abbrev pub IsCovered : ℕ → List (Entry × ℕ) → (ℕ → At) → ℕ → Type 0
IsCovered p history at j = IsNumber p (maker_at history j) × IsIn j (at (maker_at history j)).pass.own

-- these calls have an order by which this is published
pub record HasOrder (facts : RealmFacts) (p : ℕ) (loaded : List Entry) (history : List (Entry × ℕ)) (at : ℕ → At) : Type 0 where
  pub passes : ℕ → Pass
  pub together : Together facts p loaded passes history
  pub is_last : (n : ℕ) → IsNumber p n → passes n ≡ (at n).pass
  pub is_done : (n : ℕ) → IsNumber p n → steps_in n together ≡ (at n).steps

module _ (facts : RealmFacts) (p : ℕ) (loaded : List Entry) where
  abbrev pub fresh : ℕ → Pass
  fresh n = fresh_pass facts p loaded n

  abbrev pub base : ℕ
  base = length (loaded_pairs loaded)

  -- what one pass looks at comes last
  record LooksLast (history : List (Entry × ℕ)) (n : ℕ) (passes : ℕ → Pass) (steps : ℕ → List Done) (to : At) : Type 0 where
    now : ℕ → Pass
    together : Together facts p loaded now history
    is_last : now n ≡ to.pass
    is_done : steps_in n together ≡ to.steps
    others : (m : ℕ) → m ≢ n → (now m ≡ passes m) × (steps_in m together ≡ steps m)

  looks_last : (history : List (Entry × ℕ)) (n : ℕ) (passes : ℕ → Pass) (before : Together facts p loaded passes history) (from to : At) → IsNumber p n → passes n ≡ from.pass
      → steps_in n before ≡ from.steps → Looks from to → IsPrefix to.pass.history history → LooksLast history n passes (λ m. steps_in m before) to
  looks_last history n passes before from _ is last done looks_none begins =
      record { now = passes; together = before; is_last = last; is_done = done; others = λ m apart. (refl, refl) }
  looks_last history n passes before from _ is last done (looks_more {to = to} met new more call same) begins =
      let adds = call_adds to.pass met new call in
      let met_begins : IsPrefix met history = subst (λ (h : List (Entry × ℕ)). IsPrefix h history) same begins in
      let so_far = looks_last history n passes before from to is last done more (prefix_trans to.pass.history met history adds.begins met_begins) in
      let here : Call (so_far.now n) met new = subst (λ (s : Pass). Call s met new) (sym so_far.is_last) call in
      record {
        now = λ m. cond (m == n) new (so_far.now m);
        together = looks n met new so_far.together is here same met_begins;
        is_last = is_same n n new (so_far.now n) refl;
        is_done = is_same n n (steps_in n so_far.together ++ (met, new) ∷ []) (steps_in n so_far.together) refl ∙ ap (λ (steps : List Done). steps ++ (met, new) ∷ []) so_far.is_done;
        others = λ m apart. let so = so_far.others m apart in (
          is_other m n new (so_far.now m) apart ∙ so.0,
          is_other m n (steps_in m so_far.together ++ (met, new) ∷ []) (steps_in m so_far.together) apart ∙ so.1,
        );
      }

  -- so too of the passes 1 to q
  record LookedLast (history : List (Entry × ℕ)) (q : ℕ) (at to : ℕ → At) : Type 0 where
    passes : ℕ → Pass
    together : Together facts p loaded passes history
    done : (n : ℕ) → 0 < n → n ≤ q → (passes n ≡ (to n).pass) × (steps_in n together ≡ (to n).steps)
    left : (n : ℕ) → q < n → n ≤ p → (passes n ≡ (at n).pass) × (steps_in n together ≡ (at n).steps)

  joined : (s t u : Pass) (xs ys zs : List Done) → (s ≡ t) × (xs ≡ ys) → (t ≡ u) × (ys ≡ zs) → (s ≡ u) × (xs ≡ zs)
  joined s t u xs ys zs one next = (one.0 ∙ next.0, one.1 ∙ next.1)

  all_look : (history : List (Entry × ℕ)) (at to : ℕ → At) → HasOrder facts p loaded history at → ((n : ℕ) → Looks (at n) (to n))
      → ((n : ℕ) → IsNumber p n → IsPrefix (to n).pass.history history) → (q : ℕ) → q ≤ p → LookedLast history q at to
  all_look history at to order more begin zero le = record {
    passes = order.passes;
    together = order.together;
    done = λ n some few. absurd (omega (arith, some, few));
    left = λ n some few. (order.is_last n (some, few), order.is_done n (some, few));
  }
  all_look history at to order more begin (suc q) le =
      let before = all_look history at to order more begin q (omega (arith, le)) in
      let here = before.left (suc q) (omega arith) le in
      let is : IsNumber p (suc q) = (omega arith, le) in
      let last = looks_last history (suc q) before.passes before.together (at (suc q)) (to (suc q)) is here.0 here.1 (more (suc q)) (begin (suc q) is) in
      record {
        passes = last.now;
        together = last.together;
        done = λ n some few. dite (dec_le n q)
            (λ (fewer : n ≤ q). let apart : n ≢ suc q = λ same. absurd (omega (arith, same, fewer)) in
            joined (last.now n) (before.passes n) (to n).pass (steps_in n last.together) (steps_in n before.together) (to n).steps (last.others n apart) (before.done n some fewer))
            (λ (more : _). let lt = lt_of_not-le more in let same : suc q ≡ n = omega (arith, lt, few) in
            subst (λ (m : ℕ). (last.now m ≡ (to m).pass) × (steps_in m last.together ≡ (to m).steps)) same (last.is_last, last.is_done));
        left = λ n some few. let apart : n ≢ suc q = λ same. absurd (omega (arith, same, some)) in
            joined (last.now n) (before.passes n) (at n).pass (steps_in n last.together) (steps_in n before.together) (at n).steps (last.others n apart) (before.left n (omega (arith, some)) few);
      }

  then_all_look : (history : List (Entry × ℕ)) (at to : ℕ → At) → HasOrder facts p loaded history at → ((n : ℕ) → Looks (at n) (to n))
      → ((n : ℕ) → IsNumber p n → IsPrefix (to n).pass.history history) → HasOrder facts p loaded history to
  then_all_look history at to order more begin =
      let all = all_look history at to order more begin p (omega arith) in
      record {
        passes = all.passes;
        together = all.together;
        is_last = λ n is. let so = all.done n is.0 is.1 in so.0;
        is_done = λ n is. let so = all.done n is.0 is.1 in so.1;
      }

  -- a pass publishes
  then_publishes : (history : List (Entry × ℕ)) (at : ℕ → At) (m : ℕ) (from : At) (new : Pass) → IsNumber p m → Call from.pass history new
      → HasOrder facts p loaded history (λ n. cond (n == m) from (at n)) → (at m) ≡ record { pass = new; steps = from.steps ++ (history, new) ∷ [] }
      → HasOrder facts p loaded new.history at
  then_publishes history at m from new is call order was =
      let here : order.passes m ≡ from.pass = order.is_last m is ∙ ap (λ (s : At). s.pass) (is_same m m from (at m) refl) in
      let done : steps_in m order.together ≡ from.steps = order.is_done m is ∙ ap (λ (s : At). s.steps) (is_same m m from (at m) refl) in
      let next : Together facts p loaded (λ n. cond (n == m) new (order.passes n)) new.history =
      publishes m history new order.together is (subst (λ (s : Pass). Call s history new) (sym here) call) refl in
      record {
        passes = λ n. cond (n == m) new (order.passes n);
        together = next;
        is_last = λ n number. at_one (λ (s : Pass). s ≡ (at n).pass) n m new (order.passes n)
            (λ same. ap (λ (s : At). s.pass) (sym was) ∙ ap (λ (i : ℕ). (at i).pass) (sym same))
            (λ apart. order.is_last n number ∙ ap (λ (s : At). s.pass) (is_other n m from (at n) apart));
        is_done = λ n number. at_one (λ (steps : List Done). steps ≡ (at n).steps) n m (steps_in n order.together ++ (history, new) ∷ []) (steps_in n order.together)
            (λ same. ap (λ (i : ℕ). steps_in i order.together ++ (history, new) ∷ []) same ∙ ap (λ (steps : List Done). steps ++ (history, new) ∷ []) done
            ∙ ap (λ (s : At). s.steps) (sym was) ∙ ap (λ (i : ℕ). (at i).steps) (sym same))
            (λ apart. order.is_done n number ∙ ap (λ (s : At). s.steps) (is_other n m from (at n) apart));
      }

  pub fresh_begins : (n : ℕ) (to : At) → Ran (fresh n) to → IsPrefix (loaded_pairs loaded) to.pass.history
  fresh_begins n to ran = let goes = ran_goes (fresh n) to ran in goes.begins

  -- what a pass held when its last publishing call was made, where it holds no more than was loaded: nothing was called before
  record IsBegun (n : ℕ) (at : At) : Type 0 where
    pass : at.pass ≡ fresh n
    steps : at.steps ≡ []

  is_begun : (n : ℕ) (at : At) → Ends (fresh n) at → length at.pass.history ≤ base → IsBegun n at
  is_begun n _ begun few = record { pass = refl; steps = refl }
  is_begun n _ (published {from = from} met new ran call more) few =
      let adds = call_adds from.pass met new call in
      absurd (omega (arith, few, more, prefix_length (loaded_pairs loaded) from.pass.history (fresh_begins n from ran), prefix_length from.pass.history met adds.begins))

  -- nothing is published: then nothing was
  nothing_made : (history : List (Entry × ℕ)) (at : ℕ → At) → IsPrefix (loaded_pairs loaded) history → length history ≤ base → ((n : ℕ) → Ends (fresh n) (at n))
      → ((n : ℕ) → IsNumber p n → IsPrefix (at n).pass.history history) → HasOrder facts p loaded history at
  nothing_made history at first few ends begin =
      let same : loaded_pairs loaded ≡ history = prefix_whole (loaded_pairs loaded) history first few in
      let so : (n : ℕ) → IsNumber p n → IsBegun n (at n) = λ n is. is_begun n (at n) (ends n) (omega (arith, few, prefix_length (at n).pass.history history (begin n is))) in
      let there : HasOrder facts p loaded (loaded_pairs loaded) at = record {
        passes = fresh;
        together = opened;
        is_last = λ n is. let b = so n is in sym b.pass;
        is_done = λ n is. let b = so n is in sym b.steps;
      } in
      subst (λ (h : List (Entry × ℕ)). HasOrder facts p loaded h at) same there

  -- the pass whose own the last entry is published it by its last call that publishes
  data PublishedLast (n : ℕ) (history : List (Entry × ℕ)) (at : At) : Type 0 where
    by_this : (from : At) (met : List (Entry × ℕ)) (new : Pass) → Ran (fresh n) from → Call from.pass met new → length met < length new.history → new.history ≡ history
        → at ≡ record { pass = new; steps = from.steps ++ (met, new) ∷ [] } → PublishedLast n history at

  published_last : (n : ℕ) (history : List (Entry × ℕ)) (at : At) → Ends (fresh n) at → IsPrefix at.pass.history history → (j : ℕ) → IsIn j at.pass.own → length history ≤ suc j
      → PublishedLast n history at
  published_last n history _ begun begins j has last = absurd has
  published_last n history _ (published {from = from} met new ran call more) begins j has last =
      let goes = ran_goes (fresh n) _ (ran_more met new ran call) in
      let within : j < length new.history = goes.within refl j has in
      by_this from met new ran call more (prefix_whole new.history history begins (omega (arith, within, last))) refl

  -- a pass whose last entry is its own holds none of what another made behind this
  holds_before : (n m : ℕ) (history met : List (Entry × ℕ)) (at : At) → n ≢ m → Ends (fresh n) at → IsPrefix at.pass.history history → IsPrefix met history → base ≤ length met
      → ((j : ℕ) → length met ≤ j → j < length history → maker_at history j ≡ m) → IsPrefix at.pass.history met
  holds_before n m history met _ apart begun begins on loads by = prefix_shorter (loaded_pairs loaded) met history begins on loads
  holds_before n m history met _ apart (published {from = from} there new ran call more) begins on loads by = dite (dec_le (length new.history) (length met))
      (λ (le : length new.history ≤ length met). prefix_shorter new.history met history begins on le)
      (λ (longer : _). absurd (let lt = lt_of_not-le longer in last_is (length new.history) refl lt))
    where
      last_is : (size : ℕ) → length new.history ≡ size → length met < size → ⊥
      last_is zero is lt = absurd (omega (arith, lt))
      last_is (suc j) is lt =
          let adds = call_adds from.pass there new call in
          let goes = ran_goes (fresh n) from ran in
          let mine : maker_at new.history j ≡ n = adds.by j (omega (arith, is, more)) (omega (arith, is)) ∙ goes.number in
          let theirs : maker_at history j ≡ m = by j (omega (arith, lt)) (omega (arith, is, prefix_length new.history history begins)) in
          apart (sym mine ∙ sym (maker_in new.history history j begins (omega (arith, is))) ∙ theirs)

  pub record IsWhole (history : List (Entry × ℕ)) (at : ℕ → At) : Type 0 where
    pub ran : (n : ℕ) → Ran (fresh n) (at n)
    pub begin : (n : ℕ) → IsNumber p n → IsPrefix (at n).pass.history history
    pub covered : (j : ℕ) → base ≤ j → j < length history → IsCovered p history at j

  abbrev cores : (history : List (Entry × ℕ)) (at : ℕ → At) → IsWhole history at → (n : ℕ) → Core (fresh n) (at n)
  cores history at whole n = core_of (fresh n) (at n) (whole.ran n)

  abbrev ends_at : (history : List (Entry × ℕ)) (at : ℕ → At) → IsWhole history at → ℕ → At
  ends_at history at whole n = let core = cores history at whole n in core.at

  begin_core : (history : List (Entry × ℕ)) (at : ℕ → At) (whole : IsWhole history at) (n : ℕ) → IsNumber p n → IsPrefix (ends_at history at whole n).pass.history history
  begin_core history at whole n is =
      let core = cores history at whole n in
      let still = looks_still core.at (at n) core.rest in
      prefix_trans core.at.pass.history (at n).pass.history history still.begins (whole.begin n is)

  own_core : (history : List (Entry × ℕ)) (at : ℕ → At) (whole : IsWhole history at) (n j : ℕ) → IsIn j (at n).pass.own → IsIn j (ends_at history at whole n).pass.own
  own_core history at whole n j has =
      let core = cores history at whole n in
      let still = looks_still core.at (at n) core.rest in
      subst (IsIn j) still.own has

  -- what was before the last call that published
  before_last : (history : List (Entry × ℕ)) (at : ℕ → At) (whole : IsWhole history at) (m : ℕ) (from : At) (met : List (Entry × ℕ)) (new : Pass) → IsNumber p m → Ran (fresh m) from
      → Call from.pass met new → new.history ≡ history → ends_at history at whole m ≡ record { pass = new; steps = from.steps ++ (met, new) ∷ [] }
      → IsWhole met (λ n. cond (n == m) from (ends_at history at whole n))
  before_last history at whole m from met new is ran call same was =
      let adds = call_adds from.pass met new call in
      let goes = ran_goes (fresh m) from ran in
      let on : IsPrefix met history = subst (IsPrefix met) same adds.goes_on in
      let loads : base ≤ length met = omega (arith, prefix_length (loaded_pairs loaded) from.pass.history goes.begins, prefix_length from.pass.history met adds.begins) in
      let by : (j : ℕ) → length met ≤ j → j < length history → maker_at history j ≡ m =
      λ j le lt. subst (λ (h : List (Entry × ℕ)). maker_at h j ≡ m) same (adds.by j le (omega (arith, lt, ap length same)) ∙ goes.number) in
      let core : (n : ℕ) → Core (fresh n) (at n) = cores history at whole in
      let left : ℕ → At = ends_at history at whole in
      record {
        ran = λ n. at_one (λ (s : At). Ran (fresh n) s) n m from (left n) (λ same_one. subst (λ (i : ℕ). Ran (fresh i) from) (sym same_one) ran) (λ apart. ends_ran (fresh n) (left n) (let c = core n in c.ends));
        begin = λ n number. at_one (λ (s : At). IsPrefix s.pass.history met) n m from (left n) (λ same_one. adds.begins)
            (λ apart. holds_before n m history met (left n) apart (let c = core n in c.ends) (begin_core history at whole n number) on loads by);
        covered = λ j le lt.
            let maker : maker_at history j ≡ maker_at met j = maker_in met history j on lt in
            let cov = whole.covered j le (omega (arith, lt, prefix_length met history on)) in
            let number : IsNumber p (maker_at met j) = subst (IsNumber p) maker cov.0 in
            let own : IsIn j (left (maker_at met j)).pass.own = own_core history at whole (maker_at met j) j (subst (λ (n : ℕ). IsIn j (at n).pass.own) maker cov.1) in (
              number,
              at_one (λ (s : At). IsIn j s.pass.own) (maker_at met j) m from (left (maker_at met j))
                  (λ same_one. not_behind j (length met) (length new.history) from.pass.own lt (adds.own j (subst (λ (s : At). IsIn j s.pass.own) (ap left same_one ∙ was) own)))
                  (λ apart. own),
            );
      }
    where
      not_behind : (j size more : ℕ) (own : List ℕ) → j < size → IsIn j own ⊎ ((size ≤ j) × (j < more)) → IsIn j own
      not_behind j size more own lt (inl has) = has
      not_behind j size more own lt (inr behind) = absurd (omega (arith, lt, behind.0))

  cores_then : (history : List (Entry × ℕ)) (at : ℕ → At) (whole : IsWhole history at) → HasOrder facts p loaded history (ends_at history at whole) → HasOrder facts p loaded history at
  cores_then history at whole order = then_all_look history (ends_at history at whole) at order (λ n. let c = cores history at whole n in c.rest) whole.begin

  nothing_more : (history : List (Entry × ℕ)) (at : ℕ → At) → IsPrefix (loaded_pairs loaded) history → IsWhole history at → length history ≤ base → HasOrder facts p loaded history at
  nothing_more history at first whole few =
      cores_then history at whole (nothing_made history (ends_at history at whole) first few (λ n. let c = cores history at whole n in c.ends) (begin_core history at whole))

  abbrev pub HaveOrder : ℕ → Type 0
  HaveOrder more = (history : List (Entry × ℕ)) (at : ℕ → At) → length history ≤ base + more → IsPrefix (loaded_pairs loaded) history → IsWhole history at → HasOrder facts p loaded history at

  -- with the last call that published, what was before it has an order
  with_last : (more : ℕ) (history : List (Entry × ℕ)) (at : ℕ → At) (whole : IsWhole history at) (m : ℕ) → length history ≤ base + suc more → IsNumber p m
      → PublishedLast m history (ends_at history at whole m) → HaveOrder more → HasOrder facts p loaded history at
  with_last more history at whole m le is (by_this from met new ran call further same was) before =
      let adds = call_adds from.pass met new call in
      let first : IsPrefix (loaded_pairs loaded) met = prefix_trans (loaded_pairs loaded) from.pass.history met (fresh_begins m from ran) adds.begins in
      let earlier : HasOrder facts p loaded met (λ n. cond (n == m) from (ends_at history at whole n)) =
      before met (λ n. cond (n == m) from (ends_at history at whole n)) (omega (arith, le, further, ap length same)) first (before_last history at whole m from met new is ran call same was) in
      let here : HasOrder facts p loaded new.history (ends_at history at whole) = then_publishes met (ends_at history at whole) m from new is call earlier was in
      cores_then history at whole (subst (λ (h : List (Entry × ℕ)). HasOrder facts p loaded h (ends_at history at whole)) same here)

  one_further : (more : ℕ) (history : List (Entry × ℕ)) (at : ℕ → At) (size : ℕ) → length history ≡ size → base < size → length history ≤ base + suc more → IsWhole history at → HaveOrder more
      → HasOrder facts p loaded history at
  one_further more history at zero is lt le whole before = absurd (omega (arith, lt))
  one_further more history at (suc j) is lt le whole before =
      let m : ℕ = maker_at history j in
      let cov = whole.covered j (omega (arith, lt)) (omega (arith, is)) in
      with_last more history at whole m le cov.0
      (published_last m history (ends_at history at whole m) (let c = cores history at whole m in c.ends) (begin_core history at whole m cov.0) j (own_core history at whole m j cov.1) (omega (arith, is)))
      before

  -- by how much more there is than was loaded
  pub ordered : (more : ℕ) → HaveOrder more
  ordered zero history at le first whole = nothing_more history at first whole (omega (arith, le))
  ordered (suc more) history at le first whole = dite (dec_le (length history) base)
      (λ (few : length history ≤ base). nothing_more history at first whole few)
      (λ (further : _). one_further more history at (length history) refl (lt_of_not-le further) le whole (ordered more))

-- ---- of a history that is made by all

in_one_more : (b : Bool) (i j : ℕ) (places : List ℕ) → IsIn j places → IsIn j (cond b (i ∷ places) places)
in_one_more true i j places has = inr has
in_one_more false i j places has = has

in_first : (b : Bool) (i : ℕ) (places : List ℕ) → b ≡ true → IsIn i (cond b (i ∷ places) places)
in_first true i places is = inl refl
in_first false i places is = absurd (grind (arith, nat_tests, is))

-- a place that bears a number is one of its maker's
bears : (n k : ℕ) (pairs : List (Entry × ℕ)) (j : ℕ) → j < length pairs → maker_at pairs j ≡ n → IsIn (k + j) (places_of_maker n k pairs)
bears n k [] j lt is = absurd (omega (arith, lt))
bears n k (pair ∷ pairs) zero lt is =
    let same : k + 0 ≡ k = omega arith in
    let test : (n == pair.1) ≡ true = grind (arith, nat_tests, is) in
    subst (λ (i : ℕ). IsIn i (places_of_maker n k (pair ∷ pairs))) (sym same) (in_first (n == pair.1) k (places_of_maker n (k + 1) pairs) test)
bears n k (pair ∷ pairs) (suc j) lt is =
    let same : k + 1 + j ≡ k + suc j = omega arith in
    subst (λ (i : ℕ). IsIn i (places_of_maker n k (pair ∷ pairs))) same
    (in_one_more (n == pair.1) k (k + 1 + j) (places_of_maker n (k + 1) pairs) (bears n (k + 1) pairs j (omega (arith, lt)) is))

maker_behind : (k : ℕ) (pairs : List (Entry × ℕ)) (j : ℕ) → maker_at (drop k pairs) j ≡ maker_at pairs (j + k)
maker_behind zero pairs j = let same : j ≡ j + 0 = omega arith in ap (maker_at pairs) same
maker_behind (suc k) [] j = refl
maker_behind (suc k) (pair ∷ pairs) j = let same : suc (j + k) ≡ j + suc k = omega arith in maker_behind k pairs j ∙ ap (maker_at (pair ∷ pairs)) same

drop_size : (k : ℕ) (pairs : List (Entry × ℕ)) (j : ℕ) → j + k < length pairs → j < length (drop k pairs)
drop_size zero pairs j lt = omega (arith, lt)
drop_size (suc k) [] j lt = absurd (omega (arith, lt))
drop_size (suc k) (pair ∷ pairs) j lt = drop_size k pairs j (omega (arith, lt))

bears_behind : (n k : ℕ) (pairs : List (Entry × ℕ)) (j : ℕ) → k ≤ j → j < length pairs → maker_at pairs j ≡ n → IsIn j (places_of_maker n k (drop k pairs))
bears_behind n k pairs j le lt is = behind (j - k) (omega arith)
  where
    behind : (i : ℕ) → i + k ≡ j → IsIn j (places_of_maker n k (drop k pairs))
    behind i same =
        let there : k + i ≡ j = omega (arith, same) in
        subst (λ (h : ℕ). IsIn h (places_of_maker n k (drop k pairs))) there
        (bears n k (drop k pairs) i (drop_size k pairs i (omega (arith, same, lt))) (maker_behind k pairs i ∙ ap (maker_at pairs) same ∙ is))

made_by_one : (facts : RealmFacts) (p k : ℕ) (history : List (Entry × ℕ)) → IsHistory facts p k history → (j : ℕ) → k ≤ j → j < length history → IsNumber p (maker_at history j)
made_by_one facts p k _ (was_loaded entries held size) j le lt = absurd (omega (arith, le, lt, size, loaded_length entries))
made_by_one facts p k _ (was_made {pairs = pairs} entry maker is next some most) j le lt =
    let pair : Entry × ℕ = (entry, maker) in
    let longer : length (pairs ++ pair ∷ []) ≡ length pairs + 1 = length-append pairs (pair ∷ []) in
    dite (dec_le (length pairs) j)
    (λ (last : length pairs ≤ j). subst (IsNumber p) (sym (maker_last pairs pair j (omega (arith, last, lt, longer)))) (some, most))
    (λ (earlier : _). let before = lt_of_not-le earlier in subst (IsNumber p) (sym (maker_on pairs (pair ∷ []) j before)) (made_by_one facts p k pairs is j le before))

pub is_whole : (facts : RealmFacts) (p : ℕ) (loaded : List Entry) (history : List (Entry × ℕ)) (at : ℕ → At) → IsHistory facts p (length loaded) history
    → ((n : ℕ) → Ran (fresh_pass facts p loaded n) (at n)) → ((n : ℕ) → IsNumber p n → IsPrefix (at n).pass.history history)
    → ((n : ℕ) → IsNumber p n → (at n).pass.own ≡ places_of_maker n (length loaded) (drop (length loaded) history)) → IsWhole facts p loaded history at
is_whole facts p loaded history at is ran begin own = record {
  ran = ran;
  begin = begin;
  covered = λ j le lt.
      let least : length loaded ≤ j = omega (arith, le, loaded_length loaded) in
      let m : ℕ = maker_at history j in
      let number : IsNumber p m = made_by_one facts p (length loaded) history is j least lt in
      (number, subst (IsIn j) (sym (own m number)) (bears_behind m (length loaded) history j least lt refl));
}

pub calls_have_one_order : CallsHaveOneOrder
calls_have_one_order facts p loaded last calls history made =
    let at : ℕ → At = λ n. record { pass = last n; steps = steps_of (calls n) } in
    let whole = is_whole facts p loaded history at made.is_history (λ n. ran_of (calls n)) made.begins made.own in
    let order = ordered facts p loaded (length history) history at (omega arith) made.loads whole in
    record { passes = order.passes; together = order.together; last_are = order.is_last; calls_are = order.is_done }
