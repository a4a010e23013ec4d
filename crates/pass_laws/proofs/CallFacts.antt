-- What calls of a pass leave: a history that goes on and stays what it is, lawful or an opened account's, and places that go on.
use Rattle.std.proofs.Common.{◌≡◌, ◌⊎◌, inl, inr, ℕ, ◌^◌, ◌<◌, List, [], ◌∷◌, ◌++◌, true, Option, Some, None, refl, sym, ap, ◌∙◌, subst, append_assoc}
use mathlib.Core.List.{IsPrefix}
use Rattle.std.proofs.lemmas.List.{map-append}
use Rattle.kms_names.specs.Moment.{year_10000}
use Rattle.kms_json.specs.declared.asks.Ask.{Ask}
use Rattle.kms_json.specs.declared.replies.Reply.{Reply}
use Rattle.kms_json.specs.Asks.{changes_account}
use Rattle.account_steps.specs.declared.facts.RealmFacts.{RealmFacts}
use Rattle.account_steps.specs.History.{Entry, housekeeping_of}
use Rattle.account_steps.specs.declared.places.Places.{Places}
use Rattle.account_steps.specs.Places.{IsUpTo, no_places}
use Rattle.account_rows.specs.declared.entries.What.TheVariants as what
use Rattle.account_rows.specs.History.{replay}
use Rattle.grant_table.specs.Grants.{grant_with}
use Rattle.account_core.specs.Decide.{decide, IsProper, IsNext, appended, kept, IsLawful, longer}
use Rattle.account_core.specs.Fitting.{IsHeld, appended_to}
use Rattle.account_core.proofs.GoingOn.{same_entry, decide_goes_on}
use Rattle.account_laws.proofs.Histories.{opened_push}
use Rattle.account_laws.specs.Laws.{IsOpened, Sealing, HasSealed, PassGoesOn, no_request, one_more as one_request, wants_memory, OnePassRepeatsNoIv, PassesShareNoIv, BootsShareNoIv, DroppedGrantsStayAway}
use Rattle.published_account.specs.Pairs.{entries_of, LeadsTo, stays as stays_there, leads_on}
use Rattle.published_account.proofs.Lists.{entries_of-push, prefix_self, prefix_push, prefix_trans, entries_of-loaded}
use Rattle.publish_pass.specs.Pass.{Pass, Meets, Learns, Decides, making_any, keeping_house, at_places, fresh_pass}
use Rattle.pass_laws.specs.Calls.{Call, read, wanted_to_read, missed, changed, wanted_to_change, kept_house, wanted_to_keep_house, learnt, changed_at_desk, kept_house_at_desk, Calls, no_call, one_more, FrontsNeverFall, CallsKeepLawful, CallsKeepOpened, AnswersAt, at_front, at_desk, DroppedStaysAwayFromPasses, Seals, NoVectorOfOnePassTwice, NoVectorOfTwoPasses, NoVectorOfTwoBoots}

-- ---- the history goes on

abbrev On : Pass → Pass → Type 0
On s t = IsPrefix s.history t.history

on_same : (s t : Pass) → t ≡ s → On s t
on_same s t same = subst (On s) (sym same) (prefix_self s.history)

on_trans : (s t u : Pass) → On s t → On t u → On s u
on_trans s t u a b = prefix_trans s.history t.history u.history a b

making_on : (s : Pass) (made : Option Entry) → On s (making_any s made)
making_on s None = prefix_self s.history
making_on s (Some entry) = prefix_push s.history (entry, s.number)

house_on : (s : Pass) (clock : ℕ) → On s (keeping_house s clock)
house_on s clock = making_on s (housekeeping_of (entries_of s.history) clock)

left_on : (met t : Pass) (clock : ℕ) → (t ≡ met) ⊎ (t ≡ keeping_house met clock) → On met t
left_on met t clock (inl same) = on_same met t same
left_on met t clock (inr house) = subst (On met) (sym house) (house_on met clock)

-- the history stays where only the places change
same_on : (s met t : Pass) → On s met → t.history ≡ met.history → On s t
same_on s met t on same = subst (IsPrefix s.history) (sym same) on

decides_on : (s : Pass) (x : Ask) (reply : Reply) (t : Pass) → Decides (keeping_house s x.moment) x reply t → On s t
decides_on s x reply t h =
    let house : Pass = keeping_house s x.moment in
    on_trans s house t (house_on s x.moment) (subst (On house) (sym h.made) (making_on house (decide house.facts (entries_of house.history) x house.places).entry))

call_on : (old : Pass) (met : List (Entry × ℕ)) (new : Pass) → Call old met new → On old new
call_on old met new (read x reply proper reading h is) = same_on old h.met new h.seen.history (ap (λ (p : Pass). p.history) h.used)
call_on old met new (wanted_to_read x proper reading h is) = same_on old h.met new h.seen.history (ap (λ (p : Pass). p.history) h.used)
call_on old met new (missed h is) = same_on old old new (prefix_self old.history) (ap (λ (p : Pass). p.history) h.others)
call_on old met new (changed x reply proper changing h is) = on_trans old h.met new h.seen.history (decides_on h.met x reply new h.decides)
call_on old met new (wanted_to_change x proper h is) = on_trans old h.met new h.seen.history (left_on h.met new x.moment h.left)
call_on old met new (kept_house clock before h is) = on_trans old h.met new h.seen.history (left_on h.met new clock (inr h.kept))
call_on old met new (wanted_to_keep_house clock before h is) = on_trans old h.met new h.seen.history (left_on h.met new clock h.left)
call_on old met new (learnt h is) = h.history
call_on old met new (changed_at_desk x reply proper changing h is) = decides_on old x reply new h
call_on old met new (kept_house_at_desk clock before h is) = left_on old new clock h

pub fronts : FrontsNeverFall
fronts first last no_call = prefix_self first.history
fronts first last (one_more {old = old} met calls call) = on_trans first old last (fronts first old calls) (call_on old met last call)

-- ---- the facts stay

any_facts : (s : Pass) (made : Option Entry) → (making_any s made).facts ≡ s.facts
any_facts s None = refl
any_facts s (Some entry) = refl

left_facts : (met t : Pass) (clock : ℕ) → (t ≡ met) ⊎ (t ≡ keeping_house met clock) → t.facts ≡ met.facts
left_facts met t clock (inl same) = ap (λ (p : Pass). p.facts) same
left_facts met t clock (inr house) = ap (λ (p : Pass). p.facts) house ∙ any_facts met (housekeeping_of (entries_of met.history) clock)

decided_facts : (s : Pass) (x : Ask) (reply : Reply) (t : Pass) → Decides (keeping_house s x.moment) x reply t → t.facts ≡ s.facts
decided_facts s x reply t h =
    let house : Pass = keeping_house s x.moment in
    ap (λ (p : Pass). p.facts) h.made ∙ any_facts house (decide house.facts (entries_of house.history) x house.places).entry
    ∙ any_facts s (housekeeping_of (entries_of s.history) x.moment)

call_facts : (old : Pass) (met : List (Entry × ℕ)) (new : Pass) → Call old met new → new.facts ≡ old.facts
call_facts old met new (read x reply proper reading h is) = ap (λ (p : Pass). p.facts) h.used ∙ ap (λ (p : Pass). p.facts) h.seen.others
call_facts old met new (wanted_to_read x proper reading h is) = ap (λ (p : Pass). p.facts) h.used ∙ ap (λ (p : Pass). p.facts) h.seen.others
call_facts old met new (missed h is) = ap (λ (p : Pass). p.facts) h.others
call_facts old met new (changed x reply proper changing h is) = decided_facts h.met x reply new h.decides ∙ ap (λ (p : Pass). p.facts) h.seen.others
call_facts old met new (wanted_to_change x proper h is) = left_facts h.met new x.moment h.left ∙ ap (λ (p : Pass). p.facts) h.seen.others
call_facts old met new (kept_house clock before h is) = left_facts h.met new clock (inr h.kept) ∙ ap (λ (p : Pass). p.facts) h.seen.others
call_facts old met new (wanted_to_keep_house clock before h is) = left_facts h.met new clock h.left ∙ ap (λ (p : Pass). p.facts) h.seen.others
call_facts old met new (learnt h is) = ap (λ (p : Pass). p.facts) h.others
call_facts old met new (changed_at_desk x reply proper changing h is) = decided_facts old x reply new h
call_facts old met new (kept_house_at_desk clock before h is) = left_facts old new clock h

pub calls_facts : (first last : Pass) → Calls first last → last.facts ≡ first.facts
calls_facts first last no_call = refl
calls_facts first last (one_more {old = old} met calls call) = call_facts old met last call ∙ calls_facts first old calls

pub calls_append : (first mid last : Pass) → Calls first mid → Calls mid last → Calls first last
calls_append first mid last calls no_call = calls
calls_append first mid last calls (one_more {old = old} met more call) = one_more met (calls_append first mid old calls more) call

-- ---- where a call leaves the pass

any_places : (s : Pass) (made : Option Entry) → (making_any s made).places ≡ s.places
any_places s None = refl
any_places s (Some entry) = refl

house_places : (s : Pass) (clock : ℕ) → (keeping_house s clock).places ≡ s.places
house_places s clock = any_places s (housekeeping_of (entries_of s.history) clock)

left_places : (met t : Pass) (clock : ℕ) → (t ≡ met) ⊎ (t ≡ keeping_house met clock) → t.places ≡ met.places
left_places met t clock (inl same) = ap (λ (p : Pass). p.places) same
left_places met t clock (inr house) = ap (λ (p : Pass). p.places) house ∙ house_places met clock

decided_places : (s : Pass) (x : Ask) (reply : Reply) (t : Pass) → Decides (keeping_house s x.moment) x reply t → t.places ≡ s.places
decided_places s x reply t h =
    let house : Pass = keeping_house s x.moment in
    ap (λ (p : Pass). p.places) h.made ∙ any_places house (decide house.facts (entries_of house.history) x house.places).entry ∙ house_places s x.moment

goes_after : (facts : RealmFacts) (from to last : Places) → PassGoesOn facts from to → PassGoesOn facts to last → PassGoesOn facts from last
goes_after facts from to last on (no_request places) = on
goes_after facts from to last on (one_request history x more) = one_request history x (goes_after facts from to _ on more)
goes_after facts from to last on (wants_memory history x left more within) = wants_memory history x left (goes_after facts from to _ on more) within

same_number : (facts : RealmFacts) (from to : Places) → PassGoesOn facts from to → to.number ≡ from.number
same_number facts from to (no_request places) = refl
same_number facts from to (one_request {to = mid} history x on) = (decide_goes_on facts history x mid).number ∙ same_number facts from mid on
same_number facts from to (wants_memory {to = mid} history x left on within) = within.number ∙ same_number facts from mid on

-- ---- and the history stays what it is

abbrev Has : RealmFacts → (List Entry → Type 0) → Pass → Type 0
Has facts P s = (s.facts ≡ facts) × P (entries_of s.history)

-- where a call leaves the pass, and what its history is there
record Steps (facts : RealmFacts) (P : List Entry → Type 0) (s t : Pass) : Type 0 where
  has : Has facts P t
  on : PassGoesOn facts s.places t.places

-- of what each entry keeps that may come next
module _ (facts : RealmFacts) (P : List Entry → Type 0) (push : (history : List Entry) (entry : Entry) → P history → IsNext facts history entry → P (history ++ entry ∷ [])) where
  leads_keep : (history later : List Entry) → LeadsTo facts history later → P history → P later
  leads_keep history _ stays_there is = is
  leads_keep history _ (leads_on {later = later} entry leads may) is = push later entry (leads_keep history later leads is) may

  makes : (s : Pass) (made : Option Entry) → Has facts P s → ((entry : Entry) → made ≡ Some entry → IsNext facts (entries_of s.history) entry) → Has facts P (making_any s made)
  makes s None is next = is
  makes s (Some entry) is next = (is.0, subst P (sym (entries_of-push s.history (entry, s.number))) (push (entries_of s.history) entry is.1 (next entry refl)))

  keeps_house : (s : Pass) (clock : ℕ) → clock < year_10000 → Has facts P s → Has facts P (keeping_house s clock)
  keeps_house s clock before is = makes s (housekeeping_of (entries_of s.history) clock) is (λ entry e. kept clock before e)

  same_pass : (s t : Pass) → t ≡ s → Has facts P s → Has facts P t
  same_pass s t same is = subst (Has facts P) (sym same) is

  meets_more : (s u : Pass) → u.facts ≡ s.facts → LeadsTo s.facts (entries_of s.history) (entries_of u.history) → Has facts P s → Has facts P u
  meets_more s u same leads is =
      let here : LeadsTo facts (entries_of s.history) (entries_of u.history) = subst (λ (f : RealmFacts). LeadsTo f (entries_of s.history) (entries_of u.history)) is.0 leads in
      (same ∙ is.0, leads_keep (entries_of s.history) (entries_of u.history) here is.1)

  meets : (s u : Pass) → Meets s u → Has facts P s → Has facts P u
  meets s u met is = meets_more s u (ap (λ (p : Pass). p.facts) met.others) met.leads is

  learns : (s u : Pass) → Learns s u → Has facts P s → Has facts P u
  learns s u met is = meets_more s u (ap (λ (p : Pass). p.facts) met.others) met.leads is

  leaves : (met t : Pass) (clock : ℕ) → clock < year_10000 → Has facts P met → (t ≡ met) ⊎ (t ≡ keeping_house met clock) → Has facts P t
  leaves met t clock before is (inl same) = same_pass met t same is
  leaves met t clock before is (inr house) = same_pass (keeping_house met clock) t house (keeps_house met clock before is)

  decides : (s : Pass) (x : Ask) (reply : Reply) (t : Pass) → IsProper facts x → changes_account x.body ≡ true → Has facts P s → Decides (keeping_house s x.moment) x reply t → Has facts P t
  decides s x reply t proper changing is h =
      let house : Pass = keeping_house s x.moment in
      let there = keeps_house s x.moment proper.moment is in
      let next : (entry : Entry) → (decide house.facts (entries_of house.history) x house.places).entry ≡ Some entry → IsNext facts (entries_of house.history) entry =
      λ (entry : Entry) e. appended x proper
      (same_entry facts (entries_of house.history) x no_places house.places changing ∙ ap (λ (f : RealmFacts). (decide f (entries_of house.history) x house.places).entry) (sym there.0) ∙ e) in
      same_pass (making_any house (decide house.facts (entries_of house.history) x house.places).entry) t h.made (makes house _ there next)

  stays : (s t : Pass) → t.places ≡ s.places → PassGoesOn facts s.places t.places
  stays s t same = subst (PassGoesOn facts s.places) (sym same) (no_request s.places)

  reading_steps : (s met t : Pass) (left : Places) → Meets s met → t ≡ at_places met left → Has facts P s → PassGoesOn facts met.places left → Steps facts P s t
  reading_steps s met t left seen used is on =
      let there = meets s met seen is in
      record {
        has = subst (Has facts P) (sym used) there;
        on = subst (λ (p : Places). PassGoesOn facts p t.places) (ap (λ (p : Pass). p.places) seen.others) (subst (PassGoesOn facts met.places) (sym (ap (λ (p : Pass). p.places) used)) on);
      }

  learning_steps : (s met t : Pass) → Learns s met → Has facts P t → t.places ≡ met.places → Steps facts P s t
  learning_steps s met t seen has same = record { has = has; on = stays s t (same ∙ ap (λ (p : Pass). p.places) seen.others) }

  proper_here : (s : Pass) (x : Ask) → Has facts P s → IsProper s.facts x → IsProper facts x
  proper_here s x is proper = subst (λ (f : RealmFacts). IsProper f x) is.0 proper

  call_steps : (old : Pass) (met : List (Entry × ℕ)) (new : Pass) → Has facts P old → Call old met new → Steps facts P old new
  call_steps old met new is (read x reply proper reading h met_is) =
      let there = meets old h.met h.seen is in
      let decided : PassGoesOn facts h.met.places (decide h.met.facts (entries_of h.met.history) x h.met.places).places =
      subst (λ (f : RealmFacts). PassGoesOn facts h.met.places (decide f (entries_of h.met.history) x h.met.places).places) (sym there.0)
      (one_request (entries_of h.met.history) x (no_request h.met.places)) in
      reading_steps old h.met new _ h.seen h.used is decided
  call_steps old met new is (wanted_to_read x proper reading h met_is) =
      let there = meets old h.met h.seen is in
      let at_most = subst (λ (f : RealmFacts). IsUpTo h.met.places h.places (decide f (entries_of h.met.history) x h.met.places).places) there.0 h.at_most in
      reading_steps old h.met new h.places h.seen h.used is (wants_memory (entries_of h.met.history) x h.places (no_request h.met.places) at_most)
  call_steps old met new is (missed h met_is) = record { has = subst (Has facts P) (sym h.others) is; on = stays old new (ap (λ (p : Pass). p.places) h.others) }
  call_steps old met new is (changed x reply proper changing h met_is) =
      learning_steps old h.met new h.seen (decides h.met x reply new (proper_here old x is proper) changing (learns old h.met h.seen is) h.decides) (decided_places h.met x reply new h.decides)
  call_steps old met new is (wanted_to_change x proper h met_is) =
      learning_steps old h.met new h.seen (leaves h.met new x.moment proper.moment (learns old h.met h.seen is) h.left) (left_places h.met new x.moment h.left)
  call_steps old met new is (kept_house clock before h met_is) =
      learning_steps old h.met new h.seen (leaves h.met new clock before (learns old h.met h.seen is) (inr h.kept)) (left_places h.met new clock (inr h.kept))
  call_steps old met new is (wanted_to_keep_house clock before h met_is) =
      learning_steps old h.met new h.seen (leaves h.met new clock before (learns old h.met h.seen is) h.left) (left_places h.met new clock h.left)
  call_steps old met new is (learnt h met_is) = learning_steps old new new h (learns old new h is) refl
  call_steps old met new is (changed_at_desk x reply proper changing h met_is) =
      record { has = decides old x reply new (proper_here old x is proper) changing is h; on = stays old new (decided_places old x reply new h) }
  call_steps old met new is (kept_house_at_desk clock before h met_is) = record { has = leaves old new clock before is h; on = stays old new (left_places old new clock h) }

  calls_steps : (first last : Pass) → Has facts P first → Calls first last → Steps facts P first last
  calls_steps first last is no_call = record { has = is; on = no_request first.places }
  calls_steps first last is (one_more {old = old} met calls call) =
      let so_far = calls_steps first old is calls in
      let here = call_steps old met last so_far.has call in
      record { has = here.has; on = goes_after facts first.places old.places last.places so_far.on here.on }

  kept_by_calls : (first last : Pass) → Has facts P first → Calls first last → Has facts P last
  kept_by_calls first last is calls = (calls_steps first last is calls).has

push_lawful : (facts : RealmFacts) (history : List Entry) (entry : Entry) → IsLawful facts history → IsNext facts history entry → IsLawful facts (history ++ entry ∷ [])
push_lawful facts history entry lawful next = longer entry lawful next

push_held : (facts : RealmFacts) (history : List Entry) (entry : Entry) → IsHeld facts history → IsNext facts history entry → IsHeld facts (history ++ entry ∷ [])
push_held facts history entry held next = appended_to entry held next

pub calls_lawful : CallsKeepLawful
calls_lawful first last calls lawful =
    let is = kept_by_calls first.facts (IsLawful first.facts) (push_lawful first.facts) first last (refl, lawful) calls in
    (is.0, subst (λ (f : RealmFacts). IsLawful f (entries_of last.history)) (sym is.0) is.1)

pub calls_opened : CallsKeepOpened
calls_opened first last calls opened =
    let is = kept_by_calls first.facts (IsOpened first.facts) (opened_push first.facts) first last (refl, opened) calls in
    (is.0, subst (λ (f : RealmFacts). IsOpened f (entries_of last.history)) (sym is.0) is.1)

-- ---- initialization vectors

-- where a call that sealed stood, and where it left the pass
record Stands (facts : RealmFacts) (s t : Pass) (sealing : Sealing) : Type 0 where
  history : List Entry
  request : Ask
  sealed : HasSealed facts history request s.places sealing
  opened : IsOpened facts history
  leaves : t.places ≡ (decide facts history request s.places).places
  after : Has facts (IsOpened facts) t

stands : (facts : RealmFacts) (s t : Pass) (sealing : Sealing) → Has facts (IsOpened facts) s → Seals s t sealing → Stands facts s t sealing
stands facts s t sealing is h =
    let met = h.reads.met in
    let there = meets facts (IsOpened facts) (opened_push facts) s met h.reads.seen is in
    let at : met.places ≡ s.places = ap (λ (p : Pass). p.places) h.reads.seen.others in
    let sealed : HasSealed facts (entries_of met.history) h.request met.places sealing =
    subst (λ (f : RealmFacts). HasSealed f (entries_of met.history) h.request met.places sealing) there.0 h.sealed in
    record {
      history = entries_of met.history;
      request = h.request;
      sealed = subst (λ (p : Places). HasSealed facts (entries_of met.history) h.request p sealing) at sealed;
      opened = there.1;
      leaves = ap (λ (p : Pass). p.places) h.reads.used ∙ ap (λ (f : RealmFacts). (decide f (entries_of met.history) h.request met.places).places) there.0
          ∙ ap (λ (p : Places). (decide facts (entries_of met.history) h.request p).places) at;
      after = subst (Has facts (IsOpened facts)) (sym h.reads.used) there;
    }

steps_of : (facts : RealmFacts) (first last : Pass) → Has facts (IsOpened facts) first → Calls first last → Steps facts (IsOpened facts) first last
steps_of facts first last is calls = calls_steps facts (IsOpened facts) (opened_push facts) first last is calls

pub not_twice : OnePassRepeatsNoIv → NoVectorOfOnePassTwice
not_twice law s t u v one other opened seals calls again =
    let facts : RealmFacts = s.facts in
    let here = stands facts s t one (refl, opened) seals in
    let steps = steps_of facts t u here.after calls in
    let later = stands facts u v other steps.has again in
    law facts here.history later.history here.request later.request s.places u.places one other here.opened later.opened here.sealed later.sealed
    (subst (λ (p : Places). PassGoesOn facts p u.places) here.leaves steps.on)

-- a pass that began anew, and what it seals
module _ (facts : RealmFacts) (p n : ℕ) (loaded : List Entry) (s t : Pass) (sealing : Sealing) (opened : IsOpened facts loaded) (calls : Calls (fresh_pass facts p loaded n) s)
    (seals : Seals s t sealing) where
  begun : Steps facts (IsOpened facts) (fresh_pass facts p loaded n) s
  begun = steps_of facts (fresh_pass facts p loaded n) s (refl, subst (IsOpened facts) (sym (entries_of-loaded loaded)) opened) calls

  began : Stands facts s t sealing
  began = stands facts s t sealing begun.has seals

  numbered : s.places.number ≡ n
  numbered = same_number facts (fresh_pass facts p loaded n).places s.places begun.on

pub not_of_two : PassesShareNoIv → NoVectorOfTwoPasses
not_of_two law facts p n m loaded s t u v one other opened fits fits_too apart calls seals more again =
    let here = began facts p n loaded s t one opened calls seals in
    let there = began facts p m loaded u v other opened more again in
    let first = numbered facts p n loaded s t one opened calls seals in
    let second = numbered facts p m loaded u v other opened more again in
    law facts here.history there.history here.request there.request s.places u.places one other here.opened there.opened here.sealed there.sealed
    (subst (λ (i : ℕ). i < 2 ^ 16) (sym first) fits) (subst (λ (i : ℕ). i < 2 ^ 16) (sym second) fits_too) (λ same. apart (sym first ∙ same ∙ second))

pub not_over_boots : BootsShareNoIv → NoVectorOfTwoBoots
not_over_boots law facts later_facts p q n m loaded reloaded s t u v one other opened reopened fits fits_too apart calls seals more again =
    let here = began facts p n loaded s t one opened calls seals in
    let there = began later_facts q m reloaded u v other reopened more again in
    law facts later_facts here.history there.history here.request there.request s.places u.places one other here.opened there.opened here.sealed there.sealed fits fits_too apart

-- ---- dropped grants

prefix_entries : (xs ys : List (Entry × ℕ)) → IsPrefix xs ys → IsPrefix (entries_of xs) (entries_of ys)
prefix_entries xs ys (more, is) = (entries_of more, sym (map-append (λ (made : Entry × ℕ). made.0) xs more) ∙ ap entries_of is)

module _ (law : DroppedGrantsStayAway) (first : Pass) (history more : List Entry) (entry : Entry) (grant : List ℕ)
    (seen : entries_of first.history ≡ (history ++ entry ∷ []) ++ more) (drops : entry.what ≡ what.GrantDrop grant) where
  abbrev IsFirst : Pass → Type 0
  IsFirst s = Has first.facts (IsHeld first.facts) s

  away : (s : Pass) → On first s → IsFirst s → grant_with (replay (entries_of s.history)).grants grant ≡ None
  away s on is =
      let begins = prefix_entries first.history s.history on in
      let same : (history ++ entry ∷ []) ++ (more ++ begins.0) ≡ entries_of s.history =
      sym (append_assoc (history ++ entry ∷ []) more begins.0) ∙ ap (λ (h : List Entry). h ++ begins.0) (sym seen) ∙ begins.1 in
      subst (λ (h : List Entry). grant_with (replay h).grants grant ≡ None) same (law first.facts history (more ++ begins.0) entry grant (subst (IsHeld first.facts) (sym same) is.1) drops)

  away_at : (old new : Pass) (answered : List Entry) → On first old → IsFirst old → AnswersAt old answered new → grant_with (replay answered).grants grant ≡ None
  away_at old new answered on is (at_front x reply h at) =
      subst (λ (entries : List Entry). grant_with (replay entries).grants grant ≡ None) (sym at)
      (away h.met (on_trans first old h.met on h.seen.history) (meets first.facts (IsHeld first.facts) (push_held first.facts) old h.met h.seen is))
  away_at old new answered on is (at_desk x reply proper h at) =
      let house : Pass = keeping_house h.met x.moment in
      let there = learns first.facts (IsHeld first.facts) (push_held first.facts) old h.met h.seen is in
      subst (λ (entries : List Entry). grant_with (replay entries).grants grant ≡ None) (sym at)
      (away house (on_trans first old house on (on_trans old h.met house h.seen.history (house_on h.met x.moment)))
      (keeps_house first.facts (IsHeld first.facts) (push_held first.facts) h.met x.moment proper.moment there))

pub stays_away : DroppedGrantsStayAway → DroppedStaysAwayFromPasses
stays_away law first old new history more answered entry grant held seen drops calls =
    let on = fronts first old calls in
    let is = kept_by_calls first.facts (IsHeld first.facts) (push_held first.facts) first old (refl, held) calls in
    (away law first history more entry grant seen drops old on is, λ at. away_at law first history more entry grant seen drops old new answered on is at)
