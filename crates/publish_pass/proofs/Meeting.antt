-- A pass that learns more and more, and what is done at the desk of one that has met it.
use Rattle.std.proofs.Common.{◌≡◌, ◌<◌, ℕ, refl, ap, ◌∙◌, sym, subst, arith, None, Result, Ok, Err}
use Rattle.std.specs.Result.{IfOk}
use Rattle.keepers.specs.declared.keeps.Unmade.{Unmade}
use Rattle.kms_json.specs.declared.asks.Ask.{Ask}
use Rattle.published_account.specs.declared.answered.Answered.{Answered}
use Rattle.account_steps.specs.History.{housekeeping_of}
use Rattle.published_account.specs.Growing.{Pairs}
use Rattle.account_steps.specs.declared.facts.RealmFacts.{RealmFacts}
use Rattle.published_account.specs.Pairs.{entries_of, LeadsTo, stays}
use Rattle.publish_pass.specs.Pass.{Pass, KnewAllIfAlone, MadeAllIfAlone, Learns, AnswersChange, AnswersAtDesk, WantsChange, KeepsHouse, WantsHouse, LeavesAtMost, making_any, keeping_house}
use Rattle.published_account.proofs.Lists.{prefix_self, prefix_trans, leads_trans}
use Rattle.publish_pass.proofs.OwnPlaces.{all_and_any, all_left}

pub learns_self : (s : Pass) → Learns s s
learns_self s = record { history = prefix_self s.history; others = refl; leads = stays }

pub learns_trans : (s t u : Pass) → Learns s t → Learns t u → Learns s u
learns_trans s t u p q = record {
  history = prefix_trans s.history t.history u.history p.history q.history;
  others = q.others ∙ ap (λ (x : Pass). let y : Pass = record x { history = u.history } in y) p.others;
  leads = leads_trans s.facts (entries_of s.history) (entries_of t.history) (entries_of u.history) p.leads
      (subst (λ (f : RealmFacts). LeadsTo f (entries_of t.history) (entries_of u.history)) (ap (λ (x : Pass). x.facts) p.others) q.leads);
}

module _ (s u t : Pass) (met : Learns s u) (knew : KnewAllIfAlone s u) (all : MadeAllIfAlone u) where
  changed_on : (x : Ask) (a : Answered) → AnswersAtDesk u x a t → AnswersChange s x a t
  changed_on x a h =
      let after : MadeAllIfAlone t = subst MadeAllIfAlone (sym h.decides.made) (all_and_any _ _ (all_and_any u _ all)) in
      record { reply = h.reply; changes = record { met = u; seen = met; decides = h.decides; knew = knew; made_all = after }; answer = h.answer; front = h.front }

  pub changed_if : (x : Ask) (r : Result Answered Unmade) (desk : Pairs) → IfOk r (λ a. AnswersAtDesk u x a t × (desk ≡ t.history)) → IfOk r (λ a. AnswersChange s x a t)
  changed_if x (Ok a) desk h = changed_on x a h.0
  changed_if x (Err why) desk h = tt

  pub wanted_on : (x : Ask) → LeavesAtMost u x.moment t → WantsChange s x t
  wanted_on x left = record { met = u; seen = met; left = left; knew = knew; made_all = all_left u t x.moment all left }

  pub kept_on : (clock : ℕ) → t ≡ keeping_house u clock → KeepsHouse s clock t
  kept_on clock is = record { met = u; seen = met; kept = is; knew = knew; made_all = subst MadeAllIfAlone (sym is) (all_and_any u _ all) }

  pub left_on : (clock : ℕ) → LeavesAtMost u clock t → WantsHouse s clock t
  left_on clock left = record { met = u; seen = met; left = left; knew = knew; made_all = all_left u t clock all left }

-- a pass that isn't alone, and learns a history at which no housekeeping is due
pub kept_there : (s t : Pass) (clock n : ℕ) → Learns s t → housekeeping_of (entries_of t.history) clock ≡ None → t.passes ≡ n → 1 < n → KeepsHouse s clock t
kept_there s t clock n learns none is several = record {
  met = t;
  seen = learns;
  kept = sym (ap (making_any t) none);
  knew = λ alone. absurd (omega (arith, alone, ap (λ (p : Pass). p.passes) learns.others, is, several));
  made_all = λ alone. absurd (omega (arith, alone, is, several));
}
