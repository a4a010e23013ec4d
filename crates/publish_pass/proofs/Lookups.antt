-- What a look at the published account answers.
use Rattle.std.proofs.Common.{◌≡◌, ℕ, List, sym, subst, refl, ap, ◌∙◌, le_refl, Result, Ok, Err}
use Rattle.std.specs.Result.{IfErr, IsErrAnd}
use Rattle.std.proofs.lemmas.List.{length-map}
use mathlib.Core.List.{IsPrefix}
use Rattle.draw_lines.specs.Line.{Line}
use Rattle.kms_json.specs.declared.asks.Ask.{Ask}
use Rattle.account_steps.specs.declared.facts.RealmFacts.{RealmFacts}
use Rattle.account_steps.specs.History.{Entry}
use Rattle.account_steps.specs.declared.places.Places.{Places}
use Rattle.account_steps.specs.Places.{IsWithin, places_of}
use Rattle.account_core.specs.Decide.{decide}
use Rattle.account_core.proofs.GoingOn.{decide_goes_on, places_at}
use Rattle.published_account.specs.declared.answered.Answered.{Answered}
use Rattle.account_core.specs.Account.{Account}
use Rattle.published_account.specs.Pairs.{Whole, IsHistory, entries_of, account_in}
use Rattle.published_account.specs.Reading.{AnswersAt}
use Rattle.published_account.proofs.Lists.{history_leads}
use Rattle.published_account.specs.declared.answered.Unread.{Unread}
use Rattle.published_account.specs.declared.answered.Unread.TheVariants.{NoMemory}
use Rattle.publish_pass.specs.Pass.{Pass, Learns, Meets, AnswersRead, LacksRead, GivesAccount, LacksAccount}

-- a pass that has looked once at a history of its service in which its own comes first
module _
    (facts : RealmFacts)
    (number : ℕ)
    (own : List ℕ)
    (missed : ℕ)
    (before after : List (Entry × ℕ))
    (old new : Line)
    (x : Ask)
    (n k : ℕ)
    (begins : IsPrefix before after)
    (was : IsHistory facts n k before)
    (is : IsHistory facts n k after)
  where
    abbrev at_first : Pass
    at_first = record { facts = facts; passes = n; loaded = k; number = number; history = before; own = own; places = places_of old; missed = missed }

    abbrev met_there : Pass
    met_there = record { facts = facts; passes = n; loaded = k; number = number; history = after; own = own; places = places_of old; missed = missed }

    meets_there : Meets at_first met_there
    meets_there = record { history = begins; others = refl; missed = le_refl missed; leads = history_leads facts n k before after was begins is }

    abbrev at_end : ℕ → Pass
    at_end m = record { facts = facts; passes = n; loaded = k; number = number; history = after; own = own; places = places_of new; missed = m }

    same_end : (m : ℕ) → m ≡ missed → at_end missed ≡ at_end m
    same_end m same = ap at_end (sym same)

    pub answers_read : (s : Pass) (m : ℕ) (a : Answered) → at_first ≡ s → m ≡ missed → AnswersAt facts (entries_of after) x old a new → AnswersRead s x a (at_end m)
    answers_read s m a is_first same here =
        let places : Places = (decide facts (entries_of after) x (places_of old)).places in
        let there : places_of new ≡ places = places_at old new places (decide_goes_on facts (entries_of after) x (places_of old)).number here.used in
        let read : AnswersRead at_first x a (at_end missed) = record {
          reply = (decide facts (entries_of after) x (places_of old)).reply;
          reads = record {
            met = met_there;
            seen = meets_there;
            answer = refl;
            used = ap (λ (p : Places). let t : Pass = record { facts = facts; passes = n; loaded = k; number = number; history = after; own = own; places = p; missed = missed } in t) there;
          };
          answer = here.answer;
          front = here.front ∙ length-map after (λ (made : Entry × ℕ). made.0);
          missed = refl;
        } in
        subst (λ (p : Pass). AnswersRead p x a (at_end m)) is_first (subst (AnswersRead at_first x a) (same_end m same) read)

    pub wants_read : (s : Pass) (m : ℕ) → at_first ≡ s → m ≡ missed → IsWithin old new (decide facts (entries_of after) x (places_of old)).places → LacksRead s x NoMemory (at_end m)
    wants_read s m is_first same here =
        let wants : LacksRead at_first x NoMemory (at_end missed) = (
          record {
            met = met_there;
            seen = meets_there;
            places = places_of new;
            used = refl;
            at_most = here.up_to;
          },
          refl,
        ) in
        subst (λ (p : Pass). LacksRead p x NoMemory (at_end m)) is_first (subst (LacksRead at_first x NoMemory) (same_end m same) wants)

-- a pass that holds a history of its service in which its own comes first, and has missed the published account as often
pub learns_at : (facts : RealmFacts) (number : ℕ) (own : List ℕ) (missed : ℕ) (before after : List (Entry × ℕ)) (line : Line) (n k m : ℕ) (s : Pass)
    → IsPrefix before after → IsHistory facts n k before → IsHistory facts n k after → m ≡ missed
    → (let first : Pass = record { facts = facts; passes = n; loaded = k; number = number; history = before; own = own; places = places_of line; missed = missed } in first) ≡ s
    → Learns s (record { facts = facts; passes = n; loaded = k; number = number; history = after; own = own; places = places_of line; missed = m })
learns_at facts number own missed before after line n k m s begins was is same is_first =
    let t : ℕ → Pass = λ often. record { facts = facts; passes = n; loaded = k; number = number; history = after; own = own; places = places_of line; missed = often } in
    subst (λ (p : Pass). Learns p (t m)) is_first
    (record { history = begins; others = ap t same; leads = history_leads facts n k before after was begins is })

-- the account that a pass is given there
pub gives_there : (s t : Pass) (whole : Whole) (facts : RealmFacts) (account : Account) → Learns s t → account ≡ account_in whole → whole.facts ≡ facts → facts ≡ s.facts
    → whole.pairs ≡ t.history → GivesAccount s account t
gives_there s t whole facts account learns is of same pairs = record {
  learns = learns;
  facts = ap (λ (a : Account). a.facts) is ∙ of ∙ same;
  entries = ap (λ (a : Account). a.entries) is ∙ ap entries_of pairs;
}

pub lacks_account : {A : Type 0} (r : Result A Unread) (s t : Pass) → IsErrAnd r (λ why. why ≡ NoMemory) → Learns s t → IfErr r (λ why. LacksAccount s why t)
lacks_account (Ok a) s t is learns = tt
lacks_account (Err why) s t is learns = subst (λ (w : Unread). LacksAccount s w t) (sym is) learns

pub lacks_where : {A : Type 0} (r : Result A Unread) (s : Pass) (x : Ask) (t : Pass) → IsErrAnd r (λ why. why ≡ NoMemory) → LacksRead s x NoMemory t → IfErr r (λ why. LacksRead s x why t)
lacks_where (Ok a) s x t is lacks = tt
lacks_where (Err why) s x t is lacks = subst (λ (w : Unread). LacksRead s x w t) (sym is) lacks
