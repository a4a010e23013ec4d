use Rattle.std.proofs.Common.{◌≡◌, ◌≤◌, ◌+◌, ◌++◌, ◌∷◌, [], ℕ, List, length, length-append, sym, ap, ◌∙◌, subst, arith, rules}
use Rattle.std.proofs.lemmas.List.{length-map}
use Rattle.account_steps.specs.History.{Entry}
use Rattle.account_core.specs.Decide.{IsNext}
use Rattle.published_account.specs.Pairs.{Shown, entries_of}
use Rattle.published_account.proofs.Lists.{entries_of-push}
use Rattle.keepers.specs.Keeping.{LeavesAlso, IsBetween, IsKept}
use Rattle.keepers.proofs.KeepingFacts.{kept_more, kept_no_more, kept_until, leaves_between, leaves_shut}
use Rattle.publish_pass.specs.Pass.{Pass}
use Rattle.publish_pass.specs.Desks.{Desk}
use Rattle.publish_pass.proofs.Between.{stays_open}
use Rattle.publish_pass.proofs.OwnPlaces.{one_more_place}
use Rattle.publish_pass.proofs.desk.Desk.publish.Goals as goal

pub invariant_of-pass-4 : goal.invariant_of-pass-4
invariant_of-pass-4 g c =
    let i = c.pass.inside in
    let place = c.seen-place.result in
    let kept = c.reserve.ensures.items in
    let pushed = c.push_reserved.ensures.items in
    let met = ap (λ (p : Pass). p.history) c.pass.view_is ∙ c.requires.met ∙ sym (ap (λ (d : Desk _). d.pairs) c.self.view_is) in
    let joined = pushed ∙ ap (λ ps. ps ++ place ∷ []) kept in
    record {
      parts = search rules;
      amount = omega (arith, c.add.ensures.amount, c.pass.invariant.amount, ap length joined, length-append i.own.items (place ∷ []));
      own = one_more_place g.R.Realm.loaded i.own.items _ i.prefix _ _ (c.args.entry, c.number.result) place c.pass.invariant.own met
          (c.seen-place.ensures.number ∙ ap length met)
          (c.in-Some.ensures.grown ∙ ap (λ (ps : List (Entry × ℕ)). ps ++ (c.args.entry, c.number.result) ∷ []) (c.prefix-before.ensures ∙ sym (ap (λ (d : Desk _). d.pairs) c.self.view_is))) joined;
      history = c.in-Some.ensures.history;
      first = c.pass.invariant.first;
      last = c.pass.invariant.last;
      draws = c.pass.invariant.draws;
      same = c.pass.invariant.same;
    }

pub invariant_of-self : goal.invariant_of-self
invariant_of-self g c =
    let history = entries_of c.self.inside.writer.desk.shown.value.whole.pairs in record {
      total = c.self.invariant.total;
      names = c.self.invariant.names;
      parts = c.self.invariant.parts;
      kept = λ keeps. kept_no_more (g.K.Keeps.tells g.R.Realm.facts) g.K.Keeps.is_open g.K.Keeps.moment g.K.Keeps.left_since (g.K.Keeps.reads g.R.Realm.facts) g.R.Realm.started g.R.Realm.loaded
          history c.args.entry c.self.inside.keeper c.keep.new.self (c.self.invariant.kept keeps) (λ shut. (c.keep.ensures.shut shut).1)
          (stays_open g.K.Keeps.is_open g.K.Keeps.keeps c.self.inside.keeper c.keep.new.self c.in_err-keep.field-0.0 c.keep.result c.in_err-keep.was c.keep.ensures.lacking c.keep.ensures.unkept)
          (λ opened told is. c.keep.ensures.any_moment keeps opened g.R.Realm.facts told is);
    }

pub returns-in_err-keep-clause-any_moment : goal.returns-in_err-keep-clause-any_moment
returns-in_err-keep-clause-any_moment g c = λ keeps.
    let history = entries_of c.self.inside.writer.desk.shown.value.whole.pairs in
    subst (λ (d : Desk _). LeavesAlso g.K.Keeps.moment g.K.Keeps.left_since d.keeper c.keep.new.self (IsBetween (g.K.Keeps.reads g.R.Realm.facts) (entries_of d.pairs) (entries_of d.pairs ++ c.args.entry ∷ []))) c.self.view_is
    (leaves_between (g.K.Keeps.tells g.R.Realm.facts) g.K.Keeps.is_open g.K.Keeps.moment g.K.Keeps.left_since (g.K.Keeps.reads g.R.Realm.facts) g.R.Realm.started g.R.Realm.loaded
    history c.args.entry c.self.inside.keeper c.keep.new.self (c.self.invariant.kept keeps) (λ shut. (c.keep.ensures.shut shut).1) (λ opened told is. c.keep.ensures.any_moment keeps opened g.R.Realm.facts told is))

pub logged-requires : goal.logged-requires
logged-requires g c =
    record { next = (subst (λ (h : List (Entry × ℕ)). IsNext g.R.Realm.facts (entries_of h) c.args.entry) (sym c.prefix-before.ensures) c.requires.next, c.number.ensures.pass.0, c.number.ensures.pass.1) }

pub invariant_of-self-in_default : goal.invariant_of-self-in_default
invariant_of-self-in_default g c =
    let history = entries_of c.self.inside.writer.desk.shown.value.whole.pairs in
    let few : g.R.Realm.loaded ≤ length history = omega (arith, c.self.invariant.total, length-map {B = Entry} c.self.inside.writer.desk.shown.value.whole.pairs (λ (made : Entry × ℕ). made.0)) in record {
      total = c.self.invariant.total;
      names = c.self.invariant.names;
      parts = c.self.invariant.parts;
      kept = λ keeps. kept_until (g.K.Keeps.tells g.R.Realm.facts) g.K.Keeps.is_open g.K.Keeps.moment g.K.Keeps.left_since (g.K.Keeps.reads g.R.Realm.facts) g.R.Realm.started g.R.Realm.loaded
          history c.args.entry c.keep.new.self c.shut.new.self few
          (kept_more (g.K.Keeps.tells g.R.Realm.facts) g.K.Keeps.is_open g.K.Keeps.moment g.K.Keeps.left_since (g.K.Keeps.reads g.R.Realm.facts) g.R.Realm.started g.R.Realm.loaded
          history c.args.entry c.self.inside.keeper c.keep.new.self few (c.self.invariant.kept keeps) c.in_ok-keep.ensures.opened.0
          (c.in_ok-keep.ensures.kept keeps g.R.Realm.facts) (c.in_ok-keep.ensures.durable keeps g.R.Realm.facts) (λ opened told is. c.keep.ensures.any_moment keeps opened g.R.Realm.facts told is))
          c.in_ok-keep.ensures.opened.1 (c.shut.ensures.shut keeps) (c.shut.ensures.moment keeps) (c.shut.ensures.left keeps);
    }

pub returns-in_default-clause-any_moment : goal.returns-in_default-clause-any_moment
returns-in_default-clause-any_moment g c = λ keeps.
    let history = entries_of c.self.inside.writer.desk.shown.value.whole.pairs in
    subst (λ (d : Desk _). LeavesAlso g.K.Keeps.moment g.K.Keeps.left_since d.keeper c.shut.new.self (IsBetween (g.K.Keeps.reads g.R.Realm.facts) (entries_of d.pairs) (entries_of d.pairs ++ c.args.entry ∷ []))) c.self.view_is
    (leaves_shut g.K.Keeps.moment g.K.Keeps.left_since c.self.inside.keeper c.keep.new.self c.shut.new.self (IsBetween (g.K.Keeps.reads g.R.Realm.facts) history (history ++ c.args.entry ∷ [])) (leaves_between (g.K.Keeps.tells g.R.Realm.facts) g.K.Keeps.is_open g.K.Keeps.moment g.K.Keeps.left_since (g.K.Keeps.reads g.R.Realm.facts) g.R.Realm.started g.R.Realm.loaded
    history c.args.entry c.self.inside.keeper c.keep.new.self (c.self.invariant.kept keeps) (λ shut. (c.keep.ensures.shut shut).1) (λ opened told is. c.keep.ensures.any_moment keeps opened g.R.Realm.facts told is)) (c.shut.ensures.moment keeps) (c.shut.ensures.left keeps))

pub invariant_of-self-2 : goal.invariant_of-self-2
invariant_of-self-2 g c =
    let made : Entry × ℕ = (c.args.entry, c.number.result) in
    let pairs = c.self.inside.writer.desk.shown.value.whole.pairs in
    let history = entries_of c.self.inside.writer.desk.shown.value.whole.pairs in
    let few : g.R.Realm.loaded ≤ length history = omega (arith, c.self.invariant.total, length-map {B = Entry} c.self.inside.writer.desk.shown.value.whole.pairs (λ (made : Entry × ℕ). made.0)) in
    let shown = c.show.ensures ∙ c.next-published.ensures in
    let held = c.prefix-before.ensures ∙ sym (ap (λ (d : Desk _). d.pairs) c.self.view_is) in
    let longer : c.show.new.writer.desk.shown.value.whole.pairs ≡ pairs ++ made ∷ [] = ap (λ (x : Shown). x.whole.pairs) shown ∙ c.in-Some.ensures.grown ∙ ap (λ (ps : List (Entry × ℕ)). ps ++ made ∷ []) held in
    let size : length c.show.new.writer.desk.shown.value.whole.pairs ≡ length pairs + 1 = ap length longer ∙ length-append pairs (made ∷ []) in
    record {
      total = omega (arith, c.add.ensures.total, c.self.invariant.total, size);
      names = (ap (λ (x : Shown). x.book) shown, ap (λ (x : Shown). x.whole.facts) shown, ap (λ (x : Shown). x.whole.passes) shown, ap (λ (x : Shown). x.whole.loaded) shown);
      parts = c.self.invariant.parts;
      kept = λ keeps. subst
          (λ (h : List Entry). IsKept (g.K.Keeps.tells g.R.Realm.facts) g.K.Keeps.is_open g.K.Keeps.moment g.K.Keeps.left_since (g.K.Keeps.reads g.R.Realm.facts) g.R.Realm.started g.R.Realm.loaded c.keep.new.self h)
          (sym (ap entries_of longer ∙ entries_of-push pairs made))
          (kept_more (g.K.Keeps.tells g.R.Realm.facts) g.K.Keeps.is_open g.K.Keeps.moment g.K.Keeps.left_since (g.K.Keeps.reads g.R.Realm.facts) g.R.Realm.started g.R.Realm.loaded
          history c.args.entry c.self.inside.keeper c.keep.new.self few (c.self.invariant.kept keeps) c.in_ok-keep.ensures.opened.0
          (c.in_ok-keep.ensures.kept keeps g.R.Realm.facts) (c.in_ok-keep.ensures.durable keeps g.R.Realm.facts) (λ opened told is. c.keep.ensures.any_moment keeps opened g.R.Realm.facts told is));
    }

pub returns-clause-any_moment : goal.returns-clause-any_moment
returns-clause-any_moment g c = λ keeps.
    let history = entries_of c.self.inside.writer.desk.shown.value.whole.pairs in
    subst (λ (d : Desk _). LeavesAlso g.K.Keeps.moment g.K.Keeps.left_since d.keeper c.keep.new.self (IsBetween (g.K.Keeps.reads g.R.Realm.facts) (entries_of d.pairs) (entries_of d.pairs ++ c.args.entry ∷ []))) c.self.view_is
    (leaves_between (g.K.Keeps.tells g.R.Realm.facts) g.K.Keeps.is_open g.K.Keeps.moment g.K.Keeps.left_since (g.K.Keeps.reads g.R.Realm.facts) g.R.Realm.started g.R.Realm.loaded
    history c.args.entry c.self.inside.keeper c.keep.new.self (c.self.invariant.kept keeps) (λ shut. (c.keep.ensures.shut shut).1) (λ opened told is. c.keep.ensures.any_moment keeps opened g.R.Realm.facts told is))
