use Rattle.std.proofs.Common.{◌≡◌, ◌≢◌, ℕ, List, [], ◌∷◌, ◌++◌, sym, ◌∙◌, ap}
use Rattle.kept_journal.specs.declared.told.Told.{Told}
use Rattle.kept_journal.specs.declared.reading.Read.{Read}
use Rattle.kept_journal.specs.Lines.{text_of, key_of, seal_of, last_seal}
use Rattle.kept_journal.specs.Reading.{IsReadBack, IsSoFar, FitsBehind, IsOddLine, IsOneMore, head_of, line_of}
use Rattle.kept_journal.proofs.Readings.{when_some, when_none, text_is, line_with, each_ok}
use Rattle.std.specs.Prelude.{MatchOption}
use Rattle.kept_journal.proofs.reading.Read.with_line.Goals as goal

pub returns-in_default-2-clause-with : goal.returns-in_default-2-clause-with
returns-in_default-2-clause-with c so_far at key_is one back fits e =
    let facts = c.args.self.account.facts in
    let line = c.args.line.now in
    let text = c.in-Some.found.0.now in
    let key = key_of facts.root in
    let last = last_seal (head_of facts) so_far in
    let m = when_some ((text : List ℕ) → line ≢ line_of c.args.key.now c.args.self.seal text) (λ r. (line ≡ line_of c.args.key.now c.args.self.seal r.0.now) × (r.1 ≡ seal_of c.args.key.now c.args.self.seal r.0.now))
    c.in_ok-found.field-0 c.in-Some.found c.in-Some.is c.in_ok-found.ensures in
    let is : line ≡ line_of key last text = m.0 ∙ ap (λ (k : List ℕ). line_of k c.args.self.seal text) key_is ∙ ap (λ (s : List ℕ). line_of key s text) at.seal in
    let none = when_none ((one : Told) → IsReadBack one → text ≢ text_of one) (λ (one : Told). IsReadBack one × (text ≡ text_of one)) c.in_ok-told.field-0 c.in_default-2.is c.in_ok-told.ensures in
    none one back (text_is key last text (text_of one) line is e)

pub returns-clause-with : goal.returns-clause-with
returns-clause-with c so_far at key_is =
    let facts = c.args.self.account.facts in
    let line = c.args.line.now in
    let text = c.in-Some.found.0.now in
    let key = key_of facts.root in
    let last = last_seal (head_of facts) so_far in
    let m = when_some ((text : List ℕ) → line ≢ line_of c.args.key.now c.args.self.seal text) (λ r. (line ≡ line_of c.args.key.now c.args.self.seal r.0.now) × (r.1 ≡ seal_of c.args.key.now c.args.self.seal r.0.now))
    c.in_ok-found.field-0 c.in-Some.found c.in-Some.is c.in_ok-found.ensures in
    let is : line ≡ line_of key last text = m.0 ∙ ap (λ (k : List ℕ). line_of k c.args.self.seal text) key_is ∙ ap (λ (s : List ℕ). line_of key s text) at.seal in
    let one = c.in-Some-2.told in
    let told = when_some ((one : Told) → IsReadBack one → text ≢ text_of one) (λ (one : Told). IsReadBack one × (text ≡ text_of one)) c.in_ok-told.field-0 one c.in-Some-2.is c.in_ok-told.ensures in
    let seal : c.in-Some.found.1 ≡ seal_of key last (text_of one) = m.1 ∙ ap (λ (k : List ℕ). seal_of k c.args.self.seal text) key_is ∙ ap (λ (s : List ℕ). seal_of key s text) at.seal ∙ ap (λ (t : List ℕ). seal_of key last t) told.1 in
    each_ok (λ found. MatchOption found (¬ (FitsBehind facts so_far one)) (λ longer. IsSoFar facts (so_far ++ one ∷ []) longer × (longer.is_new ≡ c.args.self.is_new)))
    (λ found. MatchOption found (IsOddLine facts so_far line) (IsOneMore facts so_far line c.args.self))
    (λ found with. line_with facts so_far c.args.self line one (is ∙ ap (λ (t : List ℕ). line_of key last t) told.1) told.0 found with) c.with.result (c.with.ensures.with so_far at told.0 seal)
