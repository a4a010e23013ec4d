use Rattle.std.proofs.Common.{rules, ◌≡◌, ◌⊎◌, inl, ℕ, List, [], ◌∷◌, ◌++◌, IsTrue, ◌∙◌, ap}
use Rattle.account_steps.specs.declared.facts.RealmFacts.{RealmFacts}
use Rattle.kept_log.specs.Log.{recovered}
use Rattle.kept_journal.specs.Lines.{Recovers, text_of, key_of, seal_of, sealed}
use Rattle.kept_journal.specs.Reading.{head_of, opening}
use Rattle.kept_journal.specs.declared.told.Told.TheVariants.{Start}
use Rattle.kept_journal.proofs.Adding.{widened, joined}
use Rattle.kept_journal.proofs.Histories.{kept_since_start}
use Rattle.kept_journal.proofs.Opening.{opens, last_is, begun}
use Rattle.kept_journal.proofs.journal.open_kept.Goals as goal

pub returns-in-Ok-append_behind-clause-started : goal.returns-in-Ok-append_behind-clause-started
returns-in-Ok-append_behind-clause-started g c told r =
    let read = c.args.read.now in
    let bytes = c.args.bytes.now in
    let opened = c.open-log.result in
    let is_open : IsTrue opened.is_open = search rules in
    let same : recovered (g.D.Device.seen opened.device) ≡ recovered bytes = c.open-log.ensures.same is_open in
    let facts = c.facts-facts.ensures in
    let seal = c.in-Ok.made.1 in
    let start = c.as_slice.result.now in
    let seal_now : seal ≡ seal_of (key_of read.account.facts.root) read.seal (text_of (Start read.account.facts.boot)) =
    c.in-Ok.ensures.seal ∙ ap (λ (k : List ℕ). seal_of k read.seal (text_of (Start c.facts-facts.result.now.boot))) (c.key_of-key.ensures ∙ ap (λ (f : RealmFacts). key_of f.root) facts)
    ∙ ap (λ (f : RealmFacts). seal_of (key_of read.account.facts.root) read.seal (text_of (Start f.boot))) facts in
    let start_now : start ≡ sealed (text_of (Start read.account.facts.boot)) seal =
    c.as_slice.ensures.value ∙ c.in-Ok.ensures.line ∙ ap (λ (f : RealmFacts). sealed (text_of (Start f.boot)) seal) facts in
    let kept = c.in-Ok-append_behind.ensures.kept in (
      kept.1,
      record {
        key = c.key_of-key.ensures ∙ ap (λ (f : RealmFacts). key_of f.root) facts;
        file = λ _. kept.2 ∙ ap (λ (l : List (List ℕ)). l ++ opening read start) same ∙ opens read bytes told r seal start seal_now start_now;
        seal = λ _. last_is read bytes told r seal start seal_now start_now;
      },
    )

pub returns-in-Ok-append_behind-clause-keeps : goal.returns-in-Ok-append_behind-clause-keeps
returns-in-Ok-append_behind-clause-keeps g c told r =
    let facts = c.args.read.now.account.facts in
    let started = returns-in-Ok-append_behind-clause-started g c told r in
    kept_since_start facts (record { log = c.append_behind.new.log; key = c.key_of-key.result; seal = c.in-Ok.made.1 }) told facts.boot started.0 started.1 c.in-Ok-append_behind.ensures.durable g.met.D.Device.only_now

pub returns-in-Ok-append_behind-clause-any_moment : goal.returns-in-Ok-append_behind-clause-any_moment
returns-in-Ok-append_behind-clause-any_moment g c told r =
    let read = c.args.read.now in
    let bytes = c.args.bytes.now in
    let opened = c.open-log.result in
    let is_open : IsTrue opened.is_open = search rules in
    let same : recovered (g.D.Device.seen opened.device) ≡ recovered bytes = c.open-log.ensures.same is_open in
    let facts = c.facts-facts.ensures in
    let seal = c.in-Ok.made.1 in
    let start = c.as_slice.result.now in
    let seal_now : seal ≡ seal_of (key_of read.account.facts.root) read.seal (text_of (Start read.account.facts.boot)) =
    c.in-Ok.ensures.seal ∙ ap (λ (k : List ℕ). seal_of k read.seal (text_of (Start c.facts-facts.result.now.boot))) (c.key_of-key.ensures ∙ ap (λ (f : RealmFacts). key_of f.root) facts)
    ∙ ap (λ (f : RealmFacts). seal_of (key_of read.account.facts.root) read.seal (text_of (Start f.boot))) facts in
    let start_now : start ≡ sealed (text_of (Start read.account.facts.boot)) seal =
    c.as_slice.ensures.value ∙ c.in-Ok.ensures.line ∙ ap (λ (f : RealmFacts). sealed (text_of (Start f.boot)) seal) facts in
    let P : List ℕ → Type 0 = λ f. (recovered f ≡ recovered bytes) ⊎ Recovers (head_of read.account.facts) (told ++ Start read.account.facts.boot ∷ []) f in
    let first = widened g.D.Device.moment g.D.Device.left_since c.args.device opened.device _ P c.open-log.ensures.any_moment (λ f is. inl is) in
    let second = widened g.D.Device.moment g.D.Device.left_since opened.device c.append_behind.new.log.device _ P (c.append_behind.ensures.any_moment is_open)
    (begun read bytes told r seal start seal_now start_now (recovered (g.D.Device.seen opened.device)) same) in
    joined g.D.Device.moment g.D.Device.left_since c.args.device opened.device c.append_behind.new.log.device P first second

pub returns-clause-any_moment : goal.returns-clause-any_moment
returns-clause-any_moment g c told r =
    let read = c.args.read.now in
    let bytes = c.args.bytes.now in
    let opened = c.open-log.result in
    let is_open : IsTrue opened.is_open = search rules in
    let same : recovered (g.D.Device.seen opened.device) ≡ recovered bytes = c.open-log.ensures.same is_open in
    let facts = c.facts-facts.ensures in
    let seal = c.in-Ok.made.1 in
    let start = c.as_slice.result.now in
    let seal_now : seal ≡ seal_of (key_of read.account.facts.root) read.seal (text_of (Start read.account.facts.boot)) =
    c.in-Ok.ensures.seal ∙ ap (λ (k : List ℕ). seal_of k read.seal (text_of (Start c.facts-facts.result.now.boot))) (c.key_of-key.ensures ∙ ap (λ (f : RealmFacts). key_of f.root) facts)
    ∙ ap (λ (f : RealmFacts). seal_of (key_of read.account.facts.root) read.seal (text_of (Start f.boot))) facts in
    let start_now : start ≡ sealed (text_of (Start read.account.facts.boot)) seal =
    c.as_slice.ensures.value ∙ c.in-Ok.ensures.line ∙ ap (λ (f : RealmFacts). sealed (text_of (Start f.boot)) seal) facts in
    let P : List ℕ → Type 0 = λ f. (recovered f ≡ recovered bytes) ⊎ Recovers (head_of read.account.facts) (told ++ Start read.account.facts.boot ∷ []) f in
    let first = widened g.D.Device.moment g.D.Device.left_since c.args.device opened.device _ P c.open-log.ensures.any_moment (λ f is. inl is) in
    let second = widened g.D.Device.moment g.D.Device.left_since opened.device c.append_behind.new.log.device _ P (c.append_behind.ensures.any_moment is_open)
    (begun read bytes told r seal start seal_now start_now (recovered (g.D.Device.seen opened.device)) same) in
    joined g.D.Device.moment g.D.Device.left_since c.args.device opened.device c.append_behind.new.log.device P first second
