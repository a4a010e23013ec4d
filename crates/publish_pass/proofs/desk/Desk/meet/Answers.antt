use Rattle.std.proofs.Common.{◌≡◌, ◌+◌, ℕ, ◌≤◌, length, sym, ap, ◌∙◌, arith}
use Rattle.std.proofs.lemmas.Bool.Decides.{nat_tests}
use Rattle.std.specs.Prelude.{IsTrue, nat_eq}
use Rattle.published_account.proofs.Lists.{prefix_whole}
use Rattle.publish_pass.specs.Pass.{Pass}
use Rattle.publish_pass.specs.Desks.{Desk}
use Rattle.publish_pass.proofs.OwnPlaces.{it_knew, it_made}
use Rattle.publish_pass.proofs.desk.Desk.meet.Goals as goal

same_number : (m n : ℕ) → IsTrue (nat_eq m n) → m ≡ n
same_number m n is = grind (arith, nat_tests)

pub returns-clause-alone : goal.returns-clause-alone
returns-clause-alone g c = λ yes.
    let i = c.pass.inside in
    let t = c.learn_prefix.new.self in
    let passes : t.passes ≡ c.args.pass.now.passes = ap (λ (p : Pass). p.passes) c.learn_prefix.ensures.learns.others ∙ ap (λ (p : Pass). p.passes) c.pass.view_is in
    let as_many : t.passes ≡ 1 → length i.own.items + g.R.Realm.loaded ≡ length t.history = λ one. omega (
      arith,
      same_number c.seen.result c.len.result yes,
      c.audit.ensures.whole (c.pass.invariant.parts ∙ sym (c.self.invariant.parts ∙ ap (λ (p : Pass). p.passes) c.pass.view_is ∙ sym passes ∙ one)),
      c.pass.invariant.amount,
      c.self.invariant.total,
      ap (λ (d : Desk _). length d.pairs) c.self.view_is,
      ap length c.prefix-prefix.ensures,
      c.seen.ensures.number,
      c.len.ensures.count,
    ) in (
      λ one. it_knew _ t c.pass.invariant.own c.learn_prefix.ensures.learns (as_many (passes ∙ one)) ∙ c.pass.view_is,
      λ one. it_made _ t c.pass.invariant.own c.learn_prefix.ensures.learns (as_many one),
    )

pub returns-clause-same : goal.returns-clause-same
returns-clause-same g c = λ yes.
    let known = c.prefix-prefix.result in
    let history = c.learn_prefix.new.self.history in
    let no_longer : length history ≤ length known = omega (arith, same_number c.seen.result c.len.result yes, c.seen.ensures.number, c.len.ensures.count) in
    sym (prefix_whole known history c.learn_prefix.ensures.longer.second no_longer) ∙ c.prefix-prefix.ensures ∙ ap (λ (d : Desk _). d.pairs) c.self.view_is
