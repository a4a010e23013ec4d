use Rattle.std.proofs.Common.{◌≡◌, ℕ, ◌+◌, ◌++◌, ◌∷◌, [], Some, sym, ap, refl, ◌∙◌, take}
use Rattle.account_steps.specs.History.{Entry}
use Rattle.published_account.specs.Pairs.{loaded_pairs}
use Rattle.std.specs.Prelude.{option_map}
use Rattle.published_account.specs.Growing.{Pairs, head_of}
use Rattle.published_account.proofs.Lists.{loaded-next}
use Rattle.published_account.proofs.prefix.Unnamed.of.Goals as goal

pub loop-place-preserved : goal.loop-place-preserved
loop-place-preserved c =
    let entries = c.args.account.now.entries in
    let place = c.loop-place.place in
    let here = sym c.entry.ensures ∙ ap (λ o. option_map (λ entry. entry.now) o) c.unwrap.ensures in
    let before = c.loop-place.invariant.log in
    let asked = c.plain-offer.ensures.1 in
    record {
      log = c.if-not-exchange.ensures.log refl ∙ ap (λ (pair : Entry × ℕ). c.loop-place.seen.log ++ pair ∷ []) asked
          ∙ ap (λ (log : Pairs). log ++ (c.unwrap.result.now, 0) ∷ []) before ∙ sym (loaded-next entries place c.unwrap.result.now here);
      head = c.loop-place.invariant.head ∙ ap head_of (sym c.exchange.ensures.book);
    }
