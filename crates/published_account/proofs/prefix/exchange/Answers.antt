use Rattle.std.proofs.Common.{sym, ◌∙◌, ap}
use Rattle.published_account.proofs.Adding.{adds_moves}
use Rattle.published_account.proofs.prefix.exchange.Goals as goal

pub compare_exchange-found-requires : goal.compare_exchange-found-requires
compare_exchange-found-requires c =
    let h = c.requires.head in
    let pen = c.no_pen-pen.ensures in (
      ap (λ w. w.tracked) h,
      sym (ap (λ w. w.book) h),
      pen.0 ∙ sym (ap (λ w. w.book) h),
      c.requires.offer.0,
      rw (ap (λ w. w.key) h, pen.1, c.requires.offer.1) (adds_moves c.args.seen.now.log c.args.offer.ask c.args.count (sym c.requires.count.0)),
    )
