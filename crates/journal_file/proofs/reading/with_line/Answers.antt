use Rattle.std.proofs.Common.{◌≡◌, Err, sym, ap, ◌∙◌, subst}
use Rattle.account_rows.specs.declared.entries.Entry.{Entry}
use Rattle.account_core.specs.Account.{Account}
use Rattle.account_core.specs.Fitting.{Fits}
use Rattle.account_core.specs.declared.entering.FitFault.TheVariants.{Unfit}
use Rattle.journal_file.proofs.ReadFacts.{no_line, read_is}
use Rattle.journal_lines.proofs.LineReadingFacts.{line_is}
use Rattle.journal_file.proofs.reading.with_line.Goals as goal

pub returns-in_default-clause-more : goal.returns-in_default-clause-more
returns-in_default-clause-more c = λ entry back fits. no_line c.args.line.now c.in_ok-entry.field-0 c.in_ok-entry.ensures c.in_default.is entry back

pub returns-in-Ok-clause-more : goal.returns-in-Ok-clause-more
returns-in-Ok-clause-more c = record {
  entry = c.in-Some.entry;
  is = line_is c.args.line.now c.in-Some.entry (sym c.in_ok-entry.ensures ∙ c.in-Some.is);
  read = sym c.in_ok-entry.ensures ∙ c.in-Some.is;
  fits = c.in-Ok.ensures.fits;
  facts = ap (λ (a : Account). a.facts) c.in-Ok.ensures.pushed;
  entries = ap (λ (a : Account). a.entries) c.in-Ok.ensures.pushed;
}

pub returns-in-Err-Unfit-clause-more : goal.returns-in-Err-Unfit-clause-more
returns-in-Err-Unfit-clause-more c = λ entry back fits is.
    let account = c.args.account.now in
    let same = read_is c.args.line.now c.in_ok-entry.field-0 c.in-Some.entry c.in_ok-entry.ensures c.in-Some.is entry back is in
    let unfit : c.push_fitting.result ≡ Err Unfit = cc (c.in-Err-Unfit.is, c.in-Err-Unfit.field-0-is) in
    c.push_fitting.ensures.unfit unfit (subst (λ (e : Entry). Fits account.facts account.entries e) (sym same) fits)
