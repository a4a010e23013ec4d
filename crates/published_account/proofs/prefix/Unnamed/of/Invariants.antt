use Rattle.std.proofs.Common.{◌≡◌, take}
use Rattle.published_account.specs.Pairs.{loaded_pairs}
use Rattle.published_account.specs.Growing.{head_of}
use Rattle.published_account.proofs.prefix.Unnamed.of.Given as goal

abbrev pub invariant-loop-place : goal.invariant-loop-place
invariant-loop-place l = record {
  log : l.seen.log ≡ loaded_pairs (take l.place l.account.entries);
  head : l.head ≡ head_of l.seen.book;
}
