use Rattle.std.proofs.Common.{◌≡◌, ◌+◌, ◌++◌, None, drop}
use Rattle.seg_codec.specs.Twice.{sizes, standing}
use Rattle.seg_codec.proofs.twice.stand.Given as goal

abbrev pub invariant-loop-posting : goal.invariant-loop-posting
invariant-loop-posting l = record {
  stand : l.out.items ++ standing l.end l.before (drop l.posting-index l.postings) ≡ l.fn.out.items ++ standing l.start None l.postings;
  end : l.end + sizes l.before (drop l.posting-index l.postings) ≡ l.start + sizes None l.postings;
}
