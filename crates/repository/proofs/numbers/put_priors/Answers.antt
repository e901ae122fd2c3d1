use Rattle.std.proofs.Common.{◌∙◌, List, ℕ, ap}
use Rattle.manifest.specs.Entries.{with_number}
use Rattle.repository.proofs.NumberLemmas.{put-prior}
use Rattle.repository.proofs.numbers.put_priors.Goals as goal

pub loop-prior-preserved : goal.loop-prior-preserved
loop-prior-preserved c =
    let p = c.prior-item.result in
    c.in_ok-insert.ensures.keys ∙ ap (λ (ks : List ℕ). with_number ks p.number) c.loop-prior.invariant
    ∙ put-prior c.args.taken.now.keys c.args.priors.now c.loop-prior.prior-index p c.loop-prior-test.true c.prior-item.is
