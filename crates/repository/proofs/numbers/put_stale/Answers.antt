use Rattle.std.proofs.Common.{◌∙◌, List, ℕ, ap, get_or}
use Rattle.manifest.specs.Entries.{with_number}
use Rattle.repository.proofs.NumberLemmas.{put-number}
use Rattle.repository.proofs.numbers.put_stale.Goals as goal

pub loop-number-preserved : goal.loop-number-preserved
loop-number-preserved c =
    let i = c.loop-number.number-index in
    c.in_ok-insert.ensures.keys ∙ ap (λ (ks : List ℕ). with_number ks (get_or c.args.stale.now i 0)) c.loop-number.invariant
    ∙ put-number c.args.taken.now.keys c.args.stale.now i 0 c.loop-number-test.true
