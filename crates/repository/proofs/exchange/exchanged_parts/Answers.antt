use Rattle.std.proofs.Common.{◌≡◌, ◌∙◌, Bool, List, ap, arith, length, subst, sym, take}
use Rattle.std.specs.List.{AllZip}
use Rattle.disk_index.specs.Parts.{size}
use Rattle.disk_index.specs.Snapshots.{Marked}
use Rattle.repository.specs.Merges.{marks_of}
use Rattle.repository.proofs.ExchangeLemmas.{begins-zip}
use Rattle.repository.proofs.TieLemmas.{begins-length}
use Rattle.repository.proofs.exchange.exchanged_parts.Goals as goal

pub split_at-requires : goal.split_at-requires
split_at-requires c =
    let l = begins-length c.args.job.snapshot c.args.closed.now c.requires.begins in
    let e = ap (λ (x : List Marked). length x) (c.parts.ensures.parts ∙ c.snapshot.ensures) in
    omega (arith, l, e)

pub finish-requires-clause-now : goal.finish-requires-clause-now
finish-requires-clause-now c =
    let count = ap (λ (x : List Marked). length x) (c.parts.ensures.parts ∙ c.snapshot.ensures) in
    let now : c.deref.result.now ≡ marks_of (take (length c.args.job.snapshot) c.args.closed.now) =
    c.deref.ensures.value ∙ c.in_ok-now.ensures ∙ ap marks_of c.split_at.ensures.front ∙ ap (λ n. marks_of (take n c.args.closed.now)) count in
    subst (λ (l : List (List Bool)). AllZip (λ m marks. length marks ≡ size m.source) c.args.job.snapshot l) (sym now) (begins-zip c.args.job.snapshot c.args.closed.now c.requires.whole c.requires.begins)
