use Rattle.std.proofs.Common.{◌≡◌, ◌∙◌, ℕ, List, ap, arith, length, refl}
use Rattle.seg_codec.specs.Segment.{segment}
use Rattle.disk_index.specs.Names.{segment_name}
use Rattle.repository.proofs.SaveLemmas.{any-same}
use Rattle.repository.proofs.saving.write_segment.Goals as goal

pub of_bytes-requires : goal.of_bytes-requires
of_bytes-requires g c = (c.args.sealed.now, record { same = c.as_slice.ensures ∙ c.in_ok-bytes.ensures.written; part = c.in_ok-bytes.ensures.part })

pub returns-in_err-bytes-clause-changed : goal.returns-in_err-bytes-clause-changed
returns-in_err-bytes-clause-changed g c = any-same (segment_name c.args.number) (g.T.Store.files c.args.store.now) (g.T.Store.files c.args.store.now) refl

pub returns-in_err-index-clause-changed : goal.returns-in_err-index-clause-changed
returns-in_err-index-clause-changed g c = any-same (segment_name c.args.number) (g.T.Store.files c.args.store.now) (g.T.Store.files c.args.store.now) refl

pub returns-in_err-shared-clause-changed : goal.returns-in_err-shared-clause-changed
returns-in_err-shared-clause-changed g c = any-same (segment_name c.args.number) (g.T.Store.files c.args.store.now) (g.T.Store.files c.args.store.now) refl

pub returns-clause-small : goal.returns-clause-small
returns-clause-small g c =
    let same : length c.in_ok-bytes.bytes ≡ length (segment c.args.sealed.now) = ap (λ (bytes : List ℕ). length bytes) c.in_ok-bytes.ensures.written in
    omega (arith, same, c.len-size.ensures)
