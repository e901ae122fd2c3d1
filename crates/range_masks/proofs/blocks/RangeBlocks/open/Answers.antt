use Rattle.std.proofs.Common.{◌≡◌, List, IfOk, ap, sym, subst, ◌∙◌}
use Rattle.std.specs.List.{All}
use Rattle.ri_base.specs.Documents.{Document}
use Rattle.disk_index.specs.Cache.{CacheKeeps, IsBlockOf}
use Rattle.disk_index.specs.Faults.{IsTermReadable}
use Rattle.disk_index.specs.Kept.{Kept}
use Rattle.disk_index.specs.Parts.{IsFileOf, IsPartBacked, IsReadableIn, reads, source_of}
use Rattle.disk_index.specs.Reads.{IsBacked}
use Rattle.disk_index.specs.declared.part.Part.{Part}
use Rattle.disk_index.proofs.RebuiltLemmas.{reads-backed}
use Rattle.range_masks.specs.Held.{AreAnswersOf, AreBlocksOf}
use Rattle.range_masks.proofs.HeldLemmas.{answers-result}
use Rattle.range_masks.proofs.blocks.RangeBlocks.open.Goals as goal

pub returns-in-Disk-clause-exact : goal.returns-in-Disk-clause-exact
returns-in-Disk-clause-exact g c = λ part backed.
    let told = g.T.Store.files c.args.store.now in
    let b = subst (λ (p : Part). IsPartBacked told (source_of p)) c.in-Disk.is part in
    let own : IsBacked told c.deref.result.now b.0 = subst (λ (k : Kept). IsBacked told k b.0) (sym c.deref.ensures) b.1 in
    let docs : b.0 ≡ reads told (source_of c.args.part.now) = sym (ap (λ (p : Part). reads told (source_of p)) c.in-Disk.is ∙ reads-backed told c.in-Disk.index.value b.0 b.1) in
    subst (λ (ds : List Document). IfOk c.open_on_disk.result (AreBlocksOf ds)) docs (c.open_on_disk.ensures.exact b.0 own backed)

pub returns-in-Disk-clause-answers : goal.returns-in-Disk-clause-answers
returns-in-Disk-clause-answers g c = λ part backed.
    let told = g.T.Store.files c.args.store.now in
    let b = subst (λ (p : Part). IsPartBacked told (source_of p)) c.in-Disk.is part in
    let own : IsBacked told c.deref.result.now b.0 = subst (λ (k : Kept). IsBacked told k b.0) (sym c.deref.ensures) b.1 in
    let docs : b.0 ≡ reads told (source_of c.args.part.now) = sym (ap (λ (p : Part). reads told (source_of p)) c.in-Disk.is ∙ reads-backed told c.in-Disk.index.value b.0 b.1) in
    subst (λ (ds : List Document). IfOk c.open_on_disk.result (AreAnswersOf ds)) docs (answers-result b.0 c.open_on_disk.result (c.open_on_disk.ensures.exact b.0 own backed))

pub returns-in-Disk-clause-cache : goal.returns-in-Disk-clause-cache
returns-in-Disk-clause-cache g c =
    let told = g.T.Store.files c.args.store.now in
    subst (λ (p : Part). CacheKeeps told (IsFileOf (source_of p)) c.args.cache.now c.open_on_disk.new.cache) (sym c.in-Disk.is)
    (subst (λ (k : Kept). CacheKeeps told (IsBlockOf k) c.args.cache.now c.open_on_disk.new.cache) c.deref.ensures c.open_on_disk.ensures.cache)

pub returns-in-Memory-clause-told : goal.returns-in-Memory-clause-told
returns-in-Memory-clause-told g c =
    let told = g.T.Store.files c.args.store.now in
    subst (λ (p : Part). All (λ t. IsReadableIn told c.args.cache.now (source_of p) t c.args.range) c.args.terms.now) (sym c.in-Memory.is) (λ k d low. tt)

pub returns-in-Disk-clause-told : goal.returns-in-Disk-clause-told
returns-in-Disk-clause-told g c =
    let told = g.T.Store.files c.args.store.now in
    let r = c.open_on_disk.result in
    subst (λ (p : Part). IfOk r (λ _. All (λ t. IsReadableIn told c.args.cache.now (source_of p) t c.args.range) c.args.terms.now)) (sym c.in-Disk.is)
    (subst (λ (k : Kept). IfOk r (λ _. All (λ t. IsTermReadable told c.args.cache.now k t c.args.range) c.args.terms.now)) c.deref.ensures c.open_on_disk.ensures.told)
