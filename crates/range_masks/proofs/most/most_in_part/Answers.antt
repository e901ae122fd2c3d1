use Rattle.std.proofs.Common.{◌≡◌, List, IfOk, ap, sym, subst, ◌∙◌}
use Rattle.ri_base.specs.Documents.{Document}
use Rattle.disk_index.specs.Cache.{CacheKeeps, IsBlockOf}
use Rattle.disk_index.specs.Faults.{IsTermReadable}
use Rattle.disk_index.specs.Kept.{Kept}
use Rattle.disk_index.specs.Parts.{IsFileOf, IsPartBacked, IsReadableIn, reads, source_of, IsPartIntact}
use Rattle.disk_index.specs.Reads.{IsBacked, IsIntact}
use Rattle.disk_index.specs.declared.part.Part.{Part}
use Rattle.disk_index.proofs.RebuiltLemmas.{reads-backed}
use Rattle.range_masks.specs.Most.{most_places}
use Rattle.range_masks.proofs.most.most_in_part.Goals as goal

pub returns-in-Memory-clause-exact : goal.returns-in-Memory-clause-exact
returns-in-Memory-clause-exact g c = λ part backed.
    let told = g.T.Store.files c.args.store.now in
    let docs = c.deref.ensures ∙ sym (ap (λ (p : Part). reads told (source_of p)) c.in-Memory.is) in
    subst (λ (ds : List Document). c.most_in.result ≡ most_places c.args.term.now c.args.range ds) docs c.most_in.ensures

pub returns-in-Disk-clause-cache : goal.returns-in-Disk-clause-cache
returns-in-Disk-clause-cache g c =
    let told = g.T.Store.files c.args.store.now in
    subst (λ (p : Part). CacheKeeps told (IsFileOf (source_of p)) c.args.cache.now c.most_on_disk.new.cache) (sym c.in-Disk.is)
    (subst (λ (k : Kept). CacheKeeps told (IsBlockOf k) c.args.cache.now c.most_on_disk.new.cache) c.deref-in-Disk.ensures c.most_on_disk.ensures.cache)

pub returns-in-Disk-clause-exact : goal.returns-in-Disk-clause-exact
returns-in-Disk-clause-exact g c = λ part backed.
    let told = g.T.Store.files c.args.store.now in
    let r = c.most_on_disk.result in
    let b = subst (λ (p : Part). IsPartBacked told (source_of p)) c.in-Disk.is part in
    let own : IsBacked told c.deref-in-Disk.result.now b.0 = subst (λ (k : Kept). IsBacked told k b.0) (sym c.deref-in-Disk.ensures) b.1 in
    let docs : b.0 ≡ reads told (source_of c.args.part.now) = sym (ap (λ (p : Part). reads told (source_of p)) c.in-Disk.is ∙ reads-backed told c.in-Disk.index.value b.0 b.1) in
    subst (λ (ds : List Document). IfOk r (λ n. n ≡ most_places c.args.term.now c.args.range ds)) docs (c.most_on_disk.ensures.exact b.0 own backed)

pub returns-in-Disk-clause-honest : goal.returns-in-Disk-clause-honest
returns-in-Disk-clause-honest g c = λ part.
    let told = g.T.Store.files c.args.store.now in
    let b = subst (λ (p : Part). IsPartIntact told (source_of p)) c.in-Disk.is part in
    let own : IsBacked told c.deref-in-Disk.result.now b.0.0 = subst (λ (k : Kept). IsBacked told k b.0.0) (sym c.deref-in-Disk.ensures) b.0.1 in
    c.most_on_disk.ensures.honest b.0.0 own (subst (λ (k : Kept). IsIntact told k.number) (sym c.deref-in-Disk.ensures) b.1)

pub returns-in-Memory-clause-told : goal.returns-in-Memory-clause-told
returns-in-Memory-clause-told g c =
    subst (λ (p : Part). IsReadableIn (g.T.Store.files c.args.store.now) c.args.cache.now (source_of p) c.args.term.now c.args.range) (sym c.in-Memory.is) tt

pub returns-in-Disk-clause-told : goal.returns-in-Disk-clause-told
returns-in-Disk-clause-told g c =
    let told = g.T.Store.files c.args.store.now in
    let r = c.most_on_disk.result in
    subst (λ (p : Part). IfOk r (λ _. IsReadableIn told c.args.cache.now (source_of p) c.args.term.now c.args.range)) (sym c.in-Disk.is)
    (subst (λ (k : Kept). IfOk r (λ _. IsTermReadable told c.args.cache.now k c.args.term.now c.args.range)) c.deref-in-Disk.ensures c.most_on_disk.ensures.told)
