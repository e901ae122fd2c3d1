use Rattle.std.proofs.Common.{◌≡◌, ◌<◌, ℕ, List, All, IfErr, IfOk, length, ap, sym, subst, ◌∙◌}
use Rattle.ri_base.specs.Collection.{document_at}
use Rattle.ri_base.specs.Documents.{Document}
use Rattle.ri_base.specs.Places.{places}
use Rattle.disk_index.specs.Blocks.{told_file}
use Rattle.disk_index.specs.Cache.{CacheKeeps, IsBlockOf}
use Rattle.disk_index.specs.Faults.{AreTold, IsTermFault}
use Rattle.disk_index.specs.Kept.{Kept}
use Rattle.disk_index.specs.Parts.{ArePlacesOf, IsFileOf, IsPartBacked, IsPartIntact, IsPartFault, reads, source_of}
use Rattle.disk_index.specs.Reads.{IsBacked, IsIntact, rebuilt}
use Rattle.disk_index.specs.declared.part.Part.{Part}
use Rattle.disk_index.proofs.RebuiltLemmas.{reads-backed}
use Rattle.disk_index.proofs.part.Part.positions.Goals as goal

pub returns-in-Disk-clause-cache : goal.returns-in-Disk-clause-cache
returns-in-Disk-clause-cache g c =
    let told = g.T.Store.files c.args.store.now in
    subst (λ (p : Part). CacheKeeps told (IsFileOf (source_of p)) c.args.cache.now c.positions.new.cache) (sym c.in-Disk.is)
    (subst (λ (k : Kept). CacheKeeps told (IsBlockOf k) c.args.cache.now c.positions.new.cache) c.deref-in-Disk.ensures c.positions.ensures.cache)

pub returns-in-Disk-clause-below : goal.returns-in-Disk-clause-below
returns-in-Disk-clause-below g c =
    let told = g.T.Store.files c.args.store.now in
    subst (λ (p : Part). IfOk c.positions.result (All {X = ℕ} (λ x. x < length (document_at (reads told (source_of p)) c.args.id).tokens))) (sym c.in-Disk.is)
    (subst (λ (k : Kept). IfOk c.positions.result (All {X = ℕ} (λ x. x < length (document_at (rebuilt k (told_file told k.number)) c.args.id).tokens))) c.deref-in-Disk.ensures
    (c.positions.ensures.below (told_file told c.deref-in-Disk.result.now.number)))

pub returns-in-Disk-clause-exact : goal.returns-in-Disk-clause-exact
returns-in-Disk-clause-exact g c = λ part backed.
    let told = g.T.Store.files c.args.store.now in
    let r = c.positions.result in
    let b = subst (λ (p : Part). IsPartBacked told (source_of p)) c.in-Disk.is part in
    let own : IsBacked told c.deref-in-Disk.result.now b.0 = subst (λ (k : Kept). IsBacked told k b.0) (sym c.deref-in-Disk.ensures) b.1 in
    let docs : b.0 ≡ reads told (source_of c.args.self.now) = sym (ap (λ (p : Part). reads told (source_of p)) c.in-Disk.is ∙ reads-backed told c.in-Disk.index.value b.0 b.1) in
    subst (λ (ds : List Document). IfOk r (λ ps. ps ≡ places c.args.term.now (document_at ds c.args.id))) docs (c.positions.ensures.exact b.0 own backed)

pub returns-in-Disk-clause-honest : goal.returns-in-Disk-clause-honest
returns-in-Disk-clause-honest g c = λ part backed.
    let told = g.T.Store.files c.args.store.now in
    let b = subst (λ (p : Part). IsPartIntact told (source_of p)) c.in-Disk.is part in
    let own : IsBacked told c.deref-in-Disk.result.now b.0.0 = subst (λ (k : Kept). IsBacked told k b.0.0) (sym c.deref-in-Disk.ensures) b.0.1 in
    c.positions.ensures.honest b.0.0 own (subst (λ (k : Kept). IsIntact told k.number) (sym c.deref-in-Disk.ensures) b.1) backed

pub returns-in-Disk-clause-fault : goal.returns-in-Disk-clause-fault
returns-in-Disk-clause-fault g c = λ f told.
    let r = c.positions.result in
    subst (λ (p : Part). IfErr r (IsPartFault f c.args.cache.now (source_of p) c.args.term.now c.args.id)) (sym c.in-Disk.is)
    (subst (λ (k : Kept). IfErr r (IsTermFault f c.args.cache.now k c.args.term.now c.args.id)) c.deref-in-Disk.ensures (c.positions.ensures.fault f told))

pub returns-in-Disk-clause-told : goal.returns-in-Disk-clause-told
returns-in-Disk-clause-told g c =
    let told = g.T.Store.files c.args.store.now in
    let r = c.positions.result in
    subst (λ (p : Part). IfOk r (ArePlacesOf told c.args.cache.now (source_of p) c.args.term.now c.args.id)) (sym c.in-Disk.is)
    (subst (λ (k : Kept). IfOk r (AreTold told c.args.cache.now k c.args.term.now c.args.id)) c.deref-in-Disk.ensures c.positions.ensures.told)
