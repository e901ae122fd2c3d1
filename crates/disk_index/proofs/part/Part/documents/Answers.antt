use Rattle.std.proofs.Common.{◌≡◌, List, IfErr, IfOk, Result, Ok, Err, map, ap, sym, subst, ◌∙◌}
use Rattle.ri_base.specs.Documents.{Document}
use Rattle.seg_codec.specs.Segment.{entry_of}
use Rattle.seg_codec.specs.declared.documents.Entry.{Entry}
use Rattle.disk_index.specs.Blocks.{of_range, told_file}
use Rattle.disk_index.specs.Kept.{Kept}
use Rattle.disk_index.specs.Parts.{AreRangeOf, IsPartBacked, IsPartIntact, IsRangeFaultOf, reads, source_of}
use Rattle.disk_index.specs.Reads.{IsBacked, IsIntact, rebuilt}
use Rattle.disk_index.specs.Together.{AreTogether, IsDocumentsFault}
use Rattle.disk_index.specs.declared.part.Part.{Part}
use Rattle.disk_index.proofs.RebuildLemmas.{map-range}
use Rattle.disk_index.proofs.RebuiltLemmas.{reads-backed, rebuilt-outlines}
use Rattle.disk_index.proofs.part.Part.documents.Goals as goal

outlines-same : {E : Type 0} (r : Result (List Document) E) (xs : List Document) → IfOk r (λ ds. ds ≡ xs) → IfOk r (λ ds. map entry_of ds ≡ map entry_of xs)
outlines-same (Ok ds) xs h = ap (λ (l : List Document). map entry_of l) h
outlines-same (Err e) xs h = tt

pub returns-in-Disk-clause-exact : goal.returns-in-Disk-clause-exact
returns-in-Disk-clause-exact g c = λ part backed.
    let told = g.T.Store.files c.args.store.now in
    let r = c.documents.result in
    let b = subst (λ (p : Part). IsPartBacked told (source_of p)) c.in-Disk.is part in
    let own : IsBacked told c.deref-in-Disk.result.now b.0 = subst (λ (k : Kept). IsBacked told k b.0) (sym c.deref-in-Disk.ensures) b.1 in
    let docs : b.0 ≡ reads told (source_of c.args.self.now) = sym (ap (λ (p : Part). reads told (source_of p)) c.in-Disk.is ∙ reads-backed told c.in-Disk.index.value b.0 b.1) in
    subst (λ (ds : List Document). IfOk r (λ xs. xs ≡ of_range c.args.range ds)) docs (c.documents.ensures.exact b.0 own backed)

pub returns-in-Disk-clause-honest : goal.returns-in-Disk-clause-honest
returns-in-Disk-clause-honest g c = λ part backed.
    let told = g.T.Store.files c.args.store.now in
    let b = subst (λ (p : Part). IsPartIntact told (source_of p)) c.in-Disk.is part in
    let own : IsBacked told c.deref-in-Disk.result.now b.0.0 = subst (λ (k : Kept). IsBacked told k b.0.0) (sym c.deref-in-Disk.ensures) b.0.1 in
    c.documents.ensures.honest b.0.0 own (subst (λ (k : Kept). IsIntact told k.number) (sym c.deref-in-Disk.ensures) b.1) backed

pub returns-in-Disk-clause-kept : goal.returns-in-Disk-clause-kept
returns-in-Disk-clause-kept g c =
    let told = g.T.Store.files c.args.store.now in
    let r = c.documents.result in
    let kept : Kept = c.in-Disk.index.value in
    let all : of_range c.args.range kept.outlines ≡ map entry_of (of_range c.args.range (rebuilt kept (told_file told kept.number))) =
    ap (λ (os : List Entry). of_range c.args.range os) (sym (rebuilt-outlines kept (told_file told kept.number))) ∙ map-range c.args.range (rebuilt kept (told_file told kept.number)) in
    subst (λ (p : Part). IfOk r (λ ds. map entry_of ds ≡ map entry_of (of_range c.args.range (reads told (source_of p))))) (sym c.in-Disk.is)
    (subst (λ (os : List Entry). IfOk r (λ ds. map entry_of ds ≡ os)) (ap (λ (k : Kept). of_range c.args.range k.outlines) c.deref-in-Disk.ensures ∙ all) c.documents.ensures.kept)

pub returns-in-Disk-clause-fault : goal.returns-in-Disk-clause-fault
returns-in-Disk-clause-fault g c = λ f told.
    let r = c.documents.result in
    subst (λ (p : Part). IfErr r (IsRangeFaultOf f c.args.cache.now (source_of p) c.args.range)) (sym c.in-Disk.is)
    (subst (λ (k : Kept). IfErr r (IsDocumentsFault f c.args.cache.now k c.args.range)) c.deref-in-Disk.ensures (c.documents.ensures.fault f told))

pub returns-in-Disk-clause-told : goal.returns-in-Disk-clause-told
returns-in-Disk-clause-told g c =
    let told = g.T.Store.files c.args.store.now in
    let r = c.documents.result in
    subst (λ (p : Part). IfOk r (AreRangeOf told c.args.cache.now (source_of p) c.args.range)) (sym c.in-Disk.is)
    (subst (λ (k : Kept). IfOk r (AreTogether told c.args.cache.now k c.args.range)) c.deref-in-Disk.ensures c.documents.ensures.told)
