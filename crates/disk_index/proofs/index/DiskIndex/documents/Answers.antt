use Rattle.std.proofs.Common.{◌≡◌, List, Option, None, Some, sym, ap, subst, ◌∙◌}
use Rattle.std.proofs.lemmas.Option.{same_Some}
use Rattle.std.proofs.lemmas.Result.{err_from_is_err_and}
use Rattle.ri_base.specs.declared.seg_fault.SegFault.{SegFault}
use Rattle.store_ends.specs.Files.{Files}
use Rattle.seg_codec.specs.Held.{lengths_of}
use Rattle.seg_codec.specs.declared.dictionary.TermBlocks.{TermBlocks}
use Rattle.seg_codec.specs.declared.documents.Entry.{Entry}
use Rattle.disk_index.specs.Blocks.{of_range}
use Rattle.disk_index.specs.Rebuild.{Slots, documents_of, lengths}
use Rattle.disk_index.specs.Together.{AreAllRows, IsDocumentsFault}
use Rattle.disk_index.proofs.RebuildLemmas.{documents-outlines, range-again}
use Rattle.disk_index.proofs.TogetherLemmas.{block-apart, untold-token}
use Rattle.disk_index.proofs.index.DiskIndex.documents.Goals as goal

shown : (d e : List TermBlocks) (os ps : List Entry) (rs ss : List Slots) → e ≡ d → os ≡ ps → rs ≡ ss → documents_of e os rs ≡ documents_of d ps ss
shown d e os ps rs ss a b c = cc

pub returns-in_err-told-clause-honest : goal.returns-in_err-told-clause-honest
returns-in_err-told-clause-honest g c = λ docs b intact kept.
    let p = err_from_is_err_and c.from_residual.result c.from_residual.ensures.1 in
    rw (p.1, p.2) (c.in_err-told.ensures.honest docs b intact kept)

pub returns-in_err-told-clause-fault : goal.returns-in_err-told-clause-fault
returns-in_err-told-clause-fault g c = λ f is_told.
    let p = err_from_is_err_and c.from_residual.result c.from_residual.ensures.1 in
    rw (p.1, p.2) (c.in_err-told.ensures.fault f is_told)

pub documents_of-requires-clause-shape : goal.documents_of-requires-clause-shape
documents_of-requires-clause-shape g c = ap lengths c.deref.ensures.value ∙ c.in_ok-told.ensures.shape ∙ ap lengths_of (sym c.outlines.ensures.are)

pub returns-in-Some-clause-exact : goal.returns-in-Some-clause-exact
returns-in-Some-clause-exact g c = λ docs b kept.
    same_Some c.in-Some.docs (of_range c.args.range docs)
    (sym c.in-Some.is ∙ c.in_ok-docs.ensures
    ∙ ap (λ (d : List TermBlocks). documents_of d c.outlines.result.now c.deref.result.now) c.dictionary.ensures
    ∙ ap (λ (os : List Entry). documents_of c.args.self.now.dictionary os c.deref.result.now) c.outlines.ensures.are
    ∙ ap (documents_of c.args.self.now.dictionary (of_range c.args.range c.args.self.now.outlines)) (c.deref.ensures.value ∙ c.in_ok-told.ensures.exact docs b kept)
    ∙ range-again (g.T.Store.files c.args.store.now) c.args.self.now docs c.args.range b)

pub returns-in-Some-clause-kept : goal.returns-in-Some-clause-kept
returns-in-Some-clause-kept g c =
    documents-outlines c.dictionary.result.now c.outlines.result.now c.deref.result.now c.in-Some.docs (ap lengths c.deref.ensures.value ∙ c.in_ok-told.ensures.shape ∙ ap lengths_of (sym c.outlines.ensures.are))
    (sym c.in_ok-docs.ensures ∙ c.in-Some.is) ∙ c.outlines.ensures.are

pub returns-clause-honest : goal.returns-clause-honest
returns-clause-honest g c = λ docs b intact kept.
    let fails : None ≡ Some (of_range c.args.range docs) =
    sym c.in-None.is ∙ c.in_ok-docs.ensures
    ∙ ap (λ (d : List TermBlocks). documents_of d c.outlines.result.now c.deref.result.now) c.dictionary.ensures
    ∙ ap (λ (os : List Entry). documents_of c.args.self.now.dictionary os c.deref.result.now) c.outlines.ensures.are
    ∙ ap (documents_of c.args.self.now.dictionary (of_range c.args.range c.args.self.now.outlines)) (c.deref.ensures.value ∙ c.in_ok-told.ensures.exact docs b kept)
    ∙ range-again (g.T.Store.files c.args.store.now) c.args.self.now docs c.args.range b in
    absurd cc

pub returns-clause-fault : goal.returns-clause-fault
returns-clause-fault g c = λ f is_told.
    let files = g.T.Store.files c.args.store.now in
    subst (λ (e : SegFault). IsDocumentsFault f c.args.cache.now c.args.self.now c.args.range e) (sym c.noted.ensures.same)
    (untold-token f c.args.cache.now c.args.self.now c.args.range c.in_ok-told.told.last c.in_ok-told.told.rows.items c.malformed.result
    (subst (λ (t : Option Files). AreAllRows t c.args.cache.now c.args.self.now c.args.range c.in_ok-told.told.rows.items) is_told c.in_ok-told.ensures.told)
    (sym (shown c.args.self.now.dictionary _ c.outlines.result.now _ c.deref.result.now _ c.dictionary.ensures c.outlines.ensures.are c.deref.ensures.value) ∙ sym c.in_ok-docs.ensures ∙ c.in-None.is)
    c.in_ok-told.ensures.last c.malformed.ensures)

pub returns-clause-store : goal.returns-clause-store
returns-clause-store g c = λ is. absurd (block-apart c.args.self.now.number _ c.noted.result (c.noted.ensures.same ∙ c.malformed.ensures) cc)

pub returns-in-Some-clause-told : goal.returns-in-Some-clause-told
returns-in-Some-clause-told g c = record {
  rows = c.in_ok-told.told.rows.items;
  each = c.in_ok-told.ensures.told;
  are = sym (shown c.args.self.now.dictionary _ c.outlines.result.now _ c.deref.result.now _ c.dictionary.ensures c.outlines.ensures.are c.deref.ensures.value) ∙ sym c.in_ok-docs.ensures ∙ c.in-Some.is;
}
