use Rattle.std.proofs.Common.{◌≡◌, ◌<◌, ◌∙◌, ap, subst, sym, rules}
use Rattle.ri_base.specs.Collection.{document_at}
use Rattle.ri_base.specs.Expression.{expr_tree}
use Rattle.extent_evaluation.specs.Listed.{extent_list}
use Rattle.disk_index.specs.Cache.{IsCacheBacked}
use Rattle.disk_index.specs.Parts.{IsPartBacked, Source, reads, size, source_of}
use Rattle.counts.proofs.ReadingLemmas.{reads-same}
use Rattle.desk.proofs.ScanLemmas.{dead-next, live-next}
use Rattle.desk.proofs.scanning.put_document.Goals as goal

pub extents_of-requires : goal.extents_of-requires
extents_of-requires g c = subst (λ (p : Source). c.args.id < size p) (sym c.part-part.ensures.part) c.requires

pub returns-then-is_marked-clause-exact : goal.returns-then-is_marked-clause-exact
returns-then-is_marked-clause-exact g c = λ backed cached docs so_far.
    dead-next (expr_tree c.args.expr.now) (g.T.Store.files c.args.store.now) c.args.marked.now c.args.id docs c.args.lines.now c.part-part.ensures.whole c.requires (sym c.is_marked.ensures ∙ c.if-is_marked.true) so_far

pub returns-then-is_marked-clause-reads : goal.returns-then-is_marked-clause-reads
returns-then-is_marked-clause-reads g c = reads-same _ _ _ _ _ _ _ _ _ _

pub returns-clause-exact : goal.returns-clause-exact
returns-clause-exact g c = λ backed cached docs so_far.
    let told = g.T.Store.files c.args.store.now in
    let m = c.args.marked.now in
    let x = expr_tree c.args.expr.now in
    let part : source_of c.part-part.result.now ≡ m.source = c.part-part.ensures.part in
    let found = c.in_ok-found.found in
    let list : found ≡ extent_list x (document_at (reads told m.source) c.args.id) =
    subst (λ (p : Source). IsPartBacked told p → IsCacheBacked told c.args.cache.now → found ≡ extent_list x (document_at (reads told p) c.args.id)) part c.in_ok-found.ensures.exact backed cached in
    let name = c.docno.ensures told ∙ ap (λ (p : Source). (document_at (reads told p) c.args.id).docno) part in
    live-next x told m c.args.id docs c.docno.result.now found c.args.lines.now _ c.part-part.ensures.whole c.requires (sym c.is_marked.ensures ∙ c.if-is_marked.false) name list (search rules) so_far
