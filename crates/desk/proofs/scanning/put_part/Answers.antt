use Rattle.std.proofs.Common.{◌≤◌, ◌∙◌, ◌+◌, ◌++◌, Option, ap, sym, arith, refl}
use Rattle.std.proofs.lemmas.Result.{err_from_is_err_and}
use Rattle.ri_base.specs.Expression.{expr_tree}
use Rattle.store_ends.specs.Files.{Files}
use Rattle.disk_index.specs.Parts.{size}
use Rattle.disk_index.specs.QuietLaws.{IsPartIntact-backed}
use Rattle.counts.proofs.ReadingLemmas.{cache-backed, part-backed, part-intact, reads-same, reads-then}
use Rattle.ranker.specs.Passed.{live_before}
use Rattle.desk.specs.Scanning.{extents_in}
use Rattle.desk.proofs.ScanLemmas.{before-all, before-none}
use Rattle.desk.proofs.scanning.put_part.Goals as goal

pub put_document-requires : goal.put_document-requires
put_document-requires g c = let same = ap size c.part.ensures.part in omega (arith, c.loop-id-test.true, c.docs-id-end.ensures.size, same)

pub loop-id-init : goal.loop-id-init
loop-id-init g c = record {
  undamaged = refl;
  lines = λ backed cached docs so_far. so_far ∙ before-none (expr_tree c.args.expr.now) (g.T.Store.files c.args.store.now) c.args.marked.now docs;
  reads = reads-same _ _ _ _ _ _ _ _ _ _;
}

pub loop-id-preserved : goal.loop-id-preserved
loop-id-preserved g c =
    let told = g.T.Store.files c.args.store.now in
    let m = c.args.marked.now in
    let x = expr_tree c.args.expr.now in
    let reads = c.loop-id.invariant.reads in
    let same = reads.quiet.same_files in
    record {
      undamaged = c.in_ok-put_document.ensures.undamaged ∙ c.loop-id.invariant.undamaged;
      lines = λ backed cached docs so_far.
          let now = part-backed _ _ _ _ _ _ _ _ _ _ _ _ m.source reads backed in
          let held = cache-backed _ _ _ _ _ _ _ m.source _ _ _ _ reads backed cached in
          let so_here = c.loop-id.invariant.lines backed cached docs so_far ∙ ap (λ (f : Option Files). extents_in x (docs ++ live_before f m c.loop-id.id)) (sym same) in
          c.in_ok-put_document.ensures.exact now held docs so_here ∙ ap (λ (f : Option Files). extents_in x (docs ++ live_before f m (c.loop-id.id + 1))) same;
      reads = reads-then _ _ _ _ _ _ _ _ _ _ _ _ _ _ reads c.in_ok-put_document.ensures.reads;
    }

pub returns-in_err-put_document-clause-honest : goal.returns-in_err-put_document-clause-honest
returns-in_err-put_document-clause-honest g c = λ intact cached.
    let told = g.T.Store.files c.args.store.now in
    let source = c.args.marked.now.source in
    let reads = c.loop-id.invariant.reads in
    let p = err_from_is_err_and c.from_residual.result c.from_residual.ensures.1 in
    rw (p.1, p.2) (c.in_err-put_document.ensures.honest (part-intact _ _ _ _ _ _ _ _ _ _ _ _ source reads intact) (cache-backed _ _ _ _ _ _ _ source _ _ _ _ reads (IsPartIntact-backed told source intact) cached))

pub returns-in_err-put_document-clause-reads : goal.returns-in_err-put_document-clause-reads
returns-in_err-put_document-clause-reads g c = reads-then _ _ _ _ _ _ _ _ _ _ _ _ _ _ c.loop-id.invariant.reads c.in_err-put_document.ensures.reads

pub returns-clause-exact : goal.returns-clause-exact
returns-clause-exact g c = λ backed cached docs so_far.
    let m = c.args.marked.now in
    let same = ap size c.part.ensures.part in
    let past : size m.source ≤ c.loop-id.id = omega (arith, c.loop-id-test.false, c.docs-id-end.ensures.size, same) in
    c.loop-id.invariant.lines backed cached docs so_far ∙ before-all (expr_tree c.args.expr.now) (g.T.Store.files c.args.store.now) m c.loop-id.id docs past
