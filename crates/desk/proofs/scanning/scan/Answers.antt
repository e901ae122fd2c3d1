use Rattle.std.proofs.Common.{◌∙◌, ◌++◌, Option, ap, take, refl}
use Rattle.std.proofs.lemmas.Result.{err_from_is_err_and}
use Rattle.ri_base.specs.Expression.{expr_tree}
use Rattle.store_ends.specs.Files.{Files}
use Rattle.disk_index.specs.Parts.{IsPartBacked, IsPartIntact}
use Rattle.disk_index.specs.Snapshots.{live, live_in}
use Rattle.disk_index.proofs.AmongLemmas.{AreIntact-backed, backed-at, intact-at}
use Rattle.counts.proofs.ReadingLemmas.{cache-among, part-backed, part-intact, reads-among, reads-same, reads-then}
use Rattle.desk.specs.Scanning.{extents_in}
use Rattle.desk.proofs.ScanLemmas.{parts-all, parts-next, parts-none}
use Rattle.desk.proofs.scanning.scan.Goals as goal

pub loop-marked-init : goal.loop-marked-init
loop-marked-init g c = record {
  undamaged = refl;
  lines = λ backed cached. c.new-lines.ensures ∙ parts-none (expr_tree c.args.expr.now) (g.T.Store.files c.args.store.now) c.args.parts.now;
  reads = reads-same _ _ _ _ _ _ _ _ _ _;
}

pub loop-marked-preserved : goal.loop-marked-preserved
loop-marked-preserved g c =
    let told = g.T.Store.files c.args.store.now in
    let x = expr_tree c.args.expr.now in
    let ms = c.args.parts.now in
    let i = c.loop-marked.marked-index in
    let m = c.marked-item.result in
    let reads = c.loop-marked.invariant.reads in
    record {
      undamaged = c.in_ok-put_part.ensures.undamaged ∙ c.loop-marked.invariant.undamaged;
      lines = λ backed cached.
          let part : IsPartBacked told m.source = backed-at ms i m c.loop-marked-test.true c.marked-item.is told backed in
          let put = c.in_ok-put_part.ensures.exact (part-backed _ _ _ _ _ _ _ _ _ _ _ _ m.source reads part) (cache-among _ _ _ _ _ _ _ ms _ _ _ _ reads backed cached) (live told (take i ms)) (c.loop-marked.invariant.lines backed cached) in
          parts-next x told ms i m _ c.loop-marked-test.true c.marked-item.is (put ∙ ap (λ (f : Option Files). extents_in x (live told (take i ms) ++ live_in f m)) reads.quiet.same_files);
      reads = reads-then _ _ _ _ _ _ _ _ _ _ _ _ _ _ reads (reads-among _ _ _ _ _ _ _ ms i m _ _ _ _ c.loop-marked-test.true c.marked-item.is c.in_ok-put_part.ensures.reads);
    }

pub returns-in_err-put_part-clause-honest : goal.returns-in_err-put_part-clause-honest
returns-in_err-put_part-clause-honest g c = λ intact cached.
    let told = g.T.Store.files c.args.store.now in
    let ms = c.args.parts.now in
    let m = c.marked-item.result in
    let reads = c.loop-marked.invariant.reads in
    let part : IsPartIntact told m.source = intact-at ms c.loop-marked.marked-index m c.loop-marked-test.true c.marked-item.is told intact in
    let p = err_from_is_err_and c.from_residual.result c.from_residual.ensures.1 in
    rw (p.1, p.2) (c.in_err-put_part.ensures.honest (part-intact _ _ _ _ _ _ _ _ _ _ _ _ m.source reads part) (cache-among _ _ _ _ _ _ _ ms _ _ _ _ reads (AreIntact-backed told ms intact) cached))

pub returns-in_err-put_part-clause-reads : goal.returns-in_err-put_part-clause-reads
returns-in_err-put_part-clause-reads g c =
    reads-then _ _ _ _ _ _ _ _ _ _ _ _ _ _ c.loop-marked.invariant.reads
    (reads-among _ _ _ _ _ _ _ c.args.parts.now c.loop-marked.marked-index c.marked-item.result _ _ _ _ c.loop-marked-test.true c.marked-item.is c.in_err-put_part.ensures.reads)

pub returns-clause-exact : goal.returns-clause-exact
returns-clause-exact g c = λ backed cached.
    c.loop-marked.invariant.lines backed cached ∙ parts-all (expr_tree c.args.expr.now) (g.T.Store.files c.args.store.now) c.args.parts.now c.loop-marked.marked-index c.loop-marked-test.false
