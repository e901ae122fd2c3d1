use Rattle.std.proofs.Common.{◌+◌, Option, option_copied, sum_by, ap, subst, ◌∙◌, arith, refl}
use Rattle.std.proofs.lemmas.List.{take_all}
use Rattle.std.proofs.lemmas.Result.{err_from_is_err_and}
use Rattle.ri_base.specs.Expression.{expr_tree}
use Rattle.store_ends.specs.Files.{Files}
use Rattle.disk_index.specs.Parts.{IsPartBacked}
use Rattle.disk_index.specs.Snapshots.{live_in}
use Rattle.disk_index.proofs.AmongLemmas.{backed-at, there-at}
use Rattle.counts.specs.Sums.{counted_tokens, occurrences}
use Rattle.counts.specs.Told.{ArePartsTold, IsPartTold}
use Rattle.counts.proofs.ReadingLemmas.{cache-among, fault-of, live-before, part-backed, part-intact, parts-more, reads-among, reads-same, reads-then}
use Rattle.counts.proofs.SumsLemmas.{live-all, live-more, live-within, part-short}
use Rattle.counts.proofs.sums.in_parts.Goals as goal

pub in_part-requires : goal.in_part-requires
in_part-requires g c = part-short c.args.parts.now c.loop-marked.marked-index c.marked-item.result c.requires c.loop-marked-test.true c.marked-item.is

pub loop-marked-init : goal.loop-marked-init
loop-marked-init g c = record { undamaged = refl; counted = λ backed cached. omega arith; few = omega arith; told = λ k d low. absurd (omega (arith, low)); reads = reads-same _ _ _ _ _ _ _ _ _ _ }

pub overflow_add-count : goal.overflow_add-count
overflow_add-count g c =
    let told = g.T.Store.files c.args.store.now in
    let ms = c.args.parts.now in
    let i = c.loop-marked.marked-index in
    let k = counted_tokens (option_copied c.args.context) in
    let own = ap (λ (t : Option Files). sum_by k (live_in t c.marked-item.result)) c.loop-marked.invariant.reads.quiet.same_files in
    let more = live-more k told ms i c.marked-item.result c.loop-marked-test.true c.marked-item.is in
    omega (arith, c.loop-marked.invariant.few, c.in_ok-found.ensures.few, own, more, live-within (option_copied c.args.context) told ms (i + 1) c.requires)

pub loop-marked-preserved : goal.loop-marked-preserved
loop-marked-preserved g c =
    let told = g.T.Store.files c.args.store.now in
    let ms = c.args.parts.now in
    let i = c.loop-marked.marked-index in
    let m = c.marked-item.result in
    let reads = c.loop-marked.invariant.reads in
    let f = occurrences (expr_tree c.args.expr.now) (option_copied c.args.context) in
    let k = counted_tokens (option_copied c.args.context) in
    record {
      undamaged = c.in_ok-found.ensures.undamaged ∙ c.loop-marked.invariant.undamaged;
      counted = λ backed cached.
          let part : IsPartBacked told m.source = backed-at ms i m c.loop-marked-test.true c.marked-item.is told backed in
          let found = c.in_ok-found.ensures.exact (part-backed _ _ _ _ _ _ _ _ _ _ _ _ m.source reads part) (cache-among _ _ _ _ _ _ _ ms _ _ _ _ reads backed cached) in
          let own = ap (λ (t : Option Files). sum_by f (live_in t m)) reads.quiet.same_files in
          let more = live-more f told ms i m c.loop-marked-test.true c.marked-item.is in
          omega (arith, c.loop-marked.invariant.counted backed cached, found, own, more);
      few =
          let own = ap (λ (t : Option Files). sum_by k (live_in t m)) reads.quiet.same_files in
          let more = live-more k told ms i m c.loop-marked-test.true c.marked-item.is in
          omega (arith, c.loop-marked.invariant.few, c.in_ok-found.ensures.few, own, more);
      told =
          let x = expr_tree c.args.expr.now in
          parts-more (IsPartTold told c.args.cache.now x) ms i m c.loop-marked-test.true c.marked-item.is
          (λ id inside. live-before _ _ _ _ _ _ _ _ _ _ _ _ x m id reads (c.in_ok-found.ensures.told id inside)) c.loop-marked.invariant.told;
      reads = reads-then _ _ _ _ _ _ _ _ _ _ _ _ _ _ reads (reads-among _ _ _ _ _ _ _ ms i m _ _ _ _ c.loop-marked-test.true c.marked-item.is c.in_ok-found.ensures.reads);
    }

pub returns-in_err-found-clause-fault : goal.returns-in_err-found-clause-fault
returns-in_err-found-clause-fault g c =
    let ms = c.args.parts.now in
    let i = c.loop-marked.marked-index in
    let m = c.marked-item.result in
    let reads = c.loop-marked.invariant.reads in
    let there = there-at ms i m c.loop-marked-test.true c.marked-item.is in
    let p = err_from_is_err_and c.from_residual.result c.from_residual.ensures.1 in
    rw (p.1, p.2) (fault-of (g.T.Store.files c.args.store.now) ms m c.args.cache.now c.in_err-found.field-0.0 there (λ backed part cached.
    c.in_err-found.ensures.honest (part-intact _ _ _ _ _ _ _ _ _ _ _ _ m.source reads part) (cache-among _ _ _ _ _ _ _ ms _ _ _ _ reads backed cached)))

pub returns-in_err-found-clause-reads : goal.returns-in_err-found-clause-reads
returns-in_err-found-clause-reads g c =
    reads-then _ _ _ _ _ _ _ _ _ _ _ _ _ _ c.loop-marked.invariant.reads
    (reads-among _ _ _ _ _ _ _ c.args.parts.now c.loop-marked.marked-index c.marked-item.result _ _ _ _ c.loop-marked-test.true c.marked-item.is c.in_err-found.ensures.reads)

pub returns-clause-exact : goal.returns-clause-exact
returns-clause-exact g c = λ backed cached.
    c.loop-marked.invariant.counted backed cached
    ∙ live-all (occurrences (expr_tree c.args.expr.now) (option_copied c.args.context)) (g.T.Store.files c.args.store.now) c.args.parts.now c.loop-marked.marked-index c.loop-marked-test.false

pub returns-clause-few : goal.returns-clause-few
returns-clause-few g c =
    let all = live-all (counted_tokens (option_copied c.args.context)) (g.T.Store.files c.args.store.now) c.args.parts.now c.loop-marked.marked-index c.loop-marked-test.false in
    omega (arith, c.loop-marked.invariant.few, all)

pub returns-clause-told : goal.returns-clause-told
returns-clause-told g c =
    subst (ArePartsTold (g.T.Store.files c.args.store.now) c.args.cache.now (expr_tree c.args.expr.now)) (take_all c.loop-marked.marked-index c.args.parts.now c.loop-marked-test.false) c.loop-marked.invariant.told
