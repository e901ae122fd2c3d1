use Rattle.std.proofs.Common.{◌≤◌, ◌+◌, ◌*◌, ◌/◌, option_copied, inl, inr, ap, ◌∙◌, arith, refl}
use Rattle.std.proofs.lemmas.Result.{err_from_is_err_and}
use Rattle.ri_base.specs.Expression.{expr_tree}
use Rattle.disk_index.specs.Parts.{size}
use Rattle.disk_index.specs.QuietLaws.{IsPartIntact-backed}
use Rattle.counts.specs.Sums.{counted_tokens, occurrences}
use Rattle.counts.proofs.ReadingLemmas.{below-next, cache-backed, live-before, part-backed, part-intact, reads-same, reads-then}
use Rattle.counts.proofs.SumsLemmas.{counted-range, few-range, first-end, tokens-within}
use Rattle.counts.proofs.sums.in_part.Goals as goal

pub in_range-requires-clause-range : goal.in_range-requires-clause-range
in_range-requires-clause-range g c = let same = ap size c.part.ensures.part in omega (arith, c.loop-range-test.true, c.div_ceil-ranges.ensures, c.docs.ensures.size, same)

pub loop-range-init : goal.loop-range-init
loop-range-init g c = record { undamaged = refl; counted = λ backed cached. omega arith; few = omega arith; told = λ id inside below. absurd (omega (arith, below)); reads = reads-same _ _ _ _ _ _ _ _ _ _ }

pub overflow_add-count : goal.overflow_add-count
overflow_add-count g c =
    let told = g.T.Store.files c.args.store.now in
    let m = c.args.marked.now in
    let few = few-range (counted_tokens (option_copied c.args.context)) told m (g.T.Store.files c.loop-range.store) c.loop-range.range c.loop-range.count c.in_ok-found.found c.loop-range.invariant.reads.quiet.same_files
    c.loop-range.invariant.few c.in_ok-found.ensures.few in
    omega (arith, few, tokens-within (option_copied c.args.context) told m (64 * (c.loop-range.range + 1)), c.requires told)

pub loop-range-preserved : goal.loop-range-preserved
loop-range-preserved g c =
    let told = g.T.Store.files c.args.store.now in
    let mid = g.T.Store.files c.loop-range.store in
    let m = c.args.marked.now in
    let reads = c.loop-range.invariant.reads in
    record {
      undamaged = c.in_ok-found.ensures.undamaged ∙ c.loop-range.invariant.undamaged;
      counted = λ backed cached.
          let found = c.in_ok-found.ensures.exact (part-backed _ _ _ _ _ _ _ _ _ _ _ _ m.source reads backed) (cache-backed _ _ _ _ _ _ _ m.source _ _ _ _ reads backed cached) in
          counted-range (occurrences (expr_tree c.args.expr.now) (option_copied c.args.context)) told m mid c.loop-range.range c.loop-range.count c.in_ok-found.found reads.quiet.same_files
          (c.loop-range.invariant.counted backed cached) found;
      few = few-range (counted_tokens (option_copied c.args.context)) told m mid c.loop-range.range c.loop-range.count c.in_ok-found.found reads.quiet.same_files c.loop-range.invariant.few c.in_ok-found.ensures.few;
      told = λ id inside below. elim (below-next (id / 64) c.loop-range.range below) [
        | inl less ↦ c.loop-range.invariant.told id inside less
        | inr is ↦ live-before _ _ _ _ _ _ _ _ _ _ _ _ (expr_tree c.args.expr.now) m id reads (c.in_ok-found.ensures.told id inside is)
      ];
      reads = reads-then _ _ _ _ _ _ _ _ _ _ _ _ _ _ reads c.in_ok-found.ensures.reads;
    }

pub returns-in_err-found-clause-honest : goal.returns-in_err-found-clause-honest
returns-in_err-found-clause-honest g c = λ intact cached.
    let told = g.T.Store.files c.args.store.now in
    let source = c.args.marked.now.source in
    let reads = c.loop-range.invariant.reads in
    let p = err_from_is_err_and c.from_residual.result c.from_residual.ensures.1 in
    rw (p.1, p.2) (c.in_err-found.ensures.honest (part-intact _ _ _ _ _ _ _ _ _ _ _ _ source reads intact) (cache-backed _ _ _ _ _ _ _ source _ _ _ _ reads (IsPartIntact-backed told source intact) cached))

pub returns-in_err-found-clause-reads : goal.returns-in_err-found-clause-reads
returns-in_err-found-clause-reads g c = reads-then _ _ _ _ _ _ _ _ _ _ _ _ _ _ c.loop-range.invariant.reads c.in_err-found.ensures.reads

pub returns-clause-exact : goal.returns-clause-exact
returns-clause-exact g c = λ backed cached.
    let m = c.args.marked.now in
    let same = ap size c.part.ensures.part in
    let end : size m.source ≤ 64 * c.loop-range.range = omega (arith, c.loop-range-test.false, c.div_ceil-ranges.ensures, c.docs.ensures.size, same) in
    c.loop-range.invariant.counted backed cached ∙ first-end (occurrences (expr_tree c.args.expr.now) (option_copied c.args.context)) (g.T.Store.files c.args.store.now) m (64 * c.loop-range.range) end

pub returns-clause-few : goal.returns-clause-few
returns-clause-few g c =
    let m = c.args.marked.now in
    let same = ap size c.part.ensures.part in
    let end : size m.source ≤ 64 * c.loop-range.range = omega (arith, c.loop-range-test.false, c.div_ceil-ranges.ensures, c.docs.ensures.size, same) in
    let all = first-end (counted_tokens (option_copied c.args.context)) (g.T.Store.files c.args.store.now) m (64 * c.loop-range.range) end in
    omega (arith, all, c.loop-range.invariant.few)

pub returns-clause-told : goal.returns-clause-told
returns-clause-told g c = λ id inside.
    let same = ap size c.part.ensures.part in
    c.loop-range.invariant.told id inside (omega (arith, inside, c.loop-range-test.false, c.div_ceil-ranges.ensures, c.docs.ensures.size, same))
