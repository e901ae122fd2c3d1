use Rattle.std.proofs.Common.{◌≡◌, ◌<◌, ◌+◌, ◌*◌, option_copied, true, false, inl, inr, sym, ap, subst, ◌∙◌, rules, arith, refl}
use Rattle.std.proofs.lemmas.Result.{err_from_is_err_and}
use Rattle.ri_base.specs.Expression.{expr_tree}
use Rattle.extent_lists.specs.Presence.{may_with}
use Rattle.disk_index.specs.Parts.{Source, size, source_of}
use Rattle.disk_index.specs.Presence.{may_have}
use Rattle.disk_index.specs.QuietLaws.{IsPartIntact-backed}
use Rattle.counts.specs.Sums.{counted_tokens, occurrences}
use Rattle.counts.specs.Told.{IsLiveTold}
use Rattle.counts.proofs.ReadingLemmas.{below-next, cache-backed, live-before, part-backed, part-intact, reads-same, reads-then}
use Rattle.counts.proofs.SumsLemmas.{counted-next, few-next, first-grows, first-last, range-skipped, tokens-within}
use Rattle.counts.proofs.sums.in_range.Goals as goal

-- ---- a range without a document to look at

pub returns-then-not-may_occur-clause-exact : goal.returns-then-not-may_occur-clause-exact
returns-then-not-may_occur-clause-exact g c = λ backed cached.
    let told = g.T.Store.files c.args.store.now in
    let m = c.args.marked.now in
    let x = expr_tree c.args.expr.now in
    let not : c.may_occur.result ≡ false = search rules in
    let here : may_with (may_have (source_of c.part-part.result.now) c.args.range) x ≡ c.may_occur.result = sym c.may_occur.ensures in
    let none : may_with (may_have m.source c.args.range) x ≡ false = subst (λ (p : Source). may_with (may_have p c.args.range) x ≡ false) c.part-part.ensures.part (here ∙ not) in
    let same = range-skipped told m c.args.range x (option_copied c.args.context) c.part-part.ensures.whole backed none in
    omega (arith, same)

pub returns-then-not-may_occur-clause-few : goal.returns-then-not-may_occur-clause-few
returns-then-not-may_occur-clause-few g c =
    let grows = first-grows (counted_tokens (option_copied c.args.context)) (g.T.Store.files c.args.store.now) c.args.marked.now (64 * c.args.range) 64 c.part-part.ensures.whole in
    omega (arith, grows)

pub returns-then-not-may_occur-clause-reads : goal.returns-then-not-may_occur-clause-reads
returns-then-not-may_occur-clause-reads g c = reads-same _ _ _ _ _ _ _ _ _ _

pub returns-then-not-may_occur-clause-told : goal.returns-then-not-may_occur-clause-told
returns-then-not-may_occur-clause-told g c = λ id inside here live may.
    let m = c.args.marked.now in
    let x = expr_tree c.args.expr.now in
    let not : c.may_occur.result ≡ false = search rules in
    let own : may_with (may_have (source_of c.part-part.result.now) c.args.range) x ≡ c.may_occur.result = sym c.may_occur.ensures in
    let none : may_with (may_have m.source c.args.range) x ≡ false = subst (λ (p : Source). may_with (may_have p c.args.range) x ≡ false) c.part-part.ensures.part (own ∙ not) in
    let some : may_with (may_have m.source c.args.range) x ≡ true = subst (λ r. may_with (may_have m.source r) x ≡ true) here may in
    absurd cc

-- ---- numbers

pub overflow_mul-first : goal.overflow_mul-first
overflow_mul-first g c = let same = ap size c.part-part.ensures.part in omega (arith, c.requires.range, c.docs-docs.ensures.size, same)

-- ---- one document more

pub in_live_document-requires : goal.in_live_document-requires
in_live_document-requires g c =
    let same = ap size c.part-part.ensures.part in
    omega (arith, c.requires.range, c.loop-id-test.true, c.docs-docs.ensures.size, same, c.min.ensures)

pub overflow_add-count : goal.overflow_add-count
overflow_add-count g c =
    let told = g.T.Store.files c.args.store.now in
    let m = c.args.marked.now in
    let same = ap size c.part-part.ensures.part in
    let inside : c.loop-id.id < size m.source = omega (arith, c.requires.range, c.loop-id-test.true, c.docs-docs.ensures.size, same, c.min.ensures) in
    let few = few-next (counted_tokens (option_copied c.args.context)) told m (g.T.Store.files c.loop-id.store) (64 * c.args.range) c.loop-id.id c.loop-id.count c.in_ok-found.found c.loop-id.invariant.reads.quiet.same_files
    c.part-part.ensures.whole inside c.loop-id.invariant.few c.in_ok-found.ensures.few in
    omega (arith, few, tokens-within (option_copied c.args.context) told m (c.loop-id.id + 1), c.requires.short told, c.from-count.ensures)

pub loop-id-init : goal.loop-id-init
loop-id-init g c = record { undamaged = refl; counted = λ backed cached. omega arith; few = omega arith; told = λ id from below. absurd (omega (arith, from, below)); reads = reads-same _ _ _ _ _ _ _ _ _ _ }

pub loop-id-preserved : goal.loop-id-preserved
loop-id-preserved g c =
    let told = g.T.Store.files c.args.store.now in
    let mid = g.T.Store.files c.loop-id.store in
    let m = c.args.marked.now in
    let whole = c.part-part.ensures.whole in
    let same = ap size c.part-part.ensures.part in
    let inside : c.loop-id.id < size m.source = omega (arith, c.requires.range, c.loop-id-test.true, c.docs-docs.ensures.size, same, c.min.ensures) in
    let reads = c.loop-id.invariant.reads in
    let f = occurrences (expr_tree c.args.expr.now) (option_copied c.args.context) in
    let k = counted_tokens (option_copied c.args.context) in
    record {
      undamaged = c.in_ok-found.ensures.undamaged ∙ c.loop-id.invariant.undamaged;
      counted = λ backed cached.
          let found = c.in_ok-found.ensures.exact (part-backed _ _ _ _ _ _ _ _ _ _ _ _ m.source reads backed) (cache-backed _ _ _ _ _ _ _ m.source _ _ _ _ reads backed cached) in
          let next = counted-next f told m mid (64 * c.args.range) c.loop-id.id c.loop-id.count c.in_ok-found.found reads.quiet.same_files whole inside (c.loop-id.invariant.counted backed cached) found in
          omega (arith, next, c.from-count.ensures);
      few =
          let next = few-next k told m mid (64 * c.args.range) c.loop-id.id c.loop-id.count c.in_ok-found.found reads.quiet.same_files whole inside c.loop-id.invariant.few c.in_ok-found.ensures.few in
          omega (arith, next, c.from-count.ensures);
      told = λ id from below.
          let own : IsLiveTold told c.args.cache.now (expr_tree c.args.expr.now) m c.loop-id.id = live-before _ _ _ _ _ _ _ _ _ _ _ _ (expr_tree c.args.expr.now) m c.loop-id.id reads c.in_ok-found.ensures.told in
          elim (below-next id c.loop-id.id below) [
            | inl less ↦ c.loop-id.invariant.told id from less
            | inr is ↦ subst (IsLiveTold told c.args.cache.now (expr_tree c.args.expr.now) m) (sym is) own
          ];
      reads = reads-then _ _ _ _ _ _ _ _ _ _ _ _ _ _ reads c.in_ok-found.ensures.reads;
    }

-- ---- a document that can't be read

pub returns-in_err-found-clause-honest : goal.returns-in_err-found-clause-honest
returns-in_err-found-clause-honest g c = λ intact cached.
    let told = g.T.Store.files c.args.store.now in
    let source = c.args.marked.now.source in
    let reads = c.loop-id.invariant.reads in
    let p = err_from_is_err_and c.from_residual.result c.from_residual.ensures.1 in
    rw (p.1, p.2) (c.in_err-found.ensures.honest (part-intact _ _ _ _ _ _ _ _ _ _ _ _ source reads intact) (cache-backed _ _ _ _ _ _ _ source _ _ _ _ reads (IsPartIntact-backed told source intact) cached))

pub returns-in_err-found-clause-reads : goal.returns-in_err-found-clause-reads
returns-in_err-found-clause-reads g c = reads-then _ _ _ _ _ _ _ _ _ _ _ _ _ _ c.loop-id.invariant.reads c.in_err-found.ensures.reads

-- ---- all documents of the range

pub returns-clause-exact : goal.returns-clause-exact
returns-clause-exact g c = λ backed cached.
    let same = ap size c.part-part.ensures.part in
    let m = c.args.marked.now in
    let f = occurrences (expr_tree c.args.expr.now) (option_copied c.args.context) in
    let last = first-last f (g.T.Store.files c.args.store.now) m (64 * c.args.range) c.loop-id.id 64 (omega (arith, c.requires.range)) (omega (arith, c.loop-id-test.false, c.requires.range, c.docs-docs.ensures.size, same, c.min.ensures)) in
    let all = c.loop-id.invariant.counted backed cached in
    omega (arith, all, last)

pub returns-clause-few : goal.returns-clause-few
returns-clause-few g c =
    let same = ap size c.part-part.ensures.part in
    let m = c.args.marked.now in
    let k = counted_tokens (option_copied c.args.context) in
    let last = first-last k (g.T.Store.files c.args.store.now) m (64 * c.args.range) c.loop-id.id 64 (omega (arith, c.requires.range)) (omega (arith, c.loop-id-test.false, c.requires.range, c.docs-docs.ensures.size, same, c.min.ensures)) in
    let all = c.loop-id.invariant.few in
    omega (arith, all, last)

pub returns-clause-told : goal.returns-clause-told
returns-clause-told g c = λ id inside here.
    let same = ap size c.part-part.ensures.part in
    c.loop-id.invariant.told id (omega (arith, here)) (omega (arith, inside, here, c.loop-id-test.false, c.requires.range, c.docs-docs.ensures.size, same, c.min.ensures))
