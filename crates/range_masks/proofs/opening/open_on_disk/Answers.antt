use Rattle.std.proofs.Common.{◌≡◌, ℕ, List, Option, inl, inr, sym, subst, ◌∙◌, arith}
use Rattle.std.specs.List.{All}
use Rattle.std.proofs.lemmas.List.{take_all}
use Rattle.store_ends.specs.Files.{Files}
use Rattle.disk_index.specs.Cache.{IsBlockOf, IsCacheBacked}
use Rattle.disk_index.specs.Faults.{IsTermReadable}
use Rattle.disk_index.specs.QuietLaws.{CacheKeeps-after, IsQuiet-then, IsTermReadable-before}
use Rattle.disk_index.specs.Reads.{IsBacked}
use Rattle.disk_index.proofs.BackedLemmas.{IsCacheBacked-block}
use Rattle.range_masks.specs.Held.{HasAll}
use Rattle.range_masks.proofs.HeldLemmas.{has-more}
use Rattle.range_masks.proofs.ToldLemmas.{told-more}
use Rattle.range_masks.proofs.opening.open_on_disk.Goals as goal

pub returns-in_err-open_block-clause-cache : goal.returns-in_err-open_block-clause-cache
returns-in_err-open_block-clause-cache g c = CacheKeeps-after _ _ _ _ _ _ c.loop-term.invariant.quiet.same_files c.loop-term.invariant.cache c.in_err-open_block.ensures.cache

pub loop-term-preserved : goal.loop-term-preserved
loop-term-preserved g c =
    let inv = c.loop-term.invariant in
    let opened = c.in_ok-open_block.ensures in
    let before : (t : List ℕ) → IsTermReadable (g.T.Store.files c.loop-term.store) c.loop-term.cache c.args.index.now t c.loop-term.held.range → IsTermReadable (g.T.Store.files c.args.store.now) c.args.cache.now c.args.index.now t c.args.range =
    λ t can. IsTermReadable-before (g.T.Store.files c.args.store.now) (IsBlockOf c.args.index.now) c.args.cache.now c.loop-term.cache c.args.index.now t c.args.range inv.cache
    (subst (λ r. IsTermReadable (g.T.Store.files c.args.store.now) c.loop-term.cache c.args.index.now t r) inv.range (subst (λ (f : Option Files). IsTermReadable f c.loop-term.cache c.args.index.now t c.loop-term.held.range) inv.quiet.same_files can)) in
    let own : IsTermReadable (g.T.Store.files c.args.store.now) c.args.cache.now c.args.index.now c.term-item.result c.args.range =
    elim opened.told [ inl was ↦ inv.held c.term-item.result was | inr can ↦ before c.term-item.result can ] in
    record {
      undamaged = c.in_ok-open_block.ensures.undamaged ∙ c.loop-term.invariant.undamaged;
      quiet = IsQuiet-then g.T.Store.files g.T.Store.layers g.T.Store.clock g.T.Store.since g.T.Store.longest g.T.Store.held g.T.Store.faults _ _ _ inv.quiet opened.quiet;
      later = omega (arith, inv.later, opened.later);
      cache = CacheKeeps-after _ _ _ _ _ _ inv.quiet.same_files inv.cache opened.cache;
      range = opened.range ∙ inv.range;
      opened = omega (arith, inv.opened, opened.opened);
      cost = omega (arith, inv.cost, opened.cost);
      fits = opened.fits inv.fits;
      exact = λ docs b kept.
          let own = subst (λ (f : Option Files). IsBacked f c.args.index.now docs) (sym inv.quiet.same_files) b in
          let still = subst (λ (f : Option Files). IsCacheBacked f c.loop-term.cache) (sym inv.quiet.same_files) (IsCacheBacked-block _ c.args.index.now docs c.args.cache.now c.loop-term.cache b inv.cache kept) in
          opened.exact docs own still (inv.exact docs b kept);
      each = λ docs b kept.
          let own = subst (λ (f : Option Files). IsBacked f c.args.index.now docs) (sym inv.quiet.same_files) b in
          let still = subst (λ (f : Option Files). IsCacheBacked f c.loop-term.cache) (sym inv.quiet.same_files) (IsCacheBacked-block _ c.args.index.now docs c.args.cache.now c.loop-term.cache b inv.cache kept) in
          has-more c.args.terms.now c.loop-term.term-index c.term-item.result c.loop-term.held c.open_block.new.held c.loop-term-test.true c.term-item.is (opened.has docs own still) opened.still (inv.each docs b kept);
      told = told-more (λ t. IsTermReadable (g.T.Store.files c.args.store.now) c.args.cache.now c.args.index.now t c.args.range) c.args.terms.now c.loop-term.term-index c.term-item.result c.loop-term-test.true c.term-item.is own inv.told;
      held = λ t has. elim (opened.only t has) [ inl was ↦ inv.held t was | inr is ↦ subst (λ (x : List ℕ). IsTermReadable (g.T.Store.files c.args.store.now) c.args.cache.now c.args.index.now x c.args.range) (sym is) own ];
    }

pub returns-clause-each : goal.returns-clause-each
returns-clause-each g c = λ docs b kept.
    subst (λ (l : List (List ℕ)). HasAll l c.loop-term.held) (take_all c.loop-term.term-index c.args.terms.now c.loop-term-test.false) (c.loop-term.invariant.each docs b kept)

pub returns-clause-told : goal.returns-clause-told
returns-clause-told g c =
    subst (λ (l : List (List ℕ)). All (λ t. IsTermReadable (g.T.Store.files c.args.store.now) c.args.cache.now c.args.index.now t c.args.range) l)
    (take_all c.loop-term.term-index c.args.terms.now c.loop-term-test.false) c.loop-term.invariant.told
