use Rattle.std.proofs.Common.{Contains, ◌≡◌, ◌∷◌, ◌++◌, [], ℕ, List, Option, None, Ok, Err, length, map, take, get_or, replicate, refl, subst, sym, ap, ◌∙◌, arith}
use Rattle.std.proofs.lemmas.List.{take_all, take_more}
use Rattle.std.proofs.lemmas.Result.{err_from_is_err_and}
use Rattle.seg_codec.specs.declared.blocks.BlockEntry.{BlockEntry}
use Rattle.seg_codec.specs.declared.documents.Entry.{Entry}
use Rattle.store_ends.specs.Files.{Files}
use Rattle.disk_index.specs.Blocks.{block_of, of_range}
use Rattle.disk_index.specs.Cache.{KeptBlock, IsCacheBacked}
use Rattle.disk_index.specs.Faults.{IsTermBlock}
use Rattle.disk_index.specs.QuietLaws.{IsQuiet-same, IsQuiet-then}
use Rattle.disk_index.specs.Ranks.{term_of}
use Rattle.disk_index.specs.Reads.{IsBacked, IsIntact}
use Rattle.disk_index.specs.Rebuild.{lengths, put_block, rows_of}
use Rattle.disk_index.specs.Together.{AreRows, last_begin}
use Rattle.disk_index.proofs.RankLemmas.{ranks-before, ranks-inside}
use Rattle.disk_index.proofs.RebuildLemmas.{entries-lengths, rank-more, untold-lengths, untold-range}
use Rattle.disk_index.proofs.TogetherLemmas.{block-before, last-more, rows-more, unput, unput-apart, unread}
use Rattle.disk_index.proofs.index.DiskIndex.told.Goals as goal

pub loop-rank-init : goal.loop-rank-init
loop-rank-init g c =
    let rows : c.in_ok-rows.rows.items ≡ map (λ (o : Entry). replicate o.tokens None) (of_range c.args.range c.args.self.now.outlines) =
    c.in_ok-rows.ensures ∙ ap (map (λ (o : Entry). replicate o.tokens None)) c.outlines.ensures.are in
    record {
      quiet = IsQuiet-same g.T.Store.files g.T.Store.layers g.T.Store.clock g.T.Store.since g.T.Store.longest g.T.Store.held g.T.Store.faults c.args.store.now;
      later = omega arith;
      same = refl;
      cache = λ e h. h;
      undamaged = refl;
      within = omega arith;
      told = rows;
      last = c.blocks_at-last.ensures;
      shape = ap lengths rows ∙ untold-lengths (of_range c.args.range c.args.self.now.outlines);
      so_far = λ docs b kept. rows ∙ untold-range (g.T.Store.files c.args.store.now) c.args.self.now c.args.range docs b;
    }

pub ranked_block-requires : goal.ranked_block-requires
ranked_block-requires g c =
    ranks-inside c.args.range c.args.self.now.dictionary c.ranks-ranks.result.now c.loop-rank.rank-index c.ranks-ranks.ensures.are c.loop-rank-test.true

pub ranked_begin-last-requires : goal.ranked_begin-last-requires
ranked_begin-last-requires g c =
    ranks-inside c.args.range c.args.self.now.dictionary c.ranks-ranks.result.now c.loop-rank.rank-index c.ranks-ranks.ensures.are c.loop-rank-test.true

pub returns-in_err-block-clause-honest : goal.returns-in_err-block-clause-honest
returns-in_err-block-clause-honest g c = λ docs b intact kept.
    let same = c.loop-rank.invariant.quiet.same_files in
    let p = err_from_is_err_and c.from_residual-in_err-block.result c.from_residual-in_err-block.ensures.1 in
    rw (p.1, p.2) (c.in_err-block.ensures.honest docs (subst (λ (f : Option Files). IsBacked f c.args.self.now docs) (sym same) b) (subst (λ (f : Option Files). IsIntact f c.args.self.now.number) (sym same) intact))

pub returns-in_err-block-clause-fault : goal.returns-in_err-block-clause-fault
returns-in_err-block-clause-fault g c = λ f told.
    let inv = c.loop-rank.invariant in
    let ks : List ℕ = c.ranks-ranks.result.now in
    let i = c.loop-rank.rank-index in
    let p = err_from_is_err_and c.from_residual-in_err-block.result c.from_residual-in_err-block.ensures.1 in
    rw (p.1, p.2) (unread f c.args.cache.now c.args.self.now c.args.range i ks c.loop-rank.rows.items c.in_err-block.field-0.0 c.ranks-ranks.ensures.are c.loop-rank-test.true
    (subst (λ (t : Option Files). AreRows t c.args.cache.now c.args.self.now c.args.range ks i c.loop-rank.rows.items) told inv.told) (c.in_err-block.ensures.fault f (inv.quiet.same_files ∙ told)))

pub returns-in_err-block-clause-cache : goal.returns-in_err-block-clause-cache
returns-in_err-block-clause-cache g c = λ e h. c.loop-rank.invariant.cache e (c.in_err-block.ensures.cache e h)

pub returns-in_err-put-clause-honest : goal.returns-in_err-put-clause-honest
returns-in_err-put-clause-honest g c = λ docs b intact kept.
    let inv = c.loop-rank.invariant in
    let i = c.loop-rank.rank-index in
    let ks : List ℕ = c.ranks-ranks.result.now in
    let k = get_or ks i 0 in
    let dict = c.args.self.now.dictionary in
    let begin = c.ranked_begin-last.result in
    let backed = subst (λ (f : Option Files). IsBacked f c.args.self.now docs) (sym inv.quiet.same_files) b in
    let still = subst (λ (f : Option Files). IsCacheBacked f c.loop-rank.cache) (sym inv.quiet.same_files) (λ files told e h. kept files told e (inv.cache e h)) in
    let block : c.in_ok-block.block ≡ block_of (term_of dict k) c.args.range docs = c.in_ok-block.ensures.exact docs backed still in
    let put = rank-more dict c.ranks-ranks.ensures.order begin c.args.range k (take i ks) docs
    (ranks-inside c.args.range dict ks i c.ranks-ranks.ensures.are c.loop-rank-test.true) (ranks-before c.args.range dict ks i c.ranks-ranks.ensures.are c.loop-rank-test.true) in
    let fails : put_block begin k (block_of (term_of dict k) c.args.range docs) (rows_of dict (take i ks) (of_range c.args.range docs)) ≡ Err c.in_err-put.ensures.err.0 =
    sym (ap (λ (es : List BlockEntry). put_block begin k es c.loop-rank.rows.items) block ∙ ap (put_block begin k (block_of (term_of dict k) c.args.range docs)) (inv.so_far docs b kept)) ∙ c.in_err-put.ensures.err.1 in
    absurd cc

pub returns-in_err-put-clause-fault : goal.returns-in_err-put-clause-fault
returns-in_err-put-clause-fault g c = λ f told.
    let inv = c.loop-rank.invariant in
    let ks : List ℕ = c.ranks-ranks.result.now in
    let i = c.loop-rank.rank-index in
    let files = g.T.Store.files c.args.store.now in
    let block = block-before files (g.T.Store.files c.loop-rank.store) c.args.cache.now c.loop-rank.cache c.args.self.now (term_of c.args.self.now.dictionary (get_or ks i 0)) c.args.range c.in_ok-block.block
    inv.quiet.same_files inv.cache c.in_ok-block.ensures.origin in
    let p = err_from_is_err_and c.from_residual-in_err-put.result c.from_residual-in_err-put.ensures.1 in
    rw (p.1, p.2) (unput f c.args.cache.now c.args.self.now c.args.range i ks c.loop-rank.rows.items c.ranked_begin-last.result c.in_ok-block.block c.in_err-put.field-0.0 c.ranks-ranks.ensures.are c.loop-rank-test.true
    (subst (λ (t : Option Files). AreRows t c.args.cache.now c.args.self.now c.args.range ks i c.loop-rank.rows.items) told inv.told) c.ranked_begin-last.ensures
    (subst (λ (t : Option Files). IsTermBlock t c.args.cache.now c.args.self.now (term_of c.args.self.now.dictionary (get_or ks i 0)) c.args.range c.in_ok-block.block) told block) c.in_err-put.ensures.err)

pub returns-in_err-put-clause-cache : goal.returns-in_err-put-clause-cache
returns-in_err-put-clause-cache g c = λ e h. c.loop-rank.invariant.cache e (c.in_ok-block.ensures.cache e (subst (λ (l : List KeptBlock). Contains l e) c.put.ensures.kept h))

pub returns-in_err-put-clause-store : goal.returns-in_err-put-clause-store
returns-in_err-put-clause-store g c = λ is.
    let p = err_from_is_err_and c.from_residual-in_err-put.result c.from_residual-in_err-put.ensures.1 in
    absurd (unput-apart c.args.self.now.number _ c.in_err-put.field-0.0 c.in_err-put.ensures.err (let a = p.1 in let b = p.2 in cc))

pub loop-rank-preserved : goal.loop-rank-preserved
loop-rank-preserved g c =
    let inv = c.loop-rank.invariant in
    let i = c.loop-rank.rank-index in
    let ks : List ℕ = c.ranks-ranks.result.now in
    let k = get_or ks i 0 in
    let dict = c.args.self.now.dictionary in
    let begin = c.ranked_begin-last.result in
    let files = g.T.Store.files c.args.store.now in
    let own = block-before files (g.T.Store.files c.loop-rank.store) c.args.cache.now c.loop-rank.cache c.args.self.now (term_of dict k) c.args.range c.in_ok-block.block
    inv.quiet.same_files inv.cache c.in_ok-block.ensures.origin in
    record {
      quiet = IsQuiet-then g.T.Store.files g.T.Store.layers g.T.Store.clock g.T.Store.since g.T.Store.longest g.T.Store.held g.T.Store.faults _ _ _ inv.quiet c.in_ok-block.ensures.quiet;
      later = omega (arith, inv.later, c.in_ok-block.ensures.later);
      same = c.in_ok-block.ensures.none (λ is. absurd cc) ∙ inv.same;
      cache = λ e h. inv.cache e (c.in_ok-block.ensures.cache e (subst (λ (l : List KeptBlock). Contains l e) c.put.ensures.kept h));
      undamaged = c.in_ok-put.ensures.undamaged ∙ c.in_ok-block.ensures.undamaged ∙ inv.undamaged;
      within = omega (arith, c.loop-rank-test.true);
      told = rows-more files c.args.cache.now c.args.self.now c.args.range ks i c.loop-rank.rows.items c.put.new.rows.items inv.told (record {
        entries = c.in_ok-block.block;
        block = own;
        put = ap (λ n. put_block n k c.in_ok-block.block c.loop-rank.rows.items) (sym c.ranked_begin-last.ensures) ∙ c.in_ok-put.ensures.ok;
      });
      last = last-more c.args.self.now c.args.range ks i begin c.ranked_begin-last.ensures;
      shape = entries-lengths _ k c.in_ok-block.block c.loop-rank.rows.items _ c.in_ok-put.ensures.ok ∙ inv.shape;
      so_far = λ docs b kept.
          let backed = subst (λ (f : Option Files). IsBacked f c.args.self.now docs) (sym inv.quiet.same_files) b in
          let still = subst (λ (f : Option Files). IsCacheBacked f c.loop-rank.cache) (sym inv.quiet.same_files) (λ files told e h. kept files told e (inv.cache e h)) in
          let block : c.in_ok-block.block ≡ block_of (term_of dict k) c.args.range docs = c.in_ok-block.ensures.exact docs backed still in
          let put = rank-more dict c.ranks-ranks.ensures.order begin c.args.range k (take i ks) docs
          (ranks-inside c.args.range dict ks i c.ranks-ranks.ensures.are c.loop-rank-test.true) (ranks-before c.args.range dict ks i c.ranks-ranks.ensures.are c.loop-rank-test.true) in
          let told : put_block begin k (block_of (term_of dict k) c.args.range docs) (rows_of dict (take i ks) (of_range c.args.range docs)) ≡ Ok c.put.new.rows.items =
          sym (ap (λ (es : List BlockEntry). put_block begin k es c.loop-rank.rows.items) block ∙ ap (put_block begin k (block_of (term_of dict k) c.args.range docs)) (inv.so_far docs b kept)) ∙ c.in_ok-put.ensures.ok in
          let new : c.put.new.rows.items ≡ rows_of dict (take i ks ++ k ∷ []) (of_range c.args.range docs) = cc in
          new ∙ ap (λ (l : List ℕ). rows_of dict l (of_range c.args.range docs)) (sym (take_more ks i 0 c.loop-rank-test.true));
    }

pub returns-clause-exact : goal.returns-clause-exact
returns-clause-exact g c = λ docs b kept.
    c.loop-rank.invariant.so_far docs b kept
    ∙ ap (λ (l : List ℕ). rows_of c.args.self.now.dictionary l (of_range c.args.range docs)) (take_all c.loop-rank.rank-index c.ranks-ranks.result.now c.loop-rank-test.false ∙ c.ranks-ranks.ensures.are)

pub returns-clause-told : goal.returns-clause-told
returns-clause-told g c =
    let ks : List ℕ = c.ranks-ranks.result.now in
    let files = g.T.Store.files c.args.store.now in
    let all : c.loop-rank.rank-index ≡ length ks = omega (arith, c.loop-rank-test.false, c.loop-rank.invariant.within) in
    subst (λ (l : List ℕ). AreRows files c.args.cache.now c.args.self.now c.args.range l (length l) c.loop-rank.rows.items) c.ranks-ranks.ensures.are
    (subst (λ n. AreRows files c.args.cache.now c.args.self.now c.args.range ks n c.loop-rank.rows.items) all c.loop-rank.invariant.told)

pub returns-clause-last : goal.returns-clause-last
returns-clause-last g c =
    let ks : List ℕ = c.ranks-ranks.result.now in
    let all : c.loop-rank.rank-index ≡ length ks = omega (arith, c.loop-rank-test.false, c.loop-rank.invariant.within) in
    c.loop-rank.invariant.last ∙ ap (last_begin c.args.self.now c.args.range ks) all
    ∙ ap (λ (l : List ℕ). last_begin c.args.self.now c.args.range l (length l)) c.ranks-ranks.ensures.are
