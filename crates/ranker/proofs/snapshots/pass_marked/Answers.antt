use Rattle.std.proofs.Common.{◌≡◌, Bool, OnOk, List, Option, rules, length, map, ap, subst, sym, ◌∙◌, arith}
use Rattle.ri_base.specs.Documents.{Document}
use Rattle.ri_base.specs.Query.{filter_tree}
use Rattle.store_ends.specs.Files.{Files}
use Rattle.belief_nodes.specs.Network.{network_tree}
use Rattle.disk_index.specs.Parts.{outlines_of, reads, size, source_of}
use Rattle.disk_index.specs.Snapshots.{unmarked}
use Rattle.disk_index.proofs.RebuiltLemmas.{reads-length}
use Rattle.range_masks.specs.Held.{FitDocuments, Held}
use Rattle.ranker.specs.Blocks.{AreReadBy}
use Rattle.ranker.specs.Going.{PassesIn, tally}
use Rattle.ranker.specs.Unbeaten.{sought, stretch}
use Rattle.ranker.specs.Windows.{KeepsWindows}
use Rattle.ranker.proofs.AheadLemmas.{IsKnown-read}
use Rattle.ranker.proofs.ReadLemmas.{fits-part, intact-by, read-after, read-moved, sound-by}
use Rattle.ranker.proofs.snapshots.pass_marked.Goals as goal

pub pass_part-requires-clause-id : goal.pass_part-requires-clause-id
pass_part-requires-clause-id g c =
    let told = g.T.Store.files c.new-own.result.store.now in
    let own : source_of c.new-own.result.part.now ≡ c.args.marked.now.source = ap source_of c.new-own.ensures.part ∙ c.part.ensures.part in
    omega (arith, c.requires.id, ap size own, reads-length told (source_of c.new-own.result.part.now))

pub pass_part-requires-clause-marks : goal.pass_part-requires-clause-marks
pass_part-requires-clause-marks g c =
    let told = g.T.Store.files c.new-own.result.store.now in
    let own : source_of c.new-own.result.part.now ≡ c.args.marked.now.source = ap source_of c.new-own.ensures.part ∙ c.part.ensures.part in
    omega (arith, ap length c.marks-marks.ensures.marks, c.marks-marks.ensures.whole, ap size own, reads-length told (source_of c.new-own.result.part.now))

pub returns-clause-honest : goal.returns-clause-honest
returns-clause-honest g c = λ part cached.
    c.pass_part.ensures.honest (intact-by (g.T.Store.files c.args.store.now) (g.T.Store.files c.new-own.result.store.now) c.args.marked.now.source (source_of c.new-own.result.part.now) c.args.cache.now c.new-own.result.cache.now
    c.args.held.now c.new-own.result.held.now (ap g.T.Store.files c.new-own.ensures.store) (ap source_of c.new-own.ensures.part ∙ c.part.ensures.part) c.new-own.ensures.cache c.new-own.ensures.held part cached)

pub returns-clause-work : goal.returns-clause-work
returns-clause-work g c = λ part cached before count known.
    let told = g.T.Store.files c.args.store.now in
    let here = g.T.Store.files c.new-own.result.store.now in
    let m = c.args.marked.now in
    let own = source_of c.new-own.result.part.now in
    let s = sought c.args.rule.now.kind (map (λ b. (goal.BeliefNode-dyn g (b.vtable, b.value)).meaning b.value) c.args.plugs.now) (map filter_tree c.args.filters.now) (network_tree c.args.network.now) c.args.tables.now count in
    let terms = length c.args.terms.now in
    let same_told : here ≡ told = ap g.T.Store.files c.new-own.ensures.store in
    let same_part : own ≡ m.source = ap source_of c.new-own.ensures.part ∙ c.part.ensures.part in
    let docs : reads here own ≡ reads told m.source = ap (λ (t : Option Files). reads t own) same_told ∙ ap (reads told) same_part in
    let there = sound-by told here m.source own c.args.cache.now c.new-own.result.cache.now c.args.held.now c.new-own.result.held.now same_told same_part c.new-own.ensures.cache c.new-own.ensures.held part cached in
    let name = c.pass_part.ensures.keeps.stays_quiet.1 in
    let known_there = IsKnown-read s.kind s.priors s.filters s.network s.tables c.args.number (reads told m.source) (reads here own) c.args.id c.args.ahead (sym docs) known in
    let now = tally c.pass_part.new.part.held.now.range c.pass_part.new.squares c.pass_part.new.blocks in
    let whole =
    subst (λ (h : Held). PassesIn s terms (stretch c.args.number before (reads told m.source) m.marks) c.args.id c.args.ahead c.args.first.now c.pass_part.new.first (tally h.range c.args.squares.now c.args.blocks.now) now c.pass_part.result) c.new-own.ensures.held
    (subst (λ (ds : List Document). PassesIn s terms (stretch c.args.number before ds m.marks) c.args.id c.args.ahead c.args.first.now c.pass_part.new.first (tally c.new-own.result.held.now.range c.args.squares.now c.args.blocks.now) now c.pass_part.result) docs
    (subst (λ (ms : List Bool). PassesIn s terms (stretch c.args.number before (reads here own) ms) c.args.id c.args.ahead c.args.first.now c.pass_part.new.first (tally c.new-own.result.held.now.range c.args.squares.now c.args.blocks.now) now c.pass_part.result) c.marks-marks.ensures.marks
    (c.pass_part.ensures.work there before count known_there))) in
    search rules

pub returns-clause-windows : goal.returns-clause-windows
returns-clause-windows g c =
    let told = g.T.Store.files c.args.store.now in
    let here = g.T.Store.files c.new-own.result.store.now in
    let m = c.args.marked.now in
    let own = source_of c.new-own.result.part.now in
    let network = network_tree c.args.network.now in
    let same_told : here ≡ told = ap g.T.Store.files c.new-own.ensures.store in
    let same_part : own ≡ m.source = ap source_of c.new-own.ensures.part ∙ c.part.ensures.part in
    let docs : reads here own ≡ reads told m.source = ap (λ (t : Option Files). reads t own) same_told ∙ ap (reads told) same_part in
    subst (λ (ds : List Document). OnOk c.pass_part.result (KeepsWindows network (unmarked ds m.marks) c.args.first.now c.pass_part.new.first)) docs
    (subst (λ (ms : List Bool). OnOk c.pass_part.result (KeepsWindows network (unmarked (reads here own) ms) c.args.first.now c.pass_part.new.first)) c.marks-marks.ensures.marks c.pass_part.ensures.windows)

-- ---- blocks

pub new-own-requires : goal.new-own-requires
new-own-requires g c = fits-part c.args.marked.now.source (source_of c.part.result.now) c.args.held.now c.part.ensures.part c.requires.fits

pub returns-clause-reads : goal.returns-clause-reads
returns-clause-reads g c =
    let told = g.T.Store.files c.args.store.now in
    let here = g.T.Store.files c.new-own.result.store.now in
    let m = c.args.marked.now in
    let own = source_of c.new-own.result.part.now in
    let same_told : here ≡ told = ap g.T.Store.files c.new-own.ensures.store in
    let same_part : own ≡ m.source = ap source_of c.new-own.ensures.part ∙ c.part.ensures.part in
    let quiet = c.pass_part.ensures.keeps.stays_quiet.0 in
    let name = c.pass_part.ensures.keeps.stays_quiet.1 in
    let cache_name = quiet.same_cache in
    let store_name = quiet.same_store in
    let fits_now : FitDocuments (outlines_of m.source) c.pass_part.new.part.held.now = fits-part (source_of c.pass_part.new.part.part.now) m.source c.pass_part.new.part.held.now (sym (quiet.same_part ∙ same_part)) c.pass_part.new.part.fits in
    record {
      quiet = search rules;
      later = search rules;
      cache = search rules;
      fits = search rules;
      read = λ part cached.
          let there = sound-by told here m.source own c.args.cache.now c.new-own.result.cache.now c.args.held.now c.new-own.result.held.now same_told same_part c.new-own.ensures.cache c.new-own.ensures.held part cached in
          let last = c.pass_part.ensures.keeps.sound_stays there in
          let read : AreReadBy told (reads told m.source) c.pass_part.new.part.cache.now c.pass_part.new.part.held.now =
          read-after told (g.T.Store.files c.pass_part.new.part.store.now) m.source (source_of c.pass_part.new.part.part.now) c.pass_part.new.part.cache.now c.pass_part.new.part.held.now
          (quiet.store.same_files ∙ same_told) (quiet.same_part ∙ same_part) last.1 last.2 in
          read-moved told (reads told m.source) _ _ _ _ (search rules) (search rules) read;
    }

pub returns-clause-blocks : goal.returns-clause-blocks
returns-clause-blocks g c =
    let marks : length c.marks-marks.result.now ≡ size c.args.marked.now.source = ap length c.marks-marks.ensures.marks ∙ c.marks-marks.ensures.whole in
    let name = c.pass_part.ensures.keeps.stays_quiet.1 in
    let blocks = rw marks at (rw c.new-own.ensures.held at c.pass_part.ensures.blocks) in
    search rules
