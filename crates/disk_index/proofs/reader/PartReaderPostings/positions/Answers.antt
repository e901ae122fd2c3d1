use Rattle.std.proofs.Common.{◌<◌, ap, sym, subst, refl, Option}
use Rattle.std.proofs.lemmas.Result.{IfOk-weaker}
use Rattle.store_ends.specs.Files.{Files}
use Rattle.disk_index.specs.Cache.{IsCacheBacked}
use Rattle.disk_index.specs.Parts.{IsPartBacked, IsPartIntact, reads, source_of}
use Rattle.disk_index.specs.QuietLaws.{IsPartIntact-backed}
use Rattle.disk_index.proofs.BackedLemmas.{IsCacheBacked-kept}
use Rattle.disk_index.proofs.ReadableLemmas.{IsReadableOf-places}
use Rattle.disk_index.proofs.RebuiltLemmas.{reads-length}
use Rattle.disk_index.proofs.reader.PartReaderPostings.positions.Goals as goal

pub positions-requires : goal.positions-requires
positions-requires g c = subst (λ n. c.args.id < n) (reads-length (g.T.Store.files c.args.self.now.store.now) (source_of c.args.self.now.part.now)) c.requires

pub returns-clause-keeps : goal.returns-clause-keeps
returns-clause-keeps g c =
    let part = source_of c.args.self.now.part.now in
    let quiet = c.positions.ensures.quiet in
    record {
      documents_stay = ap (λ (f : Option Files). reads f part) quiet.same_files;
      no_fault_lost = c.positions.ensures.later;
      sound_stays = λ s. subst (λ (f : Option Files). IsPartBacked f part × IsCacheBacked f c.positions.new.cache) (sym quiet.same_files)
          (s.0, IsCacheBacked-kept _ part c.args.self.now.cache.now c.positions.new.cache s.0 c.positions.ensures.cache s.1);
      intact_stays = λ s. subst (λ (f : Option Files). IsPartIntact f part × IsCacheBacked f c.positions.new.cache) (sym quiet.same_files)
          (s.0, IsCacheBacked-kept _ part c.args.self.now.cache.now c.positions.new.cache (IsPartIntact-backed _ part s.0) c.positions.ensures.cache s.1);
      stays_quiet = record { same_part = refl; same_store = refl; same_cache = refl; store = quiet; no_fault_lost = c.positions.ensures.later; cache = c.positions.ensures.cache };
    }

pub returns-clause-told : goal.returns-clause-told
returns-clause-told g c =
    let s = c.args.self.now in
    IfOk-weaker _ _ _ (λ places are. IsReadableOf-places (g.T.Store.files s.store.now) s.cache.now (source_of s.part.now) c.args.term.now c.args.id places are) c.positions.ensures.told
