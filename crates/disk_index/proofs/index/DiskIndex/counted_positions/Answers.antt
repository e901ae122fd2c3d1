use Rattle.std.proofs.Common.{Contains, ◌≡◌, ◌<◌, ℕ, List, All, IsTrue, length, ap, sym, subst, ◌∙◌, rules}
use Rattle.std.specs.List.Sorted.{IsStrictlyIncreasing}
use Rattle.std.proofs.lemmas.Result.{err_from_is_err_and}
use Rattle.ri_base.specs.Collection.{document_at}
use Rattle.ri_base.specs.Places.{places}
use Rattle.ri_base.specs.declared.seg_fault.FileName.TheVariants.{Segment}
use Rattle.ri_base.specs.declared.seg_fault.PartName.TheVariants as parts
use Rattle.ri_base.specs.declared.seg_fault.SegFault.TheVariants.{Malformed}
use Rattle.ri_base.proofs.PlacesLemmas.{places-below, places-rise}
use Rattle.seg_codec.specs.Blocks.{tokens_of}
use Rattle.ri_base.specs.declared.seg_fault.SegFault.{SegFault}
use Rattle.disk_index.specs.Cache.{KeptBlock}
use Rattle.disk_index.specs.Blocks.{places_of, told_file}
use Rattle.disk_index.specs.Faults.{ArePlacesIn, IsTermFault}
use Rattle.disk_index.specs.Kept.{Kept}
use Rattle.disk_index.proofs.EntryLemmas.{places_of-block}
use Rattle.disk_index.proofs.FaultLemmas.{memory-fault, term-fault, wrong-kept}
use Rattle.disk_index.proofs.RebuiltLemmas.{backed-laid, inside-docs, reads-backed}
use Rattle.disk_index.proofs.index.DiskIndex.counted_positions.Goals as goal

pub returns-in_err-block-clause-honest : goal.returns-in_err-block-clause-honest
returns-in_err-block-clause-honest g c = λ docs b intact backed.
    let p = err_from_is_err_and c.from_residual.result c.from_residual.ensures.1 in
    rw (p.1, p.2) (c.in_err-block.ensures.honest docs b intact)

pub returns-then-not-are_places-clause-honest : goal.returns-then-not-are_places-clause-honest
returns-then-not-are_places-clause-honest g c = λ docs b intact backed.
    let id = c.args.id in
    let t = c.args.term.now in
    let told = g.T.Store.files c.args.store.now in
    let inside : id < length docs = inside-docs c.args.self.now docs id (backed-laid told c.args.self.now docs b).outlines c.requires.id in
    let all : c.places-places.result.now ≡ places t (document_at docs id) = c.places-places.ensures ∙ ap (places_of id) (c.in_ok-block.ensures.exact docs b backed) ∙ places_of-block t id docs inside in
    let size : length (document_at docs id).tokens ≡ c.length.result =
    sym (c.length.ensures.exact (told_file told c.args.self.now.number) ∙ ap (λ ds. length (document_at ds id).tokens) (reads-backed told c.args.self.now docs b)) in
    let rises : IsStrictlyIncreasing c.places-places.result.now = subst IsStrictlyIncreasing (sym all) (places-rise t (document_at docs id)) in
    let below : All (λ p. p < c.length.result) c.places-places.result.now =
    subst (λ (l : List ℕ). All (λ p. p < c.length.result) l) (sym all) (subst (λ n. All (λ p. p < n) (places t (document_at docs id))) size (places-below t (document_at docs id))) in
    let yes : IsTrue c.are_places.result = c.are_places.ensures.no (record { rising = rises; below = below }) in
    search (rules, yes)

pub returns-clause-exact : goal.returns-clause-exact
returns-clause-exact g c = λ docs b backed.
    let told = g.T.Store.files c.args.store.now in
    let inside : c.args.id < length docs = inside-docs c.args.self.now docs c.args.id (backed-laid told c.args.self.now docs b).outlines c.requires.id in
    c.in_ok-positions_of.ensures ∙ c.places-places.ensures ∙ ap (places_of c.args.id) (c.in_ok-block.ensures.exact docs b backed) ∙ places_of-block c.args.term.now c.args.id docs inside

pub returns-in_err-block-clause-fault : goal.returns-in_err-block-clause-fault
returns-in_err-block-clause-fault g c = λ f told.
    let p = err_from_is_err_and c.from_residual.result c.from_residual.ensures.1 in
    rw (p.1, p.2) (term-fault f c.args.cache.now c.args.self.now c.args.term.now c.args.id c.in_err-block.field-0.0 (c.in_err-block.ensures.fault f told))

pub returns-then-not-are_places-clause-fault : goal.returns-then-not-are_places-clause-fault
returns-then-not-are_places-clause-fault g c = λ f told.
    let own : c.self.inside.number ≡ c.args.self.now.number = ap (λ (k : Kept). k.number) c.self.view_is in
    subst (λ (e : SegFault). IsTermFault f c.args.cache.now c.args.self.now c.args.term.now c.args.id e) (sym c.noted.ensures.same) (subst (λ n. IsTermFault f c.args.cache.now c.args.self.now c.args.term.now c.args.id (Malformed (Segment n) parts.Block c.block_place.result)) (sym own)
    (wrong-kept f (g.T.Store.files c.args.store.now) c.args.cache.now c.args.self.now c.args.term.now c.args.id c.block_place.result c.in_ok-block.block c.block_place.ensures c.in_ok-block.ensures.origin (λ h.
    let rises : IsTrue c.are_places.result =
    c.are_places.ensures.no (subst (λ n. ArePlacesIn n c.places-places.result.now) (sym c.length.ensures.kept) (subst (λ (l : List ℕ). ArePlacesIn (tokens_of c.args.self.now.outlines c.args.id) l) (sym c.places-places.ensures) h)) in
    search (rules, rises))))

pub returns-then-not-are_places-clause-cache : goal.returns-then-not-are_places-clause-cache
returns-then-not-are_places-clause-cache g c = record { each = λ e h. c.in_ok-block.ensures.cache.each e (subst (λ (l : List KeptBlock). Contains l e) c.noted.ensures.kept h) }

pub returns-in_err-positions_of-clause-fault : goal.returns-in_err-positions_of-clause-fault
returns-in_err-positions_of-clause-fault g c = λ f told.
    let p = err_from_is_err_and c.from_residual-in_err-positions_of.result c.from_residual-in_err-positions_of.ensures.1 in
    rw (p.1, p.2) (memory-fault f c.args.cache.now c.args.self.now c.args.term.now c.args.id)

pub returns-clause-told : goal.returns-clause-told
returns-clause-told g c = record { entries = c.in_ok-block.block; block = c.in_ok-block.ensures.origin; places = c.in_ok-positions_of.ensures ∙ c.places-places.ensures }
