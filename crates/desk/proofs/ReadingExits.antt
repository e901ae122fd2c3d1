-- Where an expression is scanned for, and where a result is explained.
use Rattle.std.proofs.Common.{◌≡◌, ◌∙◌, ◌-◌, ℕ, false, List, [], length, get_or, map, refl, sym, ap, subst, Option, None, Some}
use Rattle.std.specs.Prelude.{Ok, nat_lt, slice_get, unwrap_or}
use Rattle.std.specs.Option.{option_map}
use Rattle.std.proofs.lemmas.Option.{slice_get-map}
use Rattle.std.proofs.lemmas.Simd.{map-map}
use Rattle.ri_base.specs.Documents.{Document}
use Rattle.ri_base.specs.Expression.{ExprTree}
use Rattle.ri_base.specs.Pair.{Pair}
use Rattle.ri_base.specs.declared.hit.Hit.{Hit}
use Rattle.ri_base.specs.declared.hit.LeafStats.{LeafStats}
use Rattle.store_ends.specs.Files.{Files}
use Rattle.manifest.specs.declared.manifest.PriorEntry.{PriorEntry}
use Rattle.query_check.specs.Answers.{whole_checked}
use Rattle.belief_nodes.specs.Network.{NetworkTree, network_tree}
use Rattle.disk_index.specs.Cache.{Cached}
use Rattle.document_scoring.specs.Counts.{stats_of}
use Rattle.holdings.specs.Parts.{live}
use Rattle.ranked_output.specs.declared.explained.Explained.{Explained}
use Rattle.result_explanation.specs.Explanation.{IsExplanation}
use Rattle.ranker.specs.Searches.{searched}
use Rattle.repository.specs.Stands.{Prior}
use Rattle.repository.specs.States as repositories
use Rattle.desk.specs.Answer.{document_with}
use Rattle.desk.specs.Priors.{names_with, priors_with}
use Rattle.session_events.specs.declared.event.Event.{Event}
use Rattle.session_events.specs.declared.event.Event.TheVariants as event
use Rattle.desk.specs.declared.reply.Refusal.{Refusal}
use Rattle.desk.specs.declared.reply.Reply.TheVariants as reply
use Rattle.desk.specs.declared.reply.Refusal.TheVariants.{NoSuchRank}
use Rattle.desk.specs.Answers.{Entry, answer, entry_of}
use Rattle.desk.specs.Asked.{scanned}
use Rattle.desk.specs.Backed.{IsDeskBacked, Keeps, Steps, state_of}
use Rattle.desk.specs.Queries.{IsCacheKept, IsQueryBacked, priors_in, query_of, table_in}
use Rattle.desk.specs.Scanning.{extents_in}
use Rattle.desk.specs.State.{Query, State, collection_of, named}
use Rattle.desk.specs.Step.{answer_of, document_named, ranked, refuse, step}
use Rattle.desk.specs.Told.{Told, early, told_early}
use Rattle.desk.specs.declared.query.OpenQuery.{OpenQuery}
use Rattle.desk.proofs.Cases.{explain-norank, explain-passed, explain-ranked, scan-found}
use Rattle.desk.proofs.Closing.{closed, closed-backed, closed-reads, with_closed}
use Rattle.desk.proofs.Exits.{exit, of-now, refused-by, state-by}
use Rattle.desk.proofs.Naming.{IsPlace, named-here}

-- other blocks are kept
abbrev pub with_cache : Keeps → Cached → Keeps
with_cache d cache = record { repository = d.repository; kind = d.kind; queries = d.queries; counts = d.counts; cache = cache; usable = d.usable }

-- ---- a scan

-- with that repository, and other blocks
abbrev pub with_read : Keeps → repositories.State → Cached → Keeps
with_read d r cache = record { repository = r; kind = d.kind; queries = d.queries; counts = d.counts; cache = cache; usable = d.usable }

module _ (told : Option Files) (d : Keeps) (backed : IsDeskBacked told d) where
  scan-exit : (after : Option Files) (text : List ℕ) (x : ExprTree) (lines : List (List ℕ × Pair)) (cache : Cached) → after ≡ told → scanned text ≡ Ok x → lines ≡ extents_in x (live told d.repository.held.parts)
      → IsCacheKept told d.repository cache → Steps (event.Scan text) told after d (with_closed d d.counts cache) (reply.Extents lines)
  scan-exit after text x lines cache same is found kept =
      let n = with_closed d d.counts cache in
      let state = state-by told n (collection_of (state_of told d)) _ _ _ _ (closed-reads told d backed) refl refl refl refl in
      exit (event.Scan text) told after d n (reply.Extents lines) _ (scan-found (state_of told d) text x is) (ap (λ (f : Option Files). state_of f n) same ∙ state) (ap reply.Extents found)
      (subst (λ (f : Option Files). IsDeskBacked f n) (sym same) (closed-backed told d backed d.counts cache backed.counts kept))

pub scan-done : (told after : Option Files) (d now : Keeps) (r : repositories.State) (text : List ℕ) (x : ExprTree) (lines : List (List ℕ × Pair)) (cache : Cached) → d ≡ now → r ≡ closed d.repository → after ≡ told → scanned text ≡ Ok x
    → (IsDeskBacked told d → lines ≡ extents_in x (live told d.repository.held.parts)) → (IsDeskBacked told d → IsCacheKept told d.repository cache) → IsDeskBacked told now
    → Steps (event.Scan text) told after now (with_read d r cache) (reply.Extents lines)
scan-done told after d now r text x lines cache same made stay is found kept backed =
    of-now told d now (λ (n : Keeps). Steps (event.Scan text) told after n (with_read d r cache) (reply.Extents lines)) same
    (λ b. subst (λ (s : repositories.State). Steps (event.Scan text) told after d (with_read d s cache) (reply.Extents lines)) (sym made) (scan-exit told d b after text x lines cache stay is (found b) (kept b))) backed

-- ---- an explanation

-- the names of the priors need no file
pub names-told : (told : Option Files) (entries : List PriorEntry) → names_with (priors_in told entries) ≡ map (λ (e : PriorEntry). e.name) entries
names-told told entries = map-map (λ (p : Prior). p.name) (λ (e : PriorEntry). record { name = e.name; table = table_in told e.number }) entries

module _ (told : Option Files) (d : Keeps) (name : List ℕ) (i : ℕ) (q : OpenQuery) (place : IsPlace name d.queries i q) (there : q ≡ get_or d.queries i q) (passed : nat_lt q.search.at.credit (length (searched told q.search)) ≡ false)
    (hits : List Hit) (entries : map entry_of hits ≡ answer d.kind (priors_with (priors_in told d.repository.priors)) (whole_checked q.search.checked) q.search.most (searched told q.search)) (rank : ℕ) where
  entry-at : (o : Option Hit) → o ≡ slice_get hits (rank - 1) → slice_get (answer_of (state_of told d) (query_of told q)) (rank - 1) ≡ option_map entry_of o
  entry-at o at = ap (λ es. slice_get es (rank - 1)) (sym entries) ∙ slice_get-map entry_of hits (rank - 1) ∙ ap (option_map entry_of) (sym at)

  pub no-rank : None ≡ slice_get hits (rank - 1) → step (state_of told d) (event.Explain name rank) ≡ refuse (state_of told d) (NoSuchRank name)
  no-rank at = explain-norank (state_of told d) name rank (query_of told q) (named-here told name d.queries i q place there) passed (entry-at None at)

  pub explain-exit : (after : Option Files) (cache : Cached) (hit : Hit) (doc : Document) (names : List (List ℕ)) (stats : List LeafStats) (e : Explained) → after ≡ told → Some hit ≡ slice_get hits (rank - 1)
      → document_with hit.docno (searched told q.search) ≡ Some doc → names ≡ map (λ (x : PriorEntry). x.name) d.repository.priors → stats ≡ (network_tree q.search.network).stats
      → IsExplanation names (whole_checked q.search.checked) stats doc rank hit e → IsQueryBacked told d.repository d.kind q → IsCacheKept told d.repository cache → IsDeskBacked told d
      → Steps (event.Explain name rank) told after d (with_cache d cache) (reply.Explained e)
  explain-exit after cache hit doc names stats e same at found named summed is query kept backed =
      let n = with_cache d cache in
      let docs = searched told q.search in
      let own : names ≡ names_with (priors_in told d.repository.priors) = named ∙ sym (names-told told d.repository.priors) in
      let sums : stats ≡ map (stats_of docs) (whole_checked q.search.checked).leaves = summed ∙ ap (λ (t : NetworkTree). t.stats) query.network in
      let document : doc ≡ document_named hit.docno docs = ap (λ (o : Option Document). unwrap_or o (record { docno = hit.docno; tokens = []; fields = [] })) (sym found) in
      let shown = subst (λ (x : Document). IsExplanation (names_with (priors_in told d.repository.priors)) (whole_checked q.search.checked) (map (stats_of docs) (whole_checked q.search.checked).leaves) x rank e.hit e) document
      (subst (λ (h : Hit). IsExplanation (names_with (priors_in told d.repository.priors)) (whole_checked q.search.checked) (map (stats_of docs) (whole_checked q.search.checked).leaves) doc rank h e) (sym is.hit_is)
      (subst (λ ss. IsExplanation (names_with (priors_in told d.repository.priors)) (whole_checked q.search.checked) ss doc rank hit e) sums
      (subst (λ ns. IsExplanation ns (whole_checked q.search.checked) stats doc rank hit e) own is))) in
      exit (event.Explain name rank) told after d n (reply.Explained e) _
      (explain-ranked (state_of told d) name rank (query_of told q) (entry_of hit) (named-here told name d.queries i q place there) passed (entry-at (Some hit) at)) (ap (λ (f : Option Files). state_of f n) same)
      (e, (refl, (shown, ap entry_of is.hit_is)))
      (subst (λ (f : Option Files). IsDeskBacked f n) (sym same) (record { repository = backed.repository; queries = backed.queries; merge = backed.merge; counts = backed.counts; cache = kept }))

-- ---- refusals that rest on no document

-- once all documents are passed, only that of a rank is left
early-ranked : (s : State) (name : List ℕ) (rank : ℕ) (q : Query) (o : Option Entry) → told_early (ranked s name rank q o).1 ≡ None
early-ranked s name rank q None = refl
early-ranked s name rank q (Some e) = refl

pub early-passed : (s : State) (name : List ℕ) (rank : ℕ) (q : Query) → named name s.queries ≡ Some q → nat_lt q.credit (length q.live) ≡ false → told_early (step s (event.Explain name rank)).1 ≡ None
early-passed s name rank q e passed = ap (λ (r : State × Told). told_early r.1) (explain-passed s name rank q e passed) ∙ early-ranked s name rank q (slice_get (answer_of s q) (rank - 1))

-- an earlier one is refused so, whatever the files are
pub early-refused : (e : Event) (told : Option Files) (d now : Keeps) (why : Refusal) → d ≡ now → step (state_of told d) e ≡ refuse (state_of told d) why → early why ≡ told_early (step (state_of told now) e).1
early-refused e told d now why same is = sym (ap told_early (refused-by e told d now why same is))
