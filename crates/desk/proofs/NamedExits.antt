-- Where an open query is asked by its name.
use Rattle.std.proofs.Common.{◌≡◌, ◌∙◌, ℕ, Bool, true, false, List, length, get_or, map, min, set, refl, sym, ap, subst, arith, Option}
use Rattle.std.specs.Prelude.{◌==◌, ◌+◌, nat_lt}
use Rattle.std.specs.List.{IsDistinct, remove}
use Rattle.std.specs.Str.{bytes_eq}
use Rattle.std.proofs.Math.Arith.{lt_of_le-ne}
use Rattle.std.proofs.lemmas.Bool.{eqb-false, eqb-true, le-ltb, lt-ltb}
use Rattle.std.proofs.lemmas.List.Elements.{All-set}
use Rattle.ri_base.specs.declared.hit.Hit.{Hit}
use Rattle.store_ends.specs.Files.{Files}
use Rattle.query_check.specs.Answers.{whole_checked}
use Rattle.belief_nodes.specs.Network.{NetworkTree}
use Rattle.disk_index.specs.Cache.{Cached}
use Rattle.holdings.specs.MarkedParts.{docnos_of}
use Rattle.holdings.proofs.LiveLemmas.{docnos-live}
use Rattle.ranker.specs.Ranking.{IsAnswerBy}
use Rattle.ranker.specs.Searches.{IsAnswerOf, filters_of, searched}
use Rattle.ranker.proofs.PlaceLemmas.{credit-le}
use Rattle.desk.specs.Priors.{priors_with}
use Rattle.session_events.specs.declared.event.Event.TheVariants as event
use Rattle.desk.specs.declared.reply.Reply.TheVariants as reply
use Rattle.desk.specs.declared.reply.Refusal.TheVariants.{NotYet}
use Rattle.desk.specs.Answers.{answer, entry_of}
use Rattle.desk.specs.Backed.{IsDeskBacked, Keeps, Steps, state_of}
use Rattle.desk.specs.Queries.{IsCacheKept, IsQueryBacked, priors_in, query_of}
use Rattle.desk.specs.State.{advanced}
use Rattle.desk.specs.Step.{refuse, step}
use Rattle.desk.specs.declared.query.OpenQuery.{OpenQuery}
use Rattle.desk.proofs.Cases.{close-closed, explain-notyet, show-notyet, show-results, step-stepped}
use Rattle.desk.proofs.Exits.{exit}
use Rattle.desk.proofs.Keeping.{state-eq}
use Rattle.desk.proofs.Naming.{All-remove, IsPlace, closed-at, named-here, stepped-at}
use Rattle.desk.proofs.Telling.{own-docnos, ranking_told}

-- with other open queries
abbrev pub with_queries : Keeps → List OpenQuery → Keeps
with_queries d queries = record { repository = d.repository; kind = d.kind; queries = queries; counts = d.counts; cache = d.cache; usable = d.usable }

-- and another cache
abbrev pub with_search : Keeps → List OpenQuery → Cached → Keeps
with_search d queries cache = record { repository = d.repository; kind = d.kind; queries = queries; counts = d.counts; cache = cache; usable = d.usable }

module _ (told : Option Files) (d : Keeps) (name : List ℕ) (i : ℕ) (q : OpenQuery) (place : IsPlace name d.queries i q) (there : q ≡ get_or d.queries i q) where
  -- ---- one query is forgotten

  pub close-exit : IsDeskBacked told d → Steps (event.Close name) told told d (with_queries d (remove d.queries i)) (reply.Closed name)
  close-exit backed =
      let n = with_queries d (remove d.queries i) in
      exit (event.Close name) told told d n (reply.Closed name) _ (close-closed (state_of told d) name (query_of told q) (named-here told name d.queries i q place there))
      (state-eq refl refl refl refl (closed-at told name d.queries i q place) refl refl refl) refl
      (record {
        repository = backed.repository;
        queries = All-remove (IsQueryBacked told d.repository d.kind) d.queries i backed.queries;
        merge = backed.merge;
        counts = backed.counts;
        cache = backed.cache;
      })

  -- ---- one query gets more credit

  pub step-exit : (after : Option Files) (docs credit long : ℕ) (new : OpenQuery) (cache : Cached) → after ≡ told → query_of told new ≡ advanced docs (query_of told q) → IsQueryBacked after d.repository d.kind new
      → IsCacheKept after d.repository cache → credit ≡ (advanced docs (query_of told q)).credit → long ≡ length (searched told q.search) → IsDeskBacked told d
      → Steps (event.Step name docs) told after d (with_search d (set d.queries i new) cache) (reply.Stepped name credit long)
  step-exit after docs credit long new cache same on now kept more count backed =
      let n = with_search d (set d.queries i new) cache in
      let shown : reply.Stepped name credit long ≡ reply.Stepped name (min (q.search.at.credit + docs) (length (searched told q.search))) (length (searched told q.search)) = (λ j. reply.Stepped name (more j) (count j)) in
      let here : query_of told new ≡ advanced docs (query_of told (get_or d.queries i q)) = on ∙ ap (λ x. advanced docs (query_of told x)) there in
      let moved : IsDeskBacked after d = subst (λ (f : Option Files). IsDeskBacked f d) (sym same) backed in
      exit (event.Step name docs) told after d n (reply.Stepped name credit long) _ (step-stepped (state_of told d) name docs (query_of told q) (named-here told name d.queries i q place there))
      (ap (λ (f : Option Files). state_of f n) same ∙ state-eq refl refl refl refl (stepped-at told told name docs d.queries i q new refl place here) refl refl refl) shown
      (record {
        repository = moved.repository;
        queries = All-set (IsQueryBacked after d.repository d.kind) d.queries i new now moved.queries;
        merge = moved.merge;
        counts = moved.counts;
        cache = kept;
      })

  -- ---- its results

  -- documents are left
  pub not-yet : q.search.usable ≡ true → (b : Bool) → b ≡ (q.search.at.credit == length (searched told q.search)) → b ≡ false → nat_lt q.search.at.credit (length (searched told q.search)) ≡ true
  not-yet usable b is not =
      let other = eqb-false q.search.at.credit (length (searched told q.search)) (sym is ∙ not) in
      let most = credit-le told q.search.snapshot q.search.at q.search.place in
      lt-ltb q.search.at.credit (length (searched told q.search)) (lt_of_le-ne most other)

  -- none is
  pub all-passed : (b : Bool) → b ≡ (q.search.at.credit == length (searched told q.search)) → b ≡ true → nat_lt q.search.at.credit (length (searched told q.search)) ≡ false
  all-passed b is whole =
      let same = eqb-true q.search.at.credit (length (searched told q.search)) (sym is ∙ whole) in
      le-ltb q.search.at.credit (length (searched told q.search)) (omega (arith, same))

  pub not-yet-shown : nat_lt q.search.at.credit (length (searched told q.search)) ≡ true → step (state_of told d) (event.Show name) ≡ refuse (state_of told d) (NotYet name)
  not-yet-shown less = show-notyet (state_of told d) name (query_of told q) (named-here told name d.queries i q place there) less

  pub not-yet-explained : (rank : ℕ) → nat_lt q.search.at.credit (length (searched told q.search)) ≡ true → step (state_of told d) (event.Explain name rank) ≡ refuse (state_of told d) (NotYet name)
  not-yet-explained rank less = explain-notyet (state_of told d) name rank (query_of told q) (named-here told name d.queries i q place there) less

  -- they are the answer over the documents of its opening
  pub shown-entries : (hits : List Hit) → IsDistinct bytes_eq (docnos_of q.search.snapshot) → IsQueryBacked told d.repository d.kind q
      → IsAnswerOf d.kind (priors_with (priors_in told d.repository.priors)) q.search (searched told q.search) hits
      → map entry_of hits ≡ answer d.kind (priors_with (priors_in told d.repository.priors)) (whole_checked q.search.checked) q.search.most (searched told q.search)
  shown-entries hits distinct backed answered =
      let docs = searched told q.search in
      let priors = priors_with (priors_in told d.repository.priors) in
      let own = own-docnos docs (subst (λ ns. IsDistinct bytes_eq ns) (sym (docnos-live told q.search.snapshot)) distinct) in
      ranking_told d.kind priors (whole_checked q.search.checked) docs hits q.search.most own
      (subst (λ (n : NetworkTree). IsAnswerBy d.kind priors (filters_of q.search) n docs q.search.most hits) backed.network answered)

  pub show-exit : (hits : List Hit) (scale : ℕ) → scale ≡ (whole_checked q.search.checked).scale → nat_lt q.search.at.credit (length (searched told q.search)) ≡ false
      → map entry_of hits ≡ answer d.kind (priors_with (priors_in told d.repository.priors)) (whole_checked q.search.checked) q.search.most (searched told q.search) → IsDeskBacked told d
      → Steps (event.Show name) told told d d (reply.Results name scale hits)
  show-exit hits scale same passed entries backed =
      exit (event.Show name) told told d d (reply.Results name scale hits) _ (show-results (state_of told d) name (query_of told q) (named-here told name d.queries i q place there) passed) refl
      (hits, (ap (λ e. reply.Results name e hits) same, entries)) backed
