-- The order of results is true of the beliefs behind them.
use Rattle.std.proofs.Common.{◌≡◌, ◌∙◌, ◌<◌, ℕ, List, Option, None, Some, drop, get_or, map, take, sym, ap, subst, arith}
use Rattle.std.specs.List.{IsDistinct, drop-map}
use Rattle.std.specs.Str.{bytes_eq}
use Rattle.std.specs.List.Sorted.{IsPermutation}
use Rattle.std.proofs.lemmas.List.{map-id}
use Rattle.std.proofs.lemmas.List.Sorted.{IsPermutation-map}
use Rattle.std.proofs.lemmas.Simd.{map-map}
use Rattle.ri_base.specs.Documents.{Document}
use Rattle.ri_base.specs.declared.hit.Hit.{Hit}
use Rattle.store_ends.specs.Files.{Files}
use Rattle.smoothing.specs.declared.rule.RuleKind.{RuleKind}
use Rattle.query_check.specs.Answers.{whole_checked}
use Rattle.query_check.specs.Check.{CheckedTree}
use Rattle.query_check.specs.Scale.{scale}
use Rattle.belief_nodes.specs.Network.{NetworkTree}
use Rattle.belief_nodes.specs.Priors.{Prior}
use Rattle.holdings.specs.MarkedParts.{docnos_of}
use Rattle.holdings.proofs.LiveLemmas.{docnos-live}
use Rattle.ranked_output.specs.Texts.{lines_of}
use Rattle.true_order.specs.Ranked.{hit_beliefs}
use Rattle.true_order.specs.TrueOrder.{IsTrueOrder}
use Rattle.ranker.specs.Ranking.{IsAnswerBy, IsRankingBy, query_candidates, query_network}
use Rattle.ranker.specs.Searches.{IsAnswerOf, filters_of, searched}
use Rattle.desk.specs.Priors.{priors_with}
use Rattle.session_events.specs.declared.event.Event.TheVariants as event
use Rattle.desk.specs.declared.reply.Refusal.{Refusal}
use Rattle.desk.specs.declared.reply.Reply.TheVariants as reply
use Rattle.sorted_front.specs.Front.{in_order}
use Rattle.sorted_front.proofs.FrontLemmas.{ranking_shows}
use Rattle.desk.specs.Answers.{Entry, beliefs_behind, entry, entry_of, entry_order}
use Rattle.desk.specs.Backed.{Keeps, state_of}
use Rattle.desk.specs.Orders.{IsTrueOf, IsTrueReply}
use Rattle.desk.specs.Queries.{IsQueryBacked, priors_in}
use Rattle.desk.specs.State.{Query, State}
use Rattle.desk.specs.declared.query.OpenQuery.{OpenQuery}
use Rattle.desk.proofs.Naming.{IsPlace, named-here}
use Rattle.desk.proofs.Telling.{HaveOwnDocnos, entries_apart, entries_total, keyed, own-docnos, sorted_entries}

module _ (kind : RuleKind) (priors : List Prior) (q : CheckedTree) (docs : List Document) (own : HaveOwnDocnos docs) where
  -- a ranking is all entries in order
  ranked-entries : (ranking : List Hit) → IsRankingBy kind priors q.filters (query_network q docs) docs ranking → map entry_of ranking ≡ in_order entry_order (map (entry q.tree) (query_candidates kind priors q docs))
  ranked-entries ranking ranked =
      let all = map (entry q.tree) (query_candidates kind priors q docs) in
      sym (map-id (map entry_of ranking))
      ∙ ranking_shows entry_order entries_total (λ e. e) all (map entry_of ranking) (entries_apart kind priors (query_network q docs) q.tree docs q.filters own)
      (subst (λ es. IsPermutation all es) (keyed q.tree ranking ranked.keys) (IsPermutation-map (entry q.tree) _ _ ranked.all)) (sorted_entries ranking ranked.sorted)
      ∙ map-id (in_order entry_order all)

  -- the beliefs behind the first are those of the other hits
  behind-first : (ranking : List Hit) (k : ℕ) → IsRankingBy kind priors q.filters (query_network q docs) docs ranking → beliefs_behind kind priors q k docs ≡ map hit_beliefs (drop k ranking)
  behind-first ranking k ranked =
      ap (λ es. map (λ (e : Entry). e.candidate.beliefs) (drop k es)) (sym (ranked-entries ranking ranked)) ∙ ap (map (λ (e : Entry). e.candidate.beliefs)) (drop-map entry_of k ranking)
      ∙ map-map (λ (e : Entry). e.candidate.beliefs) entry_of (drop k ranking)

  pub answer-ordered : (k e : ℕ) (hits : List Hit) → e ≡ scale q.tree → IsAnswerBy kind priors q.filters (query_network q docs) docs k hits
      → ((ranking : List Hit) → IsRankingBy kind priors q.filters (query_network q docs) docs ranking → IsTrueOrder q.tree (lines_of (scale q.tree) (take k ranking)) (map hit_beliefs (drop k ranking)))
      → IsTrueOrder q.tree (lines_of e hits) (beliefs_behind kind priors q k docs)
  answer-ordered k e hits whole answered order =
      let ranking = answered.0 in
      let ranked = answered.1 in
      subst (λ bs. IsTrueOrder q.tree (lines_of e hits) bs) (sym (behind-first ranking k ranked))
      (subst (λ n. IsTrueOrder q.tree (lines_of n hits) (map hit_beliefs (drop k ranking))) (sym whole)
      (subst (λ hs. IsTrueOrder q.tree (lines_of (scale q.tree) hs) (map hit_beliefs (drop k ranking))) (sym answered.2) (order ranking ranked)))

-- ---- what is shown

-- a refusal claims nothing
pub true-refused : (s : State) (o : Option Query) (why : Refusal) → IsTrueOf s o (reply.Refused why)
true-refused s None why = tt
true-refused s (Some q) why = tt

-- what the law of rankings says
abbrev pub RankingsAreTrue : Type 0
RankingsAreTrue = (kind : RuleKind) (priors : List Prior) (q : CheckedTree) (docs : List Document) (ranking : List Hit) (k : ℕ) → IsRankingBy kind priors q.filters (query_network q docs) docs ranking → 0 < scale q.tree
    → IsTrueOrder q.tree (lines_of (scale q.tree) (take k ranking)) (map hit_beliefs (drop k ranking))

module _ (told : Option Files) (d : Keeps) (name : List ℕ) (i : ℕ) (q : OpenQuery) (place : IsPlace name d.queries i q) (there : q ≡ get_or d.queries i q) where
  pub shown-true : RankingsAreTrue → (e : ℕ) (hits : List Hit) → e ≡ q.search.checked.scale → IsDistinct bytes_eq (docnos_of q.search.snapshot) → IsQueryBacked told d.repository d.kind q
      → IsAnswerOf d.kind (priors_with (priors_in told d.repository.priors)) q.search (searched told q.search) hits → IsTrueReply (state_of told d) (event.Show name) (reply.Results name e hits)
  shown-true law e hits is distinct backed answered =
      let docs = searched told q.search in
      let priors = priors_with (priors_in told d.repository.priors) in
      let checked = whole_checked q.search.checked in
      let kept = q.search.checked.kept in
      let whole : e ≡ scale checked.tree = is ∙ kept.whole in
      let some : 0 < scale checked.tree = let positive = kept.positive in let same = kept.whole in omega (arith, positive, same) in
      let own = own-docnos docs (subst (λ ns. IsDistinct bytes_eq ns) (sym (docnos-live told q.search.snapshot)) distinct) in
      subst (λ (o : Option Query). IsTrueOf (state_of told d) o (reply.Results name e hits)) (sym (named-here told name d.queries i q place there))
      (answer-ordered d.kind priors checked docs own q.search.most e hits whole
      (subst (λ (n : NetworkTree). IsAnswerBy d.kind priors (filters_of q.search) n docs q.search.most hits) backed.network answered)
      (λ ranking ranked. law d.kind priors checked docs ranking q.search.most ranked some))
