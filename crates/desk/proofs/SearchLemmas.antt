-- A search that has passed all documents.
use Rattle.std.proofs.Common.{◌≡◌, ◌<◌, ◌≤◌, ◌+◌, ℕ, get_or, List, Option, true, length, map, refl, sym, ap, ◌∙◌, arith}
use Rattle.std.specs.Prelude.{min, All}
use Rattle.std.proofs.lemmas.List.{length-map}
use Rattle.std.proofs.Math.Logic.{∥∥₁_elim}
use Rattle.std.proofs.Math.Nat.{ℕ_set}
use Rattle.ri_base.specs.Documents.{Document}
use Rattle.ri_base.specs.Ratio.{ratio_of}
use Rattle.ri_base.specs.declared.hit.Hit.{Hit}
use Rattle.ri_base.specs.declared.hit.LeafStats.{LeafStats}
use Rattle.store_ends.specs.Files.{Files}
use Rattle.smoothing.specs.declared.rule.RuleKind.{RuleKind}
use Rattle.query_check.specs.Answers.{whole_checked}
use Rattle.query_check.specs.Check.{CheckedTree}
use Rattle.query_check.specs.Leaves.{leaf_tree}
use Rattle.query_check.specs.declared.checked.Checked.{Checked}
use Rattle.belief_nodes.specs.Network.{NetworkTree, network_tree}
use Rattle.belief_nodes.specs.Priors.{Prior}
use Rattle.disk_index.specs.Snapshots.{Marked, live}
use Rattle.document_scoring.specs.Counts.{stats_of}
use Rattle.ranker.specs.Searches.{IsAnswerOf, IsSameSearch, filters_of, searched}
use Rattle.ranker.specs.Windows.{AreWindows}
use Rattle.ranker.specs.declared.search.Search.{Search}
use Rattle.desk.specs.Ranking.{IsAnswer}
use Rattle.desk.specs.Searching.{HasNetwork, HasSearched}
use Rattle.desk.proofs.RankingLemmas.{IsAnswer-by}

-- a new search that was stepped by all documents
pub has-searched : (parts : List Marked) (q : CheckedTree) (stats : List LeafStats) (most docs : ℕ) (s t : Search) → s.snapshot ≡ parts → whole_checked s.checked ≡ q
    → network_tree s.network ≡ record { leaves = q.leaves; range = q.range; stats = stats; tree = q.tree } → s.most ≡ most → s.at.credit ≡ 0
    → ((told : Option Files) → docs ≡ length (live told parts)) → ((told : Option Files) → t.at.credit ≡ min (s.at.credit + docs) (length (searched told s))) → IsSameSearch s t → t.usable ≡ true
    → HasSearched parts q stats most t
has-searched parts q stats most docs s t snapshot checked network many none all credit same usable = record {
  snapshot = same.snapshot ∙ snapshot;
  checked = same.checked ∙ checked;
  network = same.network ∙ network;
  most_is = same.most ∙ many;
  usable = usable;
  all = λ told.
      let here : length (searched told s) ≡ length (live told parts) = ap (λ ms. length (live told ms)) snapshot in
      let there : length (searched told t) ≡ length (searched told s) = ap (λ ms. length (live told ms)) same.snapshot in
      let count = all told in
      let now = credit told in
      grind (arith, here, there, count, now, none);
}

-- the answer of such a search, where the statistics are those of its documents
pub search-answer : (kind : RuleKind) (priors : List Prior) (s : Search) (docs : List Document) (hits : List Hit) → HasNetwork s → (network_tree s.network).stats ≡ map (stats_of docs) (whole_checked s.checked).leaves → IsAnswerOf kind priors s docs hits → IsAnswer kind priors (whole_checked s.checked) docs s.most hits
search-answer kind priors s docs hits network summed h =
    IsAnswer-by kind priors (whole_checked s.checked) (filters_of s) (network_tree s.network) (network_tree s.network).stats docs s.most hits refl network summed h

-- the network of a search that was made for a query
pub has-network : (parts : List Marked) (q : CheckedTree) (stats : List LeafStats) (most : ℕ) (s : Search) → HasSearched parts q stats most s → HasNetwork s
has-network parts q stats most s has =
    let own : stats ≡ (network_tree s.network).stats = sym (ap (λ (n : NetworkTree). n.stats) has.network) in
    has.network ∙ ap (λ (ss : List LeafStats). record { leaves = q.leaves; range = q.range; stats = ss; tree = q.tree }) own
    ∙ ap (λ (c : CheckedTree). record { leaves = c.leaves; range = c.range; stats = (network_tree s.network).stats; tree = c.tree }) (sym has.checked)

-- its statistics are those of the documents, as they read by files that are the same
pub summed-by : (parts : List Marked) (q : CheckedTree) (stats : List LeafStats) (most : ℕ) (s : Search) (told here : Option Files) → HasSearched parts q stats most s → here ≡ told → stats ≡ map (stats_of (live told parts)) q.leaves
    → (network_tree s.network).stats ≡ map (stats_of (searched here s)) (whole_checked s.checked).leaves
summed-by parts q stats most s told here has same summed =
    ap (λ (n : NetworkTree). n.stats) has.network ∙ summed
    ∙ sym (ap (λ (f : Option Files). map (stats_of (searched f s)) (whole_checked s.checked).leaves) same ∙ ap (λ (ms : List Marked). map (stats_of (live told ms)) (whole_checked s.checked).leaves) has.snapshot
    ∙ ap (λ (c : CheckedTree). map (stats_of (live told parts)) c.leaves) has.checked)

-- the network has as many leaves as the query
pub as-many-leaves : (s : Search) (checked : Checked) → HasNetwork s → checked ≡ s.checked → length (network_tree s.network).leaves ≡ length checked.leaves.items
as-many-leaves s checked network is =
    let own : length (network_tree s.network).leaves ≡ length (map leaf_tree s.checked.leaves.items) = ap (λ (n : NetworkTree). length n.leaves) network in
    own ∙ length-map s.checked.leaves.items leaf_tree ∙ sym (ap (λ (c : Checked). length c.leaves.items) is)

-- each result has as many beliefs as there are leaves
pub as-many-beliefs : (docs : List Document) (n leaves most : ℕ) (hits : List Hit) → n ≡ leaves → ∥ AreWindows docs n most hits ∥₁ → All (λ hit. length hit.fractions ≡ leaves) hits
as-many-beliefs docs n leaves most hits same windows = λ k hit inside.
    ∥∥₁_elim windows (ℕ_set (length (get_or hits k hit).fractions) leaves) (λ h. sym (length-map (get_or hits k hit).fractions ratio_of) ∙ (h.each k hit inside).2.each ∙ same)

-- there are no more results than were searched for
pub as-few : (docs : List Document) (n most limit : ℕ) (hits : List Hit) → most ≤ limit → ∥ AreWindows docs n most hits ∥₁ → length hits ≤ limit
as-few docs n most limit hits fits windows =
    let no : limit < length hits → ⊥ = λ more. ∥∥₁_elim windows (λ x y. absurd x) (λ h. let few = h.few in omega (arith, few, fits, more)) in
    grind (arith, no)
