-- A result that is explained.
use Rattle.std.proofs.Common.{◌≡◌, ◌<◌, ◌≤◌, ◌-◌, ℕ, zero, suc, List, Option, None, map, [], ◌∷◌, get_or, length, take, refl, sym, ap, subst, ◌∙◌, arith, Some}
use Rattle.std.specs.List.{All, slice_get}
use Rattle.std.proofs.lemmas.List.Elements.{All-get_or}
use Rattle.std.proofs.lemmas.Option.{slice_get_within, get_or_from_slice_get}
use Rattle.ri_base.specs.declared.hit.Hit.{Hit}
use Rattle.ri_base.specs.Documents.{Document}
use Rattle.ri_base.specs.declared.hit.LeafStats.{LeafStats}
use Rattle.smoothing.specs.declared.rule.RuleKind.{RuleKind}
use Rattle.query_check.specs.Check.{CheckedTree}
use Rattle.belief_nodes.specs.Priors.{Prior}
use Rattle.disk_index.specs.Snapshots.{Marked}
use Rattle.document_scoring.specs.Counts.{stats_of}
use Rattle.ranked_output.specs.Explained.{explained_text}
use Rattle.ranked_output.specs.declared.explained.Explained.{Explained}
use Rattle.result_explanation.specs.Explanation.{IsExplanation}
use Rattle.desk.specs.Answer.{ExplainsRank, IsAnswerText, document_with, hit_of_rank}
use Rattle.desk.specs.Ranking.{IsAnswer}
use Rattle.desk.specs.Shown.{explanation}
use Rattle.desk.specs.Places.{part_at}

-- what holds of all of a list holds of one that stands in it
pub of_each : {X : Type 0} (P : X → Type 0) (xs : List X) (i : ℕ) (x : X) → All P xs → slice_get xs i ≡ Some x → P x
of_each P xs i x all there =
    let here : get_or xs i x ≡ x = get_or_from_slice_get xs i x x there in
    subst P here (All-get_or P xs i x (slice_get_within xs i x there) all)

get_of_front : {X : Type 0} (xs : List X) (n i : ℕ) → i < n → slice_get (take n xs) i ≡ slice_get xs i
get_of_front [] zero i h = refl
get_of_front [] (suc n) i h = refl
get_of_front (x ∷ xs) zero i h = absurd (omega (arith, h))
get_of_front (x ∷ xs) (suc n) zero h = refl
get_of_front (x ∷ xs) (suc n) (suc i) h = get_of_front xs n i (omega (arith, h))

-- the last of the first hits of a ranking
pub hit_shown : (ranking hits : List Hit) (rank : ℕ) → 1 ≤ rank → hits ≡ take rank ranking → slice_get hits (rank - 1) ≡ hit_of_rank rank ranking
hit_shown ranking hits rank some first = ap (λ (hs : List Hit). slice_get hs (rank - 1)) first ∙ get_of_front ranking rank (rank - 1) (omega (arith, some))

-- a part that is there, by its number
pub part-is : (parts : List Marked) (n : ℕ) (m : Marked) → n < length parts → m ≡ get_or parts n m → part_at parts n ≡ m
part-is [] n m inside at = absurd (omega (arith, inside))
part-is (p ∷ parts) zero m inside at = sym at
part-is (p ∷ parts) (suc n) m inside at = part-is parts n m (omega (arith, inside)) at

-- ---- the answer

module _ (rule : RuleKind) (priors : List Prior) (names : List (List ℕ)) (rank most : ℕ) (q : CheckedTree) (docs : List Document) (hits : List Hit) (some : 1 ≤ rank) (searched : most ≡ rank)
    (found : IsAnswer rule priors q docs most hits) where
  shown : slice_get hits (rank - 1) ≡ hit_of_rank rank found.0
  shown = hit_shown found.0 hits rank some (found.2 ∙ ap (λ n. take n found.0) searched)

  -- there are fewer results
  pub none-shown : slice_get hits (rank - 1) ≡ None → IsAnswerText rule priors names (explanation rank) q docs None
  none-shown none = (found.0, found.1, subst (λ (h : Option Hit). ExplainsRank names q docs rank h None) (sym none ∙ shown) refl)

  -- the result of the rank is explained
  pub hit-explained : (hit : Hit) (d : Document) (e : Explained) (stats : List LeafStats) (text : List ℕ) → slice_get hits (rank - 1) ≡ Some hit → document_with hit.docno docs ≡ Some d → IsExplanation names q stats d rank hit e
      → stats ≡ map (stats_of docs) q.leaves → text ≡ explained_text e → IsAnswerText rule priors names (explanation rank) q docs (Some text)
  hit-explained hit d e stats text here there is summed told = (
    found.0,
    found.1,
    subst (λ (h : Option Hit). ExplainsRank names q docs rank h (Some text)) (sym here ∙ shown) (record {
      document = d;
      there = there;
      explained = e;
      is = subst (λ (ss : List LeafStats). IsExplanation names q ss d rank hit e) summed is;
      text = ap Some told;
    }),
  )
