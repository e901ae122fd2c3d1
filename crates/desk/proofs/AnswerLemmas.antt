-- The first results of a ranking.
use Rattle.std.proofs.Common.{ℕ, ◌≡◌, ◌<◌, ◌≤◌, true, List, [], ◌∷◌, arith, take, drop, map, Option, Some, ap, sym, ◌∙◌, subst}
use Rattle.std.specs.Prelude.{All}
use Rattle.std.proofs.lemmas.Bool.{and_parts}
use Rattle.std.proofs.lemmas.Bool.Decides.{nat_tests}
use Rattle.std.proofs.lemmas.List.Elements.{All-cons, All-nil}
use Rattle.ri_base.specs.Documents.{Document}
use Rattle.ri_base.specs.declared.hit.Hit.{Hit}
use Rattle.ri_base.specs.declared.hit.LeafStats.{LeafStats}
use Rattle.store_ends.specs.Files.{Files}
use Rattle.command_words.specs.declared.words.TheConstants.{MAX_RESULTS}
use Rattle.smoothing.specs.declared.rule.RuleKind.{RuleKind}
use Rattle.query_check.specs.Answers.{whole_checked}
use Rattle.query_check.specs.Check.{CheckedTree}
use Rattle.query_check.specs.Leaves.{LeafTree, are_sound_leaves, extents, is_sound_leaf, prior}
use Rattle.query_check.specs.Scale.{scale}
use Rattle.belief_nodes.specs.Leaves.{HasPrior}
use Rattle.belief_nodes.specs.Priors.{Prior}
use Rattle.disk_index.specs.Snapshots.{Marked, live}
use Rattle.counts.specs.Kept.{AreSums, Kept}
use Rattle.ranker.specs.Searches.{searched}
use Rattle.ranker.specs.declared.search.Search.{Search}
use Rattle.ranked_output.specs.Texts.{lines_of}
use Rattle.true_order.specs.Ranked.{hit_beliefs}
use Rattle.true_order.specs.TrueOrder.{IsTrueOrder}
use Rattle.desk.specs.Answer.{IsAnswerText}
use Rattle.desk.specs.Ranking.{IsRanking}
use Rattle.desk.specs.Searching.{HasSearched, IsShowable, wanted}
use Rattle.desk.specs.Shown.{Shown as Told, results, shown_text, told_shown}
use Rattle.desk.specs.declared.shown.Shown.{Shown as Form}

-- the lines of the first hits of a ranking
pub result_text : (rule : RuleKind) (priors : List Prior) (names : List (List ℕ)) (k : ℕ) (labels : Option (List ℕ × List ℕ)) (q : CheckedTree) (docs : List Document) (ranking hits : List Hit) (text : List ℕ) → q.scale ≡ scale q.tree → IsRanking rule priors q docs ranking
    → IsTrueOrder q.tree (lines_of (scale q.tree) (take k ranking)) (map hit_beliefs (drop k ranking))
    → hits ≡ take k ranking → text ≡ shown_text labels (lines_of q.scale hits) → IsAnswerText rule priors names (results k labels) q docs (Some text)
result_text rule priors names k labels q docs ranking hits text whole ranked order first is =
    let sorted : IsTrueOrder q.tree (lines_of q.scale (take k ranking)) (map hit_beliefs (drop k ranking)) = subst (λ (e : ℕ). IsTrueOrder q.tree (lines_of e (take k ranking)) (map hit_beliefs (drop k ranking))) (sym whole) order in
    (ranking, record { ranked = ranked; order = sorted }, ap Some (is ∙ ap (λ hs. shown_text labels (lines_of q.scale hs)) first))

-- a prior that a leaf of a checked query names is one of nine
pub nine_priors : (leaves : List LeafTree) → are_sound_leaves leaves ≡ true → All (HasPrior 9) leaves
nine_priors [] h = All-nil (HasPrior 9)
nine_priors (l ∷ leaves) h =
    let both = and_parts (is_sound_leaf l) (are_sound_leaves leaves) h in
    All-cons (HasPrior 9) l leaves (one_of_nine l both.0) (nine_priors leaves both.1)
  where
    one_of_nine : (leaf : LeafTree) → is_sound_leaf leaf ≡ true → HasPrior 9 leaf
    one_of_nine (extents x context) e = tt
    one_of_nine (prior n) e = grind (arith, nat_tests)

-- the lines of results are what is asked for
pub results-shown : (rule : RuleKind) (priors : List Prior) (names : List (List ℕ)) (shown : Form) (count : ℕ) (labels : Option (List ℕ × List ℕ)) (most : ℕ) (q : CheckedTree) (docs : List Document) (text : Option (List ℕ))
    → told_shown shown ≡ results count labels → most ≡ wanted (told_shown shown) → IsAnswerText rule priors [] (results most labels) q docs text → IsAnswerText rule priors names (told_shown shown) q docs text
results-shown rule priors names shown count labels most q docs text is many answer =
    let same : most ≡ count = many ∙ ap wanted is in
    let right : IsAnswerText rule priors names (results count labels) q docs text = subst (λ (k : ℕ). IsAnswerText rule priors names (results k labels) q docs text) same answer in
    subst (λ (s : Told). IsAnswerText rule priors names s q docs text) (sym is) right

-- no more results are searched for than may be shown
pub results-few : (shown : Form) (count : ℕ) (labels : Option (List ℕ × List ℕ)) (most : ℕ) → told_shown shown ≡ results count labels → most ≡ wanted (told_shown shown) → IsShowable (told_shown shown) → most ≤ MAX_RESULTS
results-few shown count labels most is many fits =
    let same : most ≡ count = many ∙ ap wanted is in
    let few : count ≤ MAX_RESULTS = subst (λ (s : Told). IsShowable s) is fits in
    omega (arith, same, few)

-- ---- sums in which nothing is

pub empty-sums : (docs : List Document) (generation : ℕ) (c : List Kept) → c ≡ [] → AreSums docs generation c
empty-sums docs generation c none = subst (AreSums docs generation) (sym none) (record {
  right = λ e there same. absurd (let inside : there.0 < 0 = there.1 in omega (arith, inside));
  none_later = λ e there. absurd (let inside : there.0 < 0 = there.1 in omega (arith, inside));
})

-- the answer over the documents of a snapshot, as they read by files that are the same
pub answer-moved : (rule : RuleKind) (priors : List Prior) (names : List (List ℕ)) (shown : Told) (parts : List Marked) (q : CheckedTree) (stats : List LeafStats) (most : ℕ) (s : Search) (told here : Option Files) (text : Option (List ℕ))
    → HasSearched parts q stats most s → here ≡ told → IsAnswerText rule priors names shown (whole_checked s.checked) (searched here s) text → IsAnswerText rule priors names shown q (live told parts) text
answer-moved rule priors names shown parts q stats most s told here text has same answer =
    let docs : searched here s ≡ live told parts = ap (λ (f : Option Files). searched f s) same ∙ ap (live told) has.snapshot in
    subst (λ (c : CheckedTree). IsAnswerText rule priors names shown c (live told parts) text) has.checked
    (subst (λ (ds : List Document). IsAnswerText rule priors names shown (whole_checked s.checked) ds text) docs answer)
