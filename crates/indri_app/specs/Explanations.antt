-- The text that explains a result, told as its entry and the document in which it was found.
use Rattle.std.specs.Prelude.{ℕ, ◌+◌, List, [], ◌∷◌, ◌++◌, codes}
use Rattle.std.specs.Fmt.{decimal}
use Rattle.log_chain.specs.Score.{score}
use Rattle.ri_base.specs.Documents.{Document}
use Rattle.ri_base.specs.Pair.{Pair}
use Rattle.ri_base.specs.Ratio.{Ratio}
use Rattle.ri_base.specs.declared.hit.LeafStats.{LeafStats}
use Rattle.extent_lists.specs.Pairs.{pair}
use Rattle.query_printer.specs.Printed.{context_text, printed}
use Rattle.query_check.specs.Leaves.{LeafTree, extents, prior}
use Rattle.document_scoring.specs.Candidates.{Candidate}
use Rattle.document_scoring.specs.Counts.{count_in}
use Rattle.ranked_output.specs.Explained.{counts_columns, places_text, scale_line, score_line}
use Rattle.ranked_output.specs.Texts.{hit_text}
use Rattle.result_explanation.specs.Explanation.{prior_name, shown_extents}
use Rattle.desk.specs.Told.{Line}

-- belief P/Q, as the numbers stand
abbrev pub belief_text : Ratio → List ℕ
belief_text belief = codes " belief " ++ decimal belief.p ++ 47 ∷ decimal belief.q

-- leaf I TEXT tf TF len LEN cf CF total C belief P/Q, and then its extents in the window; or prior I NAME belief P/Q
abbrev pub leaf_text : List (List ℕ) → Document → Pair → ℕ → LeafTree → LeafStats → Ratio → List ℕ
leaf_text names d w i (extents x context) stats belief =
    codes "leaf " ++ decimal i ++ 32 ∷ printed x ++ context_text context ++ counts_columns (count_in d w (extents x context)) stats
    ++ belief_text belief ++ 10 ∷ places_text (shown_extents x d w context)
leaf_text names d w i (prior number) stats belief = codes "prior " ++ decimal i ++ 32 ∷ prior_name names number ++ belief_text belief ++ 10 ∷ []

-- the lines of leaves in a window of a document, of which the first has this number
abbrev pub leaves_text : List (List ℕ) → Document → Pair → ℕ → List LeafTree → List LeafStats → List Ratio → List ℕ
leaves_text names d w i [] stats beliefs = []
leaves_text names d w i (l ∷ ls) [] beliefs = []
leaves_text names d w i (l ∷ ls) (s ∷ ss) [] = []
leaves_text names d w i (l ∷ ls) (s ∷ ss) (b ∷ bs) = leaf_text names d w i l s b ++ leaves_text names d w (i + 1) ls ss bs

-- result RANK DOCNO BEGIN END
abbrev pub result_text : ℕ → Candidate → List ℕ
result_text rank c = codes "result " ++ decimal rank ++ 32 ∷ hit_text c.docno c.begin c.end

-- the line, the scale, the leaves and the score
abbrev pub explanation_text : Line → List ℕ
explanation_text l =
    result_text l.rank l.entry.candidate ++ scale_line l.query.scale
    ++ leaves_text l.names l.document (pair l.entry.candidate.begin l.entry.candidate.end) 1 l.query.leaves l.stats l.entry.candidate.beliefs
    ++ score_line (score l.query.scale l.entry.key)
