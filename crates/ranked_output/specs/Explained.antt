-- The text of `explain`: why a hit has its score. The format is the project's own.
use Rattle.std.specs.Prelude.{ℕ, ◌+◌, List, [], ◌∷◌, ◌++◌, codes}
use Rattle.std.specs.Fmt.{decimal}
use Rattle.std.specs.List.{flat_map}
use Rattle.belief_nodes.specs.declared.leaf_count.LeafCount.{LeafCount}
use Rattle.log_chain.specs.Score.{score}
use Rattle.query_printer.specs.Printed.{context_text, printed}
use Rattle.ri_base.specs.Expression.{expr_tree}
use Rattle.ri_base.specs.Pair.{Pair}
use Rattle.ri_base.specs.declared.fraction.Fraction.{Fraction}
use Rattle.ri_base.specs.declared.hit.Hit.{Hit}
use Rattle.ri_base.specs.declared.hit.LeafStats.{LeafStats}
use Rattle.ranked_output.specs.Texts.{hit_text, score_text}
use Rattle.ranked_output.specs.declared.explained.Explained.{Explained}
use Rattle.ranked_output.specs.declared.explained.LeafShown.{LeafShown}
use Rattle.ranked_output.specs.declared.explained.LeafShown.TheVariants.{Extents, Prior}

abbrev pub named_number : List ℕ → ℕ → List ℕ
named_number name n = 32 ∷ name ++ 32 ∷ decimal n

-- tf TF len LEN cf CF total C
abbrev pub counts_columns : LeafCount → LeafStats → List ℕ
counts_columns count stats =
    named_number (codes "tf") count.tf ++ named_number (codes "len") count.len ++ named_number (codes "cf") stats.cf
    ++ named_number (codes "total") stats.total

-- belief P/Q, as the numbers stand
abbrev pub belief_column : Fraction → List ℕ
belief_column belief = codes " belief " ++ decimal belief.p ++ 47 ∷ decimal belief.q

-- at BEGIN END
abbrev pub place_line : Pair → List ℕ
place_line x = codes "at " ++ decimal x.begin ++ 32 ∷ decimal x.end ++ 10 ∷ []

abbrev pub places_text : List Pair → List ℕ
places_text xs = flat_map place_line xs

-- leaf I TEXT tf TF len LEN cf CF total C belief P/Q, and then its extents; or prior I NAME belief P/Q
abbrev pub leaf_text : ℕ → LeafShown → List ℕ
leaf_text i (Extents expr context count stats extents belief) =
    codes "leaf " ++ decimal i ++ 32 ∷ printed (expr_tree expr) ++ context_text context ++ counts_columns count stats
    ++ belief_column belief ++ 10 ∷ places_text extents
leaf_text i (Prior name belief) = codes "prior " ++ decimal i ++ 32 ∷ name ++ belief_column belief ++ 10 ∷ []

-- the lines of leaves of which the first has this number
abbrev pub leaves_text : ℕ → List LeafShown → List ℕ
leaves_text i [] = []
leaves_text i (leaf ∷ leaves) = leaf_text i leaf ++ leaves_text (i + 1) leaves

-- result RANK DOCNO BEGIN END
unfoldable pub result_line : ℕ → Hit → List ℕ
result_line rank hit = codes "result " ++ decimal rank ++ 32 ∷ hit_text hit.docno hit.begin hit.end

-- scale E
unfoldable pub scale_line : ℕ → List ℕ
scale_line scale = codes "scale " ++ decimal scale ++ 10 ∷ []

-- score -SCORE, of so many millionths
unfoldable pub score_line : ℕ → List ℕ
score_line millionths = codes "score -" ++ score_text millionths ++ 10 ∷ []

abbrev pub explained_text : Explained → List ℕ
explained_text e = result_line e.rank e.hit ++ scale_line e.scale ++ leaves_text 1 e.leaves ++ score_line (score e.scale e.hit.key)
