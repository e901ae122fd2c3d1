-- What is counted of a leaf in a window of a document, and over a list of documents.
use Rattle.std.specs.Prelude.{ℕ, List, sum_by}
use Rattle.ri_base.specs.Documents.{Document}
use Rattle.ri_base.specs.Pair.{Pair}
use Rattle.ri_base.specs.declared.hit.LeafStats.{LeafStats}
pub use Rattle.extent_evaluation.specs.Counts.{counted, len, tf, whole}
use Rattle.query_check.specs.Leaves.{LeafTree, extents, prior}
use Rattle.belief_nodes.specs.declared.leaf_count.LeafCount.{LeafCount}

-- the counts of a leaf in a window; of a prior nothing is counted
abbrev pub count_in : Document → Pair → LeafTree → LeafCount
count_in d w (extents x c) = record { tf = tf x d w c; len = len d w c }
count_in d w (prior n) = record { tf = 0; len = 0 }

-- the counts of a leaf in the document as a whole
abbrev pub count_of : Document → LeafTree → LeafCount
count_of d l = count_in d (whole d) l

abbrev pub whole_tf : LeafTree → Document → ℕ
whole_tf l d = (count_of d l).tf

abbrev pub whole_len : LeafTree → Document → ℕ
whole_len l d = (count_of d l).len

-- the sums over a list of documents, each as a whole
abbrev pub stats_of : List Document → LeafTree → LeafStats
stats_of docs l = record { cf = sum_by (whole_tf l) docs; total = sum_by (whole_len l) docs }
