use Rattle.std.proofs.Common.{◌∙◌, map, subst, sym}
use Rattle.std.specs.Prelude.{Contains}
use Rattle.std.specs.List.{All}
use Rattle.query_check.specs.Leaves.{leaf_tree}
use Rattle.range_tables.specs.Asks.{all_leaf_names, all_leaf_words}
use Rattle.range_tables.proofs.table.table_of.Goals as goal

pub all_counts-requires : goal.all_counts-requires
all_counts-requires g c =
    let leaves = map leaf_tree c.args.leaves.now in
    record {
      words = subst (λ ks. All (Contains ks) (all_leaf_words leaves)) (sym c.as_slice.ensures.keys) (subst (All (Contains c.in_ok-terms.terms.keys)) (c.deref.ensures.value ∙ c.in_ok-asked.ensures.terms) c.in_ok-terms.ensures);
      names = subst (λ ks. All (Contains ks) (all_leaf_names leaves)) (sym c.as_slice-2.ensures.keys) (subst (All (Contains c.in_ok-names.names.keys)) (c.deref-2.ensures.value ∙ c.in_ok-asked.ensures.names) c.in_ok-names.ensures);
    }
