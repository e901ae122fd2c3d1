-- Tables of the first parts, and of the next.
use Rattle.std.proofs.Common.{◌≡◌, ◌<◌, ◌≤◌, ◌+◌, ◌∙◌, ◌++◌, ◌∷◌, [], ℕ, List, length, map, take, get_or, refl, sym, ap, subst, append-nil, append_assoc}
use Rattle.std.specs.Prelude.{flat_map}
use Rattle.std.proofs.lemmas.List.{take_all, take_more}
use Rattle.std.proofs.lemmas.List.Concat.{flat_map-cons}
use Rattle.ri_base.specs.Documents.{Document}
use Rattle.query_check.specs.Leaves.{LeafTree, leaf_tree}
use Rattle.query_check.specs.declared.leaf_kind.LeafKind.{LeafKind}
use Rattle.range_bounds.specs.Tables.{AreTablesOf, IsTableOf}
use Rattle.range_bounds.specs.declared.table.RangeTable.{RangeTable}

-- ---- what leaves ask for

module _ (f : LeafTree → List (List ℕ)) where
  asked_push : (leaves : List LeafKind) (leaf : LeafKind) → flat_map f (map leaf_tree (leaves ++ leaf ∷ [])) ≡ flat_map f (map leaf_tree leaves) ++ f (leaf_tree leaf)
  asked_push [] leaf = flat_map-cons f (leaf_tree leaf) [] ∙ append-nil (f (leaf_tree leaf))
  asked_push (l ∷ ls) leaf =
      flat_map-cons f (leaf_tree l) (map leaf_tree (ls ++ leaf ∷ [])) ∙ ap (λ xs. f (leaf_tree l) ++ xs) (asked_push ls leaf)
      ∙ sym (append_assoc (f (leaf_tree l)) (flat_map f (map leaf_tree ls)) (f (leaf_tree leaf))) ∙ ap (λ xs. xs ++ f (leaf_tree leaf)) (sym (flat_map-cons f (leaf_tree l) (map leaf_tree ls)))

  pub asked_more : (leaves : List LeafKind) (i : ℕ) (leaf : LeafKind) (mid now : List (List ℕ)) → i < length leaves → leaf ≡ get_or leaves i leaf → mid ≡ flat_map f (map leaf_tree (take i leaves))
      → now ≡ mid ++ f (leaf_tree leaf) → now ≡ flat_map f (map leaf_tree (take (i + 1) leaves))
  asked_more leaves i leaf mid now inside here is more =
      let whole : take (i + 1) leaves ≡ take i leaves ++ leaf ∷ [] = take_more leaves i leaf inside ∙ ap (λ x. take i leaves ++ x ∷ []) (sym here) in
      more ∙ ap (λ xs. xs ++ f (leaf_tree leaf)) is ∙ sym (ap (λ ls. flat_map f (map leaf_tree ls)) whole ∙ asked_push (take i leaves) leaf)

  pub asked_all : (leaves : List LeafKind) (i : ℕ) (now : List (List ℕ)) → length leaves ≤ i → now ≡ flat_map f (map leaf_tree (take i leaves)) → now ≡ flat_map f (map leaf_tree leaves)
  asked_all leaves i now end is = is ∙ ap (λ ls. flat_map f (map leaf_tree ls)) (take_all i leaves end)

-- ---- tables

tables_push : (leaves : List LeafTree) (docs : List (List Document)) (tables : List RangeTable) (d : List Document) (table : RangeTable) → AreTablesOf leaves docs tables → IsTableOf leaves d table
    → AreTablesOf leaves (docs ++ d ∷ []) (tables ++ table ∷ [])
tables_push leaves [] [] d table h k = (k, tt)
tables_push leaves [] (t ∷ ts) d table h k = absurd h
tables_push leaves (x ∷ xs) [] d table h k = absurd h
tables_push leaves (x ∷ xs) (t ∷ ts) d table h k = (h.0, tables_push leaves xs ts d table h.1 k)

map_push : {X : Type 0} (f : X → List Document) (ys : List X) (x : X) → map f (ys ++ x ∷ []) ≡ map f ys ++ f x ∷ []
map_push f [] x = refl
map_push f (y ∷ ys) x = ap (λ zs. f y ∷ zs) (map_push f ys x)

pub tables_more : {X : Type 0} (leaves : List LeafTree) (f : X → List Document) (xs : List X) (i : ℕ) (x : X) (tables now : List RangeTable) (table : RangeTable) → i < length xs → x ≡ get_or xs i x → now ≡ tables ++ table ∷ []
    → AreTablesOf leaves (map f (take i xs)) tables → IsTableOf leaves (f x) table → AreTablesOf leaves (map f (take (i + 1) xs)) now
tables_more leaves f xs i x tables now table inside here is h k =
    let whole : take (i + 1) xs ≡ take i xs ++ x ∷ [] = take_more xs i x inside ∙ ap (λ y. take i xs ++ y ∷ []) (sym here) in
    subst (AreTablesOf leaves (map f (take (i + 1) xs))) (sym is) (subst (λ ds. AreTablesOf leaves ds (tables ++ table ∷ [])) (sym (ap (map f) whole ∙ map_push f (take i xs) x))
    (tables_push leaves (map f (take i xs)) tables (f x) table h k))
