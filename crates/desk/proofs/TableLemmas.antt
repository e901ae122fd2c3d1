-- The tables of a search are those of its parts.
use Rattle.std.proofs.Common.{◌≡◌, ◌⊎◌, ℕ, zero, suc, false, true, List, [], ◌∷◌, Option, Some, Contains, inl, inr, map, is_some, subst, sym, ap}
use Rattle.std.specs.Prelude.{slice_get, unwrap_or}
use Rattle.std.proofs.lemmas.Bool.{false≢true}
use Rattle.std.proofs.lemmas.List.Elements.{All-nil}
use Rattle.ri_base.proofs.ListLemmas.{Contains-none}
use Rattle.store_ends.specs.Files.{Files}
use Rattle.query_check.specs.Leaves.{LeafTree}
use Rattle.belief_nodes.specs.Network.{network_tree}
use Rattle.disk_index.specs.Blocks.{IsBlockIn}
use Rattle.disk_index.specs.Cache.{CacheKeeps, Cached, KeptBlock}
use Rattle.disk_index.specs.Parts.{IsPartBacked, IsPartIntact, reads}
use Rattle.disk_index.specs.Snapshots.{AreBacked, AreIntact, IsFileAmong, Marked}
use Rattle.range_bounds.specs.Tables.{AreTablesOf, IsTableOf}
use Rattle.range_bounds.specs.declared.table.RangeTable.{RangeTable}
use Rattle.ranker.specs.Passed.{part_at}
use Rattle.ranker.specs.Searches.{AreTold}
use Rattle.ranker.specs.declared.search.Search.{Search}

module _ (told : Option Files) (leaves : List LeafTree) where
  -- the table at a number is that of the part of this number
  table-told : (parts : List Marked) (tables : List RangeTable) → AreTablesOf leaves (map (λ (m : Marked). reads told m.source) parts) tables
      → (number : ℕ) (t : RangeTable) → slice_get tables number ≡ Some t → IsTableOf leaves (reads told (part_at parts number).source) t
  table-told [] [] all zero t e = absurd (false≢true (ap is_some e))
  table-told [] [] all (suc number) t e = absurd (false≢true (ap is_some e))
  table-told [] (x ∷ xs) all number t e = absurd all
  table-told (m ∷ ms) [] all number t e = absurd all
  table-told (m ∷ ms) (x ∷ xs) all zero t e = subst (IsTableOf leaves (reads told m.source)) (ap (λ (o : Option RangeTable). unwrap_or o x) e) all.0
  table-told (m ∷ ms) (x ∷ xs) all (suc number) t e = table-told ms xs all.1 number t e

  -- there are no tables of no parts
  no-table : (tables : List RangeTable) → AreTablesOf leaves [] tables → (number : ℕ) (t : RangeTable) → slice_get tables number ≡ Some t → ⊥
  no-table [] all zero t e = false≢true (ap is_some e)
  no-table [] all (suc number) t e = false≢true (ap is_some e)
  no-table (x ∷ xs) all number t e = absurd all

  -- tables of the parts of a search for its leaves, or of none
  pub are-told : (s : Search) (parts chosen : List Marked) (tables : List RangeTable) → (chosen ≡ []) ⊎ (chosen ≡ parts) → s.snapshot ≡ parts → (network_tree s.network).leaves ≡ leaves → s.tables.items ≡ tables
      → AreTablesOf leaves (map (λ (m : Marked). reads told m.source) chosen) tables → AreTold told s
  are-told s parts chosen tables (inl none) snapshot own same all = λ number t e.
      let here : slice_get tables number ≡ Some t = subst (λ (ts : List RangeTable). slice_get ts number ≡ Some t) same e in
      absurd (no-table tables (subst (λ (ms : List Marked). AreTablesOf leaves (map (λ (m : Marked). reads told m.source) ms) tables) none all) number t here)
  are-told s parts chosen tables (inr whole) snapshot own same all = λ number t e.
      let here : slice_get tables number ≡ Some t = subst (λ (ts : List RangeTable). slice_get ts number ≡ Some t) same e in
      let found = subst (λ (ms : List Marked). AreTablesOf leaves (map (λ (m : Marked). reads told m.source) ms) tables) whole all in
      subst (λ (ls : List LeafTree). IsTableOf ls (reads told (part_at s.snapshot number).source) t) (sym own)
      (subst (λ (ms : List Marked). IsTableOf leaves (reads told (part_at ms number).source) t) (sym snapshot) (table-told parts tables found number t here))

-- what is backed in all parts is so in those chosen
pub chosen-backed : (told : Option Files) (parts chosen : List Marked) → (chosen ≡ []) ⊎ (chosen ≡ parts) → AreBacked told parts → AreBacked told chosen
chosen-backed told parts chosen (inl none) backed = subst (λ (ms : List Marked). AreBacked told ms) (sym none) (All-nil (λ (m : Marked). IsPartBacked told m.source))
chosen-backed told parts chosen (inr whole) backed = subst (λ (ms : List Marked). AreBacked told ms) (sym whole) backed

-- and so is what is read as it was put
pub chosen-intact : (told : Option Files) (parts chosen : List Marked) → (chosen ≡ []) ⊎ (chosen ≡ parts) → AreIntact told parts → AreIntact told chosen
chosen-intact told parts chosen (inl none) intact = subst (λ (ms : List Marked). AreIntact told ms) (sym none) (All-nil (λ (m : Marked). IsPartIntact told m.source))
chosen-intact told parts chosen (inr whole) intact = subst (λ (ms : List Marked). AreIntact told ms) (sym whole) intact

-- what was added to a cache for those chosen is of files of the parts
pub chosen-kept : (told : Option Files) (parts chosen : List Marked) (c d : Cached) → (chosen ≡ []) ⊎ (chosen ≡ parts)
    → CacheKeeps told (IsFileAmong chosen) c d → CacheKeeps told (IsFileAmong parts) c d
chosen-kept told parts chosen c d (inl none) keeps =
    let kept : CacheKeeps told (IsFileAmong []) c d = subst (λ (ms : List Marked). CacheKeeps told (IsFileAmong ms) c d) none keeps in
    record { each = λ e there. of-none (kept.each e there) }
  where
    of-none : {e : KeptBlock} → Contains c.kept e ⊎ IsFileAmong [] e × ((files : Files) → told ≡ Some files → IsBlockIn files e.0 e.1)
        → Contains c.kept e ⊎ IsFileAmong parts e × ((files : Files) → told ≡ Some files → IsBlockIn files e.0 e.1)
    of-none (inl old) = inl old
    of-none (inr new) = absurd (Contains-none new.0.0 new.0.1)
chosen-kept told parts chosen c d (inr whole) keeps = subst (λ (ms : List Marked). CacheKeeps told (IsFileAmong ms) c d) whole keeps
