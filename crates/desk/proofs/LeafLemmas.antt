-- What documents have of the leaves of a query.
use Rattle.std.proofs.Common.{◌≡◌, ◌⊎◌, inl, inr, ◌<◌, ◌+◌, ◌-◌, ◌^◌, ℕ, Contains, List, Option, [], ◌∷◌, ◌++◌, get_or, length, map, take, refl, sym, ap, ◌∙◌, arith}
use Rattle.std.specs.Prelude.{IsOkAnd, Result, Ok, Err, sum_by}
use Rattle.std.proofs.lemmas.List.{map-append, take_more}
use Rattle.std.proofs.lemmas.List.Sums.{sum_by-cons}
use Rattle.ri_base.specs.Documents.{Document}
use Rattle.ri_base.specs.declared.hit.LeafStats.{LeafStats}
use Rattle.ri_base.specs.declared.seg_fault.SegFault.{SegFault}
use Rattle.ri_base.specs.Expression.{ExprTree, expr_tree}
use Rattle.ri_base.specs.declared.expression.ExtentExpr.{ExtentExpr}
use Rattle.query_check.specs.Leaves.{leaf_tree}
use Rattle.query_check.specs.declared.leaf_kind.LeafKind.{LeafKind}
use Rattle.query_check.specs.declared.leaf_kind.LeafKind.TheVariants as leaf
use Rattle.belief_nodes.specs.Leaves.{AreLeafStats}
use Rattle.document_scoring.specs.Counts.{stats_of}
use Rattle.counts.specs.Kept.{IsNew, Kept}
use Rattle.counts.specs.Sums.{AreBounded, sums}

-- of a prior nothing is counted
sum-none : (docs : List Document) → sum_by (λ (d : Document). 0) docs ≡ 0
sum-none [] = refl
sum-none (d ∷ docs) = let more = sum-none docs in let one = sum_by-cons (λ (d : Document). 0) d docs in omega (arith, more, one)

pub prior-stats : (docs : List Document) (l : LeafKind) (n : ℕ) → l ≡ leaf.Prior n → record { cf = 0; total = 0 } ≡ stats_of docs (leaf_tree l)
prior-stats docs l n e = rw e (rw (sum-none docs) refl)

-- what an expression has is that of its leaf
pub extents-stats : (docs : List Document) (l : LeafKind) (x : ExtentExpr) (context seen : Option (List ℕ)) (s : LeafStats) → l ≡ leaf.Extents x context → seen ≡ context → s ≡ sums docs (expr_tree x) seen → s ≡ stats_of docs (leaf_tree l)
extents-stats docs l x context seen s is same h = h ∙ ap (sums docs (expr_tree x)) same ∙ sym (ap (λ k. stats_of docs (leaf_tree k)) is)

-- sums that are bounded are those of a leaf
pub leaf-range : (s : LeafStats) → AreBounded s → AreLeafStats s
leaf-range s bounded = record { part = bounded.part; few = omega (arith, bounded.few) }

-- one leaf more
pub stats-next : (docs : List Document) (leaves : List LeafKind) (i : ℕ) (l : LeafKind) (found : List LeafStats) (s : LeafStats) → i < length leaves → l ≡ get_or leaves i l
    → found ≡ map (stats_of docs) (map leaf_tree (take i leaves)) → s ≡ stats_of docs (leaf_tree l) → found ++ s ∷ [] ≡ map (stats_of docs) (map leaf_tree (take (i + 1) leaves))
stats-next docs leaves i l found s inside at so_far one =
    let f : LeafKind → LeafStats = λ x. stats_of docs (leaf_tree x) in
    let more : take (i + 1) leaves ≡ take i leaves ++ l ∷ [] = take_more leaves i l inside ∙ ap (λ x. take i leaves ++ x ∷ []) (sym at) in
    ap (λ ss. ss ++ s ∷ []) so_far ∙ ap (λ x. map (stats_of docs) (map leaf_tree (take i leaves)) ++ x ∷ []) one
    ∙ sym (ap (λ ls. map (stats_of docs) (map leaf_tree ls)) more ∙ ap (map (stats_of docs)) (map-append leaf_tree (take i leaves) (l ∷ []))
    ∙ map-append (stats_of docs) (map leaf_tree (take i leaves)) (leaf_tree l ∷ []))

-- ---- sums that are kept

-- what is kept anew isn't kept for the greatest generation
pub kept-early : (generation : ℕ) (x : ExprTree) (context : Option (List ℕ)) (e : Kept) (r : Result LeafStats SegFault) → IsOkAnd r (IsNew generation x context e) → e.generation < 2 ^ 64 - 1
kept-early generation x context e (Ok stats) new = let is = new.sums.generation_is in let below = new.not_last in omega (arith, is, below)
kept-early generation x context e (Err fault) new = absurd new

-- over one call more
pub added-then : (e : Kept) (first mid : List Kept) → (Contains mid e → Contains first e ⊎ (e.generation < 2 ^ 64 - 1)) → Contains mid e ⊎ (e.generation < 2 ^ 64 - 1) → Contains first e ⊎ (e.generation < 2 ^ 64 - 1)
added-then e first mid old now = elim now [
  | inl there ↦ old there
  | inr early ↦ inr early
]
