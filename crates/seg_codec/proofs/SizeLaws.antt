-- how many bytes the blocks of postings have
use Rattle.std.proofs.Common.{◌≡◌, ◌<◌, ℕ, ◌+◌, ◌-◌, ◌/◌, List, [], ◌∷◌, ◌++◌, length, get_or, map, drop, Bool, true, false, cond, eqb, Option, Some, None, refl, sym, ap, subst, ◌∙◌, append_assoc, arith}
use Rattle.std.specs.List.{flat_map}
use Rattle.std.proofs.lemmas.Bool.{eqb-true, eqb-false, ne_eqb}
use Rattle.std.specs.Prelude.{sum_by}
use Rattle.std.proofs.lemmas.List.{drop_more, length-append}
use Rattle.std.proofs.lemmas.List.Sums.{sum_by-cons}
use Rattle.ri_base.specs.declared.places.Place.{Place}
use Rattle.seg_codec.specs.Segment.{ahead, block_entry_of, block_of, blocks_of, cut, id_of, range_of}
use Rattle.seg_codec.specs.Spelling.{block_bytes, spelled_block_entry}
use Rattle.seg_codec.specs.Twice.{all_standing, size_behind, sizes, standing}
use Rattle.seg_codec.specs.declared.twice.Standing.{Standing}
use Rattle.seg_codec.proofs.CutLemmas.{cut_shape}

abbrev entries_size : ℕ → List (List Place) → ℕ
entries_size range gs = length (flat_map (spelled_block_entry range) (map block_entry_of gs))

-- one posting more at the front of a block
entries_more : (range : ℕ) (x y : Place) (front : List Place) (others : List (List Place)) → entries_size range (ahead id_of x ((y ∷ front) ∷ others)) ≡ entries_size range ((y ∷ front) ∷ others) + cond (eqb y.id x.id) 4 9
entries_more range x y front others = by (eqb y.id x.id)
  where
    by : (b : Bool) → entries_size range (cond b ((x ∷ y ∷ front) ∷ others) ((x ∷ []) ∷ (y ∷ front) ∷ others)) ≡ entries_size range ((y ∷ front) ∷ others) + cond b 4 9
    by true = omega arith
    by false = omega arith

block_more : (range : ℕ) (x y : Place) (ps : List Place) → length (block_bytes range (map block_entry_of (cut id_of (x ∷ y ∷ ps)))) ≡ length (block_bytes range (map block_entry_of (cut id_of (y ∷ ps)))) + cond (eqb y.id x.id) 4 9
unfolding cut
block_more range x y ps =
    let s = cut_shape id_of y ps in
    subst (λ (gs : List (List Place)). length (block_bytes range (map block_entry_of (ahead id_of x gs))) ≡ length (block_bytes range (map block_entry_of gs)) + cond (eqb y.id x.id) 4 9) (sym s.2)
    (omega (arith, entries_more range x y s.0 s.1))

-- one posting more at the front
blocks_more : (x y : Place) (ps : List Place) → length (blocks_of (x ∷ y ∷ ps)) ≡ size_behind (Some x) y + length (blocks_of (y ∷ ps))
unfolding cut
blocks_more x y ps =
    let s = cut_shape range_of y ps in
    subst (λ (gs : List (List Place)). length (flat_map block_of (ahead range_of x gs)) ≡ size_behind (Some x) y + length (flat_map block_of gs)) (sym s.2)
    (by s.0 s.1 (eqb (y.id / 64) (x.id / 64)) refl)
  where
    by : (front : List Place) (others : List (List Place)) (b : Bool) → eqb (y.id / 64) (x.id / 64) ≡ b
        → length (flat_map block_of (cond b ((x ∷ y ∷ front) ∷ others) ((x ∷ []) ∷ (y ∷ front) ∷ others))) ≡ cond (eqb y.id x.id) 4 (cond b 9 10) + length (flat_map block_of ((y ∷ front) ∷ others))
    by front others true e =
        let same : y.id / 64 ≡ x.id / 64 = eqb-true (y.id / 64) (x.id / 64) e in
        let block_is : length (block_of (x ∷ y ∷ front)) ≡ length (block_of (y ∷ front)) + cond (eqb y.id x.id) 4 9 =
        block_more (x.id / 64) x y front ∙ ap (λ (r : ℕ). length (block_bytes r (map block_entry_of (cut id_of (y ∷ front)))) + cond (eqb y.id x.id) 4 9) (sym same) in
        omega (arith, block_is, length-append (block_of (x ∷ y ∷ front)) (flat_map block_of others), length-append (block_of (y ∷ front)) (flat_map block_of others))
    by front others false e =
        let apart : eqb y.id x.id ≡ false = ne_eqb y.id x.id (λ q. eqb-false (y.id / 64) (x.id / 64) e (ap (λ n. n / 64) q)) in
        let alone : length (block_of (x ∷ [])) ≡ 10 = refl in
        rw apart (omega (arith, alone, length-append (block_of (x ∷ [])) (flat_map block_of ((y ∷ front) ∷ others))))

sizes_are : (x : Place) (ps : List Place) → length (blocks_of (x ∷ ps)) ≡ 10 + sizes (Some x) ps
unfolding cut
sizes_are x [] = refl
sizes_are x (y ∷ ps) = omega (arith, blocks_more x y ps, sizes_are y ps)

pub blocks_size : (ps : List Place) → length (blocks_of ps) ≡ sizes None ps
unfolding cut
blocks_size [] = refl
blocks_size (p ∷ ps) = sizes_are p ps

-- ---- where postings stand, one after the other

pub size_fits : (end : ℕ) (before : Option Place) (ps : List Place) (i : ℕ) (d : Place) (r total limit : ℕ) → i < length ps → r ≡ size_behind before (get_or ps i d) → end + sizes before (drop i ps) ≡ total → total < limit → end + r < limit
size_fits end before ps i d r total limit lt is so_far fits = omega (arith, ap (sizes before) (drop_more ps i d lt))

pub size_moves : (end : ℕ) (before : Option Place) (ps : List Place) (i : ℕ) (d : Place) (r total : ℕ) → i < length ps → r ≡ size_behind before (get_or ps i d) → end + sizes before (drop i ps) ≡ total
    → (end + r) + sizes (Some (get_or ps i d)) (drop (i + 1) ps) ≡ total
size_moves end before ps i d r total lt is so_far = omega (arith, ap (sizes before) (drop_more ps i d lt))

pub standing_moves : (end : ℕ) (before : Option Place) (ps : List Place) (i : ℕ) (d : Place) (r : ℕ) (out more total : List Standing) → i < length ps → r ≡ size_behind before (get_or ps i d) → more ≡ out ++ record { posting = get_or ps i d; place = end + r - 4 } ∷ []
    → out ++ standing end before (drop i ps) ≡ total → more ++ standing (end + r) (Some (get_or ps i d)) (drop (i + 1) ps) ≡ total
standing_moves end before ps i d r out more total lt is put so_far =
    let p : Place = get_or ps i d in
    let first : standing end before (drop i ps) ≡ record { posting = p; place = end + size_behind before p - 4 } ∷ standing (end + size_behind before p) (Some p) (drop (i + 1) ps) = ap (standing end before) (drop_more ps i d lt) in
    let same : standing end before (drop i ps) ≡ record { posting = p; place = end + r - 4 } ∷ standing (end + r) (Some p) (drop (i + 1) ps) =
    first ∙ ap (λ (k : ℕ). record { posting = p; place = end + k - 4 } ∷ standing (end + k) (Some p) (drop (i + 1) ps)) (sym is) in
    ap (λ (l : List Standing). l ++ standing (end + r) (Some p) (drop (i + 1) ps)) put ∙ append_assoc out (record { posting = p; place = end + r - 4 } ∷ []) (standing (end + r) (Some p) (drop (i + 1) ps)) ∙ ap (λ (l : List Standing). out ++ l) (sym same) ∙ so_far

pub all_standing_moves : (at : ℕ) (pss : List (List Place)) (i : ℕ) (ps : List Place) (next : ℕ) (out more total : List Standing) → i < length pss → ps ≡ get_or pss i ps → more ≡ out ++ standing at None ps → next ≡ at + sizes None ps
    → out ++ all_standing at (drop i pss) ≡ total → more ++ all_standing next (drop (i + 1) pss) ≡ total
all_standing_moves at pss i ps next out more total lt is put end so_far =
    let first : drop i pss ≡ ps ∷ drop (i + 1) pss = drop_more pss i ps lt ∙ ap (λ (x : List Place). x ∷ drop (i + 1) pss) (sym is) in
    let step : all_standing at (drop i pss) ≡ standing at None ps ++ all_standing (at + length (blocks_of ps)) (drop (i + 1) pss) = ap (all_standing at) first in
    let place : at + length (blocks_of ps) ≡ next = ap (λ (k : ℕ). at + k) (blocks_size ps) ∙ sym end in
    ap (λ (l : List Standing). l ++ all_standing next (drop (i + 1) pss)) put ∙ append_assoc out (standing at None ps) (all_standing next (drop (i + 1) pss))
    ∙ ap (λ (k : ℕ). out ++ (standing at None ps ++ all_standing k (drop (i + 1) pss))) (sym place) ∙ ap (λ (l : List Standing). out ++ l) (sym step) ∙ so_far

pub ends_move : (at : ℕ) (pss : List (List Place)) (i : ℕ) (ps : List Place) (next total : ℕ) → i < length pss → ps ≡ get_or pss i ps → next ≡ at + sizes None ps → at + sum_by (λ (x : List Place). length (blocks_of x)) (drop i pss) ≡ total
    → next + sum_by (λ (x : List Place). length (blocks_of x)) (drop (i + 1) pss) ≡ total
ends_move at pss i ps next total lt is end so_far =
    let first : drop i pss ≡ ps ∷ drop (i + 1) pss = drop_more pss i ps lt ∙ ap (λ (x : List Place). x ∷ drop (i + 1) pss) (sym is) in
    omega (arith, ap (sum_by (λ (x : List Place). length (blocks_of x))) first, sum_by-cons (λ (x : List Place). length (blocks_of x)) ps (drop (i + 1) pss), blocks_size ps)

pub end_fits : (at : ℕ) (pss : List (List Place)) (i : ℕ) (ps : List Place) (total limit : ℕ) → i < length pss → ps ≡ get_or pss i ps → at + sum_by (λ (x : List Place). length (blocks_of x)) (drop i pss) ≡ total → total < limit → at + sizes None ps < limit
end_fits at pss i ps total limit lt is so_far fits =
    let first : drop i pss ≡ ps ∷ drop (i + 1) pss = drop_more pss i ps lt ∙ ap (λ (x : List Place). x ∷ drop (i + 1) pss) (sym is) in
    omega (arith, ap (sum_by (λ (x : List Place). length (blocks_of x))) first, sum_by-cons (λ (x : List Place). length (blocks_of x)) ps (drop (i + 1) pss), blocks_size ps)
