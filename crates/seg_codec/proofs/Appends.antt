-- what is put behind one another
use Rattle.std.proofs.Common.{◌≡◌, ℕ, suc, ◌+◌, List, [], ◌∷◌, ◌++◌, length, refl, sym, ap, ◌∙◌, append_assoc}
use Rattle.std.specs.Int.{w32, w64, to_le_bytes}
use Rattle.std.specs.List.{flat_map}
use Rattle.ri_base.specs.declared.places.Place.{Place}
use Rattle.ri_base.specs.Spelling.{spelled_text}
use Rattle.seg_codec.specs.Segment.{cut, placed, range_of, term_blocks_of, block_of}
use Rattle.seg_codec.specs.Spelling.{spelled_place, spelled_term}
use Rattle.seg_codec.specs.declared.dictionary.BlockPlace.{BlockPlace}

pub three : (a b c d x y z : List ℕ) → b ≡ a ++ x → c ≡ b ++ y → d ≡ c ++ z → d ≡ a ++ (x ++ (y ++ z))
three a b c d x y z e f g = g ∙ ap (λ l. l ++ z) (f ∙ ap (λ l. l ++ y) e) ∙ append_assoc (a ++ x) y z ∙ append_assoc a x (y ++ z)

pub length-placed : (at : ℕ) (bs : List (List Place)) → length (placed at bs) ≡ length bs
length-placed at [] = refl
length-placed at (b ∷ bs) = ap suc (length-placed (at + length (block_of b)) bs)

pub term_bytes : (d0 d1 d2 d3 term text head : List ℕ) (n place : ℕ) (ps : List Place) → text ≡ term → head ≡ to_le_bytes w32 n → d1 ≡ d0 ++ spelled_text text → d2 ≡ d1 ++ head → n ≡ length (cut range_of ps)
    → d3 ≡ d2 ++ flat_map spelled_place (placed place (cut range_of ps)) → d3 ≡ d0 ++ spelled_term (term_blocks_of place term ps)
term_bytes d0 d1 d2 d3 term text head n place ps t h e f k g =
    let count : n ≡ length (placed place (cut range_of ps)) = k ∙ sym (length-placed place (cut range_of ps)) in
    three d0 d1 d2 d3 (spelled_text term) (to_le_bytes w32 (length (placed place (cut range_of ps)))) (flat_map spelled_place (placed place (cut range_of ps)))
    (e ∙ ap (λ x. d0 ++ spelled_text x) t) (f ∙ ap (λ x. d1 ++ x) h ∙ ap (λ m. d1 ++ to_le_bytes w32 m) count) g

pub place_bytes : (a b c d x y z : List ℕ) (p : BlockPlace) → x ≡ to_le_bytes w32 p.range → y ≡ to_le_bytes w64 p.place → z ≡ to_le_bytes w32 p.length → b ≡ a ++ x → c ≡ b ++ y → d ≡ c ++ z → d ≡ a ++ spelled_place p
place_bytes a b c d x y z p hx hy hz e f g =
    three a b c d (to_le_bytes w32 p.range) (to_le_bytes w64 p.place) (to_le_bytes w32 p.length) (e ∙ ap (λ t. a ++ t) hx) (f ∙ ap (λ t. b ++ t) hy) (g ∙ ap (λ t. c ++ t) hz)

pub four : (a b c d e w x y z w' x' y' z' : List ℕ) → w' ≡ w → x' ≡ x → y' ≡ y → z' ≡ z → b ≡ a ++ w' → c ≡ b ++ x' → d ≡ c ++ y' → e ≡ d ++ z' → e ≡ a ++ (w ++ (x ++ (y ++ z)))
four a b c d e w x y z w' x' y' z' hw hx hy hz f g h i =
    let last : e ≡ d ++ z = i ∙ ap (λ t. d ++ t) hz in
    let rest : d ≡ a ++ (w ++ (x ++ y)) = three a b c d w x y (f ∙ ap (λ t. a ++ t) hw) (g ∙ ap (λ t. b ++ t) hx) (h ∙ ap (λ t. c ++ t) hy) in
    last ∙ ap (λ t. t ++ z) rest ∙ append_assoc a (w ++ (x ++ y)) z ∙ ap (λ t. a ++ t) (append_assoc w (x ++ y) z ∙ ap (λ t. w ++ t) (append_assoc x y z))
