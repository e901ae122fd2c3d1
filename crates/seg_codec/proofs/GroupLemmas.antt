-- what was read of blocks is cut into these blocks
use Rattle.std.proofs.Common.{◌≡◌, ◌<◌, ◌≤◌, ℕ, ◌+◌, ◌-◌, ◌*◌, ◌/◌, List, [], ◌∷◌, ◌++◌, length, map, true, false, eqb, nat_le, refl, sym, ap, ◌∙◌, arith}
use Rattle.std.specs.List.{flat_map}
use Rattle.std.proofs.lemmas.Bool.{and_parts, eq-eqb, ne_eqb}
use Rattle.ri_base.specs.Reading.{AllFit}
use Rattle.ri_base.specs.declared.places.Place.{Place}
use Rattle.seg_codec.specs.Fits.{FitBlock, FitsBlockEntry, FitsId}
use Rattle.seg_codec.specs.Segment.{ahead, block_entry_of, block_of, cut, first, id_of, range_of}
use Rattle.seg_codec.specs.Spelling.{block_bytes}
use Rattle.seg_codec.specs.Whole.{block_postings, entry_postings}
use Rattle.seg_codec.specs.declared.blocks.BlockEntry.{BlockEntry}
use Rattle.seg_codec.specs.declared.documents.Entry.{Entry}
use Rattle.seg_codec.proofs.BlockFits.{id_parts}
use Rattle.seg_codec.proofs.CutLemmas.{cut_shape}

-- the first of these has another number
abbrev pub Other : {A : Type 0} → (A → ℕ) → ℕ → List A → Type 0
Other f k [] = Unit {0}
Other f k (y ∷ ys) = f y ≡ k → ⊥

abbrev pub AllHave : {A : Type 0} → (A → ℕ) → ℕ → List A → Type 0
AllHave f k [] = Unit {0}
AllHave f k (x ∷ xs) = (f x ≡ k) × AllHave f k xs

pub cut_group : {A : Type 0} (f : A → ℕ) (k : ℕ) (x : A) (xs ys : List A) → f x ≡ k → AllHave f k xs → Other f k ys → cut f ((x ∷ xs) ++ ys) ≡ (x ∷ xs) ∷ cut f ys
unfolding cut
cut_group f k x [] [] e h o = refl
cut_group f k x [] (y ∷ ys) e h o =
    let s = cut_shape f y ys in
    let differ : eqb (f y) (f x) ≡ false = ne_eqb (f y) (f x) (λ q. o (q ∙ e)) in
    ap (ahead f x) s.2 ∙ rw differ (ap (λ l. (x ∷ []) ∷ l) (sym s.2))
cut_group f k x (z ∷ xs) ys e h o =
    let same : eqb (f z) (f x) ≡ true = eq-eqb (f z) (f x) (h.0 ∙ sym e) in
    ap (ahead f x) (cut_group f k z xs ys h.0 h.1 o) ∙ rw same refl

-- ---- the documents of a block

own_id : (id : ℕ) (ps : List ℕ) → AllHave id_of id (map (λ p. record { id = id; at = p }) ps)
own_id id [] = tt
own_id id (p ∷ ps) = (refl, own_id id ps)

places_back : (id : ℕ) (ps : List ℕ) → map (λ (p : Place). p.at) (map (λ p. record { id = id; at = p }) ps) ≡ ps
places_back id [] = refl
places_back id (p ∷ ps) = ap (λ l. p ∷ l) (places_back id ps)

other_id : (es : List Entry) (range id : ℕ) (bs : List BlockEntry) → AllFit (FitsBlockEntry es range) (λ _ e. e.id + 1) (id + 1) bs → Other id_of id (block_postings bs)
other_id es range id [] h = tt
other_id es range id (b ∷ bs) h = by b.positions h.0.1.0.0.1
  where
    later : id + 1 ≤ b.id
    later = (id_parts (length es) range (id + 1) b.id h.0.0).0

    by : (ps : List ℕ) → nat_le 1 (length ps) ≡ true → Other id_of id (map (λ p. record { id = b.id; at = p }) ps ++ flat_map entry_postings bs)
    by [] e = absurd cc
    by (p ∷ ps) e = λ q. omega (arith, q, later)

pub cut_block : (es : List Entry) (range low : ℕ) (bs : List BlockEntry) → AllFit (FitsBlockEntry es range) (λ _ e. e.id + 1) low bs → map block_entry_of (cut id_of (block_postings bs)) ≡ bs
unfolding cut
cut_block es range low [] h = refl
cut_block es range low (b ∷ bs) h = by b.positions refl h.0.1.0.0.1 (cut_block es range (b.id + 1) bs h.1)
  where
    by : (ps : List ℕ) → b.positions ≡ ps → nat_le 1 (length ps) ≡ true → map block_entry_of (cut id_of (block_postings bs)) ≡ bs → map block_entry_of (cut id_of (map (λ p. record { id = b.id; at = p }) b.positions ++ block_postings bs)) ≡ b ∷ bs
    by [] is e rest = absurd cc
    by (p ∷ ps) is e rest =
        let group : cut id_of (map (λ p. record { id = b.id; at = p }) (p ∷ ps) ++ block_postings bs) ≡ map (λ p. record { id = b.id; at = p }) (p ∷ ps) ∷ cut id_of (block_postings bs) =
        cut_group id_of b.id (record { id = b.id; at = p }) (map (λ p. record { id = b.id; at = p }) ps) (block_postings bs) refl (own_id b.id ps) (other_id es range b.id bs h.1) in
        let one : record { id = b.id; positions = p ∷ map (λ (p : Place). p.at) (map (λ p. record { id = b.id; at = p }) ps) } ≡ b =
        ap (λ (l : List ℕ). record { id = b.id; positions = p ∷ l }) (places_back b.id ps) ∙ ap (λ (l : List ℕ). record { id = b.id; positions = l }) (sym is) in
        ap (λ (l : List ℕ). map block_entry_of (cut id_of (map (λ p. record { id = b.id; at = p }) l ++ block_postings bs))) is
        ∙ ap (map block_entry_of) group ∙ ap (λ (x : BlockEntry). x ∷ map block_entry_of (cut id_of (block_postings bs))) one ∙ ap (λ l. b ∷ l) rest

-- ---- the range of a block

id_range : (n range low id : ℕ) → FitsId n range low id → id / 64 ≡ range
id_range n range low id h =
    let back : 64 * range + (id - 64 * range) ≡ id = h.1 in
    let p = id_parts n range low id h in
    let under : id < 64 * range + 64 = p.1 in
    omega arith

AllHave-append : {A : Type 0} (f : A → ℕ) (k : ℕ) (xs ys : List A) → AllHave f k xs → AllHave f k ys → AllHave f k (xs ++ ys)
AllHave-append f k [] ys h g = g
AllHave-append f k (x ∷ xs) ys h g = (h.0, AllHave-append f k xs ys h.1 g)

own_range : (id range : ℕ) (ps : List ℕ) → id / 64 ≡ range → AllHave range_of range (map (λ p. record { id = id; at = p }) ps)
own_range id range [] e = tt
own_range id range (p ∷ ps) e = (e, own_range id range ps e)

block_in_range : (es : List Entry) (range low : ℕ) (bs : List BlockEntry) → AllFit (FitsBlockEntry es range) (λ _ e. e.id + 1) low bs → AllHave range_of range (block_postings bs)
block_in_range es range low [] h = tt
block_in_range es range low (b ∷ bs) h =
    AllHave-append range_of range (entry_postings b) (block_postings bs) (own_range b.id range b.positions (id_range (length es) range low b.id h.0.0)) (block_in_range es range (b.id + 1) bs h.1)

-- the postings of a block, of this range, are the first that are cut
pub record IsFirstCut (range : ℕ) (bs : List BlockEntry) (g rest : List Place) : Type 0 where
  pub cut_is : cut range_of (g ++ rest) ≡ g ∷ cut range_of rest
  pub first_is : first range_of g ≡ range
  pub bytes_are : block_of g ≡ block_bytes range bs
  pub above : (lower : ℕ) → lower < range → Other range_of lower (g ++ rest)

pub block_is_some : (es : List Entry) (range : ℕ) (cs : List BlockEntry) → AllFit (FitsBlockEntry es range) (λ _ e. e.id + 1) 0 cs → nat_le 1 (length cs) ≡ true → block_postings cs ≡ [] → ⊥
block_is_some es range [] h e is = cc
block_is_some es range (c ∷ cs) h e is = empty c.positions h.0.1.0.0.1 is
  where
    empty : (ps : List ℕ) → nat_le 1 (length ps) ≡ true → map (λ p. record { id = c.id; at = p }) ps ++ block_postings cs ≡ [] → ⊥
    empty [] e is = cc
    empty (p ∷ ps) e is = cc

pub cut_range : (es : List Entry) (range : ℕ) (bs : List BlockEntry) (rest : List Place) → FitBlock es range bs → Other range_of range rest → IsFirstCut range bs (block_postings bs) rest
cut_range es range bs rest fit other = by (block_postings bs) refl (block_in_range es range 0 bs fit.1.1)
  where
    by : (g : List Place) → block_postings bs ≡ g → AllHave range_of range g → IsFirstCut range bs g rest
    by [] is h = absurd (block_is_some es range bs fit.1.1 (and_parts (nat_le 1 (length bs)) (nat_le (length bs) 64) fit.0).0 is)
    by (p ∷ g) is h = record {
      cut_is = cut_group range_of range p g rest h.0 h.1 other;
      first_is = h.0;
      bytes_are = ap (λ r. block_bytes r (map block_entry_of (cut id_of (p ∷ g)))) h.0 ∙ ap (block_bytes range) (ap (λ l. map block_entry_of (cut id_of l)) (sym is) ∙ cut_block es range 0 bs fit.1.1);
      above = λ lower lt q. omega (arith, lt, q, h.0);
    }
