-- ranks that are told at places
use Rattle.std.proofs.Common.{◌≡◌, ◌≢◌, ◌<◌, ◌≤◌, ◌⊎◌, ℕ, zero, suc, ◌+◌, List, [], ◌∷◌, length, get_or, set, take, map, replicate, refl, sym, ap, subst, ◌∙◌, inl, inr, arith}
use Rattle.std.specs.List.{All, Contains}
use Rattle.std.proofs.lemmas.Bool.{cases_eq}
use Rattle.std.proofs.lemmas.List.{get_or-map, get_or-set_other, get_or-set_same, get_or_default, length-map, length-replicate, length-set, map-set, set-get_or}
use Rattle.std.proofs.lemmas.List.Elements.{All-cons, All-more, All-nil, All-weaker, Contains-get_or}
use Rattle.ri_base.specs.declared.places.Place.{Place}
use Rattle.seg_codec.specs.Blocks.{tokens_of}
use Rattle.seg_codec.specs.Held.{AreFilled, AreOfPostings, Gap, IsKept, IsWithin, Untold, lengths, lengths_of, rank_at, told}
use Rattle.seg_codec.specs.Rising.{Rise}
use Rattle.seg_codec.specs.declared.documents.Entry.{Entry}
use Rattle.seg_codec.specs.declared.whole.Whole.{Whole}

-- ---- places within

pub within_ids : (ranks : List (List ℕ)) (p : Place) → IsWithin (lengths ranks) p → p.id < length ranks
within_ids ranks p h = omega (arith, h.0, length-map ranks (λ (r : List ℕ). length r))

pub within_row : (ranks : List (List ℕ)) (p : Place) → IsWithin (lengths ranks) p → p.at < length (get_or ranks p.id [])
within_row ranks p h =
    let row : get_or (lengths ranks) p.id 0 ≡ length (get_or ranks p.id []) = get_or-map (λ (r : List ℕ). length r) ranks p.id [] 0 (within_ids ranks p h) in
    omega (arith, h.1, row)

rise_within : (es : List Entry) (id at : ℕ) (ps : List Place) → Rise (length es) (tokens_of es) id at ps → All (IsWithin (lengths_of es)) ps
rise_within es id at [] up = All-nil (IsWithin (lengths_of es))
rise_within es id at (p ∷ ps) up =
    let here : IsWithin (lengths_of es) p = (omega (arith, up.0.inside, length-map es (λ (e : Entry). e.tokens)), up.0.within) in
    All-cons (IsWithin (lengths_of es)) p ps here (rise_within es p.id (p.at + 1) ps up.1)

pub kept_within : (w : Whole) → IsKept w → All (All (IsWithin (lengths_of w.documents))) w.postings
kept_within w kept = All-weaker (Rise (length w.documents) (tokens_of w.documents) 0 0) (All (IsWithin (lengths_of w.documents))) (λ ps up. rise_within w.documents 0 0 ps up) w.postings kept.rise

-- ---- a rank is told

same_place : (p q : Place) → (p ≡ q) ⊎ (p ≡ q → ⊥)
same_place p q = elim (cases_eq p.id q.id) [
  | inl ids ↦ elim (cases_eq p.at q.at) [
    | inl ats ↦ inl (ap (λ (i : ℕ). record { id = i; at = p.at }) ids ∙ ap (λ (i : ℕ). record { id = q.id; at = i }) ats)
    | inr other ↦ inr (λ e. other (ap (λ (x : Place). x.at) e))
  ]
  | inr other ↦ inr (λ e. other (ap (λ (x : Place). x.id) e))
]

told_here : (none : ℕ) (ranks : List (List ℕ)) (p : Place) (rank : ℕ) → IsWithin (lengths ranks) p → rank_at none (told ranks p rank) p ≡ rank
told_here none ranks p rank h =
    ap (λ (row : List ℕ). get_or row p.at none) (get_or-set_same ranks p.id (set (get_or ranks p.id []) p.at rank) [] (within_ids ranks p h))
    ∙ get_or-set_same (get_or ranks p.id []) p.at rank none (within_row ranks p h)

told_elsewhere : (none : ℕ) (ranks : List (List ℕ)) (p q : Place) (rank : ℕ) → IsWithin (lengths ranks) p → (q ≡ p → ⊥) → rank_at none (told ranks p rank) q ≡ rank_at none ranks q
told_elsewhere none ranks p q rank h other = elim (cases_eq q.id p.id) [
  | inl ids ↦ row ids
  | inr apart ↦
      let differ : q.id ≢ p.id = apart in
      ap (λ (r : List ℕ). get_or r q.at none) (get_or-set_other ranks p.id q.id (set (get_or ranks p.id []) p.at rank) [] differ)
]
  where
    row : q.id ≡ p.id → rank_at none (told ranks p rank) q ≡ rank_at none ranks q
    row ids =
        let differ : q.at ≢ p.at = λ ats. other (ap (λ (i : ℕ). record { id = i; at = q.at }) ids ∙ ap (λ (i : ℕ). record { id = p.id; at = i }) ats) in
        ap (λ (i : ℕ). get_or (get_or (told ranks p rank) i []) q.at none) ids
        ∙ ap (λ (r : List ℕ). get_or r q.at none) (get_or-set_same ranks p.id (set (get_or ranks p.id []) p.at rank) [] (within_ids ranks p h))
        ∙ get_or-set_other (get_or ranks p.id []) p.at q.at rank none differ
        ∙ ap (λ (i : ℕ). get_or (get_or ranks i []) q.at none) (sym ids)

pub told_lengths : (ranks : List (List ℕ)) (p : Place) (rank : ℕ) → lengths (told ranks p rank) ≡ lengths ranks
told_lengths ranks p rank =
    map-set (λ (r : List ℕ). length r) ranks p.id (set (get_or ranks p.id []) p.at rank) ∙ ap (set (lengths ranks) p.id) (length-set (get_or ranks p.id []) p.at rank) ∙ same
  where
    same : set (lengths ranks) p.id (length (get_or ranks p.id [])) ≡ lengths ranks
    same = sym (map-set (λ (r : List ℕ). length r) ranks p.id (get_or ranks p.id [])) ∙ ap lengths (set-get_or ranks p.id [])

-- what is known of ranks when they are told at some postings of a term
pub record AreTelling (postings : List (List Place)) (start now : List (List ℕ)) (ps : List Place) : Type 0 where
  pub shape : lengths now ≡ lengths start
  pub only : AreOfPostings postings now
  pub filled : AreFilled (length postings) now ps
  pub kept : (p : Place) → rank_at (length postings) start p < length postings → rank_at (length postings) now p < length postings

pub telling_starts : (postings : List (List Place)) (start : List (List ℕ)) → AreOfPostings postings start → AreTelling postings start start []
telling_starts postings start only = record { shape = refl; only = only; filled = All-nil (λ p. rank_at (length postings) start p < length postings); kept = λ p lt. lt }

pub telling_more : (postings : List (List Place)) (rank : ℕ) (start now new : List (List ℕ)) (i : ℕ) (p : Place) → rank < length postings → All (IsWithin (lengths start)) (get_or postings rank []) → i < length (get_or postings rank []) → p ≡ get_or (get_or postings rank []) i p
    → new ≡ told now p rank → AreTelling postings start now (take i (get_or postings rank [])) → AreTelling postings start new (take (i + 1) (get_or postings rank []))
telling_more postings rank start now new i p below within lt is written h =
    subst (λ (x : List (List ℕ)). AreTelling postings start x (take (i + 1) ps)) (sym written)
    (record {
      shape = told_lengths now p rank ∙ h.shape;
      only = λ q found. by q (same_place q p) found;
      filled = All-more (λ (q : Place). rank_at n (told now p rank) q < n) ps i p lt (All-weaker (λ (q : Place). rank_at n now q < n) (λ (q : Place). rank_at n (told now p rank) q < n) stays (take i ps) h.filled)
          (subst (λ (q : Place). rank_at n (told now p rank) q < n) is filled_here);
      kept = λ q found. stays q (h.kept q found);
    })
  where
    n : ℕ
    n = length postings

    ps : List Place
    ps = get_or postings rank []

    inside : IsWithin (lengths now) p
    inside = subst (λ (ls : List ℕ). IsWithin ls p) (sym h.shape) (subst (IsWithin (lengths start)) (sym is) (within i p lt))

    filled_here : rank_at n (told now p rank) p < n
    filled_here = subst (λ (k : ℕ). k < n) (sym (told_here n now p rank inside)) below

    stays : (q : Place) → rank_at n now q < n → rank_at n (told now p rank) q < n
    stays q found = elim (same_place q p) [
      | inl e ↦ subst (λ (x : Place). rank_at n (told now p rank) x < n) (sym e) filled_here
      | inr other ↦ subst (λ (k : ℕ). k < n) (sym (told_elsewhere n now p q rank inside other)) found
    ]

    posted : Contains ps p
    posted = subst (Contains ps) (sym is) (Contains-get_or ps i p lt)

    by : (q : Place) → (q ≡ p) ⊎ (q ≡ p → ⊥) → rank_at n (told now p rank) q < n → Contains (get_or postings (rank_at n (told now p rank) q) []) q
    by q (inl e) found =
        let own : rank_at n (told now p rank) q ≡ rank = ap (rank_at n (told now p rank)) e ∙ told_here n now p rank inside in
        subst (λ (k : ℕ). Contains (get_or postings k []) q) (sym own) (subst (Contains ps) (sym e) posted)
    by q (inr other) found =
        let same : rank_at n (told now p rank) q ≡ rank_at n now q = told_elsewhere n now p q rank inside other in
        subst (λ (k : ℕ). Contains (get_or postings k []) q) (sym same) (h.only q (subst (λ (k : ℕ). k < n) same found))

-- the same of its own list, the postings of the term
pub telling_on : (postings : List (List Place)) (rank : ℕ) (start now new : List (List ℕ)) (own : List Place) (i : ℕ) (d : Place) → rank < length postings → own ≡ get_or postings rank [] → All (IsWithin (lengths start)) (get_or postings rank []) → i < length own
    → new ≡ told now (get_or own i d) rank → AreTelling postings start now (take i (get_or postings rank [])) → AreTelling postings start new (take (i + 1) (get_or postings rank []))
telling_on postings rank start now new own i d below is within lt written h =
    let p : Place = get_or own i d in
    let read : p ≡ get_or own i p = get_or_default own i d p lt in
    telling_more postings rank start now new i p below within (subst (λ (ps : List Place). i < length ps) is lt) (read ∙ ap (λ (ps : List Place). get_or ps i p) is) written h

-- ---- of all terms

pub record AreTellingAll (postings : List (List Place)) (start now : List (List ℕ)) (done : List (List Place)) : Type 0 where
  pub shape : lengths now ≡ lengths start
  pub only : AreOfPostings postings now
  pub filled : All (AreFilled (length postings) now) done

pub all_told_more : (postings : List (List Place)) (start now new : List (List ℕ)) (i : ℕ) → i < length postings → AreTellingAll postings start now (take i postings) → lengths new ≡ lengths now → AreOfPostings postings new
    → AreFilled (length postings) new (get_or postings i []) → ((p : Place) → rank_at (length postings) now p < length postings → rank_at (length postings) new p < length postings) → AreTellingAll postings start new (take (i + 1) postings)
all_told_more postings start now new i lt h shape only filled kept = record {
  shape = shape ∙ h.shape;
  only = only;
  filled = All-more (AreFilled (length postings) new) postings i [] lt
      (All-weaker (AreFilled (length postings) now) (AreFilled (length postings) new) (λ ps f. All-weaker (λ (q : Place). rank_at (length postings) now q < length postings) (λ (q : Place). rank_at (length postings) new q < length postings) kept ps f) (take i postings) h.filled) filled;
}

-- ---- none is told yet

row_untold : (m k n : ℕ) → get_or (replicate m n) k n ≡ n
row_untold zero k n = refl
row_untold (suc m) zero n = refl
row_untold (suc m) (suc k) n = row_untold m k n

untold_row : (es : List Entry) (id at n : ℕ) → get_or (get_or (map (λ (e : Entry). replicate e.tokens n) es) id []) at n ≡ n
untold_row [] id at n = refl
untold_row (e ∷ es) zero at n = row_untold e.tokens at n
untold_row (e ∷ es) (suc id) at n = untold_row es id at n

pub untold_only : (es : List Entry) (postings : List (List Place)) (ranks : List (List ℕ)) → ranks ≡ map (λ (e : Entry). replicate e.tokens (length postings)) es → AreOfPostings postings ranks
untold_only es postings ranks is p below =
    let free : rank_at (length postings) ranks p ≡ length postings = ap (λ (rs : List (List ℕ)). rank_at (length postings) rs p) is ∙ untold_row es p.id p.at (length postings) in
    absurd (omega (arith, free, below))

pub untold_lengths : (es : List Entry) (n : ℕ) → lengths (map (λ (e : Entry). replicate e.tokens n) es) ≡ lengths_of es
untold_lengths [] n = refl
untold_lengths (e ∷ es) n =
    ap (λ (k : ℕ). k ∷ lengths (map (λ (e : Entry). replicate e.tokens n) es)) (length-replicate e.tokens n) ∙ ap (λ (ks : List ℕ). e.tokens ∷ ks) (untold_lengths es n)

-- ---- none is told at a place

pub gap_at : (count : ℕ) (ranks : List (List ℕ)) (i : ℕ) (r : List ℕ) → i < length ranks → r ≡ get_or ranks i [] → Untold count r → Gap count ranks
gap_at count ranks i r lt is u = record {
  place = record { id = i; at = u.at };
  inside = lt;
  within = subst (λ (x : List ℕ). u.at < length x) is u.within;
  free = subst (λ (x : List ℕ). count ≤ get_or x u.at 0) is u.free;
}
