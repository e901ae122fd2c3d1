-- From the keys of a ranking to the order of its lines.
use Rattle.std.proofs.Common.{ℕ, zero, suc, ◌≡◌, ◌<◌, ◌≤◌, ◌+◌, ◌*◌, arith, sym, ◌∙◌, ap, refl, subst, List, [], ◌∷◌, ◌++◌, length, map, take, drop, take-append-drop, Option, None, Some, inl, inr}
use Rattle.std.proofs.lemmas.Bool.{cases_lt, cases_order}
use Rattle.std.proofs.lemmas.List.Elements.{All-nil, All-cons}
use Rattle.std.proofs.lemmas.Option.{slice_get_within}
use Rattle.std.specs.List.{All, AllPairs, Contains}
use Rattle.std.specs.Prelude.{slice_get, IsSomeAnd}
use Rattle.log_chain.specs.declared.chain.TheConstants.{LAST}
use Rattle.ri_base.specs.Ratio.{Ratio, IsBelief, ratio_of}
use Rattle.ri_base.specs.declared.fraction.Fraction.{Fraction}
use Rattle.ri_base.specs.declared.hit.Hit.{Hit}
use Rattle.query_check.specs.Scale.{scale}
use Rattle.query_check.specs.Trees.{ScaledTree}
use Rattle.belief_nodes.specs.Keys.{key_at}
use Rattle.belief_nodes.specs.Order.{IsGreater, IsNear, IsSame}
use Rattle.belief_nodes.specs.Products.{product}
use Rattle.ranked_output.specs.declared.marks.Mark.TheVariants.{Below, Same, Near}
use Rattle.ranked_output.specs.Marks.{mark_of}
use Rattle.log_chain.specs.Score.{score}
use Rattle.ranked_output.specs.Texts.{Line, lines_of}
use Rattle.true_order.specs.Ranked.{IsRanked, hit_beliefs}
use Rattle.true_order.specs.TrueOrder.{IsLine, IsScore, IsTrueOrder, above, beliefs}
use Rattle.true_order.proofs.Marks.{below_is, same_above, near_above}
use Rattle.true_order.proofs.Places.{all_at, get_left, get_right, mapped_at, pair_at}
use Rattle.true_order.proofs.Shown.{Shows, hit_above, line_at, shown_at}

-- what the keys of a tree tell of beliefs
pub record KeysTell (tree : ScaledTree) : Type 0 where
  pub apart : (a b : List Ratio) → All IsBelief a → All IsBelief b
      → key_at LAST a tree + 2 * scale tree < key_at LAST b tree → IsGreater tree a b
  pub near : (a b : List Ratio) → All IsBelief a → All IsBelief b
      → key_at LAST a tree ≤ key_at LAST b tree + 2 * scale tree
      → key_at LAST b tree ≤ key_at LAST a tree + 2 * scale tree → IsNear tree a b
  pub scored : (a : List Ratio) → All IsBelief a
      → IsScore (score (scale tree) (key_at LAST a tree)) (scale tree) (product a tree)

-- a fraction of the program is a belief
is_belief : (f : Fraction) → IsBelief (ratio_of f)
is_belief f = record { positive = f.positive; at_most_one = f.at_most_one; fits = f.fits }

are_beliefs : (fs : List Fraction) → All IsBelief (map ratio_of fs)
are_beliefs [] = All-nil IsBelief
are_beliefs (f ∷ fs) = All-cons IsBelief (ratio_of f) (map ratio_of fs) (is_belief f) (are_beliefs fs)

-- the hit at a place
abbrev pub IsHit : List Hit → ℕ → Hit → Type 0
IsHit hits i x = slice_get hits i ≡ Some x

-- a place further on has no smaller key
later : (hits : List Hit) (i j : ℕ) (x y : Hit) → AllPairs (λ a b. a.key ≤ b.key) hits → IsHit hits i x → IsHit hits j y
    → i ≤ j → x.key ≤ y.key
later hits i j x y h e f l =
    elim (cases_order i j) [
      | inl same ↦
          (let one : Some x ≡ Some y = sym e ∙ ap (slice_get hits) same ∙ f in
          let k : x.key ≡ y.key = cc in
          omega arith)
      | inr (inl less) ↦ pair_at (λ a b. a.key ≤ b.key) hits i j x y h e f less
      | inr (inr more) ↦ absurd (omega arith)
    ]

-- a hit has the key of its beliefs
key_is : (tree : ScaledTree) (hits : List Hit) (i : ℕ) (x : Hit) → IsRanked tree hits → IsHit hits i x
    → x.key ≡ key_at LAST (hit_beliefs x) tree
key_is tree hits i x r e = all_at (λ h. h.key ≡ key_at LAST (hit_beliefs h) tree) hits i x r.keys e

-- two hits whose keys are apart
hit_apart : (tree : ScaledTree) (hits : List Hit) (i j : ℕ) (x y : Hit) → KeysTell tree → IsRanked tree hits
    → IsHit hits i x → IsHit hits j y → x.key + 2 * scale tree < y.key → IsGreater tree (hit_beliefs x) (hit_beliefs y)
hit_apart tree hits i j x y t r e f l =
    let kx = key_is tree hits i x r e in
    let ky = key_is tree hits j y r f in
    t.apart (hit_beliefs x) (hit_beliefs y) (are_beliefs x.fractions) (are_beliefs y.fractions) (omega arith)

-- two hits whose keys are not
hit_near : (tree : ScaledTree) (hits : List Hit) (i j : ℕ) (x y : Hit) → KeysTell tree → IsRanked tree hits
    → IsHit hits i x → IsHit hits j y → x.key ≤ y.key → y.key ≤ x.key + 2 * scale tree
    → IsNear tree (hit_beliefs x) (hit_beliefs y)
hit_near tree hits i j x y t r e f l m =
    let kx = key_is tree hits i x r e in
    let ky = key_is tree hits j y r f in
    t.near (hit_beliefs x) (hit_beliefs y) (are_beliefs x.fractions) (are_beliefs y.fractions) (omega arith) (omega arith)

-- the line above shows the hit above
above_is : (e : ℕ) (shown : List Hit) (i : ℕ) (u : Hit) (P : Line → Type 0) → hit_above None shown i ≡ Some u
    → ((l : Line) → l.fractions ≡ u.fractions → P l) → IsSomeAnd (above (lines_of e shown) i) P
above_is e shown zero u P h f = cc
above_is e shown (suc i) u P h f =
    subst (λ (o : Option Line). IsSomeAnd o P) (sym (line_at e None shown i u h)) (f _ refl)

-- the hit above has a place of its own
place_above : (shown : List Hit) (i : ℕ) (u : Hit) → hit_above None shown i ≡ Some u
    → (m : ℕ) × (i ≡ suc m) × IsHit shown m u
place_above shown zero u e = cc
place_above shown (suc m) u e = (m, refl, e)

line_is : {e : ℕ} {shown : List Hit} {i : ℕ} {l : Line} (s : Shows e None shown i l) → beliefs l ≡ hit_beliefs s.hit
line_is s = ap beliefs s.line

mark_is : {e : ℕ} {shown : List Hit} {i : ℕ} {l : Line} (s : Shows e None shown i l)
    → mark_of e (hit_above None shown i) s.hit ≡ l.mark
mark_is s = sym (ap (λ l. l.mark) s.line)

-- where `>` stands on a line, each hit above it is apart from its own hit and from each behind that one
apart : (tree : ScaledTree) (shown rest : List Hit) (i j n : ℕ) (x y : Hit) (b : Line) → IsRanked tree (shown ++ rest)
    → IsHit shown i x → Shows (scale tree) None shown j b → b.mark ≡ Below → i < j
    → IsHit (shown ++ rest) n y → j ≤ n → x.key + 2 * scale tree < y.key
apart tree shown rest i j n x y b r e s below l f m =
    let hits = shown ++ rest in
    let u = below_is (scale tree) (hit_above None shown j) s.hit (mark_is s ∙ below) in
    let place = place_above shown j u.0 u.1 in
    let at_x = get_left shown rest i x e in
    let at_u = get_left shown rest place.0 u.0 place.2 in
    let first : x.key ≤ u.0.key = later hits i place.0 x u.0 r.rising at_x at_u (omega arith) in
    let last : s.hit.key ≤ y.key = later hits j n s.hit y r.rising (get_left shown rest j s.hit s.at) f m in
    omega arith

-- what isn't shown has a place behind the lines
not_shown : (shown rest : List Hit) (c : List Ratio) → Contains (map hit_beliefs rest) c
    → (n : ℕ) × (y : Hit) × IsHit (shown ++ rest) n y × (length shown ≤ n) × (hit_beliefs y ≡ c)
not_shown shown rest c h =
    let found = mapped_at hit_beliefs rest c h in
    (length shown + found.0, found.1, get_right shown rest found.0 ∙ found.2, omega arith, found.3)

below_holds : (tree : ScaledTree) (shown rest : List Hit) → KeysTell tree → IsRanked tree (shown ++ rest)
    → (i j k : ℕ) (a b c : Line) → IsLine (lines_of (scale tree) shown) i a → IsLine (lines_of (scale tree) shown) j b
    → IsLine (lines_of (scale tree) shown) k c → i < j → j ≤ k → b.mark ≡ Below → IsGreater tree (beliefs a) (beliefs c)
below_holds tree shown rest t r i j k a b c ea eb ec l m below =
    let sa = shown_at (scale tree) None shown i a ea in
    let sb = shown_at (scale tree) None shown j b eb in
    let sc = shown_at (scale tree) None shown k c ec in
    let fa = get_left shown rest i sa.hit sa.at in
    let fc = get_left shown rest k sc.hit sc.at in
    let far = apart tree shown rest i j k sa.hit sc.hit b r sa.at sb below l fc m in
    rw (line_is sa, line_is sc) (hit_apart tree (shown ++ rest) i k sa.hit sc.hit t r fa fc far)

same_holds : (e : ℕ) (shown : List Hit) (i : ℕ) (b : Line) → IsLine (lines_of e shown) i b → b.mark ≡ Same
    → IsSomeAnd (above (lines_of e shown) i) (λ a. IsSame (beliefs a) (beliefs b))
same_holds e shown i b at same =
    let s = shown_at e None shown i b at in
    let u = same_above e (hit_above None shown i) s.hit (mark_is s ∙ same) in
    above_is e shown i u.0 (λ a. IsSame (beliefs a) (beliefs b)) u.1 (λ a f. rw (f, line_is s) u.2)

near_holds : (tree : ScaledTree) (shown rest : List Hit) → KeysTell tree → IsRanked tree (shown ++ rest)
    → (i : ℕ) (b : Line) → IsLine (lines_of (scale tree) shown) i b → b.mark ≡ Near
    → IsSomeAnd (above (lines_of (scale tree) shown) i)
    (λ a. IsNear tree (beliefs a) (beliefs b) × ¬ IsSame (beliefs a) (beliefs b))
near_holds tree shown rest t r i b at near =
    let s = shown_at (scale tree) None shown i b at in
    let u = near_above (scale tree) (hit_above None shown i) s.hit (mark_is s ∙ near) in
    let place = place_above shown i u.0 u.1 in
    let first = get_left shown rest place.0 u.0 place.2 in
    let last = get_left shown rest i s.hit s.at in
    let rising = later (shown ++ rest) place.0 i u.0 s.hit r.rising first last (omega arith) in
    let close = hit_near tree (shown ++ rest) place.0 i u.0 s.hit t r first last rising u.2 in
    above_is (scale tree) shown i u.0 (λ a. IsNear tree (beliefs a) (beliefs b) × ¬ IsSame (beliefs a) (beliefs b)) u.1
    (λ a f. rw (f, line_is s) (close, u.3))

-- of two windows at most one has the greater belief
not_both : (tree : ScaledTree) (a b : List Ratio) → IsGreater tree a b → IsGreater tree b a → ⊥
not_both tree a b h k = omega arith

left_out_holds : (tree : ScaledTree) (shown rest : List Hit) → KeysTell tree → IsRanked tree (shown ++ rest)
    → (i : ℕ) (a : Line) (c : List Ratio) → IsLine (lines_of (scale tree) shown) i a
    → Contains (map hit_beliefs rest) c → IsGreater tree c (beliefs a) → IsNear tree c (beliefs a)
left_out_holds tree shown rest t r i a c at has greater =
    let hits = shown ++ rest in
    let s = shown_at (scale tree) None shown i a at in
    let x = s.hit in
    let y = not_shown shown rest c has in
    let first = get_left shown rest i x s.at in
    let within = slice_get_within shown i x s.at in
    let rising = later hits i y.0 x y.1 r.rising first y.2 (omega arith) in
    let more : IsGreater tree (hit_beliefs y.1) (hit_beliefs x) = rw (y.4, ← line_is s) greater in
    elim (cases_lt (x.key + 2 * scale tree) y.1.key) [
      | inl far ↦
          absurd (not_both tree (hit_beliefs x) (hit_beliefs y.1) (hit_apart tree hits i y.0 x y.1 t r first y.2 far) more)
      | inr close ↦
          (let n = hit_near tree hits i y.0 x y.1 t r first y.2 rising close in
          let turned : IsNear tree (hit_beliefs y.1) (hit_beliefs x) = record { left = n.right; right = n.left } in
          rw (← y.4, line_is s) turned)
    ]

certain_holds : (tree : ScaledTree) (shown rest : List Hit) → KeysTell tree → IsRanked tree (shown ++ rest)
    → (i j : ℕ) (a b : Line) (c : List Ratio) → IsLine (lines_of (scale tree) shown) i a
    → IsLine (lines_of (scale tree) shown) j b → i < j → b.mark ≡ Below → Contains (map hit_beliefs rest) c
    → IsGreater tree (beliefs a) c
certain_holds tree shown rest t r i j a b c ea eb l below has =
    let sa = shown_at (scale tree) None shown i a ea in
    let sb = shown_at (scale tree) None shown j b eb in
    let y = not_shown shown rest c has in
    let within = slice_get_within shown j sb.hit sb.at in
    let fa = get_left shown rest i sa.hit sa.at in
    let far = apart tree shown rest i j y.0 sa.hit y.1 b r sa.at sb below l y.2 (omega arith) in
    rw (← y.4, line_is sa) (hit_apart tree (shown ++ rest) i y.0 sa.hit y.1 t r fa y.2 far)

scores_hold : (tree : ScaledTree) (shown rest : List Hit) → KeysTell tree → IsRanked tree (shown ++ rest)
    → (i : ℕ) (a : Line) → IsLine (lines_of (scale tree) shown) i a
    → IsScore a.score (scale tree) (product (beliefs a) tree)
scores_hold tree shown rest t r i a at =
    let s = shown_at (scale tree) None shown i a at in
    let k = key_is tree (shown ++ rest) i s.hit r (get_left shown rest i s.hit s.at) in
    let score_is : a.score ≡ score (scale tree) (key_at LAST (hit_beliefs s.hit) tree) =
    ap (λ l. l.score) s.line ∙ ap (score (scale tree)) k in
    rw (score_is, line_is s) (t.scored (hit_beliefs s.hit) (are_beliefs s.hit.fractions))

order_holds : (tree : ScaledTree) (shown rest : List Hit) → KeysTell tree → IsRanked tree (shown ++ rest)
    → IsTrueOrder tree (lines_of (scale tree) shown) (map hit_beliefs rest)
order_holds tree shown rest t r = record {
  below = below_holds tree shown rest t r;
  same = same_holds (scale tree) shown;
  near = near_holds tree shown rest t r;
  left_out = left_out_holds tree shown rest t r;
  certain = certain_holds tree shown rest t r;
  scores = scores_hold tree shown rest t r;
}

-- of the first hits of a ranking
pub first_hold : (tree : ScaledTree) (hits : List Hit) (k : ℕ) → KeysTell tree → IsRanked tree hits
    → IsTrueOrder tree (lines_of (scale tree) (take k hits)) (map hit_beliefs (drop k hits))
first_hold tree hits k t r = order_holds tree (take k hits) (drop k hits) t (rw take-append-drop r)
