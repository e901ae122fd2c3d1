-- the first posting that stands a second time
use Rattle.std.proofs.Common.{◌≡◌, ◌<◌, ◌≤◌, ℕ, ◌+◌, Bool, true, false, cond, ◌||◌, List, [], ◌∷◌, ◌++◌, length, get_or, map, take, drop, Option, Some, None, refl, sym, ap, ◌∙◌}
use Rattle.std.specs.Prelude.{not}
use Rattle.std.specs.BTreeSet.{BTreeSet, Updates, contains}
use Rattle.std.specs.Cmp.{both_tied, unsigned_ties}
use Rattle.std.specs.List.{list_any}
use Rattle.std.specs.Ordering.{eq_by_cmp, nat_cmp, ordering_then}
use Rattle.std.specs.declared.cmp.Ordering.{Ordering}
use Rattle.std.proofs.lemmas.List.{drop_all, drop_more, map_more}
use Rattle.std.proofs.lemmas.List.Folds.{list_any-append}
use Rattle.ri_base.specs.declared.places.Place.{Place}
use Rattle.seg_codec.specs.Twice.{first_twice, is_same}
use Rattle.seg_codec.specs.declared.twice.Standing.{Standing}

abbrev pub pair_cmp : ℕ × ℕ → ℕ × ℕ → Ordering
pair_cmp a b = ordering_then (nat_cmp a.0 b.0) (nat_cmp a.1 b.1)

ties : (a b : Place) → is_same a b ≡ eq_by_cmp pair_cmp (a.id, a.at) (b.id, b.at)
ties a b = both_tied _ _ _ _ (unsigned_ties a.id b.id) (unsigned_ties a.at b.at)

one_more : (a b : Bool) → cond a true b ≡ (b || (a || false))
one_more true true = refl
one_more true false = refl
one_more false true = refl
one_more false false = refl

pub seen_more : (seen new : BTreeSet (ℕ × ℕ)) (xs : List Place) (x : Place) → ((q : Place) → contains pair_cmp seen (q.id, q.at) ≡ list_any (λ (y : Place). is_same y q) xs) → Updates pair_cmp seen new (x.id, x.at) true
    → (q : Place) → contains pair_cmp new (q.id, q.at) ≡ list_any (λ (y : Place). is_same y q) (xs ++ x ∷ [])
seen_more seen new xs x known u q =
    u.0 (q.id, q.at) ∙ ap (λ (b : Bool). cond b true (contains pair_cmp seen (q.id, q.at))) (sym (ties x q)) ∙ ap (λ (b : Bool). cond (is_same x q) true b) (known q)
    ∙ one_more (is_same x q) (list_any (λ (y : Place). is_same y q) xs) ∙ sym (list_any-append (λ (y : Place). is_same y q) xs (x ∷ []))

-- whether it was there before it is put there
pub was_there : (b added : Bool) → added ≡ not b → added ≡ false → b ≡ true
was_there true added e f = refl
was_there false added e f = absurd cc

pub was_new : (b added : Bool) → added ≡ not b → added ≡ true → b ≡ false
was_new true added e f = absurd cc
was_new false added e f = refl

abbrev pub posted : List Standing → List Place
posted all = map (λ (s : Standing). s.posting) all

abbrev next : List Place → Standing → List Standing → Bool → Option ℕ
next before s rest b = cond b (Some s.place) (first_twice (before ++ s.posting ∷ []) rest)

step : (all : List Standing) (i : ℕ) (d : Standing) (b : Bool) → i < length all → list_any (λ (y : Place). is_same y (get_or all i d).posting) (posted (take i all)) ≡ b
    → first_twice (posted (take i all)) (drop i all) ≡ next (posted (take i all)) (get_or all i d) (drop (i + 1) all) b
step all i d b lt e = ap (first_twice (posted (take i all))) (drop_more all i d lt) ∙ ap (next (posted (take i all)) (get_or all i d) (drop (i + 1) all)) e

pub twice_goes_on : (all : List Standing) (i : ℕ) (d : Standing) (total : Option ℕ) → i < length all → list_any (λ (y : Place). is_same y (get_or all i d).posting) (posted (take i all)) ≡ false
    → first_twice (posted (take i all)) (drop i all) ≡ total → first_twice (posted (take (i + 1) all)) (drop (i + 1) all) ≡ total
twice_goes_on all i d total lt e so_far =
    ap (λ (before : List Place). first_twice before (drop (i + 1) all)) (map_more (λ (s : Standing). s.posting) all i d lt) ∙ sym (step all i d false lt e) ∙ so_far

pub twice_found : (all : List Standing) (i : ℕ) (d : Standing) (total : Option ℕ) → i < length all → list_any (λ (y : Place). is_same y (get_or all i d).posting) (posted (take i all)) ≡ true
    → first_twice (posted (take i all)) (drop i all) ≡ total → Some (get_or all i d).place ≡ total
twice_found all i d total lt e so_far = sym (step all i d true lt e) ∙ so_far

pub twice_none : (all : List Standing) (i : ℕ) (total : Option ℕ) → length all ≤ i → first_twice (posted (take i all)) (drop i all) ≡ total → None ≡ total
twice_none all i total le so_far = sym (ap (first_twice (posted (take i all))) (drop_all i all le)) ∙ so_far
