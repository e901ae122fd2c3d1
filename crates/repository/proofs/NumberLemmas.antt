-- Which numbers are taken, and that new ones are distinct from them.
use Rattle.std.proofs.Common.{◌≡◌, ◌≤◌, ◌<◌, ◌+◌, ◌||◌, ◌⊎◌, inl, inr, ℕ, zero, suc, Bool, true, false, List, [], ◌∷◌, ◌++◌, length, get_or, take, refl, ap, sym, subst, ◌∙◌, arith, append_assoc}
use Rattle.std.specs.Bool.{nat_eq}
use Rattle.std.proofs.lemmas.Bool.{cases_eq}
use Rattle.std.proofs.lemmas.Bool.Decides.{nat_tests}
use Rattle.std.proofs.lemmas.List.{map-append, take_more}
use Rattle.std.proofs.lemmas.List.Folds.{list_any-append}
use Rattle.ri_base.specs.Documents.{Document}
use Rattle.disk_index.specs.Kept.{Kept}
use Rattle.disk_index.specs.Parts.{InMemory, OnDisk, Source}
use Rattle.disk_index.specs.Snapshots.{Marked}
use Rattle.manifest.specs.Entries.{with_number, with_numbers}
use Rattle.manifest.specs.Listing.{AreNumbered, IsNoneOf, prior_numbers}
use Rattle.manifest.specs.declared.manifest.PriorEntry.{PriorEntry}
use Rattle.manifest.proofs.EntryLemmas.{one_number_more}
use Rattle.manifest.proofs.ListingLaws.{among-with, is-same, or-group}
use Rattle.holdings.specs.MarkedParts.{filled}
use Rattle.holdings.specs.Parts.{with_source}
use Rattle.holdings.proofs.LiveLemmas.{flat_map-push}
use Rattle.repository.specs.Numbers.{AreTaken, IsLeastFree, is_among}
use Rattle.repository.specs.States.{numbers_in, part_numbers}

-- ---- what is among numbers

pub among-numbers : (used ns : List ℕ) (k : ℕ) → is_among k (with_numbers used ns) ≡ (is_among k used || is_among k ns)
among-numbers used [] k = or-none (is_among k used)
  where
    or-none : (b : Bool) → b ≡ (b || false)
    or-none true = refl
    or-none false = refl
among-numbers used (n ∷ ns) k = among-numbers (with_number used n) ns k ∙ ap (λ b. b || is_among k ns) (among-with used n k) ∙ or-group (nat_eq k n) (is_among k used) (is_among k ns)

pub among-listed : (ns : List ℕ) (k : ℕ) → is_among k (with_numbers [] ns) ≡ is_among k ns
among-listed ns k = among-numbers [] ns k

pub numbers-append : (used xs ys : List ℕ) → with_numbers used (xs ++ ys) ≡ with_numbers (with_numbers used xs) ys
numbers-append used [] ys = refl
numbers-append used (x ∷ xs) ys = numbers-append (with_number used x) xs ys

pub among-own : (n : ℕ) (ns : List ℕ) → is_among n (n ∷ ns) ≡ true
among-own n ns = ap (λ b. b || is_among n ns) (is-same n)

pub among-right : (n k : ℕ) (ns : List ℕ) → is_among n ns ≡ true → is_among n (k ∷ ns) ≡ true
among-right n k ns e = by (nat_eq n k)
  where
    by : (b : Bool) → (b || is_among n ns) ≡ true
    by true = refl
    by false = e

pub among-left : (n : ℕ) (xs ys : List ℕ) → is_among n xs ≡ true → is_among n (xs ++ ys) ≡ true
among-left n xs ys e = list_any-append (nat_eq n) xs ys ∙ ap (λ b. b || is_among n ys) e

pub among-behind : (n : ℕ) (xs ys : List ℕ) → is_among n ys ≡ true → is_among n (xs ++ ys) ≡ true
among-behind n xs ys e = list_any-append (nat_eq n) xs ys ∙ ap (λ b. is_among n xs || b) e ∙ by (is_among n xs)
  where
    by : (b : Bool) → (b || true) ≡ true
    by true = refl
    by false = refl

pub among-either : (n : ℕ) (xs ys : List ℕ) → is_among n (xs ++ ys) ≡ true → (is_among n xs ≡ true) ⊎ (is_among n ys ≡ true)
among-either n xs ys e = by (is_among n xs) refl
  where
    by : (b : Bool) → is_among n xs ≡ b → (is_among n xs ≡ true) ⊎ (is_among n ys ≡ true)
    by true t = inl t
    by false t = inr (sym (list_any-append (nat_eq n) xs ys ∙ ap (λ b. b || is_among n ys) t) ∙ e)

pub clash : (b : Bool) → b ≡ true → b ≡ false → ⊥
clash b p q = cc

pub free-of : (b : Bool) → (b ≡ true → ⊥) → b ≡ false
free-of true never = absurd (never refl)
free-of false never = refl

pub none-of : (n : ℕ) (ns : List ℕ) → is_among n ns ≡ false → IsNoneOf n ns
none-of n [] e = tt
none-of n (m ∷ ms) e = by (nat_eq n m) refl (λ rest. none-of n ms rest)
  where
    by : (b : Bool) → nat_eq n m ≡ b → (is_among n ms ≡ false → IsNoneOf n ms) → IsNoneOf n (m ∷ ms)
    by true t others = absurd (clash (is_among n (m ∷ ms)) (ap (λ b. b || is_among n ms) t) e)
    by false t others = ((λ same. clash (nat_eq n m) (ap (λ (k : ℕ). nat_eq n k) (sym same) ∙ is-same n) t), others (sym (ap (λ b. b || is_among n ms) t) ∙ e))

-- numbers that are told apart aren't the same
pub none-among : (n : ℕ) (ns : List ℕ) → IsNoneOf n ns → is_among n ns ≡ false
none-among n [] none = refl
none-among n (m ∷ ms) none = by (nat_eq n m) refl (none-among n ms none.1)
  where
    by : (b : Bool) → nat_eq n m ≡ b → is_among n ms ≡ false → (nat_eq n m || is_among n ms) ≡ false
    by true t rest = absurd (none.0 (grind (arith, nat_tests)))
    by false t rest = ap (λ b. b || is_among n ms) t ∙ rest

-- each number is below the next one
pub below-next : (next : ℕ) (ns : List ℕ) → AreNumbered next ns → (k : ℕ) → is_among k ns ≡ true → k < next
below-next next [] numbered k e = absurd (clash false e refl)
below-next next (n ∷ ns) numbered k e = by (nat_eq k n) refl (λ rest. below-next next ns numbered.1.1.1 k rest)
  where
    by : (b : Bool) → nat_eq k n ≡ b → (is_among k ns ≡ true → k < next) → k < next
    by true t others = let same : k ≡ n = grind (arith, nat_tests) in let below = numbered.1.0 in omega (arith, same, below)
    by false t others = others (sym (ap (λ b. b || is_among k ns) t) ∙ e)

-- ---- one number more

pub numbered-higher : (low high : ℕ) (ns : List ℕ) → low ≤ high → AreNumbered low ns → AreNumbered high ns
numbered-higher low high [] le a = tt
numbered-higher low high (n ∷ ns) le a = (a.0, ((let below = a.1.0 in omega (arith, below, le)), (a.1.1.0, numbered-higher low high ns le a.1.1.1)))

none-append : (n : ℕ) (xs ys : List ℕ) → IsNoneOf n xs → IsNoneOf n ys → IsNoneOf n (xs ++ ys)
none-append n [] ys a b = b
none-append n (x ∷ xs) ys a b = (a.0, none-append n xs ys a.1 b)

none-left : (n : ℕ) (xs ys : List ℕ) → IsNoneOf n (xs ++ ys) → IsNoneOf n xs
none-left n [] ys a = tt
none-left n (x ∷ xs) ys a = (a.0, none-left n xs ys a.1)

pub none-right : (n : ℕ) (xs ys : List ℕ) → IsNoneOf n (xs ++ ys) → IsNoneOf n ys
none-right n [] ys a = a
none-right n (x ∷ xs) ys a = none-right n xs ys a.1

pub numbered-right : (next : ℕ) (xs ys : List ℕ) → AreNumbered next (xs ++ ys) → AreNumbered next ys
numbered-right next [] ys a = a
numbered-right next (x ∷ xs) ys a = numbered-right next xs ys a.1.1.1

-- a number anywhere among them
pub numbered-insert : (next n : ℕ) (xs ys : List ℕ) → 1 ≤ n → n < next → IsNoneOf n (xs ++ ys) → AreNumbered next (xs ++ ys) → AreNumbered next (xs ++ n ∷ ys)
numbered-insert next n [] ys some below none a = (some, (below, (none, a)))
numbered-insert next n (x ∷ xs) ys some below none a =
    (a.0, (a.1.0, (none-append x xs (n ∷ ys) (none-left x xs ys a.1.1.0) ((λ e. none.0 (sym e)), none-right x xs ys a.1.1.0), numbered-insert next n xs ys some below none.1 a.1.1.1)))

-- some of them fewer
pub numbered-less : (next : ℕ) (xs ys zs : List ℕ) → AreNumbered next (xs ++ (ys ++ zs)) → AreNumbered next (xs ++ zs)
numbered-less next [] ys zs a = numbered-right next ys zs a
numbered-less next (x ∷ xs) ys zs a =
    (a.0, (a.1.0, (none-append x xs zs (none-left x xs (ys ++ zs) a.1.1.0) (none-right x ys zs (none-right x xs (ys ++ zs) a.1.1.0)), numbered-less next xs ys zs a.1.1.1)))

-- numbers that one list has and another hasn't
pub numbered-apart : (next : ℕ) (xs ys : List ℕ) → AreNumbered next (xs ++ ys) → (k : ℕ) → is_among k xs ≡ true → is_among k ys ≡ false
numbered-apart next [] ys a k e = absurd (clash false e refl)
numbered-apart next (x ∷ xs) ys a k e = by (nat_eq k x) refl (λ rest. numbered-apart next xs ys a.1.1.1 k rest)
  where
    by : (b : Bool) → nat_eq k x ≡ b → (is_among k xs ≡ true → is_among k ys ≡ false) → is_among k ys ≡ false
    by true t others =
        let same : k ≡ x = grind (arith, nat_tests) in
        ap (λ (m : ℕ). is_among m ys) same ∙ none-among x ys (none-right x xs ys a.1.1.0)
    by false t others = others (sym (ap (λ b. b || is_among k xs) t) ∙ e)

-- ---- the number of a new file

both-true : (n k : ℕ) → nat_eq k n ≡ true → k ≡ n
both-true n k e = grind (arith, nat_tests)

among-cases : (taken : List ℕ) (n k : ℕ) → is_among k (with_number taken n) ≡ true → (k ≡ n) ⊎ (is_among k taken ≡ true)
among-cases taken n k e = by (nat_eq k n) refl
  where
    by : (b : Bool) → nat_eq k n ≡ b → (k ≡ n) ⊎ (is_among k taken ≡ true)
    by true t = inl (both-true n k t)
    by false t = inr (sym (ap (λ b. b || is_among k taken) t) ∙ sym (among-with taken n k) ∙ e)

pub among-kept : (taken : List ℕ) (n k : ℕ) → is_among k taken ≡ true → is_among k (with_number taken n) ≡ true
among-kept taken n k e = among-with taken n k ∙ ap (λ b. nat_eq k n || b) e ∙ by (nat_eq k n)
  where
    by : (b : Bool) → (b || true) ≡ true
    by true = refl
    by false = refl

pub among-new : (taken : List ℕ) (n : ℕ) → is_among n (with_number taken n) ≡ true
among-new taken n = among-with taken n n ∙ ap (λ b. b || is_among n taken) (is-same n)

-- the next number is none of those that are taken
pub turn-free : (next low : ℕ) (taken : List ℕ) → AreTaken next low taken → is_among next taken ≡ false
turn-free next low taken are = by (is_among next taken) refl
  where
    by : (b : Bool) → is_among next taken ≡ b → b ≡ false
    by true t = (let below = are.below next t in absurd (omega (arith, below)))
    by false t = refl

pub taken-turn : (next low : ℕ) (taken : List ℕ) → AreTaken next low taken → AreTaken (next + 1) low (with_number taken next)
taken-turn next low taken are = record {
  next_some = (let s = are.next_some in omega (arith, s));
  low_some = are.low_some;
  below = λ k e. elim (among-cases taken next k e) [ inl same ↦ omega (arith, same) | inr old ↦ (let b = are.below k old in omega (arith, b)) ];
  filled = λ k some under. among-kept taken next k (are.filled k some under);
}

pub taken-free : (next low n : ℕ) (taken : List ℕ) → AreTaken next low taken → IsLeastFree taken n → n < next → AreTaken next (n + 1) (with_number taken n)
taken-free next low n taken are least under = record {
  next_some = are.next_some;
  low_some = (let s = least.some in omega (arith, s));
  below = λ k e. elim (among-cases taken n k e) [ inl same ↦ omega (arith, same, under) | inr old ↦ are.below k old ];
  filled = λ k some low'. elim (cases_eq k n) [
    | inl same ↦ subst (λ (m : ℕ). is_among m (with_number taken n) ≡ true) (sym same) (among-new taken n)
    | inr ne ↦ among-kept taken n k (least.least k some (omega (arith, low', ne)))
  ];
}

-- those of lists whose numbers are below the next one
pub taken-listed : (next : ℕ) (taken ns : List ℕ) → 1 ≤ next → taken ≡ with_numbers [] ns → AreNumbered next ns → AreTaken next 1 taken
taken-listed next taken ns some are numbered = record {
  next_some = some;
  low_some = omega arith;
  below = λ k e. below-next next ns numbered k (sym (among-listed ns k) ∙ ap (λ (l : List ℕ). is_among k l) (sym are) ∙ e);
  filled = λ k one under. absurd (omega (arith, one, under));
}

-- ---- the numbers of parts and priors, one more

pub put-number : (used ns : List ℕ) (i d : ℕ) → i < length ns → with_number (with_numbers used (take i ns)) (get_or ns i d) ≡ with_numbers used (take (i + 1) ns)
put-number used ns i d within = sym (one_number_more used (take i ns) (get_or ns i d)) ∙ sym (ap (with_numbers used) (take_more ns i d within))

pub put-prior : (used : List ℕ) (ps : List PriorEntry) (i : ℕ) (p : PriorEntry) → i < length ps → p ≡ get_or ps i p
    → with_number (with_numbers used (prior_numbers (take i ps))) p.number ≡ with_numbers used (prior_numbers (take (i + 1) ps))
put-prior used ps i p within at =
    sym (one_number_more used (prior_numbers (take i ps)) p.number) ∙ ap (with_numbers used) (sym (map-append (λ (x : PriorEntry). x.number) (take i ps) (p ∷ [])))
    ∙ ap (λ (x : PriorEntry). with_numbers used (prior_numbers (take i ps ++ x ∷ []))) at ∙ sym (ap (λ (l : List PriorEntry). with_numbers used (prior_numbers l)) (take_more ps i p within))

pub put-part : (used : List ℕ) (ms : List Marked) (i : ℕ) (m : Marked) → i < length ms → m ≡ get_or ms i m
    → with_numbers (with_numbers used (part_numbers (take i ms))) (numbers_in m.source) ≡ with_numbers used (part_numbers (take (i + 1) ms))
put-part used ms i m within at =
    sym (numbers-append used (part_numbers (take i ms)) (numbers_in m.source)) ∙ ap (with_numbers used) (sym (flat_map-push (λ (x : Marked). numbers_in x.source) (take i ms) m))
    ∙ ap (λ (x : Marked). with_numbers used (part_numbers (take i ms ++ x ∷ []))) at ∙ sym (ap (λ (l : List Marked). with_numbers used (part_numbers l)) (take_more ms i m within))

-- three lists, one behind the other
pub numbers-put : (none a b c xs ys zs : List ℕ) → none ≡ [] → a ≡ with_numbers none xs → b ≡ with_numbers a ys → c ≡ with_numbers b zs → c ≡ with_numbers [] (xs ++ (ys ++ zs))
numbers-put none a b c xs ys zs empty first second third =
    third ∙ ap (λ (l : List ℕ). with_numbers l zs) (second ∙ ap (λ (l : List ℕ). with_numbers l ys) (first ∙ ap (λ (l : List ℕ). with_numbers l xs) empty))
    ∙ sym (numbers-append (with_numbers [] xs) ys zs) ∙ sym (numbers-append [] xs (ys ++ zs))

pub taken-are : (taken ms ns : List ℕ) → taken ≡ with_numbers [] ms → ms ≡ ns → (n : ℕ) → is_among n taken ≡ is_among n ns
taken-are taken ms ns are same n = ap (λ (l : List ℕ). is_among n l) are ∙ among-listed ms n ∙ ap (λ (l : List ℕ). is_among n l) same

-- ---- a part in memory gets a number

none-moved : (k n : ℕ) (kept : Kept) (ms : List Marked) (i : ℕ) (docs : List Document) (ys : List ℕ) → kept.number ≡ n → (k ≡ n → ⊥) → (get_or ms i (filled [] [])).source ≡ InMemory docs
    → IsNoneOf k (part_numbers ms ++ ys) → IsNoneOf k (part_numbers (with_source ms i (OnDisk kept)) ++ ys)
none-moved k n kept [] i docs ys is ne at none = none
none-moved k n kept (m ∷ ms) zero docs ys is ne at none =
    let same : part_numbers (m ∷ ms) ≡ part_numbers ms = ap (λ (s : Source). numbers_in s ++ part_numbers ms) at in
    ((λ e. ne (e ∙ is)), subst (λ (l : List ℕ). IsNoneOf k (l ++ ys)) same none)
none-moved k n kept (m ∷ ms) (suc i) docs ys is ne at none =
    let split = subst (IsNoneOf k) (append_assoc (numbers_in m.source) (part_numbers ms) ys) none in
    subst (IsNoneOf k) (sym (append_assoc (numbers_in m.source) (part_numbers (with_source ms i (OnDisk kept))) ys))
    (none-append k (numbers_in m.source) (part_numbers (with_source ms i (OnDisk kept)) ++ ys) (none-left k (numbers_in m.source) (part_numbers ms ++ ys) split)
    (none-moved k n kept ms i docs ys is ne at (none-right k (numbers_in m.source) (part_numbers ms ++ ys) split)))

pub numbered-moved : (next : ℕ) (kept : Kept) (ms : List Marked) (i : ℕ) (docs : List Document) (ys : List ℕ) → i < length ms → 1 ≤ kept.number → kept.number < next → (get_or ms i (filled [] [])).source ≡ InMemory docs
    → IsNoneOf kept.number (part_numbers ms ++ ys) → AreNumbered next (part_numbers ms ++ ys) → AreNumbered next (part_numbers (with_source ms i (OnDisk kept)) ++ ys)
numbered-moved next kept [] i docs ys within some below at none numbered = absurd (omega (arith, within))
numbered-moved next kept (m ∷ ms) zero docs ys within some below at none numbered =
    let same : part_numbers (m ∷ ms) ≡ part_numbers ms = ap (λ (s : Source). numbers_in s ++ part_numbers ms) at in
    (some, (below, (subst (λ (l : List ℕ). IsNoneOf kept.number (l ++ ys)) same none, subst (λ (l : List ℕ). AreNumbered next (l ++ ys)) same numbered)))
numbered-moved next kept (m ∷ ms) (suc i) docs ys within some below at none numbered =
    by m.source none numbered (λ none' numbered'. numbered-moved next kept ms i docs ys (omega (arith, within)) some below at none' numbered')
  where
    by : (s : Source) → IsNoneOf kept.number ((numbers_in s ++ part_numbers ms) ++ ys) → AreNumbered next ((numbers_in s ++ part_numbers ms) ++ ys)
        → (IsNoneOf kept.number (part_numbers ms ++ ys) → AreNumbered next (part_numbers ms ++ ys) → AreNumbered next (part_numbers (with_source ms i (OnDisk kept)) ++ ys))
        → AreNumbered next ((numbers_in s ++ part_numbers (with_source ms i (OnDisk kept))) ++ ys)
    by (InMemory other) none' numbered' rest = rest none' numbered'
    by (OnDisk other) none' numbered' rest =
        (numbered'.0, (numbered'.1.0, (none-moved other.number kept.number kept ms i docs ys refl (λ e. none'.0 (sym e)) at numbered'.1.1.0, rest none'.1 numbered'.1.1.1)))
