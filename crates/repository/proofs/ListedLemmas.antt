-- The entries of parts on disk are those of a manifest.
use Rattle.std.proofs.Common.{◌≡◌, ◌≤◌, ◌<◌, ◌+◌, ◌^◌, ◌==◌, ◌||◌, ◌&&◌, ℕ, zero, suc, Bool, true, false, List, [], ◌∷◌, ◌++◌, length, cond, get_or, take, nat_le, nat_lt, length-take-le, refl, ap, sym, subst, ◌∙◌, arith}
use Rattle.std.specs.List.{All, list_any}
use Rattle.std.proofs.lemmas.Bool.{eq-eqb, ne_eqb}
use Rattle.std.proofs.lemmas.Bool.Decides.{nat_tests}
use Rattle.std.proofs.lemmas.List.{length-map, map-append, take_more}
use Rattle.std.proofs.lemmas.List.Elements.{All-head, All-tail}
use Rattle.std.proofs.lemmas.List.Sums.{sum_by-cons}
use Rattle.ri_base.specs.Reading.{AllFit}
use Rattle.ri_base.specs.declared.limits.TheConstants.{MAX_PART_DOCS}
use Rattle.manifest.specs.Files.{numbers_of}
use Rattle.manifest.specs.Fits.{FitMarks, FitsDocs, FitsMark}
use Rattle.manifest.specs.Listing.{AreNumbered, AreRising, FitEntries, IsListing, prior_numbers}
use Rattle.manifest.specs.declared.manifest.PriorEntry.{PriorEntry}
use Rattle.manifest.proofs.ListingLaws.{listing-of}
use Rattle.disk_index.specs.Kept.{Kept}
use Rattle.disk_index.specs.Parts.{InMemory, OnDisk, Source, size}
use Rattle.disk_index.specs.Snapshots.{Marked, documents_held}
use Rattle.disk_index.specs.declared.limits.TheConstants.{MAX_HELD_DOCS}
use Rattle.holdings.specs.MarkedParts.{IsWhole}
use Rattle.repository.specs.Entries.{IsOnDisk, entries_for, entry_for, marked_from, number_in}
use Rattle.repository.specs.Stands.{marks_from}
use Rattle.repository.specs.States.{HasDocs, IsNumbered, IsSized, State, numbers_in, part_numbers}

-- ---- marks

length-marked : (id : ℕ) (marks : List Bool) → length (marked_from id marks) ≤ length marks
length-marked id [] = omega arith
length-marked id (true ∷ marks) = omega (arith, length-marked (id + 1) marks)
length-marked id (false ∷ marks) = omega (arith, length-marked (id + 1) marks)

is-mark : (docs low id : ℕ) → low ≤ id → id < docs → (nat_le low id && nat_lt id docs) ≡ true
is-mark docs low id a b = ap (λ x. x && nat_lt id docs) (le low id a) ∙ lt id docs b
  where
    le : (m n : ℕ) → m ≤ n → nat_le m n ≡ true
    le m n h = grind (arith, nat_tests)

    lt : (m n : ℕ) → m < n → nat_lt m n ≡ true
    lt m n h = grind (arith, nat_tests)

marks-fit : (docs low id : ℕ) (marks : List Bool) → low ≤ id → id + length marks ≤ docs → docs < 2 ^ 32 → AllFit (FitsMark docs) (λ _ m. m + 1) low (marked_from id marks)
marks-fit docs low id [] a b c = tt
marks-fit docs low id (true ∷ marks) a b c = ((omega (arith, b, c), is-mark docs low id a (omega (arith, b))), marks-fit docs (id + 1) (id + 1) marks (omega arith) (omega (arith, b)) c)
marks-fit docs low id (false ∷ marks) a b c = marks-fit docs low (id + 1) marks (omega (arith, a)) (omega (arith, b)) c

fit-marks : (docs : ℕ) (marks : List Bool) → length marks ≡ docs → docs < 2 ^ 32 → FitMarks docs (marked_from 0 marks)
fit-marks docs marks count small =
    let few = length-marked 0 marks in
    (omega (arith, few, count, small), (refl, marks-fit docs 0 0 marks (omega arith) (omega (arith, count)) small))

later-none : (k id : ℕ) (marks : List Bool) → k < id → list_any (λ m. m == k) (marked_from id marks) ≡ false
later-none k id [] below = refl
later-none k id (true ∷ marks) below = ap (λ b. b || list_any (λ m. m == k) (marked_from (id + 1) marks)) (ne_eqb id k (λ e. omega (arith, e, below))) ∙ later-none k (id + 1) marks (omega (arith, below))
later-none k id (false ∷ marks) below = later-none k (id + 1) marks (omega (arith, below))

marks-behind : (id n j : ℕ) (ids : List ℕ) → j < id → marks_from id n (j ∷ ids) ≡ marks_from id n ids
marks-behind id zero j ids below = refl
marks-behind id (suc n) j ids below =
    ap (λ b. (b || list_any (λ m. m == id) ids) ∷ marks_from (id + 1) n (j ∷ ids)) (ne_eqb j id (λ e. omega (arith, e, below))) ∙ ap (λ ms. list_any (λ m. m == id) ids ∷ ms) (marks-behind (id + 1) n j ids (omega (arith, below)))

marks-again : (id : ℕ) (marks : List Bool) → marks_from id (length marks) (marked_from id marks) ≡ marks
marks-again id [] = refl
marks-again id (true ∷ marks) =
    ap (λ b. (b || list_any (λ m. m == id) (marked_from (id + 1) marks)) ∷ marks_from (id + 1) (length marks) (id ∷ marked_from (id + 1) marks)) (eq-eqb id id refl)
    ∙ ap (λ ms. true ∷ ms) (marks-behind (id + 1) (length marks) id (marked_from (id + 1) marks) (omega arith) ∙ marks-again (id + 1) marks)
marks-again id (false ∷ marks) =
    ap (λ b. b ∷ marks_from (id + 1) (length marks) (marked_from (id + 1) marks)) (later-none id (id + 1) marks (omega arith)) ∙ ap (λ ms. false ∷ ms) (marks-again (id + 1) marks)

-- the marks of an entry are those of its part
pub marks-back : (marks : List Bool) → marks_from 0 (length marks) (marked_from 0 marks) ≡ marks
marks-back marks = marks-again 0 marks

with-zero : (n : ℕ) → n ≡ n + 0
with-zero n = omega arith

shift : (a b : ℕ) → (a + 1) + b ≡ a + suc b
shift a b = omega arith

-- one id more is looked at
marked-push : (id : ℕ) (marks : List Bool) (m : Bool) → marked_from id (marks ++ m ∷ []) ≡ marked_from id marks ++ cond m ((id + length marks) ∷ []) []
marked-push id [] true = ap (λ n. n ∷ []) (with-zero id)
marked-push id [] false = refl
marked-push id (true ∷ marks) m =
    ap (λ l. id ∷ l) (marked-push (id + 1) marks m) ∙ ap (λ n. id ∷ (marked_from (id + 1) marks ++ cond m (n ∷ []) [])) (shift id (length marks))
marked-push id (false ∷ marks) m =
    marked-push (id + 1) marks m ∙ ap (λ n. marked_from (id + 1) marks ++ cond m (n ∷ []) []) (shift id (length marks))

pub marked-more : (marks : List Bool) (i : ℕ) → i < length marks → marked_from 0 (take i marks) ++ cond (get_or marks i false) (i ∷ []) [] ≡ marked_from 0 (take (i + 1) marks)
marked-more marks i within =
    let count = length-take-le i marks (omega (arith, within)) in
    let long : 0 + length (take i marks) ≡ i = omega (arith, count) in
    sym (ap (marked_from 0) (take_more marks i false within) ∙ marked-push 0 (take i marks) (get_or marks i false) ∙ ap (λ n. marked_from 0 (take i marks) ++ cond (get_or marks i false) (n ∷ []) []) long)

-- ---- entries

pub entry-is : (n d : ℕ) (ids : List ℕ) (m : Marked) (k : Kept) → m.source ≡ OnDisk k → n ≡ k.number → d ≡ length k.outlines → ids ≡ marked_from 0 m.marks → record { number = n; docs = d; marks = ids } ≡ entry_for m
entry-is n d ids m k at number docs marks =
    let a : n ≡ number_in m.source = number ∙ sym (ap number_in at) in
    let b : d ≡ size m.source = docs ∙ sym (ap size at) in
    ap (λ (x : ℕ). record { number = x; docs = d; marks = ids }) a ∙ ap (λ (x : ℕ). record { number = number_in m.source; docs = x; marks = ids }) b
    ∙ ap (λ (x : List ℕ). record { number = number_in m.source; docs = size m.source; marks = x }) marks

pub entries-more : (ms : List Marked) (i : ℕ) (m : Marked) → i < length ms → m ≡ get_or ms i m → entries_for (take i ms) ++ entry_for m ∷ [] ≡ entries_for (take (i + 1) ms)
entries-more ms i m within at =
    sym (map-append entry_for (take i ms) (m ∷ [])) ∙ ap (λ (x : Marked). entries_for (take i ms ++ x ∷ [])) at ∙ sym (ap entries_for (take_more ms i m within))

abbrev pub IsStored : Marked → Type 0
IsStored m = IsOnDisk m.source

fits-stored : (s : Source) → HasDocs s → IsOnDisk s → FitsDocs (size s)
fits-stored (InMemory docs) some stored = absurd stored
fits-stored (OnDisk kept) fits stored = fits

pub entries-fit : (ms : List Marked) → All IsSized ms → All IsStored ms → All IsWhole ms → FitEntries (entries_for ms)
entries-fit [] sized stored whole = tt
entries-fit (m ∷ ms) sized stored whole =
    let s = fits-stored m.source (All-head IsSized m ms sized) (All-head IsStored m ms stored) in
    ((s, fit-marks (size m.source) m.marks (All-head IsWhole m ms whole) s.0), entries-fit ms (All-tail IsSized m ms sized) (All-tail IsStored m ms stored) (All-tail IsWhole m ms whole))

one-number : (s : Source) (ns : List ℕ) → IsOnDisk s → number_in s ∷ ns ≡ numbers_in s ++ ns
one-number (InMemory docs) ns stored = absurd stored
one-number (OnDisk kept) ns stored = refl

pub numbers-entries : (ms : List Marked) → All IsStored ms → numbers_of (entries_for ms) ≡ part_numbers ms
numbers-entries [] stored = refl
numbers-entries (m ∷ ms) stored =
    ap (λ ns. number_in m.source ∷ ns) (numbers-entries ms (All-tail IsStored m ms stored)) ∙ one-number m.source (part_numbers ms) (All-head IsStored m ms stored)

some-docs : (n : ℕ) → FitsDocs n → 1 ≤ n
some-docs n fits = by (nat_le 1 n) (nat_le n MAX_PART_DOCS) refl fits.1
  where
    by : (a b : Bool) → nat_le 1 n ≡ a → (a && b) ≡ true → 1 ≤ n
    by true b e both = grind (arith, nat_tests)
    by false b e both = cc

has-some : (s : Source) → HasDocs s → 1 ≤ size s
has-some (InMemory docs) some = some
has-some (OnDisk kept) fits = some-docs (size (OnDisk kept)) fits

-- no more parts than documents
few-parts : (ms : List Marked) → All IsSized ms → length ms ≤ documents_held ms
few-parts [] sized = omega arith
few-parts (m ∷ ms) sized =
    let some = has-some m.source (All-head IsSized m ms sized) in
    let rest = few-parts ms (All-tail IsSized m ms sized) in
    omega (arith, some, rest, sum_by-cons (λ (x : Marked). size x.source) m ms)

-- what is held can be listed with other numbers, and other stale files
pub listing-now : (s : State) (after : ℕ) (closed : List Marked) (stale : List ℕ) → IsNumbered s → s.next ≤ after → after < 2 ^ 64 → All IsStored closed → All IsSized closed → All IsWhole closed
    → documents_held closed ≤ MAX_HELD_DOCS → length stale < 2 ^ 64 → AreRising 0 stale → AreNumbered after (part_numbers closed ++ (stale ++ prior_numbers s.priors)) → IsListing after (entries_for closed) stale s.priors
listing-now s after closed stale n rises fits stored sized whole few few_stale rise numbered =
    let old = listing-of n.list n.form in
    let some = old.next_some in
    let count = few-parts closed sized in
    let small : length closed < 2 ^ 32 = omega (arith, count, few) in
    let long : length (entries_for closed) ≡ length closed = length-map closed entry_for in
    let priors = subst (λ (ps : List PriorEntry). IsListing n.list.next n.list.segments n.list.stale ps) n.priors_are old in
    record {
      next_some = omega (arith, some, n.next_is, rises);
      next_fits = fits;
      few_segments = omega (arith, small, long);
      segments_fit = entries-fit closed sized stored whole;
      few_stale = few_stale;
      stale_rise = rise;
      few_priors = priors.few_priors;
      priors_named = priors.priors_named;
      numbered = subst (λ (ns : List ℕ). AreNumbered after (ns ++ (stale ++ prior_numbers s.priors))) (sym (numbers-entries closed stored)) numbered;
    }

-- the stale files of a repository, and none
pub stale-listed : (s : State) → IsNumbered s → (length s.stale < 2 ^ 64) × AreRising 0 s.stale
stale-listed s n =
    let old = subst (λ (st : List ℕ). IsListing n.list.next n.list.segments st n.list.priors) n.stale_are (listing-of n.list n.form) in
    (old.few_stale, old.stale_rise)

-- the numbers of all its files
pub all-listed : (s : State) → IsNumbered s → AreNumbered s.next (part_numbers s.held.parts.closed ++ (s.stale ++ prior_numbers s.priors))
all-listed s n =
    let old = listing-of n.list n.form in
    let one = subst (λ (ns : List ℕ). AreNumbered n.list.next (ns ++ (n.list.stale ++ prior_numbers n.list.priors))) n.numbers_are old.numbered in
    let two = subst (λ (st : List ℕ). AreNumbered n.list.next (part_numbers s.held.parts.closed ++ (st ++ prior_numbers n.list.priors))) n.stale_are one in
    let three = subst (λ (ps : List PriorEntry). AreNumbered n.list.next (part_numbers s.held.parts.closed ++ (s.stale ++ prior_numbers ps))) n.priors_are two in
    subst (λ (next : ℕ). AreNumbered next (part_numbers s.held.parts.closed ++ (s.stale ++ prior_numbers s.priors))) n.next_is three

pub next-some : (s : State) → IsNumbered s → 1 ≤ s.next
next-some s n = (let old = listing-of n.list n.form in let some = old.next_some in omega (arith, some, n.next_is))
