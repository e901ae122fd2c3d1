-- A manifest keeps its rules in the order of reading exactly where its lists and the numbers of its files keep theirs.
use Rattle.std.proofs.Common.{◌≡◌, ◌≤◌, ◌<◌, ◌^◌, ◌||◌, ◌&&◌, not, ℕ, Bool, true, false, List, [], ◌∷◌, ◌++◌, nat_le, nat_lt, refl, sym, ap, subst, ◌∙◌, arith}
use Rattle.std.specs.Bool.{nat_eq}
use Rattle.std.specs.List.{list_any}
use Rattle.std.specs.Ordering.{match_ordering, nat_cmp}
use Rattle.std.specs.BTreeSet.{insert_key}
use Rattle.std.specs.declared.cmp.Ordering.{Ordering}
use Rattle.std.specs.declared.cmp.Ordering.TheVariants.{Less, Equal, Greater}
use Rattle.std.proofs.lemmas.Bool.Decides.{nat_tests}
use Rattle.ri_base.specs.Reading.{AllFit}
use Rattle.manifest.specs.Entries.{Behind, BehindPrior, behind, behind_prior, is_number, with_number, with_numbers}
use Rattle.manifest.specs.Files.{numbers_of}
use Rattle.manifest.specs.Fits.{FitPriors, FitSegments, FitStale, FitsNumber, FitsPrior, FitsSegment, FitsStale, IsManifest}
use Rattle.manifest.specs.Listing.{AreNamed, AreNumbered, AreRising, FitEntries, IsListing, IsNoneOf, all_numbers, listing, prior_numbers}
use Rattle.manifest.specs.declared.manifest.Manifest.{Manifest}
use Rattle.manifest.specs.declared.manifest.PriorEntry.{PriorEntry}
use Rattle.manifest.specs.declared.manifest.SegEntry.{SegEntry}

at-least : (a b : ℕ) → nat_le a b ≡ true → a ≤ b
at-least a b h = grind (arith, nat_tests)

is-least : (a b : ℕ) → a ≤ b → nat_le a b ≡ true
is-least a b h = grind (arith, nat_tests)

is-below : (a b : ℕ) → nat_lt a b ≡ true → a < b
is-below a b h = grind (arith, nat_tests)

below-is : (a b : ℕ) → a < b → nat_lt a b ≡ true
below-is a b h = grind (arith, nat_tests)

-- ---- the set of the numbers before

or-twice : (a b : Bool) → (a || b) ≡ (a || (a || b))
or-twice true b = refl
or-twice false b = refl

or-swap : (a b c : Bool) → (b || (a || c)) ≡ (a || (b || c))
or-swap true true c = refl
or-swap true false c = refl
or-swap false true c = refl
or-swap false false c = refl

pub or-group : (a b c : Bool) → ((a || b) || c) ≡ (b || (a || c))
or-group true true c = refl
or-group true false c = refl
or-group false true c = refl
or-group false false c = refl

cmp-same : (k x : ℕ) → nat_cmp k x ≡ Equal → k ≡ x
cmp-same k x e = grind (arith, nat_tests)

pub among-with : (used : List ℕ) (k n : ℕ) → list_any (nat_eq n) (with_number used k) ≡ (nat_eq n k || list_any (nat_eq n) used)
among-with [] k n = refl
among-with (x ∷ xs) k n = by (nat_cmp k x) refl (among-with xs k n)
  where
    by : (r : Ordering) → nat_cmp k x ≡ r → list_any (nat_eq n) (with_number xs k) ≡ (nat_eq n k || list_any (nat_eq n) xs)
        → list_any (nat_eq n) (match_ordering r (k ∷ x ∷ xs) (x ∷ xs) (x ∷ insert_key nat_cmp xs k)) ≡ (nat_eq n k || (nat_eq n x || list_any (nat_eq n) xs))
    by Less e rest = refl
    by Equal e rest = or-twice (nat_eq n x) (list_any (nat_eq n) xs) ∙ ap (λ m. nat_eq n m || (nat_eq n x || list_any (nat_eq n) xs)) (sym (cmp-same k x e))
    by Greater e rest = ap (λ b. nat_eq n x || b) rest ∙ or-swap (nat_eq n k) (nat_eq n x) (list_any (nat_eq n) xs)

-- ---- numbers behind others

-- each number keeps its rule behind those before it
abbrev AreBehind : ℕ → List ℕ → List ℕ → Type 0
AreBehind next used [] = Unit {0}
AreBehind next used (n ∷ ns) = FitsNumber next used n × AreBehind next (with_number used n) ns

behind-append : (next : ℕ) (used xs ys : List ℕ) → AreBehind next used xs → AreBehind next (with_numbers used xs) ys → AreBehind next used (xs ++ ys)
behind-append next used [] ys a b = b
behind-append next used (x ∷ xs) ys a b = (a.0, behind-append next (with_number used x) xs ys a.1 b)

behind-left : (next : ℕ) (used xs ys : List ℕ) → AreBehind next used (xs ++ ys) → AreBehind next used xs
behind-left next used [] ys a = tt
behind-left next used (x ∷ xs) ys a = (a.0, behind-left next (with_number used x) xs ys a.1)

behind-right : (next : ℕ) (used xs ys : List ℕ) → AreBehind next used (xs ++ ys) → AreBehind next (with_numbers used xs) ys
behind-right next used [] ys a = a
behind-right next used (x ∷ xs) ys a = behind-right next (with_number used x) xs ys a.1

parts-of : (a b c : Bool) → (a && b && not c) ≡ true → (a ≡ true) × ((b ≡ true) × (c ≡ false))
parts-of true true true e = cc
parts-of true true false e = (refl, (refl, refl))
parts-of true false c e = cc
parts-of false b c e = cc

all-of : (a b c : Bool) → a ≡ true → b ≡ true → c ≡ false → (a && b && not c) ≡ true
all-of true true false p q r = refl
all-of true true true p q r = cc
all-of true false c p q r = cc
all-of false b c p q r = cc

rule-of : (next n : ℕ) (used : List ℕ) → FitsNumber next used n → (1 ≤ n) × ((n < next) × (list_any (nat_eq n) used ≡ false))
rule-of next n used fits =
    let r = parts-of (nat_le 1 n) (nat_lt n next) (list_any (nat_eq n) used) fits.1 in
    (at-least 1 n r.0, (is-below n next r.1.0, r.1.1))

left-or : (a b : Bool) → a ≡ true → (a || b) ≡ true
left-or true b e = refl
left-or false b e = cc

right-or : (a b : Bool) → b ≡ true → (a || b) ≡ true
right-or true b e = refl
right-or false b e = e

pub is-same : (n : ℕ) → nat_eq n n ≡ true
is-same n = grind (arith, nat_tests)

differ : (n k : ℕ) (used : List ℕ) → list_any (nat_eq k) used ≡ true → list_any (nat_eq n) used ≡ false → k ≡ n → ⊥
differ n k used a b e = (let c : list_any (nat_eq n) used ≡ true = subst (λ (m : ℕ). list_any (nat_eq m) used ≡ true) e a in absurd cc)

none-behind : (next k : ℕ) (used ns : List ℕ) → list_any (nat_eq k) used ≡ true → AreBehind next used ns → IsNoneOf k ns
none-behind next k used [] among behind = tt
none-behind next k used (n ∷ ns) among behind =
    let rule = rule-of next n used behind.0 in
    (differ n k used among rule.1.1, none-behind next k (with_number used n) ns (among-with used n k ∙ right-or (nat_eq k n) (list_any (nat_eq k) used) among) behind.1)

behind-numbered : (next : ℕ) (used ns : List ℕ) → AreBehind next used ns → AreNumbered next ns
behind-numbered next used [] behind = tt
behind-numbered next used (n ∷ ns) behind =
    let rule = rule-of next n used behind.0 in
    let own : list_any (nat_eq n) (with_number used n) ≡ true = among-with used n n ∙ left-or (nat_eq n n) (list_any (nat_eq n) used) (is-same n) in
    (rule.0, (rule.1.0, (none-behind next n (with_number used n) ns own behind.1, behind-numbered next (with_number used n) ns behind.1)))

-- none of the numbers is in the set
abbrev AreFree : List ℕ → List ℕ → Type 0
AreFree used [] = Unit {0}
AreFree used (n ∷ ns) = (list_any (nat_eq n) used ≡ false) × AreFree used ns

neither : (a b : Bool) → a ≡ false → b ≡ false → (a || b) ≡ false
neither true b p q = cc
neither false b p q = q

other-is : (n k : ℕ) → (n ≡ k → ⊥) → nat_eq k n ≡ false
other-is n k ne = by (nat_eq k n) refl
  where
    by : (b : Bool) → nat_eq k n ≡ b → b ≡ false
    by true e = absurd (ne (grind (arith, nat_tests)))
    by false e = refl

free-with : (used ns : List ℕ) (n : ℕ) → IsNoneOf n ns → AreFree used ns → AreFree (with_number used n) ns
free-with used [] n none free = tt
free-with used (k ∷ ns) n none free =
    (among-with used n k ∙ neither (nat_eq k n) (list_any (nat_eq k) used) (other-is n k none.0) free.0, free-with used ns n none.1 free.1)

numbered-behind : (next : ℕ) (used ns : List ℕ) → next < 2 ^ 64 → AreFree used ns → AreNumbered next ns → AreBehind next used ns
numbered-behind next used [] fits free numbered = tt
numbered-behind next used (n ∷ ns) fits free numbered =
    let below = numbered.1.0 in (
      (omega (arith, below, fits), all-of (nat_le 1 n) (nat_lt n next) (list_any (nat_eq n) used) (is-least 1 n numbered.0) (below-is n next below) free.0),
      numbered-behind next (with_number used n) ns fits (free-with used ns n numbered.1.1.0 free.1) numbered.1.1.1,
    )

free-of-none : (ns : List ℕ) → AreFree [] ns
free-of-none [] = tt
free-of-none (n ∷ ns) = (refl, free-of-none ns)

-- ---- segments

segments-behind : (next : ℕ) (used : List ℕ) (es : List SegEntry) → AllFit (FitsSegment next) (λ used e. with_number used e.number) used es → AreBehind next used (numbers_of es)
segments-behind next used [] all = tt
segments-behind next used (e ∷ es) all = (all.0.0, segments-behind next (with_number used e.number) es all.1)

segments-entries : (next : ℕ) (used : List ℕ) (es : List SegEntry) → AllFit (FitsSegment next) (λ used e. with_number used e.number) used es → FitEntries es
segments-entries next used [] all = tt
segments-entries next used (e ∷ es) all = ((all.0.1.0, all.0.1.1.0), segments-entries next (with_number used e.number) es all.1)

behind-segments : (next : ℕ) (used : List ℕ) (es : List SegEntry) → FitEntries es → AreBehind next used (numbers_of es) → AllFit (FitsSegment next) (λ used e. with_number used e.number) used es
behind-segments next used [] fit behind = tt
behind-segments next used (e ∷ es) fit behind = ((behind.0, (fit.0.0, (fit.0.1, refl))), behind-segments next (with_number used e.number) es fit.1 behind.1)

-- ---- stale files

both-of : (a b : Bool) → (a && b) ≡ true → (a ≡ true) × (b ≡ true)
both-of true true e = (refl, refl)
both-of true false e = cc
both-of false b e = cc

of-both : (a b : Bool) → a ≡ true → b ≡ true → (a && b) ≡ true
of-both true b p q = q
of-both false b p q = cc

stale-behind : (next : ℕ) (s : Behind) (ns : List ℕ) → AllFit (FitsStale next) behind s ns → AreBehind next s.used ns
stale-behind next s [] all = tt
stale-behind next s (n ∷ ns) all =
    let r = both-of (nat_le s.low n) (is_number next s.used n) all.0.1 in
    ((all.0.0, r.1), stale-behind next (behind s n) ns all.1)

stale-rises : (next : ℕ) (s : Behind) (ns : List ℕ) → AllFit (FitsStale next) behind s ns → AreRising s.low ns
stale-rises next s [] all = tt
stale-rises next s (n ∷ ns) all =
    let r = both-of (nat_le s.low n) (is_number next s.used n) all.0.1 in
    (at-least s.low n r.0, stale-rises next (behind s n) ns all.1)

behind-stale : (next : ℕ) (s : Behind) (ns : List ℕ) → AreRising s.low ns → AreBehind next s.used ns → AllFit (FitsStale next) behind s ns
behind-stale next s [] rise behind' = tt
behind-stale next s (n ∷ ns) rise behind' =
    ((behind'.0.0, of-both (nat_le s.low n) (is_number next s.used n) (is-least s.low n rise.0) behind'.0.1), behind-stale next (behind s n) ns rise.1 behind'.1)

-- ---- priors

priors-behind : (next : ℕ) (s : BehindPrior) (ps : List PriorEntry) → AllFit (FitsPrior next) behind_prior s ps → AreBehind next s.used (prior_numbers ps)
priors-behind next s [] all = tt
priors-behind next s (p ∷ ps) all = (all.0.1.0, priors-behind next (behind_prior s p) ps all.1)

priors-named : (next : ℕ) (s : BehindPrior) (ps : List PriorEntry) → AllFit (FitsPrior next) behind_prior s ps → AreNamed s.names ps
priors-named next s [] all = tt
priors-named next s (p ∷ ps) all = (all.0.0, priors-named next (behind_prior s p) ps all.1)

behind-priors : (next : ℕ) (s : BehindPrior) (ps : List PriorEntry) → AreNamed s.names ps → AreBehind next s.used (prior_numbers ps) → AllFit (FitsPrior next) behind_prior s ps
behind-priors next s [] named behind' = tt
behind-priors next s (p ∷ ps) named behind' = ((named.0, (behind'.0, refl)), behind-priors next (behind_prior s p) ps named.1 behind'.1)

-- ---- the manifest

pub listing-of : (m : Manifest) → IsManifest m → IsListing m.next m.segments m.stale m.priors
listing-of m h =
    let segments = h.1.0.0 in
    let stale = h.1.0.1.0 in
    let priors = h.1.0.1.1.0 in
    let used = with_numbers [] (numbers_of m.segments) in
    let behind' : AreBehind m.next [] (all_numbers m.segments m.stale m.priors) =
    behind-append m.next [] (numbers_of m.segments) (m.stale ++ prior_numbers m.priors) (segments-behind m.next [] m.segments segments.1.1)
    (behind-append m.next used m.stale (prior_numbers m.priors) (stale-behind m.next (record { low = 0; used = used }) m.stale stale.1.1)
    (priors-behind m.next (record { names = []; used = with_numbers used m.stale }) m.priors priors.1.1)) in
    record {
      next_some = at-least 1 m.next h.0.1;
      next_fits = h.0.0;
      few_segments = segments.0;
      segments_fit = segments-entries m.next [] m.segments segments.1.1;
      few_stale = stale.0;
      stale_rise = stale-rises m.next (record { low = 0; used = used }) m.stale stale.1.1;
      few_priors = priors.0;
      priors_named = priors-named m.next (record { names = []; used = with_numbers used m.stale }) m.priors priors.1.1;
      numbered = behind-numbered m.next [] (all_numbers m.segments m.stale m.priors) behind';
    }

pub manifest-of : (next : ℕ) (es : List SegEntry) (stale : List ℕ) (ps : List PriorEntry) → IsListing next es stale ps → IsManifest (listing next es stale ps)
manifest-of next es stale ps l =
    let used = with_numbers [] (numbers_of es) in
    let all = numbered-behind next [] (all_numbers es stale ps) l.next_fits (free-of-none (all_numbers es stale ps)) l.numbered in
    let rest = behind-right next [] (numbers_of es) (stale ++ prior_numbers ps) all in
    let segments : FitSegments next es = (l.few_segments, (refl, behind-segments next [] es l.segments_fit (behind-left next [] (numbers_of es) (stale ++ prior_numbers ps) all))) in
    let stales : FitStale next used stale =
    (l.few_stale, (refl, behind-stale next (record { low = 0; used = used }) stale l.stale_rise (behind-left next used stale (prior_numbers ps) rest))) in
    let priors : FitPriors next (with_numbers used stale) ps =
    (l.few_priors, (refl, behind-priors next (record { names = []; used = with_numbers used stale }) ps l.priors_named (behind-right next used stale (prior_numbers ps) rest))) in
    ((l.next_fits, is-least 1 next l.next_some), ((segments, (stales, (priors, refl))), refl))
