-- The lists of a manifest where a prior is set.
use Rattle.std.proofs.Common.{◌≡◌, ◌≤◌, ◌<◌, ◌+◌, ◌^◌, ◌&&◌, ◌||◌, not, ℕ, suc, cond, Bool, true, false, List, [], ◌∷◌, ◌++◌, Option, None, Some, length, nat_le, refl, sym, ap, subst, ◌∙◌, arith}
use Rattle.std.specs.Bool.{nat_eq}
use Rattle.std.specs.Cmp.Lexicographic.{pointwise}
use Rattle.std.specs.List.{All, list_any}
use Rattle.std.proofs.lemmas.Bool.{and_parts, le-leb, leb-false}
use Rattle.std.proofs.lemmas.List.Folds.{list_any-append}
use Rattle.ri_base.specs.Text.{is_name, starts_with_letter}
use Rattle.ri_base.specs.declared.limits.TheConstants.{MAX_PRIORS}
use Rattle.ri_base.specs.declared.text.TheConstants.{NAME_BYTES}
use Rattle.manifest.specs.Entries.{length_name, with_numbers}
use Rattle.manifest.specs.Files.{numbers_of}
use Rattle.manifest.specs.Fits.{FitsName}
use Rattle.manifest.specs.Listing.{AreNamed, AreNumbered, AreRising, IsListing, all_numbers, listing, prior_numbers}
use Rattle.manifest.specs.declared.manifest.PriorEntry.{PriorEntry}
use Rattle.manifest.specs.declared.manifest.SegEntry.{SegEntry}
use Rattle.manifest.proofs.ListingLaws.{listing-of, manifest-of}
use Rattle.disk_index.specs.Snapshots.{documents_held}
use Rattle.disk_index.specs.declared.limits.TheConstants.{MAX_HELD_DOCS}
use Rattle.holdings.specs.MarkedParts.{IsWhole}
use Rattle.repository.specs.Entries.{entries_for}
use Rattle.repository.specs.Numbers.{IsNewNumber, greatest, is_among, next_after}
use Rattle.repository.specs.Priors.{AreStored, is_full, is_named, is_same, number_named, prior_set, with_entry}
use Rattle.repository.specs.Stale.{with_old}
use Rattle.repository.specs.States.{IsNumbered, State, listed_numbers}
use Rattle.repository.proofs.CountLemmas.{numbered-set, old-not_stale}
use Rattle.repository.proofs.ListedLemmas.{all-listed, listing-now, numbers-entries, stale-listed}
use Rattle.repository.proofs.NumberLemmas.{among-behind, among-left, among-own, among-right, below-next}
use Rattle.repository.proofs.PriorSetLemmas.{IsSetListed, after-fits, after-rises, new-numbered}
use Rattle.repository.proofs.StaleLemmas.{rising-stale}

-- ---- names

all-three : (a b c : Bool) → a ≡ true → b ≡ false → c ≡ false → (a && not b && not c) ≡ true
all-three true false false p q r = refl
all-three true true c p q r = cc
all-three true false true p q r = cc
all-three false b c p q r = cc

both : (a b : Bool) → a ≡ true → b ≡ true → (a && b) ≡ true
both true true p q = refl
both true false p q = cc
both false b p q = cc

either : (a b : Bool) → a ≡ false → b ≡ false → (a || (b || false)) ≡ false
either false false p q = refl
either false true p q = cc
either true b p q = cc

name-fits : (name : List ℕ) → is_name name ≡ true → (nat_le 1 (length name) && nat_le (length name) NAME_BYTES) ≡ true
name-fits [] form = cc
name-fits (b ∷ bytes) form =
    let inner = and_parts (starts_with_letter (b ∷ bytes) && nat_le (length (b ∷ bytes)) NAME_BYTES) _ form in
    let most = and_parts (starts_with_letter (b ∷ bytes)) _ inner.0 in
    both (nat_le 1 (length (b ∷ bytes))) (nat_le (length (b ∷ bytes)) NAME_BYTES) (le-leb 1 (length (b ∷ bytes)) (omega arith)) most.1

fits-behind : (names : List (List ℕ)) (name : List ℕ) → is_name name ≡ true → is_same name length_name ≡ false → list_any (pointwise nat_eq name) names ≡ false → FitsName names name
fits-behind names name form other none = (name-fits name form, all-three (is_name name) (is_same name length_name) (list_any (pointwise nat_eq name) names) form other none)

named-set : (names : List (List ℕ)) (ps : List PriorEntry) (name : List ℕ) (n : ℕ) → is_name name ≡ true → is_same name length_name ≡ false → list_any (pointwise nat_eq name) names ≡ false → AreNamed names ps
    → AreNamed names (with_entry ps name n)
named-set names [] name n form other none named = (fits-behind names name form other none, tt)
named-set names (p ∷ ps) name n form other none named = by (is_same name p.name) refl (λ none_more. named-set (names ++ p.name ∷ []) ps name n form other none_more named.1)
  where
    by : (b : Bool) → is_same name p.name ≡ b → (list_any (pointwise nat_eq name) (names ++ p.name ∷ []) ≡ false → AreNamed (names ++ p.name ∷ []) (with_entry ps name n))
        → AreNamed names (cond b (record { name = p.name; number = n } ∷ ps) (p ∷ with_entry ps name n))
    by true e rest = named
    by false e rest =
        let none_more : list_any (pointwise nat_eq name) (names ++ p.name ∷ []) ≡ false =
        list_any-append (pointwise nat_eq name) names (p.name ∷ []) ∙ either (list_any (pointwise nat_eq name) names) (is_same name p.name) none e in
        (named.0, rest none_more)

-- ---- how many

one-longer : (b : Bool) (n : ℕ) → suc (cond b n (n + 1)) ≡ cond b (suc n) (suc n + 1)
one-longer true n = refl
one-longer false n = omega arith

length-entry : (ps : List PriorEntry) (name : List ℕ) (n : ℕ) → length (with_entry ps name n) ≡ cond (is_named ps name) (length ps) (length ps + 1)
length-entry [] name n = refl
length-entry (p ∷ ps) name n = by (is_same name p.name) (length-entry ps name n)
  where
    by : (b : Bool) → length (with_entry ps name n) ≡ cond (is_named ps name) (length ps) (length ps + 1)
        → length (cond b (record { name = p.name; number = n } ∷ ps) (p ∷ with_entry ps name n)) ≡ cond (b || is_named ps name) (suc (length ps)) (suc (length ps) + 1)
    by true rest = refl
    by false rest = ap suc rest ∙ one-longer (is_named ps name) (length ps)

few-set : (ps : List PriorEntry) (name : List ℕ) (n : ℕ) → nat_le (length ps) MAX_PRIORS ≡ true → is_full ps name ≡ false → nat_le (length (with_entry ps name n)) MAX_PRIORS ≡ true
few-set ps name n few room = ap (λ (m : ℕ). nat_le m MAX_PRIORS) (length-entry ps name n) ∙ by (is_named ps name) room
  where
    by : (b : Bool) → (not b && nat_le MAX_PRIORS (length ps)) ≡ false → nat_le (cond b (length ps) (length ps + 1)) MAX_PRIORS ≡ true
    by true e = few
    by false e = (let less : length ps < MAX_PRIORS = leb-false MAX_PRIORS (length ps) e in le-leb (length ps + 1) MAX_PRIORS (omega (arith, less)))

-- ---- all lists

stale-set : (next : ℕ) (es : List SegEntry) (stale : List ℕ) (ps : List PriorEntry) (name : List ℕ) → AreNumbered next (all_numbers es stale ps) → AreRising 0 stale → AreRising 0 (with_old stale (number_named ps name))
stale-set next es stale ps name numbered rise = by (number_named ps name) refl
  where
    by : (o : Option ℕ) → number_named ps name ≡ o → AreRising 0 (with_old stale o)
    by None is = rise
    by (Some old) is = rising-stale 0 old stale rise (omega arith) (old-not_stale next old es stale ps name numbered is)

pub listing-set : (next later n : ℕ) (es : List SegEntry) (stale : List ℕ) (ps : List PriorEntry) (name : List ℕ) → IsListing next es stale ps → AreNumbered later (n ∷ all_numbers es stale ps) → 1 ≤ later → later < 2 ^ 64
    → is_name name ≡ true → is_same name length_name ≡ false → is_full ps name ≡ false → length (with_old stale (number_named ps name)) < 2 ^ 64
    → IsListing later es (with_old stale (number_named ps name)) (with_entry ps name n)
listing-set next later n es stale ps name l numbered some fits form other room few = record {
  next_some = some;
  next_fits = fits;
  few_segments = l.few_segments;
  segments_fit = l.segments_fit;
  few_stale = few;
  stale_rise = stale-set next es stale ps name l.numbered l.stale_rise;
  few_priors = few-set ps name n l.few_priors room;
  priors_named = named-set [] ps name n form other refl l.priors_named;
  numbered = numbered-set later n es stale ps name numbered;
}

-- ---- of a repository

-- numbers that rise below another are fewer than that
pub rising-short : (low next : ℕ) (ns : List ℕ) → low ≤ next → AreRising low ns → ((k : ℕ) → is_among k ns ≡ true → k < next) → low + length ns ≤ next
rising-short low next [] least rise below = omega (arith, least)
rising-short low next (n ∷ ns) least rise below =
    let here : n < next = below n (among-own n ns) in
    let first : low ≤ n = rise.0 in
    let rest = rising-short (n + 1) next ns (omega (arith, here)) rise.1 (λ k e. below k (among-right k n ns e)) in
    omega (arith, first, rest)

few-stale : (later n : ℕ) (es : List SegEntry) (stale : List ℕ) (ps : List PriorEntry) (name : List ℕ) → AreRising 0 (with_old stale (number_named ps name)) → AreNumbered later (n ∷ all_numbers es stale ps)
    → length (with_old stale (number_named ps name)) ≤ later
few-stale later n es stale ps name rise numbered =
    let old = with_old stale (number_named ps name) in
    let rest = prior_numbers (with_entry ps name n) in
    let all = numbered-set later n es stale ps name numbered in
    let below : (k : ℕ) → is_among k old ≡ true → k < later = λ k e. below-next later (numbers_of es ++ (old ++ rest)) all k (among-behind k (numbers_of es) (old ++ rest) (among-left k old rest e)) in
    let short = rising-short 0 later old (omega arith) rise below in
    omega (arith, short)

module _ (s : State) (name : List ℕ) (n : ℕ) (numbered : IsNumbered s) (stored : AreStored s) (whole : All IsWhole s.held.parts.closed) (few : documents_held s.held.parts.closed ≤ MAX_HELD_DOCS) (form : is_name name ≡ true)
    (other : is_same name length_name ≡ false) (room : is_full s.priors name ≡ false) (new : IsNewNumber s.next (with_numbers [] (listed_numbers s)) n) (some : 1 ≤ n) (below : n < next_after s.next) where
  most : s.next ≤ greatest
  most = (let old = listing-of numbered.list numbered.form in let fits = old.next_fits in omega (arith, fits, numbered.next_is))

  entries-numbered : AreNumbered (next_after s.next) (n ∷ all_numbers (entries_for s.held.parts.closed) s.stale s.priors)
  entries-numbered = subst (λ (ns : List ℕ). AreNumbered (next_after s.next) (n ∷ (ns ++ (s.stale ++ prior_numbers s.priors)))) (sym (numbers-entries s.held.parts.closed stored.0))
      (new-numbered s.next (next_after s.next) n (listed_numbers s) (all-listed s numbered) most (after-rises s.next most) new some below)

  before : IsListing s.next (entries_for s.held.parts.closed) s.stale s.priors
  before = (let stale = stale-listed s numbered in
      listing-now s s.next s.held.parts.closed s.stale numbered (omega arith) (omega (arith, most)) stored.0 numbered.sized whole few stale.0 stale.1 (all-listed s numbered))

  -- what is listed once the prior is set makes a manifest
  pub set-listing : IsSetListed s name n
  set-listing =
      let rise = stale-set s.next (entries_for s.held.parts.closed) s.stale s.priors name before.numbered before.stale_rise in
      let short = few-stale (next_after s.next) n (entries_for s.held.parts.closed) s.stale s.priors name rise entries-numbered in
      let fits = after-fits s.next in
      listing-set s.next (next_after s.next) n (entries_for s.held.parts.closed) s.stale s.priors name before entries-numbered (omega (arith, some, below)) fits form other room (omega (arith, short, fits))

-- and so it can be listed
pub set-numbered : (s : State) (name : List ℕ) (n : ℕ) → IsNumbered s → AreStored s → IsSetListed s name n → IsNumbered (prior_set s name n)
set-numbered s name n numbered stored listed = record {
  list = listing (prior_set s name n).next (entries_for s.held.parts.closed) (prior_set s name n).stale (prior_set s name n).priors;
  form = manifest-of (prior_set s name n).next (entries_for s.held.parts.closed) (prior_set s name n).stale (prior_set s name n).priors listed;
  next_is = refl;
  numbers_are = numbers-entries s.held.parts.closed stored.0;
  stale_are = refl;
  priors_are = refl;
  sized = numbered.sized;
}
