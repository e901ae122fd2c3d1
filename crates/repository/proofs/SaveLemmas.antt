-- Parts that are saved, one after the other.
use Rattle.std.proofs.Common.{◌≡◌, ◌≤◌, ◌<◌, ◌+◌, ◌^◌, ◌||◌, ◌⊎◌, inl, inr, ℕ, zero, suc, Bool, true, false, ◌&&◌, nat_le, List, [], ◌∷◌, ◌++◌, length, map, get_or, take, append-nil, Option, Some, None, Result, Err, refl, ap, sym, subst, ◌∙◌, arith}
use Rattle.std.specs.Bool.{nat_eq}
use Rattle.std.specs.List.{All, AllZip}
use Rattle.std.specs.Option.{option_map}
use Rattle.std.proofs.lemmas.Bool.Decides.{nat_tests}
use Rattle.std.proofs.lemmas.List.{get_or_default}
use Rattle.std.proofs.lemmas.List.Elements.{All-cons, All-head, All-nil, All-push, All-tail}
use Rattle.ri_ends.specs.declared.fault.OutFault.{OutFault}
use Rattle.ri_ends.specs.declared.fault.OutFault.TheVariants.{Failed, Memory}
use Rattle.ri_base.specs.Documents.{Document}
use Rattle.ri_base.specs.declared.limits.TheConstants.{MAX_PART_DOCS}
use Rattle.store_ends.specs.Files.{AnyState, Files, Leaves, SameWhere, whole, with_file}
use Rattle.store_ends.proofs.Files.{Leaves-same, Leaves-then, SameWhere-any, SameWhere-fewer, SameWhere-same, SameWhere-then, set_file-own, with_file-same}
use Rattle.manifest.specs.Entries.{with_number}
use Rattle.manifest.specs.Fits.{FitsDocs}
use Rattle.manifest.specs.Listing.{AreNumbered}
use Rattle.seg_codec.specs.Part.{IsPart}
use Rattle.seg_codec.specs.Segment.{entry_of, segment}
use Rattle.disk_index.specs.Kept.{Kept, kept_of}
use Rattle.disk_index.specs.Names.{segment_name}
use Rattle.disk_index.specs.Parts.{InMemory, OnDisk, Source, outlines_of, size}
use Rattle.disk_index.specs.Snapshots.{Marked, unmarked}
use Rattle.disk_index.proofs.AlikeLemmas.{size-alike}
use Rattle.holdings.specs.Contents.{Contents, all_closed, part_moved}
use Rattle.holdings.specs.MarkedParts.{IsWritable, docnos_in, docnos_of, filled}
use Rattle.holdings.specs.Parts.{Parts, all_parts, closed_by, sealed, with_source}
use Rattle.holdings.proofs.KeptLemmas.{CanWrite}
use Rattle.holdings.proofs.LiveLemmas.{flat_map-push}
use Rattle.holdings.proofs.MovedLemmas.{docnos-alike}
use Rattle.repository.specs.Entries.{IsOnDisk}
use Rattle.repository.specs.Numbers.{Taken, greatest, is_among, next_after, next_behind}
use Rattle.repository.specs.Saved.{AllSaved, AreThere, Holds, IsSaved, IsUnlisted, SavedSource, Saves, unsaved, unsaved_in, with_closed}
use Rattle.repository.specs.States.{HasDocs, IsSized, numbers_in, part_numbers}
use Rattle.repository.specs.Writes.{IsOther}
use Rattle.repository.proofs.FrameLemmas.{other-segment}
use Rattle.repository.proofs.ListedLemmas.{IsStored}
use Rattle.repository.proofs.NumberLemmas.{among-behind, among-either, among-kept, among-left, among-new, among-right, clash, free-of, none-of, numbered-higher, numbered-moved}

-- ---- files

holds-put : (name bytes : List ℕ) (b c : Option Files) → c ≡ option_map (with_file name (Some bytes)) b → Holds name bytes c
holds-put name bytes None c e = subst (Holds name bytes) (sym e) tt
holds-put name bytes (Some f) c e = subst (Holds name bytes) (sym e) (with_file-same name (Some bytes) f)

holds-kept : (P : List ℕ → Type 0) (name bytes : List ℕ) (a b : Option Files) → SameWhere P a b → P name → Holds name bytes a → Holds name bytes b
holds-kept P name bytes None None same p held = tt
holds-kept P name bytes None (Some g) same p held = absurd same
holds-kept P name bytes (Some f) None same p held = absurd same
holds-kept P name bytes (Some f) (Some g) same p held = same name p ∙ held

pub any-same : (name : List ℕ) (a b : Option Files) → b ≡ a → AnyState name a b
any-same name None b e = (whole None, e)
any-same name (Some f) b e = (f name, e ∙ ap (λ (g : Files). Some g) (sym (set_file-own name f)))

-- whatever a put answers that isn't done
pub any-failed : {A : Type 0} (name other : List ℕ) (a b : Option Files) (r : Result A OutFault) (fault : OutFault) → r ≡ Err fault → name ≡ other → (r ≡ Err Failed → AnyState name a b) → (r ≡ Err Memory → b ≡ a)
    → AnyState other a b
any-failed name other a b r Failed is same failed memory = subst (λ (n : List ℕ). AnyState n a b) same (failed is)
any-failed name other a b r Memory is same failed memory = any-same other a b (memory is)

-- the file of a new number isn't that of another one
pub own-segment : (taken : List ℕ) (n : ℕ) → n < 2 ^ 64 → is_among n taken ≡ false → IsOther (IsUnlisted taken) (segment_name n) → ⊥
own-segment taken n small free other = (other n small free).0 refl

pub others-changed : (taken : List ℕ) (n : ℕ) (a b : Option Files) → n < 2 ^ 64 → is_among n taken ≡ false → AnyState (segment_name n) a b → SameWhere (IsOther (IsUnlisted taken)) a b
others-changed taken n a b small free any = SameWhere-any (IsOther (IsUnlisted taken)) (segment_name n) a a b (own-segment taken n small free) (SameWhere-same (IsOther (IsUnlisted taken)) a) any

-- more numbers are taken, so fewer files may change
more-taken : (s t : List ℕ) → ((n : ℕ) → is_among n s ≡ true → is_among n t ≡ true) → (n : ℕ) → is_among n t ≡ false → is_among n s ≡ false
more-taken s t more n free = by (is_among n s) refl
  where
    by : (b : Bool) → is_among n s ≡ b → b ≡ false
    by true e = absurd (clash (is_among n t) (more n e) free)
    by false e = refl

pub others-then : (s t : List ℕ) (a b c : Option Files) → ((n : ℕ) → is_among n s ≡ true → is_among n t ≡ true) → SameWhere (IsOther (IsUnlisted s)) a b → SameWhere (IsOther (IsUnlisted t)) b c → SameWhere (IsOther (IsUnlisted s)) a c
others-then s t a b c more first second =
    SameWhere-then (IsOther (IsUnlisted s)) a b c first
    (SameWhere-fewer (IsOther (IsUnlisted t)) (IsOther (IsUnlisted s)) b c (λ name other n fits free. other n fits (more-taken s t more n free)) second)

pub leaves-then : (past mid since : ℕ → Files → Type 0) (s t : List ℕ) (a b : Option Files) → ((n : ℕ) → is_among n s ≡ true → is_among n t ≡ true) → SameWhere (IsOther (IsUnlisted s)) a b
    → Leaves past mid (SameWhere (IsOther (IsUnlisted s)) a) → Leaves mid since (SameWhere (IsOther (IsUnlisted t)) b) → Leaves past since (SameWhere (IsOther (IsUnlisted s)) a)
leaves-then past mid since s t a b more same first second =
    Leaves-then past mid since (SameWhere (IsOther (IsUnlisted s)) a) (SameWhere (IsOther (IsUnlisted t)) b) first second (λ f now. others-then s t a b f more same now)

-- the numbers that are taken are just these
pub same-among : (taken ns : List ℕ) (a b : Option Files) → ((n : ℕ) → is_among n taken ≡ is_among n ns) → SameWhere (IsOther (IsUnlisted taken)) a b → SameWhere (IsOther (IsUnlisted ns)) a b
same-among taken ns a b are same = SameWhere-fewer (IsOther (IsUnlisted taken)) (IsOther (IsUnlisted ns)) a b (λ name other n fits free. other n fits (sym (are n) ∙ free)) same

pub leaves-among : (past since : ℕ → Files → Type 0) (taken ns : List ℕ) (a : Option Files) → ((n : ℕ) → is_among n taken ≡ is_among n ns) → Leaves past since (SameWhere (IsOther (IsUnlisted taken)) a)
    → Leaves past since (SameWhere (IsOther (IsUnlisted ns)) a)
leaves-among past since taken ns a are leaves =
    Leaves-then past past since (SameWhere (IsOther (IsUnlisted ns)) a) (SameWhere (IsOther (IsUnlisted taken)) a) (Leaves-same past (SameWhere (IsOther (IsUnlisted ns)) a)) leaves (λ f now. same-among taken ns a f are now)

-- ---- parts

saved-same : (told : Option Files) (taken : List ℕ) (s : Source) → SavedSource told taken s s
saved-same told taken (InMemory docs) = refl
saved-same told taken (OnDisk kept) = refl

pub all-same : (told : Option Files) (taken : List ℕ) (ms : List Marked) → AllZip (IsSaved told taken) ms ms
all-same told taken [] = tt
all-same told taken (m ∷ ms) = ((refl, saved-same told taken m.source), all-same told taken ms)

module _ (b c : Option Files) (s t : List ℕ) (more : (n : ℕ) → is_among n s ≡ true → is_among n t ≡ true) (same : SameWhere (IsOther (IsUnlisted s)) b c) where
  source-then : (p q r : Source) → SavedSource b s p q → SavedSource c t q r → SavedSource c t p r
  source-then (InMemory docs) (InMemory d) (InMemory e) first second = second ∙ first
  source-then (InMemory docs) (InMemory d) (OnDisk k) first second = subst (λ (ds : List Document). SavedSource c t (InMemory ds) (OnDisk k)) first second
  source-then (InMemory docs) (OnDisk j) (InMemory e) first second = absurd second
  source-then (InMemory docs) (OnDisk j) (OnDisk k) first second =
      let other = other-segment (IsUnlisted s) s (λ n o. o) j.number first.1.1.0 first.1.1.1.0 in
      let kept = holds-kept (IsOther (IsUnlisted s)) (segment_name j.number) (segment docs) b c same other first.1.1.1.1.0 in
      subst (λ (x : Kept). SavedSource c t (InMemory docs) (OnDisk x)) (sym second) (first.0, (first.1.0, (first.1.1.0, (more j.number first.1.1.1.0, (kept, first.1.1.1.1.1)))))
  source-then (OnDisk i) (InMemory d) r first second = absurd first
  source-then (OnDisk i) (OnDisk j) (InMemory e) first second = absurd second
  source-then (OnDisk i) (OnDisk j) (OnDisk k) first second = second ∙ first

  all-then : (ps qs rs : List Marked) → AllZip (IsSaved b s) ps qs → AllZip (IsSaved c t) qs rs → AllZip (IsSaved c t) ps rs
  all-then [] [] [] first second = tt
  all-then [] [] (r ∷ rs) first second = absurd second
  all-then [] (q ∷ qs) rs first second = absurd first
  all-then (p ∷ ps) [] rs first second = absurd first
  all-then (p ∷ ps) (q ∷ qs) [] first second = absurd second
  all-then (p ∷ ps) (q ∷ qs) (r ∷ rs) first second =
      ((second.0.0 ∙ first.0.0, source-then p.source q.source r.source first.0.1 second.0.1), all-then ps qs rs first.1 second.1)

pub saves-none : (told : Option Files) (t : Taken) (h : Contents) → Saves told t t h h
saves-none told t h = record { parts = all-same told t.numbers h.parts.closed; rest = refl; taken = λ n e. e; next = omega arith; in_turn = refl; there = λ others a. a }

pub saves-then : (b c : Option Files) (r s t : Taken) (h k l : Contents) → Saves b r s h k → SameWhere (IsOther (IsUnlisted s.numbers)) b c → Saves c s t k l → Saves c r t h l
saves-then b c r s t h k l first same second = record {
  parts = all-then b c s.numbers t.numbers second.taken same h.parts.closed k.parts.closed l.parts.closed first.parts second.parts;
  rest = second.rest ∙ ap (λ (x : Contents). with_closed x l.parts.closed) first.rest;
  taken = λ n e. second.taken n (first.taken n e);
  next = (let a = first.next in let d = second.next in omega (arith, a, d));
  in_turn = second.in_turn ∙ first.in_turn;
  there = λ others a. second.there others (first.there others a);
}

-- ---- one part is saved

saved-at : (told : Option Files) (taken : List ℕ) (kept : Kept) (docs : List Document) (ms : List Marked) (i : ℕ) → (get_or ms i (filled [] [])).source ≡ InMemory docs → SavedSource told taken (InMemory docs) (OnDisk kept)
    → AllZip (IsSaved told taken) ms (with_source ms i (OnDisk kept))
saved-at told taken kept docs [] i at saved = tt
saved-at told taken kept docs (m ∷ ms) zero at saved = ((refl, subst (λ (s : Source). SavedSource told taken s (OnDisk kept)) (sym at) saved), all-same told taken ms)
saved-at told taken kept docs (m ∷ ms) (suc i) at saved = ((refl, saved-same told taken m.source), saved-at told taken kept docs ms i at saved)

front-more : (s : Source) (n : ℕ) (ns others : List ℕ) → is_among n (ns ++ others) ≡ true → is_among n ((numbers_in s ++ ns) ++ others) ≡ true
front-more (InMemory docs) n ns others e = e
front-more (OnDisk k) n ns others e = among-right n k.number (ns ++ others) e

front-either : (s : Source) (n : ℕ) (ns others : List ℕ) → is_among n ((numbers_in s ++ ns) ++ others) ≡ true → (is_among n (numbers_in s) ≡ true) ⊎ (is_among n (ns ++ others) ≡ true)
front-either (InMemory docs) n ns others e = inr e
front-either (OnDisk k) n ns others e = among-either n (k.number ∷ []) (ns ++ others) e

front-own : (s : Source) (n : ℕ) (ns others : List ℕ) → is_among n (numbers_in s) ≡ true → is_among n ((numbers_in s ++ ns) ++ others) ≡ true
front-own (InMemory docs) n ns others e = absurd (clash false e refl)
front-own (OnDisk k) n ns others e = among-left n (k.number ∷ []) (ns ++ others) e

same-number : (n k : ℕ) → is_among n (k ∷ []) ≡ true → n ≡ k
same-number n k e = by (nat_eq n k) refl
  where
    by : (b : Bool) → nat_eq n k ≡ b → n ≡ k
    by true t = grind (arith, nat_tests)
    by false t = absurd (clash (is_among n (k ∷ [])) e (ap (λ b. b || false) t))

among-moved : (kept : Kept) (docs : List Document) (ms : List Marked) (i : ℕ) (others : List ℕ) (n : ℕ) → is_among n (part_numbers (with_source ms i (OnDisk kept)) ++ others) ≡ true
    → (n ≡ kept.number) ⊎ (is_among n (part_numbers ms ++ others) ≡ true)
among-moved kept docs [] i others n e = inr e
among-moved kept docs (m ∷ ms) zero others n e = elim (among-either n (kept.number ∷ []) (part_numbers ms ++ others) e) [
  | inl own ↦ inl (same-number n kept.number own)
  | inr rest ↦ inr (front-more m.source n (part_numbers ms) others rest)
]
among-moved kept docs (m ∷ ms) (suc i) others n e = elim (front-either m.source n (part_numbers (with_source ms i (OnDisk kept))) others e) [
  | inl own ↦ inr (front-own m.source n (part_numbers ms) others own)
  | inr rest ↦ elim (among-moved kept docs ms i others n rest) [
    | inl new ↦ inl new
    | inr old ↦ inr (front-more m.source n (part_numbers ms) others old)
  ]
]

-- one part less is in memory alone
unsaved-moved : (kept : Kept) (docs : List Document) (ms : List Marked) (i : ℕ) → i < length ms → (get_or ms i (filled [] [])).source ≡ InMemory docs → unsaved ms ≡ unsaved (with_source ms i (OnDisk kept)) + 1
unsaved-moved kept docs [] i within at = absurd (omega (arith, within))
unsaved-moved kept docs (m ∷ ms) zero within at = (let e : unsaved_in m.source ≡ 1 = ap unsaved_in at in omega (arith, e))
unsaved-moved kept docs (m ∷ ms) (suc i) within at = (let rest = unsaved-moved kept docs ms i (omega (arith, within)) at in omega (arith, rest))

-- where one number was taken for it
turn-kept : (before now few many : ℕ) → now ≡ next_after before → many ≡ few + 1 → next_behind now few ≡ next_behind before many
turn-kept before now few many is less = omega (arith, is, less)

-- none is in memory alone
unsaved-none : (ms : List Marked) → All IsStored ms → unsaved ms ≡ 0
unsaved-none [] stored = refl
unsaved-none (m ∷ ms) stored =
    let rest = unsaved-none ms (All-tail IsStored m ms stored) in
    let first = none-in m.source (All-head IsStored m ms stored) in
    omega (arith, first, rest)
  where
    none-in : (s : Source) → IsOnDisk s → unsaved_in s ≡ 0
    none-in (InMemory docs) on_disk = absurd on_disk
    none-in (OnDisk kept) on_disk = refl

-- so the next number is the one that was to follow
turn-last : (next last left many : ℕ) → left ≡ 0 → last ≤ greatest → next_behind last left ≡ next_behind next many → last ≡ next_behind next many
turn-last next last left many none fits turn = omega (arith, none, fits, turn)

-- a part in memory gets the file of a new number
pub saves-one : (b c : Option Files) (s t : Taken) (h k : Contents) (i n : ℕ) (kept : Kept) (docs : List Document) → i < length h.parts.closed → (get_or h.parts.closed i (filled [] [])).source ≡ InMemory docs
    → kept ≡ kept_of n docs → kept.number ≡ n → IsPart docs → length (segment docs) < 2 ^ 64 → 1 ≤ n → n < 2 ^ 64 → n < t.next → t.next ≡ next_after s.next → s.next ≤ t.next → is_among n s.numbers ≡ false → t.numbers ≡ with_number s.numbers n
    → c ≡ option_map (with_file (segment_name n) (Some (segment docs))) b → k ≡ part_moved h i (OnDisk kept) → Saves c s t h k
saves-one b c s t h k i n kept docs within at is number part short some small below turn rises free taken put moved =
    let own : kept ≡ kept_of kept.number docs = is ∙ ap (λ (m : ℕ). kept_of m docs) (sym number) in
    let among : is_among kept.number t.numbers ≡ true = ap (λ (m : ℕ). is_among m t.numbers) number ∙ ap (is_among n) taken ∙ among-new s.numbers n in
    let holds : Holds (segment_name kept.number) (segment docs) c = subst (λ (m : ℕ). Holds (segment_name m) (segment docs) c) (sym number) (holds-put (segment_name n) (segment docs) b c put) in
    let fits : kept.number < 2 ^ 64 = omega (arith, number, small) in
    let closed : k.parts.closed ≡ with_source h.parts.closed i (OnDisk kept) = ap (λ (x : Contents). x.parts.closed) moved in
    let more : (m : ℕ) → is_among m s.numbers ≡ true → is_among m t.numbers ≡ true = λ m e. ap (is_among m) taken ∙ among-kept s.numbers n m e in
    record {
      parts = subst (AllZip (IsSaved c t.numbers) h.parts.closed) (sym closed) (saved-at c t.numbers kept docs h.parts.closed i at (own, (part, (fits, (among, (holds, short))))));
      rest = moved ∙ sym (ap (λ (ms : List Marked). with_closed h ms) closed);
      taken = more;
      next = rises;
      in_turn = turn-kept s.next t.next (unsaved k.parts.closed) (unsaved h.parts.closed) turn (unsaved-moved kept docs h.parts.closed i within at ∙ ap (λ (ms : List Marked). unsaved ms + 1) (sym closed));
      there = λ others a.
          let apart : is_among kept.number (part_numbers h.parts.closed ++ others) ≡ false =
          free-of (is_among kept.number (part_numbers h.parts.closed ++ others)) (λ e. clash (is_among n s.numbers) (ap (λ (m : ℕ). is_among m s.numbers) (sym number) ∙ a.1 kept.number e) free) in
          subst (λ (ms : List Marked). AreThere t (part_numbers ms ++ others)) (sym closed) (
            (numbered-moved t.next kept h.parts.closed i docs others within (omega (arith, number, some)) (omega (arith, number, below)) at
                (none-of kept.number (part_numbers h.parts.closed ++ others) apart) (numbered-higher s.next t.next (part_numbers h.parts.closed ++ others) rises a.0)),
            (λ m e. elim (among-moved kept docs h.parts.closed i others m e) [
              | inl same ↦ ap (λ (j : ℕ). is_among j t.numbers) same ∙ among
              | inr old ↦ more m (a.1 m old)
            ]),
          );
    }

-- a part that was looked at, and found in memory
pub memory-at : (closed items : List Marked) (i : ℕ) (m : Marked) (source : Source) (docs : List Document) → i < length closed → items ≡ closed → m ≡ get_or items i m → source ≡ m.source → source ≡ InMemory docs
    → (get_or closed i (filled [] [])).source ≡ InMemory docs
memory-at closed items i m source docs within same at of_part in_memory =
    let here : get_or closed i (filled [] []) ≡ m = get_or_default closed i (filled [] []) m within ∙ ap (λ (l : List Marked). get_or l i m) (sym same) ∙ sym at in
    ap (λ (x : Marked). x.source) here ∙ sym of_part ∙ in_memory

pub stored-at : (ms : List Marked) (i : ℕ) (kept : Kept) → i < length ms → IsOnDisk (get_or (with_source ms i (OnDisk kept)) i (filled [] [])).source
stored-at [] i kept within = absurd (omega (arith, within))
stored-at (m ∷ ms) zero kept within = tt
stored-at (m ∷ ms) (suc i) kept within = stored-at ms i kept (omega (arith, within))

-- ---- the first parts are on disk

source-stored : (told : Option Files) (taken : List ℕ) (p q : Source) → SavedSource told taken p q → IsOnDisk p → IsOnDisk q
source-stored told taken (InMemory docs) q saved stored = absurd stored
source-stored told taken (OnDisk k) (InMemory docs) saved stored = absurd saved
source-stored told taken (OnDisk k) (OnDisk j) saved stored = tt

one-more : (i : ℕ) → suc (i + 1) ≡ suc i + 1
one-more i = omega arith

pub first-stored : (told : Option Files) (taken : List ℕ) (i : ℕ) (ps qs : List Marked) → AllZip (IsSaved told taken) ps qs → All IsStored (take i ps) → IsOnDisk (get_or qs i (filled [] [])).source → i < length qs → All IsStored (take (i + 1) qs)
first-stored told taken i [] [] saved first here within = absurd (omega (arith, within))
first-stored told taken i [] (q ∷ qs) saved first here within = absurd saved
first-stored told taken i (p ∷ ps) [] saved first here within = absurd saved
first-stored told taken zero (p ∷ ps) (q ∷ qs) saved first here within = All-cons IsStored q [] here (All-nil IsStored)
first-stored told taken (suc i) (p ∷ ps) (q ∷ qs) saved first here within =
    subst (λ (n : ℕ). All IsStored (take n (q ∷ qs))) (one-more i)
    (All-cons IsStored q (take (i + 1) qs) (source-stored told taken p.source q.source saved.0.1 (All-head IsStored p (take i ps) first))
    (first-stored told taken i ps qs saved.1 (All-tail IsStored p (take i ps) first) here (omega (arith, within))))

-- ---- numbers of files that are there stay

numbers-stay : (told : Option Files) (taken : List ℕ) (p q : Source) → SavedSource told taken p q → (n : ℕ) → is_among n (numbers_in p) ≡ true → is_among n (numbers_in q) ≡ true
numbers-stay told taken (InMemory docs) q saved n e = absurd (clash false e refl)
numbers-stay told taken (OnDisk k) (InMemory docs) saved n e = absurd saved
numbers-stay told taken (OnDisk k) (OnDisk j) saved n e = subst (λ (x : Kept). is_among n (x.number ∷ []) ≡ true) (sym saved) e

pub numbers-kept : (told : Option Files) (taken : List ℕ) (ps qs : List Marked) → AllZip (IsSaved told taken) ps qs → (n : ℕ) → is_among n (part_numbers ps) ≡ true → is_among n (part_numbers qs) ≡ true
numbers-kept told taken [] [] saved n e = e
numbers-kept told taken [] (q ∷ qs) saved n e = absurd saved
numbers-kept told taken (p ∷ ps) [] saved n e = absurd saved
numbers-kept told taken (p ∷ ps) (q ∷ qs) saved n e = elim (among-either n (numbers_in p.source) (part_numbers ps) e) [
  | inl own ↦ among-left n (numbers_in q.source) (part_numbers qs) (numbers-stay told taken p.source q.source saved.0.1 n own)
  | inr rest ↦ among-behind n (numbers_in q.source) (part_numbers qs) (numbers-kept told taken ps qs saved.1 n rest)
]

-- ---- how many documents

outlines-kept : (n : ℕ) (docs : List Document) → (kept_of n docs).outlines ≡ map entry_of docs
unfolding kept_of
outlines-kept n docs = refl

pub source-outlines : (told : Option Files) (taken : List ℕ) (p q : Source) → SavedSource told taken p q → outlines_of q ≡ outlines_of p
source-outlines told taken (InMemory docs) (InMemory d) saved = ap (λ (ds : List Document). map entry_of ds) saved
source-outlines told taken (InMemory docs) (OnDisk k) saved = ap (λ (x : Kept). x.outlines) saved.0 ∙ outlines-kept k.number docs
source-outlines told taken (OnDisk k) (InMemory docs) saved = absurd saved
source-outlines told taken (OnDisk k) (OnDisk j) saved = ap (λ (x : Kept). x.outlines) saved

pub kept-alike : (n : ℕ) (docs : List Document) (kept : Kept) (s : Source) → kept ≡ kept_of n docs → s ≡ InMemory docs → kept.outlines ≡ outlines_of s
kept-alike n docs kept s is at = ap (λ (x : Kept). x.outlines) is ∙ outlines-kept n docs ∙ sym (ap outlines_of at)

kept-number : (n : ℕ) (docs : List Document) → (kept_of n docs).number ≡ n
unfolding kept_of
kept-number n docs = refl

pub number-kept : (n : ℕ) (docs : List Document) (kept : Kept) → kept ≡ kept_of n docs → kept.number ≡ n
number-kept n docs kept is = ap (λ (x : Kept). x.number) is ∙ kept-number n docs

some-fits : (n : ℕ) → 1 ≤ n → n ≤ MAX_PART_DOCS → FitsDocs n
some-fits n some few = (omega (arith, few), both (nat_le 1 n) (nat_le n MAX_PART_DOCS) (grind (arith, nat_tests)) (grind (arith, nat_tests)))
  where
    both : (a b : Bool) → a ≡ true → b ≡ true → (a && b) ≡ true
    both true b p q = q
    both false b p q = cc

-- a part that is put into a file has no more documents than a segment may have
docs-saved : (told : Option Files) (taken : List ℕ) (p q : Source) → SavedSource told taken p q → IsWritable p → HasDocs p → HasDocs q
docs-saved told taken (InMemory docs) (InMemory d) saved writable some = subst (λ (ds : List Document). 1 ≤ length ds) (sym saved) some
docs-saved told taken (InMemory docs) (OnDisk k) saved writable some =
    let same : size (OnDisk k) ≡ length docs = size-alike (InMemory docs) (OnDisk k) (source-outlines told taken (InMemory docs) (OnDisk k) saved) in
    subst FitsDocs (sym same) (some-fits (length docs) some writable.0)
docs-saved told taken (OnDisk k) (InMemory docs) saved writable some = absurd saved
docs-saved told taken (OnDisk k) (OnDisk j) saved writable some = subst (λ (x : Kept). HasDocs (OnDisk x)) (sym saved) some

pub sized-saved : (told : Option Files) (taken : List ℕ) (ps qs : List Marked) → AllZip (IsSaved told taken) ps qs → All CanWrite ps → All IsSized ps → All IsSized qs
sized-saved told taken [] [] saved writable sized = sized
sized-saved told taken [] (q ∷ qs) saved writable sized = absurd saved
sized-saved told taken (p ∷ ps) [] saved writable sized = absurd saved
sized-saved told taken (p ∷ ps) (q ∷ qs) saved writable sized =
    All-cons IsSized q qs (docs-saved told taken p.source q.source saved.0.1 (All-head CanWrite p ps writable) (All-head IsSized p ps sized))
    (sized-saved told taken ps qs saved.1 (All-tail CanWrite p ps writable) (All-tail IsSized p ps sized))

-- a part that is closed has a document
sized-by : (p : Parts) (docs : List Document) → All IsSized p.closed → docs ≡ p.filling → All IsSized (closed_by p docs).closed
sized-by p [] sized is = sized
sized-by p (d ∷ docs) sized is = All-push IsSized p.closed (filled p.filling p.marks) sized (subst (λ (ds : List Document). 1 ≤ length ds) is (omega arith))

pub sized-sealed : (p : Parts) → All IsSized p.closed → All IsSized (sealed p).closed
sized-sealed p sized = sized-by p p.filling sized refl

-- closing a part that is being filled makes no file
numbers-by : (p : Parts) (docs : List Document) → part_numbers (closed_by p docs).closed ≡ part_numbers p.closed
numbers-by p [] = refl
numbers-by p (d ∷ docs) = flat_map-push (λ (m : Marked). numbers_in m.source) p.closed (filled p.filling p.marks) ∙ append-nil (part_numbers p.closed)

pub numbers-sealed : (p : Parts) → part_numbers (sealed p).closed ≡ part_numbers p.closed
numbers-sealed p = numbers-by p p.filling

-- ---- docnos

docnos-saved : (told : Option Files) (taken : List ℕ) (ps qs : List Marked) → AllZip (IsSaved told taken) ps qs → docnos_of qs ≡ docnos_of ps
docnos-saved told taken [] [] saved = refl
docnos-saved told taken [] (q ∷ qs) saved = absurd saved
docnos-saved told taken (p ∷ ps) [] saved = absurd saved
docnos-saved told taken (p ∷ ps) (q ∷ qs) saved =
    ap (λ (l : List (List ℕ)). unmarked l q.marks ++ docnos_of qs) (docnos-alike p.source q.source (source-outlines told taken p.source q.source saved.0.1))
    ∙ ap (λ (ms : List Bool). unmarked (docnos_in p.source) ms ++ docnos_of qs) saved.0.0 ∙ ap (λ l. unmarked (docnos_in p.source) p.marks ++ l) (docnos-saved told taken ps qs saved.1)

docnos-all : (told : Option Files) (taken : List ℕ) (h k : Contents) → AllZip (IsSaved told taken) h.parts.closed k.parts.closed → k ≡ with_closed h k.parts.closed → docnos_of (all_parts k.parts) ≡ docnos_of (all_parts h.parts)
docnos-all told taken h k saved rest =
    let docnos = λ (m : Marked). unmarked (docnos_in m.source) m.marks in
    ap (λ (x : Contents). docnos_of (all_parts x.parts)) rest ∙ flat_map-push docnos k.parts.closed (filled h.parts.filling h.parts.marks)
    ∙ ap (λ l. l ++ unmarked (docnos_in (InMemory h.parts.filling)) h.parts.marks) (docnos-saved told taken h.parts.closed k.parts.closed saved) ∙ sym (flat_map-push docnos h.parts.closed (filled h.parts.filling h.parts.marks))

docnos-by : (p : Parts) (docs : List Document) → docnos_of (all_parts (closed_by p docs)) ≡ docnos_of (all_parts p)
docnos-by p [] = refl
docnos-by p (d ∷ docs) = flat_map-push (λ (m : Marked). unmarked (docnos_in m.source) m.marks) (all_parts p) (filled [] []) ∙ append-nil (docnos_of (all_parts p))

-- all was saved, from what is known of each step
pub all-saved : (b : Option Files) (others : List ℕ) (s t : Taken) (h m k : Contents) → m ≡ all_closed h → All CanWrite m.parts.closed → Saves b s t m k → All IsStored k.parts.closed → t.next < 2 ^ 64
    → AreThere s (part_numbers h.parts.closed ++ others) → AllSaved b others s.next t.next h k
all-saved b others s t h m k is writable saves stored fits there =
    let parts = subst (λ (x : Contents). AllZip (IsSaved b t.numbers) x.parts.closed k.parts.closed) is saves.parts in
    let rest : k ≡ with_closed (all_closed h) k.parts.closed = saves.rest ∙ ap (λ (x : Contents). with_closed x k.parts.closed) is in
    let writable' : All CanWrite (sealed h.parts).closed = subst (λ (x : Contents). All CanWrite x.parts.closed) is writable in
    let numbers : part_numbers m.parts.closed ≡ part_numbers h.parts.closed = ap (λ (x : Contents). part_numbers x.parts.closed) is ∙ numbers-sealed h.parts in
    record {
      taken = t.numbers;
      parts = parts;
      on_disk = stored;
      rest = rest;
      rises = saves.next;
      in_turn = turn-last s.next t.next (unsaved k.parts.closed) (unsaved (all_closed h).parts.closed) (unsaved-none k.parts.closed stored) (omega (arith, fits))
          (saves.in_turn ∙ ap (λ (x : Contents). next_behind s.next (unsaved x.parts.closed)) is);
      fits = fits;
      docnos = docnos-all b t.numbers (all_closed h) k parts rest ∙ docnos-by h.parts h.parts.filling;
      sized = λ sized. sized-saved b t.numbers (sealed h.parts).closed k.parts.closed parts writable' (sized-sealed h.parts sized);
      numbered = (saves.there others (subst (λ (ns : List ℕ). AreThere s (ns ++ others)) (sym numbers) there)).0;
    }

-- the same by the numbers that are handed on
pub saved-from : (b : Option Files) (others : List ℕ) (next after : ℕ) (s t : Taken) (h m k : Contents) → s.next ≡ next → after ≡ t.next → m ≡ all_closed h → All CanWrite m.parts.closed → Saves b s t m k → All IsStored k.parts.closed
    → after < 2 ^ 64 → AreNumbered next (part_numbers h.parts.closed ++ others) → ((n : ℕ) → is_among n s.numbers ≡ is_among n (part_numbers h.parts.closed ++ others)) → AllSaved b others next after h k
saved-from b others next after s t h m k first last is writable saves stored fits numbered are =
    let there : AreThere s (part_numbers h.parts.closed ++ others) = (subst (λ (n : ℕ). AreNumbered n (part_numbers h.parts.closed ++ others)) (sym first) numbered, λ n e. are n ∙ e) in
    let small : t.next < 2 ^ 64 = omega (arith, last, fits) in
    subst (λ (n : ℕ). AllSaved b others n after h k) first (subst (λ (n : ℕ). AllSaved b others s.next n h k) (sym last) (all-saved b others s t h m k is writable saves stored small there))
