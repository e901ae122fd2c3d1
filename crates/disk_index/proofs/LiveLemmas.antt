-- Live documents: how many there are, and sums over them with one more of them, and with one fewer.
use Rattle.std.proofs.Common.{◌≡◌, ◌<◌, ◌≤◌, ℕ, zero, suc, ◌+◌, ◌-◌, Bool, true, false, not, if◌then◌else◌, List, [], ◌∷◌, ◌++◌, Option, None, length, take, set, get_or, sum_by, refl, sym, ap, ◌∙◌, arith}
use Rattle.std.proofs.lemmas.List.{length-append, length-set, take_all}
use Rattle.std.proofs.lemmas.List.Sums.{sum_by-append, sum_by-cons, sum_by-le-sum_by, sum_by-take-le, sum_by_more}
use Rattle.deletion_list.specs.Marks.{marked_count}
use Rattle.ri_base.specs.Collection.{document_at, empty_document, token_count}
use Rattle.ri_base.specs.Documents.{Document}
use Rattle.store_ends.specs.Files.{Files}
use Rattle.disk_index.specs.Parts.{Source, reads, size}
use Rattle.disk_index.specs.Snapshots.{AreCounted, Marked, documents_held, live, live_in, tokens_held, unmarked}
use Rattle.disk_index.proofs.EntryLemmas.{document_at-get_or}
use Rattle.disk_index.proofs.RebuiltLemmas.{reads-length}

-- ---- how many

pub unmarked-length : {A : Type 0} (xs : List A) (marks : List Bool) → length marks ≡ length xs → length (unmarked xs marks) + marked_count marks ≡ length marks
unmarked-length [] [] h = omega arith
unmarked-length [] (m ∷ marks) h = absurd (omega (arith, h))
unmarked-length (x ∷ xs) [] h = absurd (omega (arith, h))
unmarked-length (x ∷ xs) (true ∷ marks) h = let rest = unmarked-length xs marks (omega (arith, h)) in omega (arith, rest)
unmarked-length (x ∷ xs) (false ∷ marks) h = let rest = unmarked-length xs marks (omega (arith, h)) in omega (arith, rest)

pub unmarked-few : {A : Type 0} (xs : List A) (marks : List Bool) → length (unmarked xs marks) ≤ length xs
unmarked-few [] marks = omega arith
unmarked-few (x ∷ xs) [] = omega arith
unmarked-few (x ∷ xs) (true ∷ marks) = omega (arith, unmarked-few xs marks)
unmarked-few (x ∷ xs) (false ∷ marks) = omega (arith, unmarked-few xs marks)

-- ---- sums over live documents

module _ (f : Document → ℕ) where
  -- over no more of them than there are documents
  pub sum-unmarked-le : (docs : List Document) (marks : List Bool) → sum_by f (unmarked docs marks) ≤ sum_by f docs
  sum-unmarked-le [] marks = omega arith
  sum-unmarked-le (d ∷ docs) [] = omega arith
  sum-unmarked-le (d ∷ docs) (true ∷ marks) = omega (arith, sum-unmarked-le docs marks, sum_by-cons f d docs)
  sum-unmarked-le (d ∷ docs) (false ∷ marks) = omega (arith, sum-unmarked-le docs marks, sum_by-cons f d docs, sum_by-cons f d (unmarked docs marks))

  both_more : (d : Document) (xs ys : List Document) (n : ℕ) → sum_by f xs ≡ sum_by f ys + n → sum_by f (d ∷ xs) ≡ sum_by f (d ∷ ys) + n
  both_more d xs ys n h = omega (arith, h, sum_by-cons f d xs, sum_by-cons f d ys)

  more : (docs : List Document) (marks : List Bool) (i : ℕ) → i < length docs → length marks ≡ length docs
      → sum_by f (unmarked (take (suc i) docs) marks) ≡ sum_by f (unmarked (take i docs) marks) + (if get_or marks i false then 0 else f (document_at docs i))
  more [] marks i lt h = absurd (omega (arith, lt))
  more (d ∷ docs) [] i lt h = absurd (omega (arith, h))
  more (d ∷ docs) (true ∷ marks) zero lt h = omega arith
  more (d ∷ docs) (false ∷ marks) zero lt h = omega arith
  more (d ∷ docs) (true ∷ marks) (suc i) lt h = more docs marks i (omega (arith, lt)) (omega (arith, h))
  more (d ∷ docs) (false ∷ marks) (suc i) lt h =
      both_more d (unmarked (take (suc i) docs) marks) (unmarked (take i docs) marks) (if get_or marks i false then 0 else f (document_at docs i)) (more docs marks i (omega (arith, lt)) (omega (arith, h)))

  -- the live ones among the first, and one document more
  pub sum-unmarked-more : (docs : List Document) (marks : List Bool) (i : ℕ) → i < length docs → length marks ≡ length docs
      → sum_by f (unmarked (take (i + 1) docs) marks) ≡ sum_by f (unmarked (take i docs) marks) + (if get_or marks i false then 0 else f (document_at docs i))
  sum-unmarked-more docs marks i lt h =
      let next : i + 1 ≡ suc i = omega arith in
      ap (λ n. sum_by f (unmarked (take n docs) marks)) next ∙ more docs marks i lt h

  both_fewer : (d : Document) (xs ys : List Document) (n : ℕ) → sum_by f xs + n ≡ sum_by f ys → sum_by f (d ∷ xs) + n ≡ sum_by f (d ∷ ys)
  both_fewer d xs ys n h = omega (arith, h, sum_by-cons f d xs, sum_by-cons f d ys)

  -- one document marked
  pub sum-unmarked-marked : (docs : List Document) (marks : List Bool) (i : ℕ) → i < length docs → length marks ≡ length docs
      → sum_by f (unmarked docs (set marks i true)) + (if get_or marks i false then 0 else f (document_at docs i)) ≡ sum_by f (unmarked docs marks)
  sum-unmarked-marked [] marks i lt h = absurd (omega (arith, lt))
  sum-unmarked-marked (d ∷ docs) [] i lt h = absurd (omega (arith, h))
  sum-unmarked-marked (d ∷ docs) (true ∷ marks) zero lt h = omega arith
  sum-unmarked-marked (d ∷ docs) (false ∷ marks) zero lt h = omega (arith, sum_by-cons f d (unmarked docs marks))
  sum-unmarked-marked (d ∷ docs) (true ∷ marks) (suc i) lt h = sum-unmarked-marked docs marks i (omega (arith, lt)) (omega (arith, h))
  sum-unmarked-marked (d ∷ docs) (false ∷ marks) (suc i) lt h =
      both_fewer d (unmarked docs (set marks i true)) (unmarked docs marks) (if get_or marks i false then 0 else f (document_at docs i)) (sum-unmarked-marked docs marks i (omega (arith, lt)) (omega (arith, h)))

  -- over the live documents of several parts
  pub sum-live : (told : Option Files) (parts : List Marked) → sum_by f (live told parts) ≡ sum_by (λ m. sum_by f (live_in told m)) parts
  sum-live told [] = refl
  sum-live told (m ∷ parts) =
      let rest = sum-live told parts in
      omega (arith, rest, sum_by-append f (live_in told m) (live told parts), sum_by-cons (λ (p : Marked). sum_by f (live_in told p)) m parts)

-- ---- what is counted of a part

pub all-more : (docs : List Document) (i : ℕ) → i < length docs → token_count (take (i + 1) docs) ≡ token_count (take i docs) + length (document_at docs i).tokens
all-more docs i lt = sum_by_more (λ (d : Document). length d.tokens) docs i empty_document lt ∙ ap (λ (d : Document). token_count (take i docs) + length d.tokens) (sym (document_at-get_or docs i))

-- the counts of the first documents of a part
pub record AreFirst (source : Source) (marks : List Bool) (i tokens live_tokens : ℕ) : Type 0 where
  pub all : (told : Option Files) → tokens ≡ token_count (take i (reads told source))
  pub living : (told : Option Files) → live_tokens ≡ token_count (unmarked (take i (reads told source)) marks)

-- the number where this isn't marked
abbrev pub Unless : Bool → ℕ → ℕ → Type 0
Unless is_out n out = out ≡ (if is_out then 0 else n)

pub unless-le : (is_out : Bool) (n out : ℕ) → Unless is_out n out → out ≤ n
unless-le true n out h = omega (arith, h)
unless-le false n out h = omega (arith, h)

added : (b : Bool) (sum now n m out next : ℕ) → sum ≡ now → n ≡ m → Unless b n out → next ≡ now + (if b then 0 else m) → sum + out ≡ next
added true sum now n m out next s e o h = omega (arith, s, o, h)
added false sum now n m out next s e o h = omega (arith, s, e, o, h)

pub first-more : (source : Source) (marks : List Bool) (i tokens live_tokens long out : ℕ) → AreFirst source marks i tokens live_tokens → i < size source → length marks ≡ size source
    → ((told : Option Files) → long ≡ length (document_at (reads told source) i).tokens) → Unless (get_or marks i false) long out
    → AreFirst source marks (i + 1) (tokens + long) (live_tokens + out)
first-more source marks i tokens live_tokens long out first lt whole is taken = record {
  all = λ told. let more = all-more (reads told source) i (omega (arith, lt, reads-length told source)) in omega (arith, first.all told, is told, more);
  living = λ told.
      added (get_or marks i false) live_tokens _ long _ out _ (first.living told) (is told) taken
      (sum-unmarked-more (λ (d : Document). length d.tokens) (reads told source) marks i (omega (arith, lt, reads-length told source)) (omega (arith, whole, reads-length told source)));
}

pub first-all : (source : Source) (marks : List Bool) (i tokens live_tokens : ℕ) → AreFirst source marks i tokens live_tokens → size source ≤ i → length marks ≡ size source → AreCounted source marks tokens live_tokens
first-all source marks i tokens live_tokens first end whole = record {
  whole = whole;
  all = λ told. first.all told ∙ ap token_count (here told);
  living = λ told. first.living told ∙ ap (λ (ds : List Document). token_count (unmarked ds marks)) (here told);
}
  where
    here : (told : Option Files) → take i (reads told source) ≡ reads told source
    here told = take_all i (reads told source) (omega (arith, end, reads-length told source))

left : (b was : Bool) (n m out sum before after : ℕ) → was ≡ not b → n ≡ m → Unless (not was) n out → sum ≡ before → after + (if b then 0 else m) ≡ before → (out ≤ sum) × (sum - out ≡ after)
left true true n m out sum before after w e o s h = absurd cc
left true false n m out sum before after w e o s h = (omega (arith, o, s, h), omega (arith, o, s, h))
left false true n m out sum before after w e o s h = (omega (arith, e, o, s, h), omega (arith, e, o, s, h))
left false false n m out sum before after w e o s h = absurd cc

-- the counts behind the mark of one document
pub counted-marked : (source : Source) (marks : List Bool) (i tokens live_tokens long out : ℕ) (was : Bool) → AreCounted source marks tokens live_tokens → i < size source
    → ((told : Option Files) → long ≡ length (document_at (reads told source) i).tokens) → was ≡ not (get_or marks i false) → Unless (not was) long out
    → (out ≤ live_tokens) × AreCounted source (set marks i true) tokens (live_tokens - out)
counted-marked source marks i tokens live_tokens long out was counted lt is before taken =
    ((both None).0, record { whole = length-set marks i true ∙ counted.whole; all = counted.all; living = λ told. (both told).1 })
  where
    both : (told : Option Files) → (out ≤ live_tokens) × (live_tokens - out ≡ token_count (unmarked (reads told source) (set marks i true)))
    both told =
        left (get_or marks i false) was long _ out live_tokens _ _ before (is told) taken (counted.living told)
        (sum-unmarked-marked (λ (d : Document). length d.tokens) (reads told source) marks i (omega (arith, lt, reads-length told source)) (omega (arith, counted.whole, reads-length told source)))

-- ---- several parts

pub live-length : (told : Option Files) (parts : List Marked) → length (live told parts) ≡ sum_by (λ m. length (live_in told m)) parts
live-length told [] = refl
live-length told (m ∷ parts) =
    let rest = live-length told parts in
    let first : length (live_in told m ++ live told parts) ≡ length (live_in told m) + length (live told parts) = length-append (live_in told m) (live told parts) in
    omega (arith, rest, first, sum_by-cons (λ (p : Marked). length (live_in told p)) m parts)

pub live_in-few : (told : Option Files) (m : Marked) → length (live_in told m) ≤ size m.source
live_in-few told m = omega (arith, unmarked-few (reads told m.source) m.marks, reads-length told m.source)

-- no more documents are live than are held
pub live-few : (told : Option Files) (parts : List Marked) → sum_by (λ m. length (live_in told m)) parts ≤ documents_held parts
live-few told parts = sum_by-le-sum_by (λ (m : Marked). length (live_in told m)) (λ (m : Marked). size m.source) parts (live_in-few told)

pub live-short : (told : Option Files) (parts : List Marked) → sum_by (λ m. token_count (live_in told m)) parts ≤ tokens_held told parts
live-short told parts =
    sum_by-le-sum_by (λ (m : Marked). token_count (live_in told m)) (λ (m : Marked). token_count (reads told m.source)) parts
    (λ m. sum-unmarked-le (λ (d : Document). length d.tokens) (reads told m.source) m.marks)

-- the first parts and one more hold no more than all
held-more : (f : Marked → ℕ) (parts : List Marked) (i : ℕ) (m : Marked) → i < length parts → m ≡ get_or parts i m → sum_by f (take i parts) + f m ≤ sum_by f parts
held-more f parts i m inside is =
    let more = sum_by_more f parts i m inside in
    let same = ap f is in
    let part = sum_by-take-le f parts (i + 1) in
    omega (arith, more, same, part)

pub documents-more : (parts : List Marked) (i : ℕ) (m : Marked) → i < length parts → m ≡ get_or parts i m → documents_held (take i parts) + size m.source ≤ documents_held parts
documents-more parts i m inside is = held-more (λ (p : Marked). size p.source) parts i m inside is

pub tokens-more : (told : Option Files) (parts : List Marked) (i : ℕ) (m : Marked) → i < length parts → m ≡ get_or parts i m → tokens_held told (take i parts) + token_count (reads told m.source) ≤ tokens_held told parts
tokens-more told parts i m inside is = held-more (λ (p : Marked). token_count (reads told p.source)) parts i m inside is
