-- Sums over the live documents of parts.
use Rattle.std.proofs.Common.{◌≡◌, ◌<◌, ◌≤◌, ◌⊎◌, ℕ, zero, suc, ◌+◌, ◌-◌, ◌*◌, ◌/◌, min, Bool, true, false, if◌then◌else◌, List, length, take, get_or, Option, sum_by, inl, inr, refl, sym, ap, subst, ◌∙◌, arith}
use Rattle.std.proofs.lemmas.List.{take_all}
use Rattle.std.proofs.lemmas.List.Sums.{get_or-le-sum_by, sum_by-le-sum_by, sum_by-take-le, sum_by_more}
use Rattle.ri_base.specs.Collection.{document_at, token_count}
use Rattle.ri_base.specs.Documents.{Document}
use Rattle.ri_base.specs.Expression.{ExprTree}
use Rattle.ri_base.specs.declared.limits.TheConstants.{MAX_HELD_TOKENS}
use Rattle.store_ends.specs.Files.{Files}
use Rattle.extent_lists.specs.Presence.{may_with}
use Rattle.extent_evaluation.proofs.CountLaws.{whole-len-le}
use Rattle.extent_evaluation.proofs.ListedLemmas.{listing}
use Rattle.disk_index.specs.Parts.{IsPartBacked, reads, size}
use Rattle.disk_index.specs.Presence.{may_have}
use Rattle.disk_index.specs.Snapshots.{IsSnapshot, Marked, live, live_in, tokens_held, unmarked}
use Rattle.disk_index.proofs.LiveLemmas.{live-short, sum-live, sum-unmarked-le, sum-unmarked-more}
use Rattle.disk_index.proofs.PresenceLemmas.{nowhere}
use Rattle.disk_index.proofs.RebuiltLemmas.{reads-length}
use Rattle.counts.specs.PartSums.{living, sum_first}
use Rattle.counts.specs.Sums.{counted_tokens, occurrences}
use Rattle.counts.proofs.PresenceLemmas.{occurs-nowhere}

-- ---- one document

pub dead_none : (b : Bool) (n : ℕ) → b ≡ true → 0 ≡ (if b then 0 else n)
dead_none true n is = refl
dead_none false n is = absurd cc

pub live_all : (b : Bool) (n : ℕ) → b ≡ false → n ≡ (if b then 0 else n)
live_all true n is = absurd cc
live_all false n is = refl

nothing : (b : Bool) (n : ℕ) → n ≡ 0 → (if b then 0 else n) ≡ 0
nothing true n h = refl
nothing false n h = h

side : (n k : ℕ) → (n < k) ⊎ (k ≤ n)
side n k = grind arith

-- ---- the first documents of a part

module _ (f : Document → ℕ) (told : Option Files) (m : Marked) where
  pub first-more : (i : ℕ) → length m.marks ≡ size m.source → i < size m.source → sum_first f told m (i + 1) ≡ sum_first f told m i + living f told m i
  first-more i whole lt = sum-unmarked-more f (reads told m.source) m.marks i (omega (arith, lt, reads-length told m.source)) (omega (arith, whole, reads-length told m.source))

  pub first-end : (n : ℕ) → size m.source ≤ n → sum_first f told m n ≡ sum_by f (live_in told m)
  first-end n end = ap (λ (ds : List Document). sum_by f (unmarked ds m.marks)) (take_all n (reads told m.source) (omega (arith, end, reads-length told m.source)))

  -- documents of which nothing is counted add nothing
  first-skipped : (n k : ℕ) → length m.marks ≡ size m.source → ((id : ℕ) → n ≤ id → id < n + k → id < size m.source → f (document_at (reads told m.source) id) ≡ 0)
      → sum_first f told m (n + k) ≡ sum_first f told m n
  first-skipped n zero whole none = ap (sum_first f told m) (omega arith)
  first-skipped n (suc k) whole none =
      let next : n + suc k ≡ n + k + 1 = omega arith in
      ap (sum_first f told m) next ∙ one (side (n + k) (size m.source)) ∙ first-skipped n k whole (λ id low high inside. none id low (omega (arith, high)) inside)
    where
      one : (n + k < size m.source) ⊎ (size m.source ≤ n + k) → sum_first f told m (n + k + 1) ≡ sum_first f told m (n + k)
      one (inl lt) =
          let zero_there = nothing (get_or m.marks (n + k) false) (f (document_at (reads told m.source) (n + k))) (none (n + k) (omega arith) (omega arith) lt) in
          let more = first-more (n + k) whole lt in
          omega (arith, zero_there, more)
      one (inr past) = first-end (n + k + 1) (omega (arith, past)) ∙ sym (first-end (n + k) past)

  -- no fewer are counted in more documents
  pub first-grows : (n k : ℕ) → length m.marks ≡ size m.source → sum_first f told m n ≤ sum_first f told m (n + k)
  first-grows n zero whole = let same : sum_first f told m (n + 0) ≡ sum_first f told m n = ap (sum_first f told m) (omega arith) in omega (arith, same)
  first-grows n (suc k) whole =
      let next : sum_first f told m (n + suc k) ≡ sum_first f told m (n + k + 1) = ap (sum_first f told m) (omega arith) in
      let rest = first-grows n k whole in
      let last = one (side (n + k) (size m.source)) in
      omega (arith, next, rest, last)
    where
      one : (n + k < size m.source) ⊎ (size m.source ≤ n + k) → sum_first f told m (n + k) ≤ sum_first f told m (n + k + 1)
      one (inl lt) = let more = first-more (n + k) whole lt in omega (arith, more)
      one (inr past) = let same = first-end (n + k + 1) (omega (arith, past)) ∙ sym (first-end (n + k) past) in omega (arith, same)

  -- the last document of a range
  pub first-last : (n last k : ℕ) → n ≤ size m.source → last ≡ n + min (size m.source - n) k → sum_first f told m last ≡ sum_first f told m (n + k)
  first-last n last k inside is = by (side (n + k) (size m.source))
    where
      by : (n + k < size m.source) ⊎ (size m.source ≤ n + k) → sum_first f told m last ≡ sum_first f told m (n + k)
      by (inl lt) = ap (sum_first f told m) (omega (arith, is, lt))
      by (inr past) = first-end last (omega (arith, is, past, inside)) ∙ sym (first-end (n + k) past)

  -- one document more, as it is counted by files that stayed
  pub counted-next : (mid : Option Files) (first id count found : ℕ) → mid ≡ told → length m.marks ≡ size m.source → id < size m.source
      → sum_first f told m first + count ≡ sum_first f told m id → found ≡ living f mid m id → sum_first f told m first + (count + found) ≡ sum_first f told m (id + 1)
  counted-next mid first id count found same whole lt so_far here =
      let own : found ≡ living f told m id = here ∙ ap (λ (t : Option Files). living f t m id) same in
      let more = first-more id whole lt in
      omega (arith, so_far, own, more)

  pub few-next : (mid : Option Files) (first id count found : ℕ) → mid ≡ told → length m.marks ≡ size m.source → id < size m.source
      → sum_first f told m first + count ≤ sum_first f told m id → found ≤ living f mid m id → sum_first f told m first + (count + found) ≤ sum_first f told m (id + 1)
  few-next mid first id count found same whole lt so_far here =
      let own : living f mid m id ≡ living f told m id = ap (λ (t : Option Files). living f t m id) same in
      let more = first-more id whole lt in
      omega (arith, so_far, here, own, more)

  -- a range more
  range-next : (range : ℕ) → sum_first f told m (64 * range + 64) ≡ sum_first f told m (64 * (range + 1))
  range-next range = ap (sum_first f told m) (omega arith)

  pub counted-range : (mid : Option Files) (range count found : ℕ) → mid ≡ told → count ≡ sum_first f told m (64 * range)
      → sum_first f mid m (64 * range) + found ≡ sum_first f mid m (64 * range + 64) → count + found ≡ sum_first f told m (64 * (range + 1))
  counted-range mid range count found same so_far here =
      let own : sum_first f told m (64 * range) + found ≡ sum_first f told m (64 * range + 64) =
      subst (λ (t : Option Files). sum_first f t m (64 * range) + found ≡ sum_first f t m (64 * range + 64)) same here in
      let next = range-next range in
      omega (arith, so_far, own, next)

  pub few-range : (mid : Option Files) (range count found : ℕ) → mid ≡ told → count ≤ sum_first f told m (64 * range)
      → sum_first f mid m (64 * range) + found ≤ sum_first f mid m (64 * range + 64) → count + found ≤ sum_first f told m (64 * (range + 1))
  few-range mid range count found same so_far here =
      let own : sum_first f told m (64 * range) + found ≤ sum_first f told m (64 * range + 64) =
      subst (λ (t : Option Files). sum_first f t m (64 * range) + found ≤ sum_first f t m (64 * range + 64)) same here in
      let next = range-next range in
      omega (arith, so_far, own, next)

-- where an expression can't occur by the terms that the part may have in a range, it doesn't
pub range-skipped : (told : Option Files) (m : Marked) (range : ℕ) (x : ExprTree) (context : Option (List ℕ)) → length m.marks ≡ size m.source → IsPartBacked told m.source → may_with (may_have m.source range) x ≡ false
    → sum_first (occurrences x context) told m (64 * range + 64) ≡ sum_first (occurrences x context) told m (64 * range)
range-skipped told m range x context whole backed not = first-skipped (occurrences x context) told m (64 * range) 64 whole none
  where
    none : (id : ℕ) → 64 * range ≤ id → id < 64 * range + 64 → id < size m.source → occurrences x context (document_at (reads told m.source) id) ≡ 0
    none id low high inside =
        let d = document_at (reads told m.source) id in
        let here : id / 64 ≡ range = omega (arith, low, high) in
        occurs-nowhere (may_have m.source range) x context d (listing x d)
        (λ t absent. nowhere told m.source range t backed absent id here (omega (arith, inside, reads-length told m.source))) not

-- the tokens that count in the live ones among the first documents
pub tokens-within : (context : Option (List ℕ)) (told : Option Files) (m : Marked) (n : ℕ) → sum_first (counted_tokens context) told m n ≤ token_count (reads told m.source)
tokens-within context told m n =
    let docs = reads told m.source in
    omega (
      arith,
      sum-unmarked-le (counted_tokens context) (take n docs) m.marks,
      sum_by-le-sum_by (counted_tokens context) (λ (d : Document). length d.tokens) (take n docs) (whole-len-le context),
      sum_by-take-le (λ (d : Document). length d.tokens) docs n,
    )

-- ---- several parts

-- the live documents of one part more
pub live-more : (f : Document → ℕ) (told : Option Files) (parts : List Marked) (i : ℕ) (m : Marked) → i < length parts → m ≡ get_or parts i m
    → sum_by f (live told (take (i + 1) parts)) ≡ sum_by f (live told (take i parts)) + sum_by f (live_in told m)
live-more f told parts i m lt is =
    sum-live f told (take (i + 1) parts) ∙ sum_by_more (λ (p : Marked). sum_by f (live_in told p)) parts i m lt
    ∙ ap (λ n. n + sum_by f (live_in told (get_or parts i m))) (sym (sum-live f told (take i parts)))
    ∙ ap (λ (p : Marked). sum_by f (live told (take i parts)) + sum_by f (live_in told p)) (sym is)

-- the tokens that count in the live documents of the first parts
pub live-within : (context : Option (List ℕ)) (told : Option Files) (parts : List Marked) (i : ℕ) → IsSnapshot parts → sum_by (counted_tokens context) (live told (take i parts)) ≤ MAX_HELD_TOKENS
live-within context told parts i s =
    let f = counted_tokens context in
    let first : sum_by f (live told (take i parts)) ≡ sum_by (λ m. sum_by f (live_in told m)) (take i parts) = sum-live f told (take i parts) in
    let all = sum_by-take-le (λ (m : Marked). sum_by f (live_in told m)) parts i in
    let each : sum_by (λ m. sum_by f (live_in told m)) parts ≤ sum_by (λ m. token_count (live_in told m)) parts =
    sum_by-le-sum_by (λ (m : Marked). sum_by f (live_in told m)) (λ (m : Marked). token_count (live_in told m)) parts
    (λ m. sum_by-le-sum_by f (λ (d : Document). length d.tokens) (live_in told m) (whole-len-le context)) in
    omega (arith, first, all, each, live-short told parts, s.short told)

-- the live documents of all parts
pub live-all : (f : Document → ℕ) (told : Option Files) (parts : List Marked) (i : ℕ) → length parts ≤ i → sum_by f (live told (take i parts)) ≡ sum_by f (live told parts)
live-all f told parts i end = ap (λ (ms : List Marked). sum_by f (live told ms)) (take_all i parts end)

-- the tokens of one part
pub part-short : (parts : List Marked) (i : ℕ) (m : Marked) → IsSnapshot parts → i < length parts → m ≡ get_or parts i m → (told : Option Files) → token_count (reads told m.source) ≤ MAX_HELD_TOKENS
part-short parts i m s lt is told =
    let here : token_count (reads told (get_or parts i m).source) ≤ tokens_held told parts = get_or-le-sum_by (λ (p : Marked). token_count (reads told p.source)) parts i m lt in
    let same : token_count (reads told m.source) ≡ token_count (reads told (get_or parts i m).source) = ap (λ (p : Marked). token_count (reads told p.source)) is in
    omega (arith, here, same, s.short told)
