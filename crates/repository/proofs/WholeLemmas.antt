-- Merges that are run to their end.
use Rattle.std.proofs.Common.{◌≡◌, ◌≤◌, ◌<◌, ◌+◌, ◌-◌, ◌⊎◌, ℕ, Bool, true, false, ◌&&◌, List, [], ◌∷◌, ◌++◌, cond, length, map, nat_lt, Option, None, Some, IfSome, Result, Ok, Err, refl, ap, sym, subst, ◌∙◌, arith}
use Rattle.std.specs.Prelude.{OnOk, is_err, is_some, sum_by}
use Rattle.std.specs.Result.{is_ok}
use Rattle.std.proofs.lemmas.Bool.Decides.{nat_tests}
use Rattle.std.proofs.lemmas.List.{length-map, map-append}
use Rattle.ri_base.specs.Collection.{token_count}
use Rattle.ri_base.specs.Documents.{Document}
use Rattle.ri_base.specs.Faults.{IsOutside}
use Rattle.ri_base.specs.declared.seg_fault.SegFault.{SegFault}
use Rattle.seg_codec.specs.Segment.{entry_of}
use Rattle.seg_codec.specs.declared.documents.Entry.{Entry}
use Rattle.store_ends.specs.Files.{Files, Leaves, SameWhere}
use Rattle.manifest.specs.Listing.{prior_numbers}
use Rattle.disk_index.specs.Cache.{CacheKeeps, Cached, IsCacheBacked, nothing_cached}
use Rattle.disk_index.specs.Snapshots.{IsFileAmong, Marked, live, live_in}
use Rattle.disk_index.proofs.AlikeLemmas.{tokens-outlines}
use Rattle.disk_index.proofs.BackedLemmas.{IsCacheBacked-among}
use Rattle.holdings.specs.Contents.{Contents}
use Rattle.holdings.specs.Parts.{is_live, sealed}
use Rattle.holdings.specs.declared.limits.Limits.{Limits}
use Rattle.holdings.proofs.RoomLemmas.{live-sealed}
use Rattle.holdings.proofs.SumLemmas.{documents-sealed, tokens-sealed}
use Rattle.merge_job.specs.Merge.{Merging, size_of}
use Rattle.merge_job.specs.Walk.{IsFaultAmong}
use Rattle.repository.specs.Merges.{IsMerging, IsTurnedOver, IsTurnedTo, after_turn, dead_documents, dead_tokens, merge_begun, merge_of, turned, without_dead, without_dead_of}
use Rattle.repository.specs.Saved.{IsUnlisted}
use Rattle.repository.specs.Stands.{Collection, Stands}
use Rattle.repository.specs.States.{IsBacked, IsStateIntact, ReadsAs, State, listed_numbers}
use Rattle.repository.specs.Writes.{IsBeside, IsEither, Writes, Wrote}
use Rattle.repository.specs.declared.turned.Turned.{Turned}
use Rattle.repository.specs.declared.turned.Turned.TheVariants.{Done, Open}
use Rattle.repository.proofs.CommitLemmas.{documents-whole, filling-by, live-whole, tokens-whole}
use Rattle.repository.proofs.ExchangeLemmas.{entries-in, live-few, live-short}
use Rattle.repository.proofs.SaveLemmas.{numbers-sealed}
use Rattle.repository.proofs.StepLemmas.{intact-closed}

pub open-done : (credit size : ℕ) → Open credit size ≡ Done → ⊥
open-done credit size e = cc

-- ---- a turn of all documents

turned-all : (m : Merging) (docs : ℕ) → size_of m ≤ length m.copied + docs → turned m docs ≡ Done
turned-all m docs enough = by (nat_lt (length m.copied + docs) (size_of m)) refl
  where
    by : (b : Bool) → nat_lt (length m.copied + docs) (size_of m) ≡ b → cond b (Open (length m.copied + docs) (size_of m)) Done ≡ Done
    by true e = (let less : length m.copied + docs < size_of m = grind (arith, nat_tests) in absurd (omega (arith, less, enough)))
    by false e = refl

pub begun-some : (s r : State) → r ≡ merge_begun s → is_some r.merge ≡ true
begun-some s r begun = ap (λ (x : State). is_some x.merge) begun

pub done-begun : (s r : State) (size docs : ℕ) (t : Turned) → r ≡ merge_begun s → size ≡ size_of (merge_of s) → size ≤ docs → IfSome r.merge (λ m. t ≡ turned m docs) → t ≡ Done
done-begun s r size docs t begun size_is enough turned_is =
    let here : t ≡ turned (merge_of s) docs = subst (λ (x : State). IfSome x.merge (λ m. t ≡ turned m docs)) begun turned_is in
    here ∙ turned-all (merge_of s) docs (omega (arith, size_is, enough))

-- ---- no dead document is left of a merge of all that is held

live-alike : (a b : Option Files) (ms : List Marked) → map entry_of (live a ms) ≡ map entry_of (live b ms)
live-alike a b [] = refl
live-alike a b (m ∷ ms) =
    map-append entry_of (live_in a m) (live a ms) ∙ ap (λ (l : List Entry). l ++ map entry_of (live a ms)) (entries-in a m.source m.marks ∙ sym (entries-in b m.source m.marks))
    ∙ ap (λ (l : List Entry). map entry_of (live_in b m) ++ l) (live-alike a b ms) ∙ sym (map-append entry_of (live_in b m) (live b ms))

-- the same documents, and so many and so many tokens are held
abbrev holding : Collection → ℕ → ℕ → Collection
holding c documents tokens = record { live = c.live; documents = documents; tokens = tokens; priors = c.priors }

module _ (told : Option Files) (s : State) (d : Collection) (read : ReadsAs told s d) where
  abbrev parts : List Marked
  parts = (sealed s.held.parts).closed

  none : (sealed s.held.parts).filling ≡ []
  none = filling-by s.held.parts s.held.parts.filling refl

  live-now : live told parts ≡ d.live
  live-now = sym (live-whole told (sealed s.held.parts) none) ∙ live-sealed told s.held.parts ∙ read.live_are

  documents-left : d.documents - dead_documents parts ≡ length d.live
  documents-left =
      let held = sym (documents-whole (sealed s.held.parts) none) ∙ documents-sealed s.held.parts ∙ read.documents_are in
      let count = sym (length-map (live None parts) entry_of) ∙ ap (λ (os : List Entry). length os) (live-alike None told parts) ∙ length-map (live told parts) entry_of ∙ ap (λ (ds : List Document). length ds) live-now in
      let few = live-few parts in
      omega (arith, held, count, few)

  tokens-left : d.tokens - dead_tokens parts ≡ token_count d.live
  tokens-left =
      let held = sym (tokens-whole (sealed s.held.parts) none) ∙ tokens-sealed s.held.parts ∙ read.tokens_are in
      let count = tokens-outlines (live None parts) ∙ ap (sum_by (λ (o : Entry). o.tokens)) (live-alike None told parts) ∙ sym (tokens-outlines (live told parts)) ∙ ap token_count live-now in
      let few = live-short parts in
      omega (arith, held, count, few)

  none-dead : without_dead_of (Some (merge_of s)) d ≡ without_dead d
  none-dead = ap (λ (n : ℕ). holding d n (d.tokens - dead_tokens parts)) documents-left ∙ ap (holding d (length d.live)) tokens-left

-- ---- the whole merge

module _ (a c : Option Files) (s r t : State) (begun : r ≡ merge_begun s) (limits : t.held.limits ≡ s.held.limits) (same : (d : Collection) → ReadsAs a s d → ReadsAs a r d) (over : IsBacked a s → IsTurnedOver Done r.merge a c r t) where
  over-begun : IsBacked a s → IsTurnedOver Done (Some (merge_of s)) a c r t
  over-begun backed = subst (λ (x : State). IsTurnedOver Done x.merge a c r t) begun (over backed)

  pub whole-wrote : Wrote without_dead a c s t
  whole-wrote = record {
    reads = λ d backed read. subst (ReadsAs c t) (none-dead a s d read) ((over-begun backed).reads d (same d read));
    stands = λ d backed read.
        let limits_are : r.held.limits ≡ t.held.limits = ap (λ (x : State). x.held.limits) begun ∙ sym limits in
        subst (λ (l : Limits). Stands l c (without_dead d)) limits_are (subst (Stands r.held.limits c) (none-dead a s d read) ((over-begun backed).stands refl d (same d read)));
    backed = λ backed. (over-begun backed).backed;
    intact = λ backed intact. (over-begun backed).intact (subst (IsStateIntact a) (sym begun) (intact-closed a s intact));
  }

numbers-begun : (s r : State) → r ≡ merge_begun s → listed_numbers r ≡ listed_numbers s
numbers-begun s r begun = ap listed_numbers begun ∙ ap (λ (ns : List ℕ). ns ++ (s.stale ++ prior_numbers s.priors)) (numbers-sealed s.held.parts)

module _ {S : Type 0} (files : S → Option Files) (since : S → ℕ → Files → Type 0) (s r : State) (begun : r ≡ merge_begun s) (old new : S) where
  pub whole-writes : ((d : Collection) → ReadsAs (files old) s d → ReadsAs (files old) r d) → SameWhere (IsBeside (IsUnlisted (listed_numbers r))) (files old) (files new)
      → Leaves (since old) (since new) (SameWhere (IsBeside (IsUnlisted (listed_numbers r))) (files old))
      → ((k d : Collection) → IsBacked (files old) s → Stands r.held.limits (files old) k → ReadsAs (files old) r d → Leaves (since old) (since new) (IsEither r.held.limits k (without_dead_of r.merge d)))
      → Writes files since (IsUnlisted (listed_numbers s)) without_dead s old new
  whole-writes same stay stay_on stops = record {
    others = subst (λ (ns : List ℕ). SameWhere (IsBeside (IsUnlisted ns)) (files old) (files new)) (numbers-begun s r begun) stay;
    others_stay = subst (λ (ns : List ℕ). Leaves (since old) (since new) (SameWhere (IsBeside (IsUnlisted ns)) (files old))) (numbers-begun s r begun) stay_on;
    stops = λ k d backed stands read.
        let limits : r.held.limits ≡ s.held.limits = ap (λ (x : State). x.held.limits) begun in
        let left = stops k d backed (subst (λ (l : Limits). Stands l (files old) k) (sym limits) stands) (same d read) in
        let into : without_dead_of r.merge d ≡ without_dead d = ap (λ (x : State). without_dead_of x.merge d) begun ∙ none-dead (files old) s d read in
        subst (λ (e : Collection). Leaves (since old) (since new) (IsEither s.held.limits k e)) into
        (subst (λ (l : Limits). Leaves (since old) (since new) (IsEither l k (without_dead_of r.merge d))) limits left);
  }

pub fault-begun : (f : Files) (s r : State) (cached : Cached) (fault : SegFault) → r ≡ merge_begun s → cached ≡ nothing_cached → IfSome r.merge (λ m. IsOutside fault ⊎ IsFaultAmong f cached m.snapshot fault)
    → IsOutside fault ⊎ IsFaultAmong f nothing_cached (sealed s.held.parts).closed fault
fault-begun f s r cached fault begun none is =
    subst (λ (x : State). IfSome x.merge (λ m. IsOutside fault ⊎ IsFaultAmong f nothing_cached m.snapshot fault)) begun
    (subst (λ (k : Cached). IfSome r.merge (λ m. IsOutside fault ⊎ IsFaultAmong f k m.snapshot fault)) none is)

-- ---- a merge around another call

pub ok-on : {A E : Type 0} (r : Result A E) (P : Type 0) → is_ok r ≡ true → OnOk r P → P
ok-on (Ok x) P ok on = on
ok-on (Err x) P ok on = cc

-- the cache stays backed over a turn
pub some-cache : (a b : Option Files) (s : State) (o : Option Merging) (x y : Cached) → is_some o ≡ true → b ≡ a → IfSome o (IsMerging a s) → IfSome o (λ m. CacheKeeps a (IsFileAmong m.snapshot) x y) → IsCacheBacked a x → IsCacheBacked b y
some-cache a b s None x y some same merging keeps cached = cc
some-cache a b s (Some m) x y some same merging keeps cached = subst (λ (f : Option Files). IsCacheBacked f y) (sym same) (IsCacheBacked-among a m.snapshot x y merging.snapshot keeps cached)

-- where the turn didn't reach the size
pub below-size : (m : Merging) (docs : ℕ) (t : Turned) → t ≡ turned m docs → (t ≡ Done → ⊥) → length m.copied + docs < size_of m
below-size m docs t is open_now = by (nat_lt (length m.copied + docs) (size_of m)) refl
  where
    by : (b : Bool) → nat_lt (length m.copied + docs) (size_of m) ≡ b → length m.copied + docs < size_of m
    by true e = grind (arith, nat_tests)
    by false e = absurd (open_now (is ∙ ap (λ (b : Bool). cond b (Open (length m.copied + docs) (size_of m)) Done) e))

pub some-below : {A : Type 0} (o : Option Merging) (docs : ℕ) (t : Turned) → is_some o ≡ true → IfSome o (λ m. t ≡ turned m docs) → (t ≡ Done → ⊥) → IfSome o (λ m. length m.copied + docs < size_of m → A) → A
some-below None docs t some is open_now all = cc
some-below (Some m) docs t some is open_now all = all (below-size m docs t is open_now)

pub after-live : (t : Turned) (o : Option Merging) (d : Collection) → (after_turn t o d).live ≡ d.live
after-live (Open credit size) o d = refl
after-live Done None d = refl
after-live Done (Some m) d = refl

-- ---- when a merge around another call answers yes

turned-below : (m : Merging) (docs : ℕ) → length m.copied + docs < size_of m → turned m docs ≡ Done → ⊥
turned-below m docs less = by (nat_lt (length m.copied + docs) (size_of m)) refl
  where
    by : (b : Bool) → nat_lt (length m.copied + docs) (size_of m) ≡ b → cond b (Open (length m.copied + docs) (size_of m)) Done ≡ Done → ⊥
    by true e is = open-done (length m.copied + docs) (size_of m) is
    by false e is = (let enough : size_of m ≤ length m.copied + docs = grind (arith, nat_tests) in omega (arith, less, enough))

pub ok-live : {A E : Type 0} (r : Result A E) (live : Bool) → is_ok r ≡ true → (live ≡ false → is_err r ≡ true) → live ≡ true
ok-live r true ok absent = refl
ok-live (Ok x) false ok absent = absent refl
ok-live (Err x) false ok absent = ok

module _ (s r : State) (docs : ℕ) (t : Turned) (begun : r ≡ merge_begun s) (turned_is : IfSome r.merge (λ m. t ≡ turned m docs)) where
  first-turn : t ≡ turned (merge_of s) docs
  first-turn = subst (λ (x : State). IfSome x.merge (λ m. t ≡ turned m docs)) begun turned_is

  -- the first turn ended the merge
  pub around-done : (live : Bool) → t ≡ Done → false ≡ (nat_lt docs (size_of (merge_of s)) && live)
  around-done live done = by (nat_lt docs (size_of (merge_of s))) refl
    where
      by : (b : Bool) → nat_lt docs (size_of (merge_of s)) ≡ b → false ≡ (b && live)
      by true e = (let less : docs < size_of (merge_of s) = grind (arith, nat_tests) in absurd (turned-below (merge_of s) docs (omega (arith, less)) (sym first-turn ∙ done)))
      by false e = refl

  -- it left the merge open, and the same is held
  module _ (q : State) (state : IsTurnedTo t docs r q) (open_now : t ≡ Done → ⊥) where
    small : nat_lt docs (size_of (merge_of s)) ≡ true
    small = by (nat_lt docs (size_of (merge_of s))) refl
      where
        by : (b : Bool) → nat_lt docs (size_of (merge_of s)) ≡ b → b ≡ true
        by true e = refl
        by false e =
            let less = below-size (merge_of s) docs t first-turn open_now in
            let enough : size_of (merge_of s) ≤ docs = grind (arith, nat_tests) in
            absurd (omega (arith, less, enough))

    same-held : (u : Turned) → IsTurnedTo u docs r q → (u ≡ Done → ⊥) → q.held ≡ r.held
    same-held (Open credit size) to on = ap (λ (x : State). x.held) to.is
    same-held Done to on = absurd (on refl)

    pub around-live : (docno : List ℕ) (b : Bool) → is_live q.held.parts docno ≡ b → b ≡ (nat_lt docs (size_of (merge_of s)) && is_live (merge_begun s).held.parts docno)
    around-live docno b live =
        let held : q.held ≡ (merge_begun s).held = same-held t state open_now ∙ ap (λ (x : State). x.held) begun in
        let now : is_live (merge_begun s).held.parts docno ≡ b = ap (λ (x : Contents). is_live x.parts docno) (sym held) ∙ live in
        sym (ap (λ (y : Bool). y && is_live (merge_begun s).held.parts docno) small ∙ now)
