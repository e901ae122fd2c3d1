-- A commit leaves the files that are listed, so what is read of them stays.
use Rattle.std.proofs.Common.{◌≡◌, ◌<◌, ◌^◌, inl, inr, ℕ, zero, suc, true, false, List, [], ◌∷◌, ◌++◌, refl, sym, ap, subst, ◌∙◌, arith, Option, Some, None}
use Rattle.std.specs.Prelude.{Contains, drop, take, unwrap_or}
use Rattle.std.proofs.lemmas.List.Elements.{All-cons, All-head, All-nil, All-tail}
use Rattle.ri_base.specs.Documents.{Document}
use Rattle.store_ends.specs.Files.{File, Files, SameWhere}
use Rattle.store_ends.proofs.Files.{SameWhere-at, SameWhere-told}
use Rattle.seg_codec.specs.declared.blocks.BlockEntry.{BlockEntry}
use Rattle.manifest.specs.Files.{numbers_of}
use Rattle.manifest.specs.Listing.{all_numbers, prior_numbers}
use Rattle.manifest.proofs.ListingLaws.{listing-of}
use Rattle.disk_index.specs.Blocks.{IsBlockIn, told_file}
use Rattle.disk_index.specs.Cache.{Cached, IsCacheBacked, KeptBlock}
use Rattle.disk_index.specs.Names.{segment_name}
use Rattle.disk_index.specs.Parts.{InMemory, IsPartBacked, IsPartIntact, OnDisk, Source, reads}
use Rattle.disk_index.specs.Reads.{HasSegment, IsIntact, ShowsDamage, rebuilt}
use Rattle.disk_index.specs.Snapshots.{AreBacked, AreIntact, Marked, live, unmarked}
use Rattle.disk_index.specs.declared.cache.BlockKey.{BlockKey}
use Rattle.smoothing.specs.declared.rule.RuleKind.{RuleKind}
use Rattle.belief_nodes.specs.Network.{network_tree}
use Rattle.belief_nodes.specs.Priors.{Prior}
use Rattle.ranker.specs.Held.{IsHeld}
use Rattle.ranker.specs.Passed.{IsKnown, IsTold, part_at, passed}
use Rattle.ranker.specs.Searches.{IsTaken, filters_of}
use Rattle.ranker.specs.declared.place.Place.{Place}
use Rattle.ranker.specs.declared.search.Search.{Search}
use Rattle.ranker.proofs.ReadLemmas.{told-same}
use Rattle.repository.specs.Numbers.{is_among}
use Rattle.repository.specs.Saved.{IsUnlisted}
use Rattle.repository.specs.States.{IsBacked, State, listed_numbers, numbers_in, part_numbers}
use Rattle.repository.specs.Writes.{IsBeside}
use Rattle.repository.proofs.FrameLemmas.{other-segment}
use Rattle.repository.proofs.NameLemmas.{segment_name-manifest}
use Rattle.repository.proofs.NumberLemmas.{among-behind, among-either, among-left, among-own, below-next, clash}

-- ---- a part whose file stays

file-same : (P : List ℕ → Type 0) (a b : Option Files) (j : ℕ) → SameWhere P a b → P (segment_name j) → told_file b j ≡ told_file a j
file-same P None None j same p = refl
file-same P None (Some g) j same p = absurd same
file-same P (Some f) None j same p = absurd same
file-same P (Some f) (Some g) j same p = ap (λ (x : File). unwrap_or x.put []) (same (segment_name j) p)

-- the files of these numbers stay
abbrev pub Stay : (List ℕ → Type 0) → List ℕ → Type 0
Stay P ns = (j : ℕ) → is_among j ns ≡ true → P (segment_name j)

same-back : (P : List ℕ → Type 0) (a b : Option Files) → SameWhere P a b → SameWhere P b a
same-back P None None same = tt
same-back P None (Some g) same = same
same-back P (Some f) None same = same
same-back P (Some f) (Some g) same = λ name p. sym (same name p)

module _ (P : List ℕ → Type 0) (a b : Option Files) (same : SameWhere P a b) where
  reads-same : (s : Source) → Stay P (numbers_in s) → reads b s ≡ reads a s
  reads-same (InMemory docs) stay = refl
  reads-same (OnDisk kept) stay = ap (rebuilt kept) (file-same P a b kept.number same (stay kept.number (among-own kept.number [])))

  has-same : (n : ℕ) (docs : List Document) → P (segment_name n) → HasSegment a n docs → HasSegment b n docs
  has-same n docs p h =
      let t = SameWhere-told P a b h.files same h.is_told in
      let at : t.0 (segment_name n) ≡ h.files (segment_name n) = SameWhere-at P a b h.files t.0 (segment_name n) same h.is_told t.1 p in
      record {
        files = t.0;
        is_told = t.1;
        file = ap (λ (x : File). x.put) at ∙ h.file;
        part = h.part;
        small = h.small;
        shows = subst (λ (x : File). ShowsDamage docs x.read) (sym at) h.shows;
      }

  part-same : (s : Source) → Stay P (numbers_in s) → IsPartBacked a s → IsPartBacked b s
  part-same (InMemory docs) stay backed = tt
  part-same (OnDisk kept) stay backed =
      (backed.0, record { has = has-same kept.number backed.0 (stay kept.number (among-own kept.number [])) backed.1.has; same = backed.1.same })

  intact-at : (n : ℕ) → P (segment_name n) → IsIntact a n → IsIntact b n
  intact-at n p h = λ g is.
      let t = SameWhere-told P b a g (same-back P a b same) is in
      let at : g (segment_name n) ≡ t.0 (segment_name n) = SameWhere-at P a b t.0 g (segment_name n) same t.1 is p in
      ap (λ (x : File). x.read) at ∙ h t.0 t.1 ∙ sym (ap (λ (x : File). x.put) at)

  part-intact : (s : Source) → Stay P (numbers_in s) → IsPartIntact a s → IsPartIntact b s
  part-intact (InMemory docs) stay here = tt
  part-intact (OnDisk kept) stay here = (part-same (OnDisk kept) stay here.0, intact-at kept.number (stay kept.number (among-own kept.number [])) here.1)

  first-stays : (m : Marked) (ms : List Marked) → Stay P (part_numbers (m ∷ ms)) → Stay P (numbers_in m.source)
  first-stays m ms stay = λ j h. stay j (among-left j (numbers_in m.source) (part_numbers ms) h)

  rest-stays : (m : Marked) (ms : List Marked) → Stay P (part_numbers (m ∷ ms)) → Stay P (part_numbers ms)
  rest-stays m ms stay = λ j h. stay j (among-behind j (numbers_in m.source) (part_numbers ms) h)

  -- parts read as they did
  pub live-same : (ms : List Marked) → Stay P (part_numbers ms) → live b ms ≡ live a ms
  live-same [] stay = refl
  live-same (m ∷ ms) stay = λ i. unmarked (reads-same m.source (first-stays m ms stay) i) m.marks ++ live-same ms (rest-stays m ms stay) i

  pub backed-same : (ms : List Marked) → Stay P (part_numbers ms) → AreBacked a ms → AreBacked b ms
  backed-same [] stay backed = All-nil (λ m. IsPartBacked b m.source)
  backed-same (m ∷ ms) stay backed =
      All-cons (λ m. IsPartBacked b m.source) m ms (part-same m.source (first-stays m ms stay) (All-head (λ m. IsPartBacked a m.source) m ms backed))
      (backed-same ms (rest-stays m ms stay) (All-tail (λ m. IsPartBacked a m.source) m ms backed))

  -- and are read as they were put where they were
  pub intact-same : (ms : List Marked) → Stay P (part_numbers ms) → AreIntact a ms → AreIntact b ms
  intact-same [] stay intact = All-nil (λ m. IsPartIntact b m.source)
  intact-same (m ∷ ms) stay intact =
      All-cons (λ m. IsPartIntact b m.source) m ms (part-intact m.source (first-stays m ms stay) (All-head (λ m. IsPartIntact a m.source) m ms intact))
      (intact-same ms (rest-stays m ms stay) (All-tail (λ m. IsPartIntact a m.source) m ms intact))

  -- ---- what a search has taken

  nothing-stays : (j : ℕ) → is_among j [] ≡ true → P (segment_name j)
  nothing-stays j h = absurd (clash false h refl)

  take-stays : (ms : List Marked) (k : ℕ) → Stay P (part_numbers ms) → Stay P (part_numbers (take k ms))
  take-stays ms zero stay = nothing-stays
  take-stays [] (suc k) stay = nothing-stays
  take-stays (m ∷ ms) (suc k) stay = λ j h. elim (among-either j (numbers_in m.source) (part_numbers (take k ms)) h) [
    | inl own ↦ first-stays m ms stay j own
    | inr rest ↦ take-stays ms k (rest-stays m ms stay) j rest
  ]

  at-stays : (ms : List Marked) (k : ℕ) → Stay P (part_numbers ms) → Stay P (numbers_in (part_at ms k).source)
  at-stays [] k stay = nothing-stays
  at-stays (m ∷ ms) zero stay = first-stays m ms stay
  at-stays (m ∷ ms) (suc k) stay = at-stays ms k (rest-stays m ms stay)

  -- the part of each number reads as it did
  at-same : (ms : List Marked) (k : ℕ) → Stay P (part_numbers ms) → reads b (part_at ms k).source ≡ reads a (part_at ms k).source
  at-same ms k stay = reads-same (part_at ms k).source (at-stays ms k stay)

  passed-same : (ms : List Marked) (at : Place) → Stay P (part_numbers ms) → passed b ms at ≡ passed a ms at
  passed-same ms at stay = λ i.
      live-same (take at.part ms) (take-stays ms at.part stay) i ++ unmarked (take at.id (at-same ms at.part stay i)) (part_at ms at.part).marks

  pub taken-same : (kind : RuleKind) (priors : List Prior) (s : Search) → Stay P (part_numbers s.snapshot) → IsTaken kind priors a s → IsTaken kind priors b s
  taken-same kind priors s stay taken =
      let network = network_tree s.network in
      let filters = filters_of s in
      record {
        held = subst (λ (docs : List Document). IsHeld kind priors filters network docs s.most s.held) (sym (passed-same s.snapshot s.at stay)) taken.held;
        ahead = record {
          here = subst (λ (docs : List Document). IsKnown kind priors filters network s.tables.items s.at.part docs s.at.id s.at.ahead) (sym (at-same s.snapshot s.at.part stay)) taken.ahead.here;
          each = λ number. subst (λ (docs : List Document). IsTold network s.tables.items number docs) (sym (at-same s.snapshot number stay)) (taken.ahead.each number);
        };
        blocks = told-same s a b (at-same s.snapshot s.at.part stay) taken.blocks;
      }

-- a cache keeps the blocks of files that stay
block-same : (P : List ℕ → Type 0) (f g : Files) (key : BlockKey) (es : List BlockEntry) → ((name : List ℕ) → P name → g name ≡ f name) → P (segment_name key.number) → IsBlockIn f key es → IsBlockIn g key es
block-same P f g key es same p is = record {
  bytes = ap (λ (x : File). take key.length (drop key.place (unwrap_or x.read []))) (same (segment_name key.number) p) ∙ is.bytes;
  docs = is.docs;
  fit = is.fit;
}

pub cache-same : (P : List ℕ → Type 0) (a b : Option Files) (cache : Cached) → SameWhere P a b → ((e : KeptBlock) → Contains cache.kept e → P (segment_name e.0.number)) → IsCacheBacked a cache → IsCacheBacked b cache
cache-same P None None cache same stay backed = backed
cache-same P None (Some g) cache same stay backed = absurd same
cache-same P (Some f) None cache same stay backed = absurd same
cache-same P (Some f) (Some g) cache same stay backed = λ h e k c.
    let was = backed f refl k c in (
      subst (λ (x : Files). IsBlockIn x k.0 k.1) (told_is g h e) (block-same P f g k.0 k.1 same (stay k c) was.0),
      λ docs s. was.1 docs (has-same P (Some g) (Some f) (same-back P (Some f) (Some g) same) k.0.number docs (stay k c) s),
    )
  where
    told_is : (x y : Files) → ◌≡◌ {A = Option Files} (Some x) (Some y) → x ≡ y
    told_is x y e = ap (λ (o : Option Files). unwrap_or o x) e

-- ---- the files that a repository lists

module _ (told : Option Files) (s : State) (backed : IsBacked told s) where
  listed-small : (j : ℕ) → is_among j (listed_numbers s) ≡ true → j < 2 ^ 64
  listed-small j among =
      let l = listing-of backed.list backed.has.form in
      let numbers : numbers_of backed.list.segments ++ (backed.list.stale ++ prior_numbers backed.list.priors) ≡ listed_numbers s
      = λ i. backed.numbers_are i ++ (backed.stale_are i ++ prior_numbers (backed.priors_are i)) in
      let below = below-next backed.list.next (all_numbers backed.list.segments backed.list.stale backed.list.priors) l.numbered j (ap (is_among j) numbers ∙ among) in
      let fits = l.next_fits in
      omega (arith, below, fits)

  -- the file of a number that is listed isn't touched by a commit
  pub listed-stays : (j : ℕ) → is_among j (listed_numbers s) ≡ true → IsBeside (IsUnlisted (listed_numbers s)) (segment_name j)
  listed-stays j h =
      ((λ e. segment_name-manifest j (sym e)), other-segment (IsUnlisted (listed_numbers s)) (listed_numbers s) (λ n o. o) j (listed-small j h) h)
