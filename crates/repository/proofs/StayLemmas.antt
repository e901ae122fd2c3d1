-- Parts whose files are listed stay backed, and read as before.
use Rattle.std.proofs.Common.{◌≡◌, ◌<◌, ◌^◌, ℕ, true, List, [], ◌∷◌, ◌++◌, Option, Some, ap, refl, sym, ◌∙◌, arith}
use Rattle.std.proofs.lemmas.List.Elements.{All-cons, All-head, All-nil, All-tail}
use Rattle.ri_base.specs.Documents.{Document}
use Rattle.store_ends.specs.Files.{Files, SameWhere}
use Rattle.store_ends.proofs.Files.{SameWhere-at, SameWhere-told}
use Rattle.manifest.proofs.ListingLaws.{listing-of}
use Rattle.disk_index.specs.Names.{segment_name}
use Rattle.disk_index.specs.Parts.{InMemory, IsPartBacked, IsPartIntact, OnDisk, Source, reads}
use Rattle.disk_index.specs.Reads.{HasSegment, IsBacked as IsKeptBacked}
use Rattle.disk_index.specs.Snapshots.{AreBacked, Marked, live, unmarked}
use Rattle.disk_index.proofs.RebuiltLemmas.{reads-backed}
use Rattle.repository.specs.Merges.{AreListed, StaysBacked}
use Rattle.repository.specs.Numbers.{is_among}
use Rattle.repository.specs.Saved.{IsUnlisted}
use Rattle.repository.specs.States.{IsNumbered, State, listed_numbers, numbers_in, part_numbers}
use Rattle.repository.specs.Writes.{IsBeside}
use Rattle.repository.proofs.FrameLemmas.{other-segment}
use Rattle.repository.proofs.IntactLemmas.{has-moved, intact-moved}
use Rattle.repository.proofs.ListedLemmas.{all-listed}
use Rattle.repository.proofs.NameLemmas.{segment_name-manifest}
use Rattle.repository.proofs.NumberLemmas.{among-behind, among-left, among-own, below-next}

module _ (s : State) (numbered : IsNumbered s) (a c : Option Files) (same : SameWhere (IsBeside (IsUnlisted (listed_numbers s))) a c) where
  small : (n : ℕ) → is_among n (listed_numbers s) ≡ true → n < 2 ^ 64
  small n e =
      let below = below-next s.next (listed_numbers s) (all-listed s numbered) n e in
      let fits = (listing-of numbered.list numbered.form).next_fits in
      omega (arith, below, fits, numbered.next_is)

  file-stays : (n : ℕ) (f : Files) → is_among n (listed_numbers s) ≡ true → a ≡ Some f → (g : Files) × (c ≡ Some g) × (g (segment_name n) ≡ f (segment_name n))
  file-stays n f e told =
      let t = SameWhere-told (IsBeside (IsUnlisted (listed_numbers s))) a c f same told in
      let beside : IsBeside (IsUnlisted (listed_numbers s)) (segment_name n) =
      ((λ m. segment_name-manifest n (sym m)), other-segment (IsUnlisted (listed_numbers s)) (listed_numbers s) (λ j o. o) n (small n e) e) in
      (t.0, t.1, SameWhere-at (IsBeside (IsUnlisted (listed_numbers s))) a c f t.0 (segment_name n) same told t.1 beside)

  has-stays : (n : ℕ) (docs : List Document) → is_among n (listed_numbers s) ≡ true → HasSegment a n docs → HasSegment c n docs
  has-stays n docs e h = (let t = file-stays n h.files e h.is_told in has-moved a c t.0 n docs h t.1 t.2)

  source-stays : (p : Source) → ((j : ℕ) → is_among j (numbers_in p) ≡ true → is_among j (listed_numbers s) ≡ true) → IsPartBacked a p → IsPartBacked c p × (reads c p ≡ reads a p)
  source-stays (InMemory docs) within backed = (tt, refl)
  source-stays (OnDisk k) within backed =
      let now : IsKeptBacked c k backed.0 = record { has = has-stays k.number backed.0 (within k.number (among-own k.number [])) backed.1.has; same = backed.1.same } in
      ((backed.0, now), reads-backed c k backed.0 now ∙ sym (reads-backed a k backed.0 backed.1))

  intact-stays : (p : Source) → ((j : ℕ) → is_among j (numbers_in p) ≡ true → is_among j (listed_numbers s) ≡ true) → IsPartIntact a p → IsPartIntact c p
  intact-stays (InMemory docs) within intact = tt
  intact-stays (OnDisk k) within intact =
      let h = intact.0.1.has in
      let t = file-stays k.number h.files (within k.number (among-own k.number [])) h.is_told in
      ((source-stays (OnDisk k) within intact.0).0, intact-moved a c h.files t.0 k.number h.is_told t.1 t.2 intact.1)

  pub snapshot-stays : (ms : List Marked) → AreListed s ms → AreBacked a ms → StaysBacked a c ms
  snapshot-stays [] within backed = record { backed = All-nil _; reads = refl; intact = λ intact. All-nil _ }
  snapshot-stays (m ∷ ms) within backed =
      let here = source-stays m.source (λ j e. within j (among-left j (numbers_in m.source) (part_numbers ms) e)) (All-head (λ (x : Marked). IsPartBacked a x.source) m ms backed) in
      let rest = snapshot-stays ms (λ j e. within j (among-behind j (numbers_in m.source) (part_numbers ms) e)) (All-tail (λ (x : Marked). IsPartBacked a x.source) m ms backed) in
      record {
        backed = All-cons (λ (x : Marked). IsPartBacked c x.source) m ms here.0 rest.backed;
        reads = ap (λ (ds : List Document). unmarked ds m.marks ++ live c ms) here.1 ∙ ap (λ (l : List Document). unmarked (reads a m.source) m.marks ++ l) rest.reads;
        intact = λ intact.
            All-cons (λ (x : Marked). IsPartIntact c x.source) m ms
            (intact-stays m.source (λ j e. within j (among-left j (numbers_in m.source) (part_numbers ms) e)) (All-head (λ (x : Marked). IsPartIntact a x.source) m ms intact))
            (rest.intact (All-tail (λ (x : Marked). IsPartIntact a x.source) m ms intact));
      }
