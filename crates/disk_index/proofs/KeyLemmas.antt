-- What the dictionary says of a block of a backed part.
use Rattle.std.proofs.Common.{◌≡◌, ◌<◌, ◌+◌, ◌*◌, ◌^◌, ◌==◌, ℕ, suc, Bool, true, false, cond, List, [], ◌∷◌, ◌++◌, length, map, take, drop, Option, Some, None, Result, Ok, Err, IfOk, IfErr, Contains, inl, inr, refl, sym, ap, subst, ◌∙◌, arith, length-drop}
use Rattle.std.specs.List.{All, find}
use Rattle.std.specs.Option.{MatchOption, option_and_then, option_map, unwrap_or}
use Rattle.std.specs.Str.{bytes_eq}
use Rattle.std.proofs.lemmas.List.{length-take}
use Rattle.std.proofs.lemmas.Slice.Eq.{bytes_eq-Decides}
use Rattle.ri_base.specs.Collection.{document_at}
use Rattle.ri_base.specs.Documents.{Document}
use Rattle.ri_base.specs.Faults.{IsOutside}
use Rattle.ri_base.specs.Places.{places}
use Rattle.ri_base.specs.Vocabulary.{Occurs, vocabulary_of}
use Rattle.ri_base.specs.declared.seg_fault.SegFault.{SegFault}
use Rattle.ri_base.specs.declared.seg_fault.SegFault.TheVariants.{Malformed, Missing, Store, Memory}
use Rattle.ri_base.proofs.ListLemmas.{Contains-cases, Contains-none}
use Rattle.ri_base.proofs.PlacesLemmas.{places-absent}
use Rattle.store_ends.specs.Files.{Files}
use Rattle.seg_codec.specs.Blocks.{block}
use Rattle.seg_codec.specs.Fits.{FitBlock}
use Rattle.seg_codec.specs.Segment.{blocks_at, entry_of, index}
use Rattle.seg_codec.specs.Spelling.{block_bytes}
use Rattle.seg_codec.specs.declared.blocks.BlockEntry.{BlockEntry}
use Rattle.seg_codec.specs.declared.dictionary.BlockPlace.{BlockPlace}
use Rattle.seg_codec.specs.declared.dictionary.TermBlocks.{TermBlocks}
use Rattle.seg_codec.specs.declared.documents.Entry.{Entry}
use Rattle.seg_codec.proofs.BlockLaws.{block_again}
use Rattle.disk_index.specs.Blocks.{IsBlockFault, IsBlockIn, block_of, bytes_at, entries_from, entry_of_places, file_of, put_of}
use Rattle.disk_index.specs.Kept.{ArePlaces, Kept, key_of, place_in, place_of}
use Rattle.disk_index.specs.Names.{segment_name}
use Rattle.disk_index.specs.Reads.{IsBacked}
use Rattle.disk_index.specs.declared.cache.BlockKey.{BlockKey}
use Rattle.disk_index.proofs.EntryLemmas.{document_at-range}
use Rattle.disk_index.proofs.SegmentLaws.{HasBlocks, IsLaid, StandsAt}
use Rattle.disk_index.proofs.LookupLemmas.{find-has}
use Rattle.disk_index.proofs.RebuiltLemmas.{backed-dictionary, backed-laid}

-- ---- a term that no document has

no-entries : (i : ℕ) (t : List ℕ) (docs : List Document) → ((k : ℕ) → k < length docs → places t (document_at docs k) ≡ []) → entries_from i t docs ≡ []
no-entries i t [] none = refl
no-entries i t (d ∷ docs) none =
    ap (λ (ps : List ℕ). entry_of_places i ps ++ entries_from (i + 1) t docs) (none 0 (omega arith)) ∙ no-entries (i + 1) t docs (λ k h. none (suc k) (omega (arith, h)))

no-block : (t : List ℕ) (r : ℕ) (docs : List Document) → (Occurs t docs → ⊥) → block_of t r docs ≡ []
unfolding block_of
no-block t r docs none =
    let here = take 64 (drop (64 * r) docs) in
    let size = length-take 64 (drop (64 * r) docs) in
    let left = length-drop (64 * r) docs in
    no-entries (64 * r) t here (λ k h.
    ap (places t) (ap (document_at here) (omega arith) ∙ document_at-range (64 * r) (64 * r + k) docs (omega arith) (omega (arith, size, h)))
    ∙ places-absent (64 * r + k) t docs (omega (arith, size, left, h)) none)

not-found : (t : List ℕ) (xs : List TermBlocks) → find (λ x. bytes_eq x.term t) xs ≡ None → Contains (map (λ (x : TermBlocks). x.term) xs) t → ⊥
not-found t [] none there = Contains-none t there
not-found t (x ∷ xs) none there = by (bytes_eq x.term t) refl none (not-found t xs)
  where
    by : (b : Bool) → bytes_eq x.term t ≡ b → cond b (Some x) (find (λ (x : TermBlocks). bytes_eq x.term t) xs) ≡ None
        → (find (λ (x : TermBlocks). bytes_eq x.term t) xs ≡ None → Contains (map (λ (x : TermBlocks). x.term) xs) t → ⊥) → ⊥
    by true e none rest = cc
    by false e none rest = elim (Contains-cases x.term (map (λ (x : TermBlocks). x.term) xs) t there) [
      | inl same ↦ (let test = (bytes_eq-Decides x.term t).1 same in cc)
      | inr later ↦ rest none later
    ]

-- the block of a term stands where the dictionary says
pub place-stands : (file : List ℕ) (kept : Kept) (docs : List Document) (t : List ℕ) (r : ℕ) → IsLaid file kept docs → StandsAt file kept.outlines r (place_of kept.dictionary t r) (block_of t r docs)
place-stands file kept docs t r laid = by (find (λ (x : TermBlocks). bytes_eq x.term t) kept.dictionary) refl
  where
    by : (o : Option TermBlocks) → find (λ (x : TermBlocks). bytes_eq x.term t) kept.dictionary ≡ o → StandsAt file kept.outlines r (option_and_then (place_in r) o) (block_of t r docs)
    by None e = no-block t r docs (λ o. not-found t kept.dictionary e (laid.all t o))
    by (Some x) e =
        let found = find-has (HasBlocks file kept.outlines docs) (λ (x : TermBlocks). bytes_eq x.term t) kept.dictionary x laid.each e in
        let same : x.term ≡ t = (bytes_eq-Decides x.term t).0 found.1 in
        subst (λ (u : List ℕ). StandsAt file kept.outlines r (place_in r x) (block_of u r docs)) same (found.0 r)

-- ---- keys

-- the key is that of this block in the file
pub record IsKeyOf (files : Files) (outlines : List Entry) (key : BlockKey) (es : List BlockEntry) : Type 0 where
  pub file : List ℕ
  pub there : (files (segment_name key.number)).read ≡ Some file
  pub only : (found : List BlockEntry) → FitBlock outlines key.range found → bytes_at files key ≡ block_bytes key.range found → found ≡ es
  pub intact : (files (segment_name key.number)).read ≡ (files (segment_name key.number)).put → bytes_at files key ≡ block_bytes key.range es
  pub fit : FitBlock outlines key.range es

pub keyed : (told : Option Files) (kept : Kept) (docs : List Document) (t : List ℕ) (r : ℕ) (key : BlockKey) → Some key ≡ option_map (key_of kept.number r) (place_of kept.dictionary t r) → (b : IsBacked told kept docs)
    → IsKeyOf b.has.files kept.outlines key (block_of t r docs)
keyed told kept docs t r key h b = by (place_of kept.dictionary t r) refl h (place-stands (put_of b.has.files kept.number) kept docs t r (backed-laid told kept docs b))
  where
    by : (o : Option BlockPlace) → place_of kept.dictionary t r ≡ o → Some key ≡ option_map (key_of kept.number r) o → StandsAt (put_of b.has.files kept.number) kept.outlines r o (block_of t r docs) → IsKeyOf b.has.files kept.outlines key (block_of t r docs)
    by None found e s = absurd cc
    by (Some p) found e s =
        let same : key ≡ key_of kept.number r p = cc in
        let shown = b.has.shows in
        let read : file_of b.has.files kept.number ≡ shown.bytes = ap (λ (o : Option (List ℕ)). unwrap_or o []) shown.there in
        let outlines : kept.outlines ≡ map entry_of docs = (backed-laid told kept docs b).outlines in
        let place : place_of (index (blocks_at docs) (vocabulary_of docs) docs) t r ≡ Some p = ap (λ (ts : List TermBlocks). place_of ts t r) (sym (backed-dictionary told kept docs b)) ∙ found in
        subst (λ (k : BlockKey). IsKeyOf b.has.files kept.outlines k (block_of t r docs)) (sym same)
        (record {
          file = shown.bytes;
          there = shown.there;
          only = λ es fit is. shown.each t r p es place (subst (λ (os : List Entry). FitBlock os r es) outlines fit) (ap (λ (l : List ℕ). take p.length (drop p.place l)) (sym read) ∙ is);
          intact = λ is. ap (λ (o : Option (List ℕ)). take p.length (drop p.place (unwrap_or o []))) is ∙ s.bytes;
          fit = s.fit;
        })

pub unkeyed : (told : Option Files) (kept : Kept) (docs : List Document) (t : List ℕ) (r : ℕ) → option_map (key_of kept.number r) (place_of kept.dictionary t r) ≡ None → IsBacked told kept docs → [] ≡ block_of t r docs
unkeyed told kept docs t r h b = by (place_of kept.dictionary t r) h (place-stands (put_of b.has.files kept.number) kept docs t r (backed-laid told kept docs b))
  where
    by : (o : Option BlockPlace) → option_map (key_of kept.number r) o ≡ None → StandsAt (put_of b.has.files kept.number) kept.outlines r o (block_of t r docs) → [] ≡ block_of t r docs
    by None e s = sym s
    by (Some p) e s = absurd cc

pub right_block : (files : Files) (outlines : List Entry) (key : BlockKey) (es : List BlockEntry) → IsKeyOf files outlines key es → {E : Type 0} (r : Result (List BlockEntry) E) → IfOk r (IsBlockIn files key) → IfOk r (FitBlock outlines key.range) → IfOk r (λ x. x ≡ es)
right_block files outlines key es k (Ok x) h fit = k.only x fit h.bytes
right_block files outlines key es k (Err e) h fit = tt

pub outside_fault : (files : Files) (outlines : List Entry) (key : BlockKey) (es : List BlockEntry) → IsKeyOf files outlines key es → (files (segment_name key.number)).read ≡ (files (segment_name key.number)).put → {X : Type 0} (r : Result X SegFault) → IfErr r (IsBlockFault files key outlines) → IfErr r IsOutside
outside_fault files outlines key es k intact (Ok x) h = tt
outside_fault files outlines key es k intact (Err (Malformed file part place)) h =
    let reads : block outlines key.range (bytes_at files key) ≡ Ok es = ap (block outlines key.range) (k.intact intact) ∙ block_again outlines key.range es k.fit in
    let fails = h.3 in
    cc
outside_fault files outlines key es k intact (Err (Missing file)) h = let there = k.there in let none = h.1 in cc
outside_fault files outlines key es k intact (Err Store) h = tt
outside_fault files outlines key es k intact (Err Memory) h = tt

pub match_none : {X Y : Type 0} (f : X → Y) (o : Option X) (P : Type 0) (Q : X → Type 0) → option_map f o ≡ None → P → MatchOption o P Q
match_none f None P Q e p = p
match_none f (Some x) P Q e p = absurd cc

pub match_some : {X Y : Type 0} (f : X → Y) (o : Option X) (y : Y) (P : Type 0) (Q : Y → Type 0) → Some y ≡ option_map f o → Q y → MatchOption o P (λ x. Q (f x))
match_some f None y P Q e q = absurd cc
match_some {X} {Y} f (Some x) y P Q e q = let same : y ≡ f x = cc in subst Q same q

pub key-number : (number r : ℕ) (o : Option BlockPlace) (key : BlockKey) → Some key ≡ option_map (key_of number r) o → key.number ≡ number
key-number number r None key h = absurd cc
key-number number r (Some e) key h = let same : key ≡ key_of number r e = cc in ap (λ (k : BlockKey). k.number) same

-- a block that the dictionary has ends within what a file may have
pub place-fits : (dictionary : List TermBlocks) (t : List ℕ) (r : ℕ) (p : BlockPlace) → All ArePlaces dictionary → Some p ≡ place_of dictionary t r → p.place + p.length < 2 ^ 64
place-fits dictionary t r p all h = by (find (λ (x : TermBlocks). bytes_eq x.term t) dictionary) refl h
  where
    by : (o : Option TermBlocks) → find (λ (x : TermBlocks). bytes_eq x.term t) dictionary ≡ o → Some p ≡ option_and_then (place_in r) o → p.place + p.length < 2 ^ 64
    by None e h = absurd cc
    by (Some x) e h =
        let places = find-has ArePlaces (λ (x : TermBlocks). bytes_eq x.term t) dictionary x all e in
        (find-has (λ (b : BlockPlace). b.place + b.length < 2 ^ 64) (λ (b : BlockPlace). b.range == r) x.blocks p places.0.within (sym h)).0
