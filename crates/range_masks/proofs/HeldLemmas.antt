-- What is held, with one block more, and what it tells.
use Rattle.std.proofs.Common.{◌≡◌, ◌<◌, ℕ, ◌+◌, ◌*◌, ◌/◌, ◌%◌, ◌==◌, List, [], ◌∷◌, ◌++◌, length, take, get_or, Bool, true, false, cond, Option, Some, None, Result, Ok, Err, IfOk, IfSome, is_some, refl, sym, ap, subst, ◌∙◌}
use Rattle.std.specs.BTreeMap.{is_at}
use Rattle.std.specs.Cmp.Lexicographic.{slice_cmp}
use Rattle.std.specs.Int.{bit_at}
use Rattle.std.specs.List.{All, list_any}
use Rattle.std.specs.Map.{lookup}
use Rattle.std.specs.Option.{option_map}
use Rattle.std.specs.Ordering.{nat_cmp}
use Rattle.std.specs.Str.{bytes_eq}
use Rattle.std.proofs.lemmas.Bool.{eqb-true}
use Rattle.std.proofs.lemmas.List.{take_more}
use Rattle.std.proofs.lemmas.List.Elements.{All-push}
use Rattle.std.proofs.lemmas.Slice.Eq.{bytes_eq-Decides}
use Rattle.ri_base.specs.Collection.{document_at}
use Rattle.ri_base.specs.Documents.{Document}
use Rattle.ri_base.specs.Places.{places}
use Rattle.seg_codec.specs.Blocks.{tokens_of}
use Rattle.seg_codec.specs.declared.blocks.BlockEntry.{BlockEntry}
use Rattle.seg_codec.specs.declared.documents.Entry.{Entry}
use Rattle.disk_index.specs.Blocks.{block_of, places_of}
use Rattle.disk_index.specs.Faults.{ArePlacesIn}
use Rattle.disk_index.proofs.EntryLemmas.{places_of-block}
use Rattle.range_masks.specs.Held.{AreAnswersOf, AreBlocksOf, FitDocuments, HasAll, Held, IsEntryOf, answer, bit_answer, block_in, most_answer}
use Rattle.range_masks.specs.Masks.{IsMask}
use Rattle.range_masks.specs.May.{has_term}
use Rattle.range_masks.specs.Most.{most_of_entries, most_places}
use Rattle.range_masks.proofs.BlockLemmas.{has_block-term}
use Rattle.range_masks.proofs.EntryLemmas.{places-among}
use Rattle.range_masks.proofs.MostLemmas.{most_by_entries}

-- ---- the blocks of documents answer as these documents

module _ (docs : List Document) (held : Held) (are : AreBlocksOf docs held) (term : List ℕ) where
  -- the block of this range
  own : (range : ℕ) → range ≡ held.range → (es : List BlockEntry) → es ≡ block_of term held.range docs → es ≡ block_of term range docs
  own range here es is = is ∙ ap (λ r. block_of term r docs) (sym here)

  places-told : (id : ℕ) → id < length docs → IfSome (answer held term id) (λ ps. ps ≡ places term (document_at docs id))
  places-told id inside = by (id / 64 == held.range) refl
    where
      tell : (id / 64 ≡ held.range) → (o : Option (List BlockEntry)) → IfSome o (λ es. es ≡ block_of term held.range docs) → IfSome (option_map (places_of id) o) (λ ps. ps ≡ places term (document_at docs id))
      tell here None is = tt
      tell here (Some es) is = ap (places_of id) (own (id / 64) here es is) ∙ places_of-block term id docs inside

      by : (b : Bool) → (id / 64 == held.range) ≡ b → IfSome (cond b (option_map (places_of id) (block_in held term)) None) (λ ps. ps ≡ places term (document_at docs id))
      by false e = tt
      by true e = tell (eqb-true (id / 64) held.range e) (block_in held term) (are term)

  bits-told : (range i : ℕ) → i < 64 → IfSome (bit_answer held term range i) (λ b. b ≡ has_term term (document_at docs (64 * range + i)))
  bits-told range i small = by (range == held.range) refl
    where
      tell : (range ≡ held.range) → (o : Option (List BlockEntry)) → IfSome o (λ es. es ≡ block_of term held.range docs)
          → IfSome (option_map (λ (es : List BlockEntry). list_any (λ e. e.id % 64 == i) es) o) (λ b. b ≡ has_term term (document_at docs (64 * range + i)))
      tell here None is = tt
      tell here (Some es) is = ap (λ (xs : List BlockEntry). list_any (λ e. e.id % 64 == i) xs) (own range here es is) ∙ has_block-term term range docs i small

      by : (b : Bool) → (range == held.range) ≡ b
          → IfSome (cond b (option_map (λ (es : List BlockEntry). list_any (λ e. e.id % 64 == i) es) (block_in held term)) None) (λ b. b ≡ has_term term (document_at docs (64 * range + i)))
      by false e = tt
      by true e = tell (eqb-true range held.range e) (block_in held term) (are term)

  most-told : (range : ℕ) → IfSome (most_answer held term range) (λ n. n ≡ most_places term range docs)
  most-told range = by (range == held.range) refl
    where
      tell : (range ≡ held.range) → (o : Option (List BlockEntry)) → IfSome o (λ es. es ≡ block_of term held.range docs) → IfSome (option_map most_of_entries o) (λ n. n ≡ most_places term range docs)
      tell here None is = tt
      tell here (Some es) is = most_by_entries term range docs es (most_of_entries es) (own range here es is) refl

      by : (b : Bool) → (range == held.range) ≡ b → IfSome (cond b (option_map most_of_entries (block_in held term)) None) (λ n. n ≡ most_places term range docs)
      by false e = tt
      by true e = tell (eqb-true range held.range e) (block_in held term) (are term)

pub answers-of : (docs : List Document) (held : Held) → AreBlocksOf docs held → AreAnswersOf docs held
answers-of docs held are = record { each = places-told docs held are; bits = bits-told docs held are; most = most-told docs held are }

-- what a block that is held tells of its range
pub bits-held : (held : Held) (term : List ℕ) (range mask : ℕ) (es : List BlockEntry) → (range == held.range) ≡ true → block_in held term ≡ Some es
    → ((i : ℕ) → i < 64 → bit_at mask i ≡ cond (list_any (λ e. e.id % 64 == i) es) 1 0)
    → (i : ℕ) → i < 64 → Some (bit_at mask i) ≡ option_map (λ has. cond has 1 0) (bit_answer held term range i)
bits-held held term range mask es here at bits i small =
    let test : List BlockEntry → Bool = λ xs. list_any (λ e. e.id % 64 == i) xs in
    let bit : Bool → ℕ = λ has. cond has 1 0 in
    let told : bit_answer held term range i ≡ Some (test es) = ap (λ b. cond b (option_map test (block_in held term)) None) here ∙ ap (option_map test) at in
    ap Some (bits i small) ∙ sym (ap (option_map bit) told)

pub most-held : (held : Held) (term : List ℕ) (range most : ℕ) (es : List BlockEntry) → (range == held.range) ≡ true → block_in held term ≡ Some es → most ≡ most_of_entries es
    → Some most ≡ most_answer held term range
most-held held term range most es here at told =
    ap Some told ∙ sym (ap (λ b. cond b (option_map most_of_entries (block_in held term)) None) here ∙ ap (option_map most_of_entries) at)

-- a mask of the bits that they tell
pub mask-told : (docs : List Document) (held : Held) (term : List ℕ) (range mask : ℕ) → AreAnswersOf docs held
    → ((i : ℕ) → i < 64 → Some (bit_at mask i) ≡ option_map (λ has. cond has 1 0) (bit_answer held term range i)) → IsMask (has_term term) range docs mask
mask-told docs held term range mask are same = record { bits = λ i small. by i (bit_answer held term range i) (are.bits term range i small) (same i small) }
  where
    by : (i : ℕ) (o : Option Bool) → IfSome o (λ b. b ≡ has_term term (document_at docs (64 * range + i))) → Some (bit_at mask i) ≡ option_map (λ has. cond has 1 0) o
        → bit_at mask i ≡ cond (has_term term (document_at docs (64 * range + i))) 1 0
    by i None is e = absurd cc
    by i (Some b) is e = let bit : bit_at mask i ≡ cond b 1 0 = cc in bit ∙ ap (λ (x : Bool). cond x 1 0) is

pub answers-result : (docs : List Document) {E : Type 0} (r : Result Held E) → IfOk r (AreBlocksOf docs) → IfOk r (AreAnswersOf docs)
answers-result docs (Ok held) are = answers-of docs held are
answers-result docs (Err e) are = tt

-- where no block is held, each answer is that of any documents
pub nothing-fits : (outlines : List Entry) (held : Held) → held.blocks ≡ [] → FitDocuments outlines held
nothing-fits outlines held none term =
    let is : block_in held term ≡ None = ap (lookup (is_at (slice_cmp nat_cmp term))) none in
    subst (λ (o : Option (List BlockEntry)). IfSome o (All (IsEntryOf outlines))) (sym is) tt

pub nothing-answers : (docs : List Document) (held : Held) → held.blocks ≡ [] → AreAnswersOf docs held
nothing-answers docs held none = answers-of docs held (λ term.
    let is : block_in held term ≡ None = ap (lookup (is_at (slice_cmp nat_cmp term))) none in
    subst (λ (o : Option (List BlockEntry)). IfSome o (λ es. es ≡ block_of term held.range docs)) (sym is) tt)

-- what fits documents answers rising places of them
pub answers-fit : (outlines : List Entry) (held : Held) (term : List ℕ) (id : ℕ) → FitDocuments outlines held → IfSome (answer held term id) (ArePlacesIn (tokens_of outlines id))
answers-fit outlines held term id fit = by (id / 64 == held.range)
  where
    tell : (o : Option (List BlockEntry)) → IfSome o (All (IsEntryOf outlines)) → IfSome (option_map (places_of id) o) (ArePlacesIn (tokens_of outlines id))
    tell None all = tt
    tell (Some es) all = places-among outlines id es all

    by : (b : Bool) → IfSome (cond b (option_map (places_of id) (block_in held term)) None) (ArePlacesIn (tokens_of outlines id))
    by false = tt
    by true = tell (block_in held term) (fit term)

-- ---- one block more

module _ (x : List ℕ) (es : List BlockEntry) (old new : List ℕ → Option (List BlockEntry)) (more : (t : List ℕ) → new t ≡ cond (bytes_eq x t) (Some es) (old t)) where
  pub held-each : (P : List ℕ → List BlockEntry → Type 0) → P x es → ((t : List ℕ) → IfSome (old t) (P t)) → (t : List ℕ) → IfSome (new t) (P t)
  held-each P here all t = by (bytes_eq x t) refl (more t)
    where
      by : (b : Bool) → bytes_eq x t ≡ b → new t ≡ cond b (Some es) (old t) → IfSome (new t) (P t)
      by true e is = subst (λ (o : Option (List BlockEntry)). IfSome o (P t)) (sym is) (subst (λ y. P y es) ((bytes_eq-Decides x t).0 e) here)
      by false e is = subst (λ (o : Option (List BlockEntry)). IfSome o (P t)) (sym is) (all t)

  pub held-own : is_some (new x) ≡ true
  held-own = let same : bytes_eq x x ≡ true = (bytes_eq-Decides x x).1 refl in ap is_some (more x ∙ ap (λ b. cond b (Some es) (old x)) same)

  pub held-still : (t : List ℕ) → is_some (old t) ≡ true → is_some (new t) ≡ true
  held-still t was = by (bytes_eq x t) (more t)
    where
      by : (b : Bool) → new t ≡ cond b (Some es) (old t) → is_some (new t) ≡ true
      by true is = ap is_some is
      by false is = ap is_some is ∙ was

-- the blocks of the first terms are held, and that of one more
pub has-more : (terms : List (List ℕ)) (i : ℕ) (x : List ℕ) (old new : Held) → i < length terms → x ≡ get_or terms i x → is_some (block_in new x) ≡ true
    → ((t : List ℕ) → is_some (block_in old t) ≡ true → is_some (block_in new t) ≡ true) → HasAll (take i terms) old → HasAll (take (i + 1) terms) new
has-more terms i x old new inside is own still has =
    subst (λ (l : List (List ℕ)). HasAll l new) (sym (take_more terms i x inside ∙ ap (λ (y : List ℕ). take i terms ++ y ∷ []) (sym is)))
    (All-push (λ t. is_some (block_in new t) ≡ true) (take i terms) x (λ k d low. still (get_or (take i terms) k d) (has k d low)) own)
