-- What was told of a term in a range.
use Rattle.std.proofs.Common.{◌≡◌, ◌<◌, ◌+◌, ◌/◌, ◌%◌, ◌==◌, ◌++◌, ◌⊎◌, ℕ, List, [], ◌∷◌, length, take, get_or, Bool, true, false, cond, Option, Some, None, is_some, inl, inr, refl, sym, ap, subst, ◌∙◌}
use Rattle.std.specs.List.{All, list_any}
use Rattle.std.specs.Option.{option_map}
use Rattle.std.specs.Str.{bytes_eq}
use Rattle.std.proofs.lemmas.List.{take_more}
use Rattle.std.proofs.lemmas.List.Elements.{All-push}
use Rattle.std.proofs.lemmas.Slice.Eq.{bytes_eq-Decides}
use Rattle.store_ends.specs.Files.{Files}
use Rattle.seg_codec.specs.declared.blocks.BlockEntry.{BlockEntry}
use Rattle.disk_index.specs.Cache.{Cached}
use Rattle.disk_index.specs.Parts.{IsReadableIn, IsReadableOf, Source}
use Rattle.disk_index.specs.Blocks.{places_of}
use Rattle.range_masks.specs.Held.{Held, IsAnswered, bit_answer, block_in, most_answer}
use Rattle.range_masks.specs.Most.{most_of_entries}

-- what can be read in a range can be read in each document of it
pub readable-each : (told : Option Files) (cached : Cached) (p : Source) (term : List ℕ) (range : ℕ) → IsReadableIn told cached p term range
    → (id : ℕ) → id / 64 ≡ range → IsReadableOf told cached p term id
readable-each told cached p term range can id here = subst (λ r. IsReadableIn told cached p term r) (sym here) can

-- the same of blocks that are held: where they tell of the range they tell of each document of it
some-before : {X Y : Type 0} (f : X → Y) (o : Option X) → is_some (option_map f o) ≡ true → is_some o ≡ true
some-before f None is = absurd cc
some-before f (Some x) is = refl

some-mapped : {X Y : Type 0} (f : X → Y) (o : Option X) → is_some o ≡ true → is_some (option_map f o) ≡ true
some-mapped f None is = absurd cc
some-mapped f (Some x) is = refl

answered-each : {X : Type 0} (f : List BlockEntry → X) (held : Held) (term : List ℕ) (range : ℕ) → is_some (cond (range == held.range) (option_map f (block_in held term)) None) ≡ true
    → (id : ℕ) → id / 64 ≡ range → IsAnswered held term id
answered-each f held term range tells id here = by (range == held.range) refl tells
  where
    by : (b : Bool) → (range == held.range) ≡ b → is_some (cond b (option_map f (block_in held term)) None) ≡ true → IsAnswered held term id
    by false own none = absurd cc
    by true own some =
        let inside : (id / 64 == held.range) ≡ true = ap (λ r. r == held.range) here ∙ own in
        ap (λ b. is_some (cond b (option_map (places_of id) (block_in held term)) None)) inside ∙ some-mapped (places_of id) (block_in held term) (some-before f (block_in held term) some)

pub answered-most : (held : Held) (term : List ℕ) (range most : ℕ) → most_answer held term range ≡ Some most → (id : ℕ) → id / 64 ≡ range → IsAnswered held term id
answered-most held term range most told = answered-each most_of_entries held term range (ap is_some told)

pub answered-mask : (held : Held) (term : List ℕ) (range bit : ℕ) → Some bit ≡ option_map (λ has. cond has 1 0) (bit_answer held term range 0) → (id : ℕ) → id / 64 ≡ range → IsAnswered held term id
answered-mask held term range bit told =
    answered-each (λ (es : List BlockEntry). list_any (λ e. e.id % 64 == 0) es) held term range (some-before _ (bit_answer held term range 0) (sym (ap is_some told)))

-- with the block of one term more no other is held
pub held-only : (x : List ℕ) (es : List BlockEntry) (old new : List ℕ → Option (List BlockEntry)) → ((t : List ℕ) → new t ≡ cond (bytes_eq x t) (Some es) (old t))
    → (t : List ℕ) → is_some (new t) ≡ true → is_some (old t) ≡ true ⊎ (t ≡ x)
held-only x es old new more t has = by (bytes_eq x t) refl (more t)
  where
    by : (b : Bool) → bytes_eq x t ≡ b → new t ≡ cond b (Some es) (old t) → is_some (old t) ≡ true ⊎ (t ≡ x)
    by true e is = inr (sym ((bytes_eq-Decides x t).0 e))
    by false e is = inl (sym (ap is_some is) ∙ has)

-- it is so of the first terms, and of one more
pub told-more : (R : List ℕ → Type 0) (terms : List (List ℕ)) (i : ℕ) (x : List ℕ) → i < length terms → x ≡ get_or terms i x → R x → All R (take i terms) → All R (take (i + 1) terms)
told-more R terms i x inside is own all =
    subst (λ (l : List (List ℕ)). All R l) (sym (take_more terms i x inside ∙ ap (λ (y : List ℕ). take i terms ++ y ∷ []) (sym is))) (All-push R (take i terms) x all own)
