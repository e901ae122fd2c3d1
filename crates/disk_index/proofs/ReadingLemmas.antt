-- What a store's answers say of a segment's file.
use Rattle.std.proofs.Common.{◌≡◌, ◌+◌, ◌-◌, ℕ, List, [], length, take, drop, Option, Some, None, Result, Ok, Err, refl, sym, ap, subst, ◌∙◌}
use Rattle.std.specs.Option.{IfSome, option_map, unwrap_or}
use Rattle.ri_base.specs.declared.seg_fault.FileName.TheVariants.{Segment}
use Rattle.ri_base.specs.declared.seg_fault.PartName.TheVariants as parts
use Rattle.ri_base.specs.declared.seg_fault.SegFault.{SegFault}
use Rattle.ri_base.specs.declared.seg_fault.SegFault.TheVariants.{Malformed, Missing, Store, Memory}
use Rattle.store_ends.specs.Files.{Files, Fills}
use Rattle.ri_base.specs.FieldAnswers.{AnswersPart}
use Rattle.seg_codec.specs.Blocks.{block}
use Rattle.seg_codec.specs.Dictionary.{dictionary}
use Rattle.seg_codec.specs.Documents.{documents}
use Rattle.seg_codec.specs.Headers.{header}
use Rattle.seg_codec.specs.declared.blocks.BlockEntry.{BlockEntry}
use Rattle.seg_codec.specs.declared.dictionary.TermBlocks.{TermBlocks}
use Rattle.seg_codec.specs.declared.documents.Entry.{Entry}
use Rattle.seg_codec.specs.declared.header.Header.{Header}
use Rattle.disk_index.specs.Blocks.{IsBlockFault, IsReadFault, bytes_at, file_of}
use Rattle.disk_index.specs.Names.{segment_name}
use Rattle.disk_index.specs.Opening.{IsBroken, IsFirstBroken, IsOpenFault, dictionary_in, documents_in, header_in, stretch}
use Rattle.disk_index.specs.declared.cache.BlockKey.{BlockKey}

-- a length that is told
pub told_length : (told : Option Files) (f : Files) (name other : List ℕ) (n : ℕ) → told ≡ Some f → name ≡ other → IfSome told (λ f. Some n ≡ option_map length (f name).read) → (file : List ℕ) × ((f other).read ≡ Some file) × (n ≡ length file)
told_length None f name other n is same h = absurd cc
told_length (Some g) f name other n is same h =
    let here : Some n ≡ option_map length (f other).read = subst (λ (o : Option Files). IfSome o (λ f. Some n ≡ option_map length (f name).read)) is h ∙ ap (λ (l : List ℕ). option_map length (f l).read) same in
    by (f other).read here
  where
    by : (o : Option (List ℕ)) → Some n ≡ option_map length o → (file : List ℕ) × (o ≡ Some file) × (n ≡ length file)
    by None e = absurd cc
    by (Some file) e = (file, refl, cc)

pub told_absent : (told : Option Files) (f : Files) (name other : List ℕ) → told ≡ Some f → name ≡ other → IfSome told (λ (f : Files). None ≡ option_map length (f name).read) → (f other).read ≡ None
told_absent None f name other is same h = absurd cc
told_absent (Some g) f name other is same h =
    let here : None ≡ option_map length (f other).read = subst (λ (o : Option Files). IfSome o (λ (f : Files). None ≡ option_map length (f name).read)) is h ∙ ap (λ (l : List ℕ). option_map length (f l).read) same in
    by (f other).read here
  where
    by : (o : Option (List ℕ)) → None ≡ option_map length o → o ≡ None
    by None e = refl
    by (Some file) e = absurd cc

pub told_bytes : (told : Option Files) (f : Files) (name : List ℕ) (number n at : ℕ) (buf : List ℕ) → told ≡ Some f → name ≡ segment_name number → IfSome told (λ f. Fills n buf at (unwrap_or (f name).read [])) → take n buf ≡ take (length buf) (drop at (file_of f number))
told_bytes told f name number n at buf is same h =
    subst (λ (l : List ℕ). take n buf ≡ take (length buf) (drop at (unwrap_or (f l).read []))) same (subst (λ (o : Option Files). IfSome o (λ f. Fills n buf at (unwrap_or (f name).read []))) is h)

-- ---- faults

pub block-read_fault : (f : Files) (key : BlockKey) (docs : List Entry) (e : SegFault) → IsReadFault f key.number e → IsBlockFault f key docs e
block-read_fault f key docs (Malformed file part place) h = absurd h
block-read_fault f key docs (Missing file) h = h
block-read_fault f key docs Store h = tt
block-read_fault f key docs Memory h = tt

pub block-fault : {X : Type 0} (view : X → List BlockEntry) (f : Files) (key : BlockKey) (docs : List Entry) (bytes : List ℕ) (e : SegFault) → bytes ≡ bytes_at f key
    → AnswersPart view (Err e) (block docs key.range bytes) (Segment key.number) parts.Block (key.place + length bytes) → IsBlockFault f key docs e
block-fault {X} view f key docs bytes (Malformed file part place) is h =
    let P : List ℕ → Type 0 = λ b. AnswersPart {X = X} view (Err (Malformed file part place)) (block docs key.range b) (Segment key.number) parts.Block (key.place + length b) in subst P is h
block-fault view f key docs bytes (Missing file) is h = absurd h
block-fault view f key docs bytes Store is h = absurd h
block-fault view f key docs bytes Memory is h = tt

pub open-read_fault : (f : Files) (number docs : ℕ) (e : SegFault) → IsReadFault f number e → IsOpenFault f number docs e
open-read_fault f number docs (Malformed file part place) h = absurd h
open-read_fault f number docs (Missing file) h = h
open-read_fault f number docs Store h = tt
open-read_fault f number docs Memory h = tt

broken_from : {A : Type 0} (r : Result A ℕ) (left end place : ℕ) → r ≡ Err left → place ≡ end - left → IsBroken r end place
broken_from (Ok x) left end place e p = absurd cc
broken_from (Err n) left end place e p = let same : n ≡ left = cc in p ∙ ap (λ k. end - k) (sym same)

module _ (f : Files) (number docs : ℕ) where
  pub header-fault : {X : Type 0} (view : X → Header) (bytes : List ℕ) (size : ℕ) (e : SegFault) → bytes ≡ stretch (file_of f number) 0 64 → size ≡ length (file_of f number)
      → AnswersPart view (Err e) (header docs size bytes) (Segment number) parts.Header (length bytes) → IsOpenFault f number docs e
  header-fault {X} view bytes size (Malformed file part place) is same h =
      let P : List ℕ → ℕ → Type 0 = λ b n. AnswersPart {X = X} view (Err (Malformed file part place)) (header docs n b) (Segment number) parts.Header (length b) in
      let here = subst (λ (b : List ℕ). P b (length (file_of f number))) is (subst (λ n. P bytes n) same h) in
      (here.0, subst (λ p. IsFirstBroken (file_of f number) docs p place) (sym here.1) (broken_from (header_in (file_of f number) docs) here.2 (length (stretch (file_of f number) 0 64)) place here.3 here.4))
  header-fault view bytes size (Missing file) is same h = absurd h
  header-fault view bytes size Store is same h = absurd h
  header-fault view bytes size Memory is same h = tt

  module _ (h : Header) (head : header_in (file_of f number) docs ≡ Ok h) where
    pub documents-fault : {X : Type 0} (view : X → List Entry) (bytes : List ℕ) (e : SegFault) → bytes ≡ documents_in (file_of f number) h
        → AnswersPart view (Err e) (documents h bytes) (Segment number) parts.Documents (h.documents_at + length bytes) → IsOpenFault f number docs e
    documents-fault {X} view bytes (Malformed file part place) is a =
        let P : List ℕ → Type 0 = λ b. AnswersPart {X = X} view (Err (Malformed file part place)) (documents h b) (Segment number) parts.Documents (h.documents_at + length b) in
        let here = subst P is a in (
          here.0,
          subst (λ p. IsFirstBroken (file_of f number) docs p place) (sym here.1)
              (h, head, broken_from (documents h (documents_in (file_of f number) h)) here.2 (h.documents_at + length (documents_in (file_of f number) h)) place here.3 here.4),
        )
    documents-fault view bytes (Missing file) is a = absurd a
    documents-fault view bytes Store is a = absurd a
    documents-fault view bytes Memory is a = tt

    pub dictionary-fault : {X : Type 0} (view : X → List TermBlocks) (es : List Entry) (bytes : List ℕ) (e : SegFault) → documents h (documents_in (file_of f number) h) ≡ Ok es → bytes ≡ dictionary_in (file_of f number) h
        → AnswersPart view (Err e) (dictionary h bytes) (Segment number) parts.Dictionary (h.dictionary_at + length bytes) → IsOpenFault f number docs e
    dictionary-fault {X} view es bytes (Malformed file part place) outlines is a =
        let P : List ℕ → Type 0 = λ b. AnswersPart {X = X} view (Err (Malformed file part place)) (dictionary h b) (Segment number) parts.Dictionary (h.dictionary_at + length b) in
        let here = subst P is a in (
          here.0,
          subst (λ p. IsFirstBroken (file_of f number) docs p place) (sym here.1)
              (h, head, es, outlines, broken_from (dictionary h (dictionary_in (file_of f number) h)) here.2 (h.dictionary_at + length (dictionary_in (file_of f number) h)) place here.3 here.4),
        )
    dictionary-fault view es bytes (Missing file) outlines is a = absurd a
    dictionary-fault view es bytes Store outlines is a = absurd a
    dictionary-fault view es bytes Memory outlines is a = tt
