-- Parts whose documents have the same docnos, lengths and fields: sizes and sums are the same.
use Rattle.std.proofs.Common.{◌≡◌, ℕ, Bool, true, false, List, [], ◌∷◌, ◌++◌, ◌+◌, Option, length, map, sum_by, refl, sym, ap, ◌∙◌, arith}
use Rattle.std.proofs.lemmas.List.{length-map}
use Rattle.std.proofs.lemmas.List.Sums.{sum_by-cons}
use Rattle.ri_base.specs.Collection.{token_count}
use Rattle.ri_base.specs.Documents.{Document}
use Rattle.seg_codec.specs.Segment.{entry_of}
use Rattle.seg_codec.specs.declared.documents.Entry.{Entry}
use Rattle.store_ends.specs.Files.{Files}
use Rattle.disk_index.specs.Blocks.{told_file}
use Rattle.disk_index.specs.Parts.{Source, InMemory, OnDisk, outlines_of, reads, size}
use Rattle.disk_index.specs.Snapshots.{AreCounted, unmarked}
use Rattle.disk_index.proofs.RebuiltLemmas.{rebuilt-outlines}

pub outlines-reads : (told : Option Files) (s : Source) → map entry_of (reads told s) ≡ outlines_of s
outlines-reads told (InMemory docs) = refl
outlines-reads told (OnDisk kept) = rebuilt-outlines kept (told_file told kept.number)

pub size-outlines : (s : Source) → size s ≡ length (outlines_of s)
size-outlines (InMemory docs) = sym (length-map docs entry_of)
size-outlines (OnDisk kept) = refl

pub tokens-outlines : (docs : List Document) → token_count docs ≡ sum_by (λ (o : Entry). o.tokens) (map entry_of docs)
tokens-outlines [] = refl
tokens-outlines (d ∷ ds) =
    sum_by-cons (λ (x : Document). length x.tokens) d ds ∙ ap (λ n. length d.tokens + n) (tokens-outlines ds) ∙ sym (sum_by-cons (λ (o : Entry). o.tokens) (entry_of d) (map entry_of ds))

pub map-unmarked : {A B : Type 0} (f : A → B) (xs : List A) (ms : List Bool) → map f (unmarked xs ms) ≡ unmarked (map f xs) ms
map-unmarked f [] ms = refl
map-unmarked f (x ∷ xs) [] = refl
map-unmarked f (x ∷ xs) (true ∷ ms) = map-unmarked f xs ms
map-unmarked f (x ∷ xs) (false ∷ ms) = ap (λ l. f x ∷ l) (map-unmarked f xs ms)

-- one more that isn't marked
pub unmarked-push : {A : Type 0} (xs : List A) (ms : List Bool) (x : A) → length ms ≡ length xs → unmarked (xs ++ x ∷ []) (ms ++ false ∷ []) ≡ unmarked xs ms ++ x ∷ []
unmarked-push [] [] x e = refl
unmarked-push [] (m ∷ ms) x e = absurd (omega (arith, e))
unmarked-push (y ∷ xs) [] x e = absurd (omega (arith, e))
unmarked-push (y ∷ xs) (true ∷ ms) x e = unmarked-push xs ms x (omega (arith, e))
unmarked-push (y ∷ xs) (false ∷ ms) x e = ap (λ l. y ∷ l) (unmarked-push xs ms x (omega (arith, e)))

module _ (s t : Source) (same : outlines_of t ≡ outlines_of s) where
  pub size-alike : size t ≡ size s
  size-alike = size-outlines t ∙ ap (λ (os : List Entry). length os) same ∙ sym (size-outlines s)

  all-alike : (told : Option Files) → token_count (reads told s) ≡ token_count (reads told t)
  all-alike told =
      tokens-outlines (reads told s) ∙ ap (λ (os : List Entry). sum_by (λ (o : Entry). o.tokens) os) (outlines-reads told s ∙ sym same ∙ sym (outlines-reads told t)) ∙ sym (tokens-outlines (reads told t))

  live-alike : (told : Option Files) (marks : List Bool) → token_count (unmarked (reads told s) marks) ≡ token_count (unmarked (reads told t) marks)
  live-alike told marks =
      tokens-outlines (unmarked (reads told s) marks)
      ∙ ap (λ (os : List Entry). sum_by (λ (o : Entry). o.tokens) os)
      (map-unmarked entry_of (reads told s) marks ∙ ap (λ (os : List Entry). unmarked os marks) (outlines-reads told s ∙ sym same ∙ sym (outlines-reads told t)) ∙ sym (map-unmarked entry_of (reads told t) marks))
      ∙ sym (tokens-outlines (unmarked (reads told t) marks))

  -- what is counted of one is counted of the other
  pub counted-alike : (marks : List Bool) (tokens live_tokens : ℕ) → AreCounted s marks tokens live_tokens → AreCounted t marks tokens live_tokens
  counted-alike marks tokens live_tokens counted = record {
    whole = counted.whole ∙ sym size-alike;
    all = λ told. counted.all told ∙ all-alike told;
    living = λ told. counted.living told ∙ live-alike told marks;
  }
