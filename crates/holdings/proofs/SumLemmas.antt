-- The sums over parts, where documents are added and deleted.
use Rattle.std.proofs.Common.{◌≡◌, ◌≤◌, ◌+◌, ℕ, Bool, true, false, List, [], ◌∷◌, ◌++◌, length, map, refl, ap, sym, ◌∙◌, arith, cond, nat_lt, ◌||◌, length-append}
use Rattle.std.specs.Prelude.{sum_by}
use Rattle.std.proofs.lemmas.List.Sums.{sum_by-append, sum_by-cons}
use Rattle.ri_base.specs.Collection.{token_count}
use Rattle.ri_base.specs.Documents.{Document}
use Rattle.disk_index.specs.Parts.{Source, InMemory, size}
use Rattle.disk_index.specs.Snapshots.{IsSnapshot, Marked, documents_held}
use Rattle.holdings.specs.Contents.{Contents, closed_held, is_full}
use Rattle.holdings.specs.Kept.{AreCounted}
use Rattle.holdings.specs.MarkedParts.{filled, marked_with, tokens_held, tokens_in}
use Rattle.holdings.specs.Parts.{Parts, all_parts, appended, closed_by, has_room, sealed, with_document, with_room, without_docno}
use Rattle.holdings.specs.declared.limits.Limits.{Limits}
use Rattle.holdings.proofs.LiveLemmas.{tokens-held}
use Rattle.holdings.proofs.RoomLemmas.{all_parts-without_docno}

module _ (f : Source → ℕ) where
  pub sum-push : (parts : List Marked) (m : Marked) → sum_by (λ (x : Marked). f x.source) (parts ++ m ∷ []) ≡ sum_by (λ (x : Marked). f x.source) parts + f m.source
  sum-push parts m = let more = sum_by-append (λ (x : Marked). f x.source) parts (m ∷ []) in omega (arith, more)

  sum-closed_by : (p : Parts) (docs : List Document) → f (InMemory []) ≡ 0 → sum_by (λ (x : Marked). f x.source) (all_parts (closed_by p docs)) ≡ sum_by (λ (x : Marked). f x.source) (all_parts p)
  sum-closed_by p [] none = refl
  sum-closed_by p (d ∷ docs) none = let more = sum-push (all_parts p) (filled [] []) in omega (arith, more, none)

  sum-sealed : (p : Parts) → f (InMemory []) ≡ 0 → sum_by (λ (x : Marked). f x.source) (all_parts (sealed p)) ≡ sum_by (λ (x : Marked). f x.source) (all_parts p)
  sum-sealed p none = sum-closed_by p p.filling none

  sum-with_room : (p : Parts) (d : Document) → f (InMemory []) ≡ 0 → sum_by (λ (x : Marked). f x.source) (all_parts (with_room p d)) ≡ sum_by (λ (x : Marked). f x.source) (all_parts p)
  sum-with_room p d none = by (has_room p d)
    where
      by : (b : Bool) → sum_by (λ (x : Marked). f x.source) (all_parts (cond b p (sealed p))) ≡ sum_by (λ (x : Marked). f x.source) (all_parts p)
      by true = refl
      by false = sum-sealed p none

  sum-appended : (p : Parts) (d : Document) (n : ℕ) → f (InMemory (p.filling ++ d ∷ [])) ≡ f (InMemory p.filling) + n
      → sum_by (λ (x : Marked). f x.source) (all_parts (appended p d)) ≡ sum_by (λ (x : Marked). f x.source) (all_parts p) + n
  sum-appended p d n more =
      let new = sum-push p.closed (filled (p.filling ++ d ∷ []) (p.marks ++ false ∷ [])) in
      let old = sum-push p.closed (filled p.filling p.marks) in
      omega (arith, new, old, more)

  sum-marked_with : (k : List ℕ) (parts : List Marked) → sum_by (λ (x : Marked). f x.source) (map (marked_with k) parts) ≡ sum_by (λ (x : Marked). f x.source) parts
  sum-marked_with k [] = refl
  sum-marked_with k (m ∷ ms) =
      sum_by-cons (λ (x : Marked). f x.source) (marked_with k m) (map (marked_with k) ms) ∙ ap (λ n. f m.source + n) (sum-marked_with k ms) ∙ sym (sum_by-cons (λ (x : Marked). f x.source) m ms)

  sum-without_docno : (k : List ℕ) (p : Parts) → sum_by (λ (x : Marked). f x.source) (all_parts (without_docno p k)) ≡ sum_by (λ (x : Marked). f x.source) (all_parts p)
  sum-without_docno k p = ap (sum_by (λ (x : Marked). f x.source)) (all_parts-without_docno p k) ∙ sum-marked_with k (all_parts p)

-- ---- documents

pub documents-sealed : (p : Parts) → documents_held (all_parts (sealed p)) ≡ documents_held (all_parts p)
documents-sealed p = sum-sealed size p refl

pub documents-with : (p : Parts) (d : Document) → documents_held (all_parts (with_document p d)) ≡ documents_held (all_parts p) + 1
documents-with p d =
    sum-appended size (with_room p d) d 1 (length-append (with_room p d).filling (d ∷ [])) ∙ ap (λ n. n + 1) (sum-with_room size p d refl)

pub documents-without : (p : Parts) (k : List ℕ) → documents_held (all_parts (without_docno p k)) ≡ documents_held (all_parts p)
documents-without p k = sum-without_docno size k p

-- ---- tokens

pub tokens-sealed : (p : Parts) → tokens_held (all_parts (sealed p)) ≡ tokens_held (all_parts p)
tokens-sealed p = sum-sealed tokens_in p refl

token_count-push : (docs : List Document) (d : Document) → token_count (docs ++ d ∷ []) ≡ token_count docs + length d.tokens
token_count-push docs d = let more = sum_by-append (λ (x : Document). length x.tokens) docs (d ∷ []) in omega (arith, more)

pub tokens-with : (p : Parts) (d : Document) → tokens_held (all_parts (with_document p d)) ≡ tokens_held (all_parts p) + length d.tokens
tokens-with p d =
    sum-appended tokens_in (with_room p d) d (length d.tokens) (token_count-push (with_room p d).filling d) ∙ ap (λ n. n + length d.tokens) (sum-with_room tokens_in p d refl)

pub tokens-without : (p : Parts) (k : List ℕ) → tokens_held (all_parts (without_docno p k)) ≡ tokens_held (all_parts p)
tokens-without p k = sum-without_docno tokens_in k p

-- the documents of the part that is being filled are among those that are held
pub tokens-filling : (p : Parts) → token_count p.filling ≤ tokens_held (all_parts p)
tokens-filling p = let all = sum-push tokens_in p.closed (filled p.filling p.marks) in omega (arith, all)

-- ---- what is counted

most-closed_by : (p : Parts) (docs : List Document) → (closed_by p docs).most ≡ p.most
most-closed_by p [] = refl
most-closed_by p (d ∷ docs) = refl

most-with : (p : Parts) (d : Document) → (with_document p d).most ≡ p.most
most-with p d = by (has_room p d)
  where
    by : (b : Bool) → (cond b p (sealed p)).most ≡ p.most
    by true = refl
    by false = most-closed_by p p.filling

module _ (p : Parts) (l : Limits) (n t : ℕ) (counted : AreCounted p l n t) where
  pub AreCounted-sealed : AreCounted (sealed p) l n t
  AreCounted-sealed = record {
    documents_are = counted.documents_are ∙ sym (documents-sealed p);
    tokens_are = counted.tokens_are ∙ sym (tokens-sealed p);
    documents_fit = counted.documents_fit;
    tokens_fit = counted.tokens_fit;
    most = most-closed_by p p.filling ∙ counted.most;
  }

  pub AreCounted-with : (d : Document) → n + 1 ≤ l.held_docs → t + length d.tokens ≤ l.held_tokens → AreCounted (with_document p d) l (n + 1) (t + length d.tokens)
  AreCounted-with d fit room = record {
    documents_are = ap (λ m. m + 1) counted.documents_are ∙ sym (documents-with p d);
    tokens_are = ap (λ m. m + length d.tokens) counted.tokens_are ∙ sym (tokens-with p d);
    documents_fit = fit;
    tokens_fit = room;
    most = most-with p d ∙ counted.most;
  }

  pub AreCounted-without : (k : List ℕ) → AreCounted (without_docno p k) l n t
  AreCounted-without k = record {
    documents_are = counted.documents_are ∙ sym (documents-without p k);
    tokens_are = counted.tokens_are ∙ sym (tokens-without p k);
    documents_fit = counted.documents_fit;
    tokens_fit = counted.tokens_fit;
    most = counted.most;
  }

  -- the closed parts are few and short enough for a snapshot
  pub closed-fits : IsSnapshot p.closed
  closed-fits =
      let docs = sum-push size p.closed (filled p.filling p.marks) in
      let tokens = sum-push tokens_in p.closed (filled p.filling p.marks) in
      record {
        few = omega (arith, docs, counted.documents_are, counted.documents_fit, l.docs_fit);
        short = λ told. let same = tokens-held told p.closed in omega (arith, same, tokens, counted.tokens_are, counted.tokens_fit, l.tokens_fit);
      }

  -- and they are within the limits
  pub closed-documents : documents_held p.closed ≤ l.held_docs
  closed-documents = let docs = sum-push size p.closed (filled p.filling p.marks) in omega (arith, docs, counted.documents_are, counted.documents_fit)

  pub closed-tokens : tokens_held p.closed ≤ l.held_tokens
  closed-tokens = let tokens = sum-push tokens_in p.closed (filled p.filling p.marks) in omega (arith, tokens, counted.tokens_are, counted.tokens_fit)

-- ---- room within the limits

not-left : (x y : Bool) → (x || y) ≡ false → x ≡ false
not-left true y e = cc
not-left false y e = refl

not-right : (x y : Bool) → (x || y) ≡ false → y ≡ false
not-right true y e = cc
not-right false y e = e

not-less : (a b : ℕ) → nat_lt a b ≡ false → b ≤ a
not-less a b e = grind arith

module _ (c : Contents) (d : Document) (n t : ℕ) (counted : AreCounted c.parts c.limits n t) where
  -- where a document isn't refused, the sums stay within the limits
  pub fits : is_full c d ≡ false → (n + 1 ≤ c.limits.held_docs) × (t + length d.tokens ≤ c.limits.held_tokens)
  fits free =
      let documents_full = nat_lt c.limits.held_docs (documents_held (all_parts c.parts) + 1) in
      let tokens_full = nat_lt c.limits.held_tokens (tokens_held (all_parts c.parts) + length d.tokens) in
      let documents = not-less c.limits.held_docs (documents_held (all_parts c.parts) + 1) (not-left documents_full tokens_full free) in
      let tokens = not-less c.limits.held_tokens (tokens_held (all_parts c.parts) + length d.tokens) (not-right documents_full tokens_full free) in
      (omega (arith, documents, counted.documents_are), omega (arith, tokens, counted.tokens_are))

  pub is_full-counted : (nat_lt c.limits.held_docs (n + 1) || nat_lt c.limits.held_tokens (t + length d.tokens)) ≡ is_full c d
  is_full-counted =
      ap (λ m. nat_lt c.limits.held_docs (m + 1) || nat_lt c.limits.held_tokens (t + length d.tokens)) counted.documents_are
      ∙ ap (λ m. nat_lt c.limits.held_docs (documents_held (all_parts c.parts) + 1) || nat_lt c.limits.held_tokens (m + length d.tokens)) counted.tokens_are

-- ---- closed parts, and none that is being filled

pub AreCounted-closed : (l : Limits) (parts : List Marked) (n t : ℕ) → n ≡ documents_held parts → t ≡ tokens_held parts → n ≤ l.held_docs → t ≤ l.held_tokens
    → AreCounted (closed_held l parts).parts l n t
AreCounted-closed l parts n t documents tokens fit room =
    let no_document : size (InMemory []) ≡ 0 = refl in
    let no_token : tokens_in (InMemory []) ≡ 0 = refl in
    let all_documents = sum-push size parts (filled [] []) in
    let all_tokens = sum-push tokens_in parts (filled [] []) in
    record {
      documents_are = omega (arith, documents, all_documents, no_document);
      tokens_are = omega (arith, tokens, all_tokens, no_token);
      documents_fit = fit;
      tokens_fit = room;
      most = refl;
    }
