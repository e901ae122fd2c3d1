-- Documents that are passed over by one test or several.
use Rattle.std.proofs.Common.{◌≡◌, ◌<◌, ◌≤◌, ◌/◌, ℕ, ◌+◌, ◌*◌, Bool, false, ◌&&◌, ◌||◌, List, length, take, get_or, Option, Some, None, IfSome, ⊎_elim, refl, sym, ap, subst, ◌∙◌, arith}
use Rattle.std.specs.List.{list_all, list_any}
use Rattle.std.proofs.lemmas.Bool.{and_left, and_right, cases_lt, or_from}
use Rattle.std.proofs.lemmas.List.{take_all}
use Rattle.std.proofs.lemmas.List.Folds.{list_all_more, list_any_more}
use Rattle.ri_base.specs.Collection.{document_at}
use Rattle.ri_base.specs.Documents.{Document}
use Rattle.ri_base.specs.Places.{places}
use Rattle.store_ends.specs.Files.{Files}
use Rattle.disk_index.specs.Parts.{IsPartBacked, Source, reads}
use Rattle.disk_index.specs.Presence.{IsNext, may_have}
use Rattle.disk_index.proofs.PresenceLemmas.{nowhere}
use Rattle.range_masks.specs.May.{has_term}
use Rattle.range_masks.specs.Next.{IsPassed, earlier}
use Rattle.range_masks.proofs.MaskLemmas.{stops}
use Rattle.range_masks.proofs.PostingLemmas.{no_place, past, some, some_place}

-- ---- a term

-- a document of a range in which the term can't stand doesn't have it
lacks : (told : Option Files) (source : Source) (t : List ℕ) (n id : ℕ) → IsPartBacked told source → may_have source n t ≡ false → id / 64 ≡ n → has_term t (document_at (reads told source) id) ≡ false
lacks told source t n id backed none here =
    let docs = reads told source in
    sym (some_place t (document_at docs id))
    ∙ ap some (⊎_elim (λ inside. nowhere told source n t backed none id here inside) (λ end. ap (places t) (past docs id end) ∙ no_place t) (cases_lt id (length docs)))

pub IsPassed-term : (told : Option Files) (source : Source) (t : List ℕ) (from : ℕ) (found : Option ℕ) → IsPartBacked told source → IsNext (λ n. may_have source n t) from found → IsPassed (has_term t) (reads told source) from found
IsPassed-term told source t from None backed h = record { each = λ id low high. lacks told source t (id / 64) id backed (h (id / 64) (omega (arith, low))) refl }
IsPassed-term told source t from (Some next) backed h = record { each = λ id low high. lacks told source t (id / 64) id backed (h.2 (id / 64) (omega (arith, low)) (omega (arith, high))) refl }

-- ---- no earlier one

pub IsNext-forward : (test : ℕ → Bool) (from : ℕ) (found : Option ℕ) → IsNext test from found → IfSome found (λ n. from ≤ n)
IsNext-forward test from None h = tt
IsNext-forward test from (Some first) h = h.0

-- of two ranges that are no earlier ones
pub earlier-from : (from : ℕ) (a b : Option ℕ) → IfSome a (λ n. from ≤ n) → IfSome b (λ n. from ≤ n) → IfSome (earlier a b) (λ n. from ≤ n)
earlier-from from None b h k = k
earlier-from from (Some a) None h k = h
earlier-from from (Some a) (Some b) h k = omega (arith, h, k)

module _ (docs : List Document) where
  -- ---- tests

  pub IsPassed-same : (p q : Document → Bool) (from : ℕ) (found : Option ℕ) → ((d : Document) → q d ≡ p d) → IsPassed p docs from found → IsPassed q docs from found
  IsPassed-same p q from found same h = record { each = λ id low high. same (document_at docs id) ∙ h.each id low high }

  -- nothing lies between
  pub IsPassed-here : (p : Document → Bool) (from : ℕ) → IsPassed p docs from (Some from)
  IsPassed-here p from = record { each = λ id low high. absurd (omega (arith, low, high)) }

  pub IsPassed-none : (from : ℕ) → IsPassed (λ d. false) docs from None
  IsPassed-none from = record { each = λ id low high. refl }

  -- ---- two tests

  -- behind what the one test leaves, what the other leaves
  pub IsPassed-and : (p q : Document → Bool) (from mid : ℕ) (found : Option ℕ) → IsPassed p docs from (Some mid) → IsPassed q docs mid found → IsPassed (λ d. p d && q d) docs from found
  IsPassed-and p q from mid found h k = record {
    each = λ id low high.
        let d = document_at docs id in
        ⊎_elim (λ under. and_left (p d) (q d) (h.each id low under)) (λ over. and_right (p d) (q d) (k.each id over high)) (cases_lt id (64 * mid));
  }

  -- where no document passes the one test, none passes both
  pub IsPassed-left : (p q : Document → Bool) (from : ℕ) → IsPassed p docs from None → IsPassed (λ d. p d && q d) docs from None
  IsPassed-left p q from h = record { each = λ id low high. and_left (p (document_at docs id)) (q (document_at docs id)) (h.each id low high) }

  pub IsPassed-or : (p q : Document → Bool) (from : ℕ) (a b : Option ℕ) → IsPassed p docs from a → IsPassed q docs from b → IsPassed (λ d. p d || q d) docs from (earlier a b)
  IsPassed-or p q from None None h k = record { each = λ id low high. or_from (p (document_at docs id)) (q (document_at docs id)) (h.each id low tt) (k.each id low tt) }
  IsPassed-or p q from None (Some b) h k = record { each = λ id low high. or_from (p (document_at docs id)) (q (document_at docs id)) (h.each id low tt) (k.each id low high) }
  IsPassed-or p q from (Some a) None h k = record { each = λ id low high. or_from (p (document_at docs id)) (q (document_at docs id)) (h.each id low high) (k.each id low tt) }
  IsPassed-or p q from (Some a) (Some b) h k = record { each = λ id low high. or_from (p (document_at docs id)) (q (document_at docs id)) (h.each id low (omega (arith, high))) (k.each id low (omega (arith, high))) }

  -- ---- one test more of a list

  module _ {X : Type 0} (test : X → Document → Bool) (xs : List X) (i : ℕ) where
    pub IsPassed-each_more : (x : X) (from mid : ℕ) (found : Option ℕ) → i < length xs → x ≡ get_or xs i x → IsPassed (λ d. list_all (λ y. test y d) (take i xs)) docs from (Some mid) → IsPassed (test x) docs mid found
        → IsPassed (λ d. list_all (λ y. test y d) (take (i + 1) xs)) docs from found
    IsPassed-each_more x from mid found inside is h k =
        IsPassed-same (λ d. list_all (λ y. test y d) (take i xs) && test x d) (λ d. list_all (λ y. test y d) (take (i + 1) xs)) from found
        (λ d. list_all_more (λ y. test y d) xs i x inside ∙ ap (λ y. list_all (λ z. test z d) (take i xs) && test y d) (sym is))
        (IsPassed-and (λ d. list_all (λ y. test y d) (take i xs)) (test x) from mid found h k)

    -- where the first tests pass nothing, all do
    pub IsPassed-each_none : (from : ℕ) → IsPassed (λ d. list_all (λ y. test y d) (take i xs)) docs from None → IsPassed (λ d. list_all (λ y. test y d) xs) docs from None
    IsPassed-each_none from h = record { each = λ id low high. stops (λ y. test y (document_at docs id)) xs i (h.each id low high) }

    pub IsPassed-each : (from : ℕ) (found : Option ℕ) → length xs ≤ i → IsPassed (λ d. list_all (λ y. test y d) (take i xs)) docs from found → IsPassed (λ d. list_all (λ y. test y d) xs) docs from found
    IsPassed-each from found end h = subst (λ ys. IsPassed (λ d. list_all (λ y. test y d) ys) docs from found) (take_all i xs end) h

    pub IsPassed-some_more : (x : X) (from : ℕ) (a b : Option ℕ) → i < length xs → x ≡ get_or xs i x → IsPassed (λ d. list_any (λ y. test y d) (take i xs)) docs from a → IsPassed (test x) docs from b
        → IsPassed (λ d. list_any (λ y. test y d) (take (i + 1) xs)) docs from (earlier a b)
    IsPassed-some_more x from a b inside is h k =
        IsPassed-same (λ d. list_any (λ y. test y d) (take i xs) || test x d) (λ d. list_any (λ y. test y d) (take (i + 1) xs)) from (earlier a b)
        (λ d. list_any_more (λ y. test y d) xs i x inside ∙ ap (λ y. list_any (λ z. test z d) (take i xs) || test y d) (sym is))
        (IsPassed-or (λ d. list_any (λ y. test y d) (take i xs)) (test x) from a b h k)

    pub IsPassed-some : (from : ℕ) (found : Option ℕ) → length xs ≤ i → IsPassed (λ d. list_any (λ y. test y d) (take i xs)) docs from found → IsPassed (λ d. list_any (λ y. test y d) xs) docs from found
    IsPassed-some from found end h = subst (λ ys. IsPassed (λ d. list_any (λ y. test y d) ys) docs from found) (take_all i xs end) h
