-- The postings of a term, and which documents have it.
use Rattle.std.proofs.Common.{◌≡◌, ◌≢◌, ◌<◌, ◌≤◌, ℕ, ◌+◌, ◌*◌, ◌/◌, ◌%◌, ◌==◌, Bool, true, false, ◌||◌, ◌⊎◌, inl, inr, ⊎_elim, cond, leb, ltb, List, [], ◌∷◌, ◌++◌, length, take, drop, get_or, unwrap_or, refl, sym, ap, subst, ◌∙◌, arith}
use Rattle.std.specs.Int.{bit_at}
use Rattle.std.specs.List.{All, list_any}
use Rattle.std.specs.List.Sorted.{IsNonDecreasingBy, IsPartitionPoint}
use Rattle.std.specs.Str.{bytes_eq}
use Rattle.std.proofs.lemmas.Bool.{cases_lt}
use Rattle.std.proofs.lemmas.Bool.Decides.{eqb_tells}
use Rattle.std.proofs.lemmas.List.{take-append-drop}
use Rattle.std.proofs.lemmas.List.Elements.{All-head, All-tail, All-take, All-weaker}
use Rattle.std.proofs.lemmas.List.Folds.{list_any_more}
use Rattle.std.proofs.lemmas.List.Sorted.{IsNonDecreasingBy-drop, IsNonDecreasingBy-take}
use Rattle.std.proofs.lemmas.Option.{slice_get_past}
use Rattle.ri_base.specs.Collection.{document_at, empty_document}
use Rattle.ri_base.specs.Documents.{Document}
use Rattle.ri_base.specs.Places.{places, places_at, places_from, postings_from, postings_of}
use Rattle.ri_base.specs.declared.places.Place.{Place}
use Rattle.ri_base.proofs.ListLemmas.{All-drop_within, All-take_within, append_nil}
use Rattle.ri_base.proofs.PlacesLemmas.{made_other, places_at-append, places_at-postings}
use Rattle.range_masks.specs.Masks.{IsBlock, IsMask}
use Rattle.range_masks.specs.May.{has_term}

-- ---- a term has a place where the document has it

abbrev pub some : List ℕ → Bool
some [] = false
some (p ∷ ps) = true

some_from : (i : ℕ) (t : List ℕ) (tokens : List (List ℕ)) → some (places_from i t tokens) ≡ list_any (λ token. bytes_eq token t) tokens
some_from i t [] = refl
some_from i t (x ∷ xs) = by (bytes_eq x t) (some_from (i + 1) t xs)
  where
    by : (b : Bool) → some (places_from (i + 1) t xs) ≡ list_any (λ token. bytes_eq token t) xs
        → some (cond b (i ∷ places_from (i + 1) t xs) (places_from (i + 1) t xs)) ≡ b || list_any (λ token. bytes_eq token t) xs
    by true e = refl
    by false e = e

pub some_place : (t : List ℕ) (d : Document) → some (places t d) ≡ has_term t d
unfolding places
some_place t d = some_from 0 t d.tokens

pub no_place : (t : List ℕ) → places t empty_document ≡ []
unfolding places
no_place t = refl

some_at : (id : ℕ) (ps : List Place) → list_any (λ p. p.id == id) ps ≡ some (places_at id ps)
some_at id [] = refl
some_at id (p ∷ ps) = by (p.id == id) (some_at id ps)
  where
    by : (b : Bool) → list_any (λ q. q.id == id) ps ≡ some (places_at id ps) → b || list_any (λ q. q.id == id) ps ≡ some (cond b (p.at ∷ places_at id ps) (places_at id ps))
    by true e = refl
    by false e = e

-- ---- postings of a term, past the last document too

pub past : (docs : List Document) (id : ℕ) → length docs ≤ id → document_at docs id ≡ empty_document
past docs id h = ap (λ o. unwrap_or o empty_document) (slice_get_past docs id h)

past_from : (i id : ℕ) (t : List ℕ) (docs : List Document) → i + length docs ≤ id → places_at id (postings_from i t docs) ≡ []
past_from i id t [] h = refl
past_from i id t (d ∷ docs) h =
    let differ : i ≡ id → ⊥ = λ e. omega (arith, e, h) in
    places_at-append id _ (postings_from (i + 1) t docs)
    ∙ ap (λ l. l ++ places_at id (postings_from (i + 1) t docs)) (made_other i id (places t d) differ) ∙ past_from (i + 1) id t docs (omega (arith, h))

at_any : (id : ℕ) (t : List ℕ) (docs : List Document) → places_at id (postings_of t docs) ≡ places t (document_at docs id)
unfolding postings_of
at_any id t docs =
    ⊎_elim (λ h. places_at-postings id t docs h)
    (λ h. past_from 0 id t docs (omega (arith, h)) ∙ sym (ap (places t) (past docs id h) ∙ no_place t))
    (cases_lt id (length docs))

-- ---- the postings of a range

pub same_test : (id range i : ℕ) → i < 64 → id / 64 ≡ range → (id % 64 == i) ≡ (id == 64 * range + i)
same_test id range i small is = go (eqb_tells (id % 64) i) (eqb_tells id (64 * range + i))
  where
    go : (((id % 64 == i) ≡ true) × (id % 64 ≡ i)) ⊎ (((id % 64 == i) ≡ false) × (id % 64 ≡ i → ⊥))
        → (((id == 64 * range + i) ≡ true) × (id ≡ 64 * range + i)) ⊎ (((id == 64 * range + i) ≡ false) × (id ≡ 64 * range + i → ⊥))
        → (id % 64 == i) ≡ (id == 64 * range + i)
    go (inl a) (inl b) = a.0 ∙ sym b.0
    go (inl a) (inr b) = absurd (b.1 (omega (arith, a.1, is)))
    go (inr a) (inl b) = absurd (a.1 (omega (arith, b.1, is)))
    go (inr a) (inr b) = a.0 ∙ sym b.0

same_ids : (range i : ℕ) (ps : List Place) → i < 64 → All (λ p. p.id / 64 ≡ range) ps → list_any (λ p. p.id % 64 == i) ps ≡ list_any (λ p. p.id == 64 * range + i) ps
same_ids range i [] small inside = refl
same_ids range i (p ∷ ps) small inside =
    let P : Place → Type 0 = λ q. q.id / 64 ≡ range in
    ap (λ b. b || list_any (λ q. q.id % 64 == i) ps) (same_test p.id range i small (All-head P p ps inside))
    ∙ ap (λ b. (p.id == 64 * range + i) || b) (same_ids range i ps small (All-tail P p ps inside))

-- no id of an earlier or a later range
below_other : (id range i : ℕ) → ltb (id / 64) range ≡ true → id ≢ 64 * range + i
below_other id range i h is = let less : id / 64 < range = grind (arith, h) in omega (arith, less, is)

above_other : (id range i : ℕ) → i < 64 → leb (id / 64) range ≡ false → id ≢ 64 * range + i
above_other id range i small h is = let more : range < id / 64 = grind (arith, h) in omega (arith, more, is, small)

pub places_at-others : (id : ℕ) (ps : List Place) → All (λ p. p.id ≢ id) ps → places_at id ps ≡ []
places_at-others id [] all = refl
places_at-others id (p ∷ ps) all =
    let P : Place → Type 0 = λ q. q.id ≢ id in
    let other : p.id ≢ id = All-head P p ps all in
    let test : (p.id == id) ≡ false = grind (arith, other) in
    ap (λ b. cond b (p.at ∷ places_at id ps) (places_at id ps)) test ∙ places_at-others id ps (All-tail P p ps all)

own : (id range : ℕ) → ltb (id / 64) range ≡ false → leb (id / 64) range ≡ true → id / 64 ≡ range
own id range h k =
    let from : range ≤ id / 64 = grind (arith, h) in
    let to : id / 64 ≤ range = grind (arith, k) in
    omega (arith, from, to)

-- what two searches for the ends of a range leave between them
pub IsBlock-searched : (range first count : ℕ) (ps rest : List Place) → rest ≡ drop first ps → first ≤ length ps → count ≤ length rest → IsNonDecreasingBy (λ p. p.id) ps
    → IsPartitionPoint (λ p. ltb (p.id / 64) range ≡ true) (λ p. ltb (p.id / 64) range ≡ false) ps first
    → IsPartitionPoint (λ p. leb (p.id / 64) range ≡ true) (λ p. leb (p.id / 64) range ≡ false) rest count
    → IsBlock range ps (take count rest)
IsBlock-searched range first count ps rest is below within up low high =
    let Before : Place → Type 0 = λ p. ltb (p.id / 64) range ≡ true in
    let From : Place → Type 0 = λ p. ltb (p.id / 64) range ≡ false in
    let UpTo : Place → Type 0 = λ p. leb (p.id / 64) range ≡ true in
    let After : Place → Type 0 = λ p. leb (p.id / 64) range ≡ false in
    let from : All From rest = subst (All From) (sym is) (All-drop_within From ps first below low.1) in
    let upto : All UpTo (take count rest) = All-take_within UpTo rest count within high.0 in
    let from_too : All From (take count rest) = All-take From count rest from in
    let id_of : Place → ℕ = λ p. p.id in
    record {
      inside = λ k d h. own (get_or (take count rest) k d).id range (from_too k d h) (upto k d h);
      rising = IsNonDecreasingBy-take id_of count rest (subst (IsNonDecreasingBy id_of) (sym is) (IsNonDecreasingBy-drop id_of first ps up));
      whole = λ i small.
          let id = 64 * range + i in
          let Other : Place → Type 0 = λ p. p.id ≢ id in
          let front : All Other (take first ps) = All-weaker Before Other (λ p h. below_other p.id range i h) (take first ps) (All-take_within Before ps first below low.0) in
          let back : All Other (drop count rest) = All-weaker After Other (λ p h. above_other p.id range i small h) (drop count rest) (All-drop_within After rest count within high.1) in
          sym (ap (places_at id) (sym (take-append-drop first ps)) ∙ places_at-append id (take first ps) (drop first ps)
          ∙ ap (λ l. l ++ places_at id (drop first ps)) (places_at-others id (take first ps) front)
          ∙ ap (places_at id) (sym is)
          ∙ ap (places_at id) (sym (take-append-drop count rest)) ∙ places_at-append id (take count rest) (drop count rest)
          ∙ ap (λ l. places_at id (take count rest) ++ l) (places_at-others id (drop count rest) back)
          ∙ append_nil (places_at id (take count rest)));
    }

-- postings by rising id are postings by rising range
pub rising_ranges : (ps : List Place) → IsNonDecreasingBy (λ p. p.id) ps → IsNonDecreasingBy (λ p. p.id / 64) ps
rising_ranges ps up i j d le inside = let h = up i j d le inside in omega (arith, h)

-- ---- the mask of a term

module _ {A : Type 0} (id_of : A → ℕ) (block : List A) (k mask new : ℕ) where
  -- the bit of one id is set now too
  abbrev IsSet : ℕ → Type 0
  IsSet id = (i : ℕ) (b : Bool) → i < 64 → bit_at mask i ≡ cond b 1 0 → bit_at new i ≡ cond (b || (id % 64 == i)) 1 0

  -- one more of a list of postings, or of entries
  pub bits_more : (d : A) → k < length block → IsSet (id_of (get_or block k d)) → ((i : ℕ) → i < 64 → bit_at mask i ≡ cond (list_any (λ x. id_of x % 64 == i) (take k block)) 1 0)
      → (i : ℕ) → i < 64 → bit_at new i ≡ cond (list_any (λ x. id_of x % 64 == i) (take (k + 1) block)) 1 0
  bits_more d inside set so_far i small =
      let test : A → Bool = λ x. id_of x % 64 == i in
      set i (list_any test (take k block)) small (so_far i small) ∙ sym (ap (λ b. cond b 1 0) (list_any_more test block k d inside))

  pub bits_more_at : (x : A) → k < length block → x ≡ get_or block k x → IsSet (id_of x) → ((i : ℕ) → i < 64 → bit_at mask i ≡ cond (list_any (λ y. id_of y % 64 == i) (take k block)) 1 0)
      → (i : ℕ) → i < 64 → bit_at new i ≡ cond (list_any (λ y. id_of y % 64 == i) (take (k + 1) block)) 1 0
  bits_more_at x inside is set so_far i small = bits_more x inside (subst (λ (y : A). IsSet (id_of y)) is set) so_far i small

-- the places of a range's documents, among its postings
pub places-block : (t : List ℕ) (range : ℕ) (docs : List Document) (all block : List Place) → all ≡ postings_of t docs → IsBlock range all block
    → (i : ℕ) → i < 64 → places_at (64 * range + i) block ≡ places t (document_at docs (64 * range + i))
places-block t range docs all block is h i small = let id = 64 * range + i in h.whole i small ∙ ap (places_at id) is ∙ at_any id t docs

pub IsMask-block : (t : List ℕ) (range : ℕ) (docs : List Document) (all block : List Place) (mask : ℕ) → all ≡ postings_of t docs → IsBlock range all block
    → ((i : ℕ) → i < 64 → bit_at mask i ≡ cond (list_any (λ p. p.id % 64 == i) block) 1 0) → IsMask (has_term t) range docs mask
IsMask-block t range docs all block mask is h bits = record {
  bits = λ i small.
      let id = 64 * range + i in
      bits i small ∙ ap (λ b. cond b 1 0) (same_ids range i block small h.inside ∙ some_at id block
      ∙ ap some (places-block t range docs all block is h i small) ∙ some_place t (document_at docs id));
}
