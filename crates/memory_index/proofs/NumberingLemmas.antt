-- a term more is numbered
use Rattle.std.proofs.Common.{◌≡◌, ◌<◌, ◌≤◌, ℕ, ◌+◌, List, [], ◌∷◌, ◌++◌, length, map, drop, get_or, slice_get, position, Some, Bool, true, false, cond, refl, sym, ap, subst, ◌∙◌, arith, length-append}
use Rattle.std.specs.List.{All, Contains, list_any}
use Rattle.std.specs.Str.{bytes_eq}
use Rattle.std.proofs.lemmas.List.{take-append-le, drop-append-le, map-append, get_or_append_left}
use Rattle.std.proofs.lemmas.List.Elements.{All-nil, All-cons, All-append, All-weaker, All-push, All-head, All-tail, Contains-append_left, Contains-push}
use Rattle.std.proofs.lemmas.List.Quantifiers.{position-Some}
use Rattle.std.proofs.lemmas.Option.{slice_get-get_or, get_or_from_slice_get, slice_get_within}
use Rattle.std.proofs.lemmas.Slice.Eq.{bytes_eq-Decides}
use Rattle.std.proofs.Math.Seq.{take-length, drop-length, get_or-append_seam}
use Rattle.indexmap.specs.IndexSet.{insert_key}
use Rattle.ri_base.proofs.ListLemmas.{append_nil}
use Rattle.memory_index.specs.Numbering.{IsNumbering}

-- a term stands where the search for it ends
pub stored_at : (ks : List (List ℕ)) (t : List ℕ) (n : ℕ) → position (bytes_eq t) ks ≡ Some n → slice_get ks n ≡ Some t
stored_at ks t n h =
    let p = position-Some (bytes_eq t) ks n [] h in
    let e : t ≡ get_or ks n [] = (bytes_eq-Decides t (get_or ks n [])).0 p.1 in
    slice_get-get_or ks n [] p.0 ∙ ap Some (sym e)

-- a term that is new stands last
pub stored_new : (ks : List (List ℕ)) (t : List ℕ) (new : List (List ℕ)) → list_any (bytes_eq t) ks ≡ false → new ≡ insert_key bytes_eq ks t → slice_get new (length ks) ≡ Some t
stored_new ks t new h e =
    let e2 : new ≡ ks ++ t ∷ [] = e ∙ ap (λ b. cond b ks (ks ++ t ∷ [])) h in
    rw e2 (last ks t)
  where
    last : (ks : List (List ℕ)) (t : List ℕ) → slice_get (ks ++ t ∷ []) (length ks) ≡ Some t
    last ks t = slice_get-get_or (ks ++ t ∷ []) (length ks) t (omega (arith, length-append ks (t ∷ []))) ∙ ap Some (get_or-append_seam ks t [] t)

-- an insertion puts nothing or the term at the end
pub record IsAdded (ks new : List (List ℕ)) (t : List ℕ) : Type 0 where
  pub ext : List (List ℕ)
  pub is : new ≡ ks ++ ext
  pub short : length ext ≤ 1
  pub only : All (λ x. x ≡ t) ext

pub IsAdded-insert : (ks : List (List ℕ)) (t : List ℕ) → IsAdded ks (insert_key bytes_eq ks t) t
IsAdded-insert ks t = by (list_any (bytes_eq t) ks)
  where
    by : (b : Bool) → IsAdded ks (cond b ks (ks ++ t ∷ [])) t
    by true = record { ext = []; is = sym (append_nil ks); short = omega arith; only = All-nil (λ x. x ≡ t) }
    by false = record { ext = t ∷ []; is = refl; short = omega arith; only = All-cons (λ x. x ≡ t) t [] refl (All-nil (λ x. x ≡ t)) }

-- numbers below a length are those of the same terms in a longer list
pub told_longer : (ks ext : List (List ℕ)) (ns : List ℕ) → All (λ n. n < length ks) ns → map (λ n. get_or (ks ++ ext) n []) ns ≡ map (λ n. get_or ks n []) ns
told_longer ks ext [] h = refl
told_longer ks ext (n ∷ ns) h =
    let here : n < length ks = All-head (λ n. n < length ks) n ns h in
    let e : get_or (ks ++ ext) n [] ≡ get_or ks n [] = get_or_append_left ks ext [] n here in
    let rest = told_longer ks ext ns (All-tail (λ n. n < length ks) n ns h) in
    ap (λ x. x ∷ map (λ n. get_or (ks ++ ext) n []) ns) e ∙ ap (λ l. get_or ks n [] ∷ l) rest

-- no token yet
pub IsNumbering-start : (old : List (List ℕ)) → IsNumbering old old [] []
IsNumbering-start old = record {
  kept = take-length old;
  few = omega arith;
  more = omega arith;
  told = refl;
  small = All-nil (λ n. n < length old);
  used = rw (drop-length old) (All-nil (Contains []));
}

pub IsNumbering-more : (old mid new tokens : List (List ℕ)) (numbers : List ℕ) (t : List ℕ) (n : ℕ)
    → IsNumbering old mid tokens numbers → IsAdded mid new t → slice_get new n ≡ Some t
    → IsNumbering old new (tokens ++ t ∷ []) (numbers ++ n ∷ [])
IsNumbering-more old mid new tokens numbers t n h a s =
    let ext = a.ext in
    let longer : length new ≡ length mid + length ext = ap length a.is ∙ length-append mid ext in
    let more = h.more in
    let few = h.few in
    let short = a.short in
    let within : n < length new = slice_get_within new n t s in
    let at_n : get_or new n [] ≡ t = get_or_from_slice_get new n t [] s in
    let old_told : map (λ n. get_or new n []) numbers ≡ tokens = rw a.is (told_longer mid ext numbers h.small) ∙ h.told in
    record {
      kept = rw a.is (take-append-le (length old) mid ext more ∙ h.kept);
      few = omega (arith, length-append tokens (t ∷ []));
      more = omega arith;
      told = map-append (λ n. get_or new n []) numbers (n ∷ []) ∙ ap (λ l. l ++ get_or new n [] ∷ []) old_told ∙ ap (λ x. tokens ++ x ∷ []) at_n;
      small = All-push (λ k. k < length new) numbers n (All-weaker (λ k. k < length mid) (λ k. k < length new) (λ k p. omega arith) numbers h.small) within;
      used = rw a.is (rw (drop-append-le (length old) mid ext more) (All-append (Contains (tokens ++ t ∷ [])) (drop (length old) mid) ext
          (All-weaker (Contains tokens) (Contains (tokens ++ t ∷ [])) (λ x p. Contains-append_left tokens (t ∷ []) x p) (drop (length old) mid) h.used)
          (All-weaker (λ x. x ≡ t) (Contains (tokens ++ t ∷ [])) (λ x p. subst (Contains (tokens ++ t ∷ [])) (sym p) (Contains-push tokens t)) ext a.only)));
    }
