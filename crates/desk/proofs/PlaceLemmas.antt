-- Documents that are gone over one by one, till the one with a docno is found.
use Rattle.std.proofs.Common.{◌≡◌, ◌<◌, ◌≤◌, ◌+◌, ℕ, zero, suc, Bool, true, false, List, [], ◌∷◌, ◌++◌, Option, None, Some, drop, get_or, length, refl, sym, ap, ◌∙◌, arith}
use Rattle.std.specs.Prelude.{find}
use Rattle.std.specs.Str.{bytes_eq}
use Rattle.std.proofs.lemmas.List.{at_drop_more, drop_all}
use Rattle.std.proofs.lemmas.Slice.Eq.{bytes_eq-Decides}
use Rattle.ri_base.specs.Collection.{document_at, empty_document}
use Rattle.ri_base.specs.Documents.{Document}
use Rattle.store_ends.specs.Files.{Files}
use Rattle.disk_index.specs.Snapshots.{Marked, live, live_in, unmarked}
use Rattle.disk_index.proofs.EntryLemmas.{document_at-get_or}
use Rattle.desk.specs.Answer.{document_with}
use Rattle.desk.proofs.ListLemmas.{read-inside}

-- two texts are compared by others that are the same
pub told-equal : (x y a b : List ℕ) (r v : Bool) → r ≡ bytes_eq x y → x ≡ a → y ≡ b → r ≡ v → bytes_eq a b ≡ v
told-equal x y a b r v is first second value = sym (ap (λ z. bytes_eq z b) first) ∙ sym (ap (bytes_eq x) second) ∙ sym is ∙ value

drop-next : {X : Type 0} (xs : List X) (i : ℕ) (d : X) → i < length xs → drop i xs ≡ get_or xs i d ∷ drop (i + 1) xs
drop-next xs i d inside = at_drop_more (λ ys. ys) xs i d inside

-- the document at this id is dead, or it has another docno
pub passed-over : (docno : List ℕ) (docs : List Document) (marks : List Bool) (id : ℕ) (d : Document) (m : Bool) → id < length docs → id < length marks → get_or docs id d ≡ d → get_or marks id m ≡ m
    → (m ≡ false → bytes_eq docno d.docno ≡ false) → document_with docno (unmarked (drop id docs) (drop id marks)) ≡ document_with docno (unmarked (drop (id + 1) docs) (drop (id + 1) marks))
passed-over docno docs marks id d m inside marked at is other =
    let ds : drop id docs ≡ d ∷ drop (id + 1) docs = drop-next docs id d inside ∙ ap (λ x. x ∷ drop (id + 1) docs) at in
    let ms : drop id marks ≡ m ∷ drop (id + 1) marks = drop-next marks id m marked ∙ ap (λ x. x ∷ drop (id + 1) marks) is in
    ap (λ xs. document_with docno (unmarked xs (drop id marks))) ds ∙ ap (λ xs. document_with docno (unmarked (d ∷ drop (id + 1) docs) xs)) ms ∙ by m other
  where
    by : (b : Bool) → (b ≡ false → bytes_eq docno d.docno ≡ false)
        → document_with docno (unmarked (d ∷ drop (id + 1) docs) (b ∷ drop (id + 1) marks)) ≡ document_with docno (unmarked (drop (id + 1) docs) (drop (id + 1) marks))
    by true h = refl
    by false h = rw (h refl) refl

-- it is the document
pub found-here : (docno : List ℕ) (docs : List Document) (marks : List Bool) (id : ℕ) (d : Document) → id < length docs → id < length marks → get_or docs id d ≡ d → get_or marks id false ≡ false → bytes_eq docno d.docno ≡ true
    → document_with docno (unmarked (drop id docs) (drop id marks)) ≡ Some d
found-here docno docs marks id d inside marked at is same =
    let ds : drop id docs ≡ d ∷ drop (id + 1) docs = drop-next docs id d inside ∙ ap (λ x. x ∷ drop (id + 1) docs) at in
    let ms : drop id marks ≡ false ∷ drop (id + 1) marks = drop-next marks id false marked ∙ ap (λ x. x ∷ drop (id + 1) marks) is in
    ap (λ xs. document_with docno (unmarked xs (drop id marks))) ds ∙ ap (λ xs. document_with docno (unmarked (d ∷ drop (id + 1) docs) xs)) ms ∙ rw same refl

-- the document with an id
read-at : (docs : List Document) (id : ℕ) → id < length docs → get_or docs id (document_at docs id) ≡ document_at docs id
read-at docs id inside = read-inside docs id (document_at docs id) empty_document inside ∙ sym (document_at-get_or docs id)

pub passed-at : (docno : List ℕ) (docs : List Document) (marks : List Bool) (id : ℕ) → id < length docs → length marks ≡ length docs → (get_or marks id false ≡ false → bytes_eq docno (document_at docs id).docno ≡ false)
    → document_with docno (unmarked (drop id docs) (drop id marks)) ≡ document_with docno (unmarked (drop (id + 1) docs) (drop (id + 1) marks))
passed-at docno docs marks id inside long other =
    let within : id < length marks = omega (arith, inside, long) in
    passed-over docno docs marks id (document_at docs id) (get_or marks id false) inside within (read-at docs id inside) (read-inside marks id (get_or marks id false) false within) other

pub found-at : (docno : List ℕ) (docs : List Document) (marks : List Bool) (id : ℕ) → id < length docs → length marks ≡ length docs → get_or marks id false ≡ false → bytes_eq docno (document_at docs id).docno ≡ true
    → document_with docno (unmarked (drop id docs) (drop id marks)) ≡ Some (document_at docs id)
found-at docno docs marks id inside long alive same = found-here docno docs marks id (document_at docs id) inside (omega (arith, inside, long)) (read-at docs id inside) alive same

-- none is left
pub none-left : (docno : List ℕ) (docs : List Document) (marks : List Bool) (id : ℕ) → length docs ≤ id → document_with docno (unmarked (drop id docs) (drop id marks)) ≡ None
none-left docno docs marks id past = ap (λ xs. document_with docno (unmarked xs (drop id marks))) (drop_all id docs past)

-- ---- part by part

find-append : (p : Document → Bool) (xs ys : List Document) → find p xs ≡ None → find p (xs ++ ys) ≡ find p ys
find-append p [] ys none = refl
find-append p (x ∷ xs) ys none = by (p x) refl (find-append p xs ys)
  where
    by : (b : Bool) → p x ≡ b → (find p xs ≡ None → find p (xs ++ ys) ≡ find p ys) → find p ((x ∷ xs) ++ ys) ≡ find p ys
    by true e later = absurd (let here : find p (x ∷ xs) ≡ Some x = rw e refl in cc)
    by false e later = let same : find p (x ∷ xs) ≡ find p xs = rw e refl in rw e (later (sym same ∙ none))

find-first : (p : Document → Bool) (xs ys : List Document) (d : Document) → find p xs ≡ Some d → find p (xs ++ ys) ≡ Some d
find-first p [] ys d found = cc
find-first p (x ∷ xs) ys d found = by (p x) refl (find-first p xs ys d)
  where
    by : (b : Bool) → p x ≡ b → (find p xs ≡ Some d → find p (xs ++ ys) ≡ Some d) → find p ((x ∷ xs) ++ ys) ≡ Some d
    by true e later = let same : find p (x ∷ xs) ≡ Some x = rw e refl in rw e (sym same ∙ found)
    by false e later = let same : find p (x ∷ xs) ≡ find p xs = rw e refl in rw e (later (sym same ∙ found))

pub part-passed : (docno : List ℕ) (told : Option Files) (parts : List Marked) (number : ℕ) (m : Marked) → number < length parts → m ≡ get_or parts number m → document_with docno (live_in told m) ≡ None
    → document_with docno (live told (drop number parts)) ≡ document_with docno (live told (drop (number + 1) parts))
part-passed docno told parts number m inside at none =
    ap (λ ms. document_with docno (live told ms)) (drop-next parts number m inside ∙ ap (λ x. x ∷ drop (number + 1) parts) (sym at))
    ∙ find-append (λ d. bytes_eq docno d.docno) (live_in told m) (live told (drop (number + 1) parts)) none

pub part-found : (docno : List ℕ) (told : Option Files) (parts : List Marked) (number : ℕ) (m : Marked) (d : Document) → number < length parts → m ≡ get_or parts number m → document_with docno (live_in told m) ≡ Some d
    → document_with docno (live told (drop number parts)) ≡ Some d
part-found docno told parts number m d inside at found =
    ap (λ ms. document_with docno (live told ms)) (drop-next parts number m inside ∙ ap (λ x. x ∷ drop (number + 1) parts) (sym at))
    ∙ find-first (λ d. bytes_eq docno d.docno) (live_in told m) (live told (drop (number + 1) parts)) d found

pub no-part-left : (docno : List ℕ) (told : Option Files) (parts : List Marked) (number : ℕ) → length parts ≤ number → document_with docno (live told (drop number parts)) ≡ None
no-part-left docno told parts number past = ap (λ ms. document_with docno (live told ms)) (drop_all number parts past)

-- ---- a document that is there is found

pub none-missed : (docno : List ℕ) (docs : List Document) (k : ℕ) (d : Document) → k < length docs → get_or docs k d ≡ d → docno ≡ d.docno → document_with docno docs ≡ None → ⊥
none-missed docno [] k d inside at named none = absurd (omega (arith, inside))
none-missed docno (x ∷ docs) zero d inside at named none =
    let same : bytes_eq docno x.docno ≡ true = (bytes_eq-Decides docno x.docno).1 (named ∙ ap (λ (e : Document). e.docno) (sym at)) in
    absurd (let here : document_with docno (x ∷ docs) ≡ Some x = rw same refl in cc)
none-missed docno (x ∷ docs) (suc k) d inside at named none = by (bytes_eq docno x.docno) refl (none-missed docno docs k d (omega (arith, inside)) at named)
  where
    by : (b : Bool) → bytes_eq docno x.docno ≡ b → (document_with docno docs ≡ None → ⊥) → ⊥
    by true e later = absurd (let here : document_with docno (x ∷ docs) ≡ Some x = rw e refl in cc)
    by false e later = let same : document_with docno (x ∷ docs) ≡ document_with docno docs = rw e refl in later (sym same ∙ none)
