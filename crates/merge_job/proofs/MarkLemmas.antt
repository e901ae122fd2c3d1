-- Marks that go to the parts, one document behind the other.
use Rattle.std.proofs.Common.{◌≡◌, ◌<◌, ◌≤◌, ◌+◌, ℕ, zero, suc, Bool, true, false, List, [], ◌∷◌, ◌++◌, length, map, get_or, set, take, replicate, None, refl, ap, sym, ◌∙◌, arith, append_assoc, length-append}
use Rattle.std.specs.List.{All, AllZip}
use Rattle.std.proofs.lemmas.List.{append-nil, length-set, take_more, length-take, set-append_left, set_at}
use Rattle.std.proofs.lemmas.List.Elements.{All-cons, All-head, All-tail, All-nil}
use Rattle.disk_index.specs.Parts.{reads, size}
use Rattle.disk_index.specs.Snapshots.{Marked, live, live_in, unmarked}
use Rattle.disk_index.proofs.AlikeLemmas.{unmarked-push}
use Rattle.disk_index.proofs.RebuiltLemmas.{reads-length}
use Rattle.merge_job.specs.Marking.{IsPlace, before, lengths, marked_from, together}
use Rattle.merge_job.specs.Marks.{all_mapped, mapped}
use Rattle.merge_job.proofs.WalkLemmas.{length-unmarked, unmarked-split}

-- ---- a place in parts

-- an element that is replaced by one of which f says the same
pub map-same : {A B : Type 0} (f : A → B) (xs : List A) (i : ℕ) (x y : A) → i < length xs → f y ≡ f (get_or xs i x) → map f (set xs i y) ≡ map f xs
map-same f [] i x y within e = refl
map-same f (z ∷ xs) zero x y within e = ap (λ w. w ∷ map f xs) e
map-same f (z ∷ xs) (suc i) x y within e = ap (λ l. f z ∷ l) (map-same f xs i x y (omega (arith, within)) e)

pub part-within : (ms : List (List Bool)) (p i : ℕ) → i < length (get_or ms p []) → p < length ms
part-within [] p i within = absurd (omega (arith, within))
part-within (m ∷ ms) zero i within = omega arith
part-within (m ∷ ms) (suc p) i within = (let h = part-within ms p i within in omega (arith, h))

-- a place before the end of all parts is in one
pub place-inside : (ms : List (List Bool)) (p i : ℕ) → before ms p i < length (together ms) → p < length ms
place-inside [] zero i some = absurd (omega (arith, some))
place-inside [] (suc p) i some = absurd (omega (arith, some))
place-inside (m ∷ ms) zero i some = omega arith
place-inside (m ∷ ms) (suc p) i some =
    let a = length-append m (together (take p ms)) in
    let b = length-append m (together ms) in
    let h = place-inside ms p i (omega (arith, a, b, some)) in
    omega (arith, h)

-- the begin of the next part is the end of this one
pub before-next : (ms : List (List Bool)) (p i : ℕ) → p < length ms → i ≡ length (get_or ms p []) → before ms (p + 1) 0 ≡ before ms p i
before-next [] p i within end = absurd (omega (arith, within))
before-next (m ∷ ms) zero i within end = (let a = length-append m [] in omega (arith, a, end))
before-next (m ∷ ms) (suc p) i within end =
    let n : suc p + 1 ≡ suc (p + 1) = omega arith in
    let a = length-append m (together (take (p + 1) ms)) in
    let b = length-append m (together (take p ms)) in
    let e : before (m ∷ ms) (suc p + 1) 0 ≡ length (m ++ together (take (p + 1) ms)) + 0 = ap (λ k. before (m ∷ ms) k 0) n in
    let h = before-next ms p i (omega (arith, within)) end in
    omega (arith, a, b, e, h)

pub next-some : (ms : List (List Bool)) (p i : ℕ) → IsPlace ms p i → before ms p i < length (together ms) → i ≡ length (get_or ms p []) → 0 < length (get_or ms (p + 1) [])
next-some ms p i place some end =
    let same = before-next ms p i (place-inside ms p i some) end in
    let inside = place-inside ms (p + 1) 0 (omega (arith, same, some)) in
    let h = place.some (p + 1) [] inside in
    omega (arith, h)

set-right : (xs ys : List Bool) (i : ℕ) → xs ++ set ys i true ≡ set (xs ++ ys) (length xs + i) true
set-right [] ys i = ap (λ n. set ys n true) (omega arith)
set-right (x ∷ xs) ys i =
    let e : suc (length xs + i) ≡ suc (length xs) + i = omega arith in
    ap (λ l. x ∷ l) (set-right xs ys i) ∙ ap (λ n. set (x ∷ (xs ++ ys)) n true) e

-- a mark that is set in a part is set in all marks
pub together-set : (ms : List (List Bool)) (p i : ℕ) → i < length (get_or ms p []) → together (set ms p (set (get_or ms p []) i true)) ≡ set (together ms) (before ms p i) true
together-set [] p i within = absurd (omega (arith, within))
together-set (m ∷ ms) zero i within = sym (set-append_left m (together ms) i true within) ∙ ap (λ n. set (m ++ together ms) n true) (omega arith)
together-set (m ∷ ms) (suc p) i within =
    let rec = together-set ms p i within in
    let n : length m + (length (together (take p ms)) + i) ≡ length (m ++ together (take p ms)) + i = (let a = length-append m (together (take p ms)) in omega (arith, a)) in
    ap (λ l. m ++ l) rec ∙ set-right m (together ms) (before ms p i) ∙ ap (λ k. set (m ++ together ms) k true) n

pub lengths-set : (ms : List (List Bool)) (p i : ℕ) → lengths (set ms p (set (get_or ms p []) i true)) ≡ lengths ms
lengths-set [] p i = refl
lengths-set (m ∷ ms) zero i = ap (λ n. n ∷ lengths ms) (length-set m i true)
lengths-set (m ∷ ms) (suc p) i = ap (λ l. length m ∷ l) (lengths-set ms p i)

sums : List ℕ → ℕ
sums [] = 0
sums (n ∷ ns) = n + sums ns

length-together : (ms : List (List Bool)) → length (together ms) ≡ sums (lengths ms)
unfolding sums
length-together [] = refl
length-together (m ∷ ms) = length-append m (together ms) ∙ ap (λ n. length m + n) (length-together ms)

pub same-together : (ms ns : List (List Bool)) → lengths ms ≡ lengths ns → length (together ms) ≡ length (together ns)
same-together ms ns e = length-together ms ∙ ap sums e ∙ sym (length-together ns)

some-lengths : (ms ns : List (List Bool)) → lengths ms ≡ lengths ns → All (λ ms. 1 ≤ length ms) ns → All (λ ms. 1 ≤ length ms) ms
some-lengths [] ns e all = All-nil _
some-lengths (m ∷ ms) [] e all = cc
some-lengths (m ∷ ms) (n ∷ ns) e all =
    let here : length m ≡ length n = cc in
    let rest : lengths ms ≡ lengths ns = cc in
    All-cons (λ (ms : List Bool). 1 ≤ length ms) m ms (let a = All-head (λ (ms : List Bool). 1 ≤ length ms) n ns all in omega (arith, here, a)) (some-lengths ms ns rest (All-tail (λ (ms : List Bool). 1 ≤ length ms) n ns all))

length-part : (ms ns : List (List Bool)) (p : ℕ) → lengths ms ≡ lengths ns → length (get_or ms p []) ≡ length (get_or ns p [])
length-part [] [] p e = refl
length-part [] (n ∷ ns) p e = cc
length-part (m ∷ ms) [] p e = cc
length-part (m ∷ ms) (n ∷ ns) zero e = cc
length-part (m ∷ ms) (n ∷ ns) (suc p) e = length-part ms ns p (cc)

pub IsPlace-next : (ms ns : List (List Bool)) (p i : ℕ) → lengths ms ≡ lengths ns → All (λ ms. 1 ≤ length ms) ns → i < length (get_or ns p []) → IsPlace ms p (i + 1)
IsPlace-next ms ns p i e some within = record { within = (let l = length-part ms ns p e in omega (arith, l, within)); some = some-lengths ms ns e some }

-- ---- marks that are told

pub marked_from-append : (marks : List Bool) (at : ℕ) (fs gs : List Bool) → marked_from marks at (fs ++ gs) ≡ marked_from (marked_from marks at fs) (at + length fs) gs
marked_from-append marks at [] gs = ap (λ n. marked_from marks n gs) (omega arith)
marked_from-append marks at (true ∷ fs) gs = marked_from-append (set marks at true) (at + 1) fs gs ∙ ap (λ n. marked_from (marked_from (set marks at true) (at + 1) fs) n gs) (omega arith)
marked_from-append marks at (false ∷ fs) gs = marked_from-append marks (at + 1) fs gs ∙ ap (λ n. marked_from (marked_from marks (at + 1) fs) n gs) (omega arith)

-- all marks are told
pub marked-all : (front : List Bool) (n : ℕ) (fs : List Bool) → length fs ≡ n → marked_from (front ++ replicate n false) (length front) fs ≡ front ++ fs
marked-all front n [] e = ap (λ k. front ++ replicate k false) (sym e)
marked-all front zero (f ∷ fs) e = absurd (omega (arith, e))
marked-all front (suc n) (true ∷ fs) e =
    let put : set (front ++ false ∷ replicate n false) (length front) true ≡ (front ++ true ∷ []) ++ replicate n false =
    set_at front false (replicate n false) true (length front) refl ∙ sym (append_assoc front (true ∷ []) (replicate n false)) in
    let long : length front + 1 ≡ length (front ++ true ∷ []) = sym (length-append front (true ∷ [])) in
    ap (λ l. marked_from l (length front + 1) fs) put ∙ ap (λ k. marked_from ((front ++ true ∷ []) ++ replicate n false) k fs) long
    ∙ marked-all (front ++ true ∷ []) n fs (omega (arith, e)) ∙ append_assoc front (true ∷ []) fs
marked-all front (suc n) (false ∷ fs) e =
    let put : front ++ false ∷ replicate n false ≡ (front ++ false ∷ []) ++ replicate n false = sym (append_assoc front (false ∷ []) (replicate n false)) in
    let long : length front + 1 ≡ length (front ++ false ∷ []) = sym (length-append front (false ∷ [])) in
    ap (λ l. marked_from l (length front + 1) fs) put ∙ ap (λ k. marked_from ((front ++ false ∷ []) ++ replicate n false) k fs) long
    ∙ marked-all (front ++ false ∷ []) n fs (omega (arith, e)) ∙ append_assoc front (false ∷ []) fs

marked-last : {A : Type 0} (xs : List A) (ms : List Bool) (x : A) → length ms ≡ length xs → unmarked (xs ++ x ∷ []) (ms ++ true ∷ []) ≡ unmarked xs ms
marked-last [] [] x e = refl
marked-last [] (m ∷ ms) x e = absurd (omega (arith, e))
marked-last (y ∷ xs) [] x e = absurd (omega (arith, e))
marked-last (y ∷ xs) (true ∷ ms) x e = marked-last xs ms x (omega (arith, e))
marked-last (y ∷ xs) (false ∷ ms) x e = ap (λ l. y ∷ l) (marked-last xs ms x (omega (arith, e)))

same-takes : {A B : Type 0} (i : ℕ) (xs : List A) (ys : List B) → length xs ≡ length ys → length (take i xs) ≡ length (take i ys)
same-takes i xs ys e = (let a = length-take i xs in let b = length-take i ys in omega (arith, a, b, e))

pub mapped-live : (old now : List Bool) (i : ℕ) → length now ≡ length old → i < length old → get_or old i false ≡ false → mapped (take (i + 1) old) (take (i + 1) now) ≡ mapped (take i old) (take i now) ++ get_or now i false ∷ []
mapped-live old now i long within live =
    let o : take (i + 1) old ≡ take i old ++ false ∷ [] = take_more old i false within ∙ ap (λ b. take i old ++ b ∷ []) live in
    let n = take_more now i false (omega (arith, long, within)) in
    ap (λ ms. unmarked (take (i + 1) now) ms) o ∙ ap (λ xs. unmarked xs (take i old ++ false ∷ [])) n ∙ unmarked-push (take i now) (take i old) (get_or now i false) (same-takes i old now (sym long))

pub mapped-dead : (old now : List Bool) (i : ℕ) → length now ≡ length old → i < length old → get_or old i false ≡ true → mapped (take (i + 1) old) (take (i + 1) now) ≡ mapped (take i old) (take i now)
mapped-dead old now i long within dead =
    let o : take (i + 1) old ≡ take i old ++ true ∷ [] = take_more old i false within ∙ ap (λ b. take i old ++ b ∷ []) dead in
    let n = take_more now i false (omega (arith, long, within)) in
    ap (λ ms. unmarked (take (i + 1) now) ms) o ∙ ap (λ xs. unmarked xs (take i old ++ true ∷ [])) n ∙ marked-last (take i now) (take i old) (get_or now i false) (same-takes i old now (sym long))

-- as many are left to be told as the ids that are left give
pub mapped-room : (old now : List Bool) (i : ℕ) → length now ≡ length old → i < length old → get_or old i false ≡ false → length (mapped (take i old) (take i now)) < length (mapped old now)
mapped-room old now i long within live =
    let e = ap length (mapped-live old now i long within live) ∙ length-append (mapped (take i old) (take i now)) (get_or now i false ∷ []) in
    let s = ap length (sym (unmarked-split now old (i + 1))) ∙ length-append (mapped (take (i + 1) old) (take (i + 1) now)) _ in
    omega (arith, e, s)

-- ---- the marks of all parts

mapped-push : (ms : List Marked) (nows : List (List Bool)) (m : Marked) (now : List Bool) → length nows ≡ length ms → all_mapped (ms ++ m ∷ []) (nows ++ now ∷ []) ≡ all_mapped ms nows ++ mapped m.marks now
mapped-push [] [] m now e = append-nil (mapped m.marks now)
mapped-push [] (n ∷ nows) m now e = absurd (omega (arith, e))
mapped-push (x ∷ ms) [] m now e = absurd (omega (arith, e))
mapped-push (x ∷ ms) (n ∷ nows) m now e = ap (λ l. mapped x.marks n ++ l) (mapped-push ms nows m now (omega (arith, e))) ∙ sym (append_assoc (mapped x.marks n) (all_mapped ms nows) (mapped m.marks now))

-- one part more
pub mapped-more : (ms : List Marked) (nows : List (List Bool)) (i : ℕ) (m : Marked) → length nows ≡ length ms → i < length ms → m ≡ get_or ms i m
    → all_mapped (take (i + 1) ms) (take (i + 1) nows) ≡ all_mapped (take i ms) (take i nows) ++ mapped m.marks (get_or nows i [])
mapped-more ms nows i m long within at =
    let o = take_more ms i m within in
    let n = take_more nows i [] (omega (arith, long, within)) in
    ap (λ xs. all_mapped xs (take (i + 1) nows)) o ∙ ap (λ ns. all_mapped (take i ms ++ get_or ms i m ∷ []) ns) n ∙ mapped-push (take i ms) (take i nows) (get_or ms i m) (get_or nows i []) (same-takes i nows ms long)
    ∙ ap (λ (x : Marked). all_mapped (take i ms) (take i nows) ++ mapped x.marks (get_or nows i [])) (sym at)

-- a list for each part
pub zip-length : (P : Marked → List Bool → Type 0) (ms : List Marked) (nows : List (List Bool)) → AllZip P ms nows → length nows ≡ length ms
zip-length P [] [] zip = refl
zip-length P [] (n ∷ nows) zip = absurd zip
zip-length P (x ∷ ms) [] zip = absurd zip
zip-length P (x ∷ ms) (n ∷ nows) zip = ap suc (zip-length P ms nows zip.1)

pub zip-at : (P : Marked → List Bool → Type 0) (ms : List Marked) (nows : List (List Bool)) (i : ℕ) (m : Marked) → AllZip P ms nows → i < length ms → P (get_or ms i m) (get_or nows i [])
zip-at P [] nows i m zip within = absurd (omega (arith, within))
zip-at P (x ∷ ms) [] i m zip within = absurd zip
zip-at P (x ∷ ms) (n ∷ nows) zero m zip within = zip.0
zip-at P (x ∷ ms) (n ∷ nows) (suc i) m zip within = zip-at P ms nows i m zip.1 (omega (arith, within))

-- as many marks are told of a part as documents of it are live
pub mapped-live_in : (m : Marked) (now : List Bool) → length m.marks ≡ size m.source → length now ≡ size m.source → length (mapped m.marks now) ≡ length (live_in None m)
mapped-live_in m now whole same = (let r = reads-length None m.source in length-unmarked now (reads None m.source) m.marks (omega (arith, same, r)))

live-push : (ms : List Marked) (m : Marked) → length (live None (ms ++ m ∷ [])) ≡ length (live None ms) + length (live_in None m)
live-push [] m = (let a = length-append (live_in None m) [] in omega (arith, a))
live-push (x ∷ ms) m =
    let a = length-append (live_in None x) (live None (ms ++ m ∷ [])) in
    let b = length-append (live_in None x) (live None ms) in
    let behind = live-push ms m in
    omega (arith, a, b, behind)

pub live-next : (ms : List Marked) (i : ℕ) (m : Marked) → i < length ms → m ≡ get_or ms i m → length (live None (take (i + 1) ms)) ≡ length (live None (take i ms)) + length (live_in None m)
live-next ms i m within at =
    ap (λ (l : List Marked). length (live None l)) (take_more ms i m within) ∙ live-push (take i ms) (get_or ms i m) ∙ ap (λ (x : Marked). length (live None (take i ms)) + length (live_in None x)) (sym at)

pub live-front : (ms : List Marked) (i : ℕ) → length (live None (take i ms)) ≤ length (live None ms)
live-front ms zero = omega arith
live-front [] (suc i) = omega arith
live-front (m ∷ ms) (suc i) =
    let a = length-append (live_in None m) (live None ms) in
    let b = length-append (live_in None m) (live None (take i ms)) in
    let behind = live-front ms i in
    omega (arith, a, b, behind)

-- ---- what was told so far

-- so many flags were told, and the place is behind them
pub record IsTold (from : List (List Bool)) (at : ℕ) (flags : List Bool) (ms : List (List Bool)) (p i : ℕ) : Type 0 where
  pub marks : together ms ≡ marked_from (together from) at flags
  pub behind : before ms p i ≡ at + length flags
  pub place : IsPlace ms p i
  pub lengths : lengths ms ≡ lengths from

pub IsTold-then : (from : List (List Bool)) (at : ℕ) (fs gs : List Bool) (ms ns : List (List Bool)) (p i q j : ℕ) → IsTold from at fs ms p i
    → together ns ≡ marked_from (together ms) (before ms p i) gs → before ns q j ≡ before ms p i + length gs → IsPlace ns q j → lengths ns ≡ lengths ms → IsTold from at (fs ++ gs) ns q j
IsTold-then from at fs gs ms ns p i q j told marks behind place lengths = record {
  marks = marks ∙ ap (λ l. marked_from l (before ms p i) gs) told.marks ∙ ap (λ n. marked_from (marked_from (together from) at fs) n gs) told.behind ∙ sym (marked_from-append (together from) at fs gs);
  behind = (let a = length-append fs gs in let b = told.behind in omega (arith, a, b, behind));
  place = place;
  lengths = lengths ∙ told.lengths;
}
