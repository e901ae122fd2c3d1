-- What is left of parts from a place on, and how it gets less.
use Rattle.std.proofs.Common.{◌≡◌, ◌<◌, ◌≤◌, ◌+◌, ◌*◌, ◌/◌, ◌%◌, ℕ, zero, suc, Bool, true, false, List, [], ◌∷◌, ◌++◌, length, map, get_or, take, drop, refl, ap, sym, ◌∙◌, arith, Option, None, append_assoc, length-append}
use Rattle.std.proofs.lemmas.List.{length-map, take_at, drop_more, get_or-take, get_or-drop, length-take, length-drop, map-append}
use Rattle.std.proofs.lemmas.List.Sums.{sum_by-cons}
use Rattle.ri_base.specs.Collection.{token_count}
use Rattle.ri_base.specs.Documents.{Document}
use Rattle.ri_base.specs.declared.limits.TheConstants.{MAX_HELD_TOKENS}
use Rattle.store_ends.specs.Files.{Files}
use Rattle.seg_codec.specs.Segment.{entry_of}
use Rattle.seg_codec.specs.declared.documents.Entry.{Entry}
use Rattle.disk_index.specs.Blocks.{told_file}
use Rattle.disk_index.specs.Parts.{Source, InMemory, OnDisk, reads, size}
use Rattle.disk_index.specs.Snapshots.{IsSnapshot, Marked, live, live_in, unmarked}
use Rattle.disk_index.proofs.LiveLemmas.{live-short, sum-live}
use Rattle.disk_index.proofs.RebuiltLemmas.{reads-length, rebuilt-outlines}
use Rattle.merge_job.specs.Walk.{all_of, entries, rest, rest_in, tokens_of}

-- ---- how many

-- as many are unmarked of one list as of another of its length
pub length-unmarked : {A B : Type 0} (xs : List A) (ys : List B) (ms : List Bool) → length xs ≡ length ys → length (unmarked xs ms) ≡ length (unmarked ys ms)
length-unmarked [] [] ms e = refl
length-unmarked [] (y ∷ ys) ms e = absurd (omega (arith, e))
length-unmarked (x ∷ xs) [] ms e = absurd (omega (arith, e))
length-unmarked (x ∷ xs) (y ∷ ys) [] e = refl
length-unmarked (x ∷ xs) (y ∷ ys) (true ∷ ms) e = length-unmarked xs ys ms (omega (arith, e))
length-unmarked (x ∷ xs) (y ∷ ys) (false ∷ ms) e = ap suc (length-unmarked xs ys ms (omega (arith, e)))

length-drops : {A B : Type 0} (i : ℕ) (xs : List A) (ys : List B) → length xs ≡ length ys → length (drop i xs) ≡ length (drop i ys)
length-drops i xs ys e = (let a = length-drop i xs in let b = length-drop i ys in omega (arith, a, b, e))

length-all : {A B : Type 0} (f : Source → List A) (g : Source → List B) → ((s : Source) → length (f s) ≡ length (g s)) → (parts : List Marked) → length (all_of f parts) ≡ length (all_of g parts)
length-all f g same [] = refl
length-all f g same (m ∷ ms) =
    let a = length-append (unmarked (f m.source) m.marks) (all_of f ms) in
    let b = length-append (unmarked (g m.source) m.marks) (all_of g ms) in
    let here = length-unmarked (f m.source) (g m.source) m.marks (same m.source) in
    let behind = length-all f g same ms in
    omega (arith, a, b, here, behind)

pub length-rest : {A B : Type 0} (f : Source → List A) (g : Source → List B) → ((s : Source) → length (f s) ≡ length (g s)) → (parts : List Marked) (p i : ℕ) → length (rest f parts p i) ≡ length (rest g parts p i)
length-rest f g same [] p i = refl
length-rest f g same (m ∷ ms) zero i =
    let a = length-append (rest_in f m i) (all_of f ms) in
    let b = length-append (rest_in g m i) (all_of g ms) in
    let here = length-unmarked (drop i (f m.source)) (drop i (g m.source)) (drop i m.marks) (length-drops i (f m.source) (g m.source) (same m.source)) in
    let behind = length-all f g same ms in
    omega (arith, a, b, here, behind)
length-rest f g same (m ∷ ms) (suc p) i = length-rest f g same ms p i

-- ---- documents without their tokens

pub entries-reads : (told : Option Files) (s : Source) → map entry_of (reads told s) ≡ entries s
entries-reads told (InMemory docs) = refl
entries-reads told (OnDisk kept) = rebuilt-outlines kept (told_file told kept.number)

pub length-entries : (s : Source) → length (entries s) ≡ size s
length-entries (InMemory docs) = length-map docs entry_of
length-entries (OnDisk kept) = refl

pub reads-entries : (told : Option Files) (s : Source) → length (reads told s) ≡ length (entries s)
reads-entries told s = (let a = reads-length told s in let b = length-entries s in omega (arith, a, b))

map-unmarked : {A B : Type 0} (f : A → B) (xs : List A) (ms : List Bool) → map f (unmarked xs ms) ≡ unmarked (map f xs) ms
map-unmarked f [] ms = refl
map-unmarked f (x ∷ xs) [] = refl
map-unmarked f (x ∷ xs) (true ∷ ms) = map-unmarked f xs ms
map-unmarked f (x ∷ xs) (false ∷ ms) = ap (λ l. f x ∷ l) (map-unmarked f xs ms)

-- those of the live documents
pub entries-live : (told : Option Files) (parts : List Marked) → map entry_of (live told parts) ≡ all_of entries parts
entries-live told [] = refl
entries-live told (m ∷ ms) =
    let here : map entry_of (live_in told m) ≡ unmarked (entries m.source) m.marks = map-unmarked entry_of (reads told m.source) m.marks ∙ ap (λ (l : List Entry). unmarked l m.marks) (entries-reads told m.source) in
    map-append entry_of (live_in told m) (live told ms) ∙ ap (λ (l : List Entry). l ++ map entry_of (live told ms)) here ∙ ap (λ (l : List Entry). unmarked (entries m.source) m.marks ++ l) (entries-live told ms)

-- they have as many tokens
pub tokens-entries : (docs : List Document) → tokens_of (map entry_of docs) ≡ token_count docs
tokens-entries [] = refl
tokens-entries (d ∷ docs) =
    let a = sum_by-cons (λ (e : Entry). e.tokens) (entry_of d) (map entry_of docs) in
    let b = sum_by-cons (λ (x : Document). length x.tokens) d docs in
    let behind = tokens-entries docs in
    omega (arith, a, b, behind)

pub tokens-all : (parts : List Marked) → IsSnapshot parts → tokens_of (all_of entries parts) ≤ MAX_HELD_TOKENS
tokens-all parts bounds =
    let same = ap tokens_of (sym (entries-live None parts)) ∙ tokens-entries (live None parts) in
    let sum = sum-live (λ (d : Document). length d.tokens) None parts in
    let few = live-short None parts in
    let most = bounds.short None in
    omega (arith, same, sum, few, most)

-- ---- what is left

pub rest-all : {A : Type 0} (f : Source → List A) (parts : List Marked) → rest f parts 0 0 ≡ all_of f parts
rest-all f [] = refl
rest-all f (m ∷ ms) = refl

-- a part, and what is behind it
pub rest-part : {A : Type 0} (f : Source → List A) (parts : List Marked) (p i : ℕ) (d : Marked) → p < length parts → rest f parts p i ≡ rest_in f (get_or parts p d) i ++ rest f parts (suc p) 0
rest-part f [] p i d within = absurd (omega (arith, within))
rest-part f (m ∷ ms) zero i d within = ap (λ l. rest_in f m i ++ l) (sym (rest-all f ms))
rest-part f (m ∷ ms) (suc p) i d within = rest-part f ms p i d (omega (arith, within))

pub rest-past : {A : Type 0} (f : Source → List A) (parts : List Marked) (p i : ℕ) → length parts ≤ p → rest f parts p i ≡ []
rest-past f [] p i past = refl
rest-past f (m ∷ ms) zero i past = absurd (omega (arith, past))
rest-past f (m ∷ ms) (suc p) i past = rest-past f ms p i (omega (arith, past))

unmarked-none : {A : Type 0} (xs : List A) → unmarked xs [] ≡ []
unmarked-none [] = refl
unmarked-none (x ∷ xs) = refl

pub unmarked-split : {A : Type 0} (xs : List A) (ms : List Bool) (i : ℕ) → unmarked (take i xs) (take i ms) ++ unmarked (drop i xs) (drop i ms) ≡ unmarked xs ms
unmarked-split xs ms zero = refl
unmarked-split [] ms (suc i) = refl
unmarked-split (x ∷ xs) [] (suc i) = unmarked-none (drop i xs)
unmarked-split (x ∷ xs) (true ∷ ms) (suc i) = unmarked-split xs ms i
unmarked-split (x ∷ xs) (false ∷ ms) (suc i) = ap (λ l. x ∷ l) (unmarked-split xs ms i)

-- what is before the place
pub rest-suffix : {A : Type 0} (f : Source → List A) (parts : List Marked) (p i : ℕ) → (front : List A) × (front ++ rest f parts p i ≡ all_of f parts)
rest-suffix f [] p i = ([], refl)
rest-suffix f (m ∷ ms) zero i =
    (unmarked (take i (f m.source)) (take i m.marks), sym (append_assoc (unmarked (take i (f m.source)) (take i m.marks)) (rest_in f m i) (all_of f ms)) ∙ ap (λ l. l ++ all_of f ms) (unmarked-split (f m.source) m.marks i))
rest-suffix f (m ∷ ms) (suc p) i =
    let r = rest-suffix f ms p i in
    (unmarked (f m.source) m.marks ++ r.0, append_assoc (unmarked (f m.source) m.marks) r.0 (rest f ms p i) ∙ ap (λ l. unmarked (f m.source) m.marks ++ l) r.1)

-- what was taken and what is left
pub append-taken : {A : Type 0} (taken behind whole : List A) → taken ++ behind ≡ whole → taken ≡ take (length taken) whole
append-taken taken behind whole e = sym (take_at taken behind (length taken) refl) ∙ ap (take (length taken)) e

pub taken-append : {A : Type 0} (taken front behind whole : List A) → front ++ behind ≡ whole → length taken + length behind ≡ length whole → taken ≡ take (length taken) whole → taken ++ behind ≡ whole
taken-append taken front behind whole e n t =
    let long : length front ≡ length taken = (let a = ap length (sym e) ∙ length-append front behind in omega (arith, a, n)) in
    let same : taken ≡ front = t ∙ ap (take (length taken)) (sym e) ∙ take_at front behind (length taken) long in
    ap (λ l. l ++ behind) same ∙ e

-- ---- one id further

pub rest_in-live : {A : Type 0} (xs : List A) (ms : List Bool) (i : ℕ) (x : A) → i < length xs → length ms ≡ length xs → get_or ms i false ≡ false → unmarked (drop i xs) (drop i ms) ≡ get_or xs i x ∷ unmarked (drop (i + 1) xs) (drop (i + 1) ms)
rest_in-live xs ms i x within long live =
    let a = drop_more xs i x within in
    let b : drop i ms ≡ false ∷ drop (i + 1) ms = drop_more ms i false (omega (arith, within, long)) ∙ ap (λ b. b ∷ drop (i + 1) ms) live in
    ap (λ l. unmarked l (drop i ms)) a ∙ ap (λ l. unmarked (get_or xs i x ∷ drop (i + 1) xs) l) b

pub rest_in-dead : {A : Type 0} (xs : List A) (ms : List Bool) (i : ℕ) → i < length xs → length ms ≡ length xs → get_or ms i false ≡ true → unmarked (drop i xs) (drop i ms) ≡ unmarked (drop (i + 1) xs) (drop (i + 1) ms)
rest_in-dead [] ms i within long dead = absurd (omega (arith, within))
rest_in-dead (y ∷ ys) ms i within long dead =
    let a = drop_more (y ∷ ys) i y within in
    let b : drop i ms ≡ true ∷ drop (i + 1) ms = drop_more ms i false (omega (arith, within, long)) ∙ ap (λ b. b ∷ drop (i + 1) ms) dead in
    ap (λ l. unmarked l (drop i ms)) a ∙ ap (λ l. unmarked (get_or (y ∷ ys) i y ∷ drop (i + 1) (y ∷ ys)) l) b

-- the document of an id is in its range
pub in-range : {A : Type 0} (xs : List A) (i : ℕ) (d : A) → i < length xs → get_or (take 64 (drop (64 * (i / 64)) xs)) (i % 64) d ≡ get_or xs i d
in-range xs i d within =
    let r : i % 64 < 64 = omega arith in
    let q : 64 * (i / 64) + i % 64 ≡ i = omega arith in
    get_or-take 64 (drop (64 * (i / 64)) xs) (i % 64) d r ∙ get_or-drop (64 * (i / 64)) xs (i % 64) d ∙ ap (λ n. get_or xs n d) q

pub length-range : {A : Type 0} (xs : List A) (i : ℕ) → i < length xs → i % 64 < length (take 64 (drop (64 * (i / 64)) xs))
length-range xs i within =
    let a = length-take 64 (drop (64 * (i / 64)) xs) in
    let b = length-drop (64 * (i / 64)) xs in
    omega (arith, a, b, within)
