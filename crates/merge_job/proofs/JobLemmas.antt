-- A turn of a job, and its end.
use Rattle.std.proofs.Common.{◌≡◌, ◌≤◌, ◌+◌, ℕ, Bool, false, List, [], ◌∷◌, ◌++◌, length, map, take, drop, replicate, None, refl, ap, sym, subst, ◌∙◌, arith, length-append, Option}
use Rattle.std.specs.List.{All, flat_map}
use Rattle.std.proofs.lemmas.List.{append-nil, length-map, drop_all, take_all, nil_from_length, length-replicate, replicate-append-replicate}
use Rattle.std.proofs.lemmas.List.Elements.{All-cons, All-head, All-tail, All-nil}
use Rattle.ri_base.specs.Collection.{token_count}
use Rattle.ri_base.specs.Documents.{Document}
use Rattle.ri_base.specs.declared.limits.TheConstants.{MAX_HELD_TOKENS}
use Rattle.store_ends.specs.Files.{Files}
use Rattle.seg_codec.specs.Segment.{entry_of}
use Rattle.disk_index.specs.Parts.{reads}
use Rattle.disk_index.specs.Snapshots.{IsSnapshot, Marked, live}
use Rattle.merge_job.specs.Closed.{AreClosed, IsUnmarked}
use Rattle.merge_job.specs.Cut.{AreCut, Copies}
use Rattle.merge_job.specs.Marking.{IsPlace, lengths, marked_from, together}
use Rattle.merge_job.specs.Marks.{all_mapped}
use Rattle.merge_job.specs.Merge.{IsJob, IsMerged, Merging, size_of}
use Rattle.merge_job.specs.NewParts.{all_docs, docs_in, marks_in}
use Rattle.merge_job.specs.Walk.{all_of, entries, rest, tokens_of}
use Rattle.merge_job.specs.declared.merged.MergedPart.{MergedPart}
use Rattle.merge_job.proofs.CopyLemmas.{tokens-left}
use Rattle.merge_job.proofs.MarkLemmas.{marked-all}
use Rattle.merge_job.proofs.WalkLemmas.{append-taken, entries-live, length-rest, reads-entries, rest-suffix, taken-append, tokens-all}

-- ---- what is left

length-live : (told : Option Files) (parts : List Marked) → length (all_of entries parts) ≡ length (live told parts)
length-live told parts = ap length (sym (entries-live told parts)) ∙ length-map (live told parts) entry_of

pub job-lengths : (m : Merging) (size p i : ℕ) → IsJob m size p i → length m.copied + length (rest entries m.snapshot p i) ≡ size
job-lengths m size p i job =
    let a = ap length job.reached in
    let b = length-append (map entry_of m.copied) (rest entries m.snapshot p i) in
    let c = length-map m.copied entry_of in
    let d = length-live None m.snapshot in
    let e = job.sized None in
    omega (arith, a, b, c, d, e)

pub job-tokens : (m : Merging) (size p i : ℕ) → IsSnapshot m.snapshot → IsJob m size p i → token_count m.copied + tokens_of (rest entries m.snapshot p i) ≤ MAX_HELD_TOKENS
job-tokens m size p i bounds job = (let all = tokens-all m.snapshot bounds in tokens-left [] m.copied (all_of entries m.snapshot) (rest entries m.snapshot p i) job.reached (omega (arith, all)))

-- what was taken goes on to be taken
pub taken-on : (told : Option Files) (parts : List Marked) (p i q j : ℕ) (xs ys : List Document) → length xs + length (rest entries parts p i) ≡ length (live told parts) → xs ≡ take (length xs) (live told parts)
    → ys ++ rest (reads told) parts q j ≡ xs ++ rest (reads told) parts p i → ys ≡ take (length ys) (live told parts)
taken-on told parts p i q j xs ys n taken e =
    let s = rest-suffix (reads told) parts p i in
    let l : length xs + length (rest (reads told) parts p i) ≡ length (live told parts) = (let a = length-rest (reads told) entries (reads-entries told) parts p i in omega (arith, n, a)) in
    append-taken ys (rest (reads told) parts q j) (live told parts) (e ∙ taken-append xs s.0 (rest (reads told) parts p i) (live told parts) s.1 l taken)

-- where all are copied nothing is left
pub all-entries : (told : Option Files) (m : Merging) (size p i : ℕ) → IsJob m size p i → length m.copied ≡ size_of m → map entry_of m.copied ≡ map entry_of (live told m.snapshot)
all-entries told m size p i job all =
    let n = job-lengths m size p i job in
    let s = job.sized None in
    let none = nil_from_length (rest entries m.snapshot p i) (omega (arith, n, s, all)) in
    sym (append-nil (map entry_of m.copied)) ∙ ap (λ l. map entry_of m.copied ++ l) (sym none) ∙ job.reached ∙ sym (entries-live told m.snapshot)

-- ---- the marks of parts that are closed

marks-some : (most : ℕ) (ps : List MergedPart) → All IsUnmarked ps → AreCut most (docs_in ps) → All (λ ms. 1 ≤ length ms) (marks_in ps)
marks-some most [] unmarked cut = All-nil _
marks-some most (p ∷ ps) unmarked cut =
    let n = ap length (All-head IsUnmarked p ps unmarked) ∙ length-replicate (length p.docs) false in
    let some = cut.0.0 in
    All-cons (λ (ms : List Bool). 1 ≤ length ms) p.marks (marks_in ps) (omega (arith, n, some)) (marks-some most ps (All-tail IsUnmarked p ps unmarked) cut.2)

pub closed-place : (c : Copies) (ps : List MergedPart) → AreClosed c ps → IsPlace (marks_in ps) 0 0
closed-place c ps closed = record { within = omega arith; some = marks-some c.most ps closed.unmarked closed.cut }

unmarked-together : (ps : List MergedPart) → All IsUnmarked ps → together (marks_in ps) ≡ replicate (length (all_docs ps)) false
unmarked-together [] unmarked = refl
unmarked-together (p ∷ ps) unmarked =
    ap (λ (l : List Bool). l ++ together (marks_in ps)) (All-head IsUnmarked p ps unmarked)
    ∙ ap (λ l. replicate (length p.docs) false ++ l) (unmarked-together ps (All-tail IsUnmarked p ps unmarked))
    ∙ replicate-append-replicate (length p.docs) (length (all_docs ps)) false
    ∙ ap (λ n. replicate n false) (sym (length-append p.docs (all_docs ps)))

pub closed-together : (c : Copies) (ps : List MergedPart) → AreClosed c ps → together (marks_in ps) ≡ replicate (length c.docs) false
closed-together c ps closed = unmarked-together ps closed.unmarked ∙ ap (λ (ds : List Document). replicate (length ds) false) closed.docs

flat-map : {A B C : Type 0} (g : B → List C) (f : A → B) (xs : List A) → flat_map g (map f xs) ≡ flat_map (λ x. g (f x)) xs
flat-map g f [] = refl
flat-map g f (x ∷ xs) = ap (λ l. g (f x) ++ l) (flat-map g f xs)

news-whole : (ps qs : List MergedPart) → All IsUnmarked ps → docs_in qs ≡ docs_in ps
    → lengths (marks_in qs) ≡ lengths (marks_in ps) → All (λ p. length p.marks ≡ length p.docs) qs
news-whole ps [] unmarked docs long = All-nil _
news-whole [] (q ∷ qs) unmarked docs long = cc
news-whole (p ∷ ps) (q ∷ qs) unmarked docs long =
    let d : q.docs ≡ p.docs = cc in
    let l : length q.marks ≡ length p.marks = cc in
    let behind-docs : docs_in qs ≡ docs_in ps = cc in
    let behind-lengths : lengths (marks_in qs) ≡ lengths (marks_in ps) = cc in
    let n = ap length (All-head IsUnmarked p ps unmarked) ∙ length-replicate (length p.docs) false in
    All-cons (λ (x : MergedPart). length x.marks ≡ length x.docs) q qs (l ∙ n ∙ ap length (sym d)) (news-whole ps qs (All-tail IsUnmarked p ps unmarked) behind-docs behind-lengths)

-- parts that were closed, once the marks of now are told
pub merged-is : (m : Merging) (nows : List (List Bool)) (c : Copies) (ps qs : List MergedPart) → AreClosed c ps → c.docs ≡ m.copied → c.most ≡ m.most
    → together (marks_in qs) ≡ marked_from (together (marks_in ps)) 0 (all_mapped m.snapshot nows)
    → docs_in qs ≡ docs_in ps
    → lengths (marks_in qs) ≡ lengths (marks_in ps)
    → length (all_mapped m.snapshot nows) ≡ length m.copied → IsMerged m nows qs
merged-is m nows c ps qs closed copied most marks docs long told = record {
  docs = sym (flat-map (λ (ds : List Document). ds) (λ (p : MergedPart). p.docs) qs) ∙ ap (flat_map (λ (ds : List Document). ds)) docs ∙ flat-map (λ (ds : List Document). ds) (λ (p : MergedPart). p.docs) ps ∙ closed.docs ∙ copied;
  marks = sym (flat-map (λ (ms : List Bool). ms) (λ (p : MergedPart). p.marks) qs) ∙ marks ∙ ap (λ (l : List Bool). marked_from l 0 (all_mapped m.snapshot nows)) (closed-together c ps closed)
      ∙ marked-all [] (length c.docs) (all_mapped m.snapshot nows) (told ∙ ap length (sym copied));
  whole = news-whole ps qs closed.unmarked docs long;
  cut = subst (λ (n : ℕ). AreCut n (docs_in qs)) most (subst (λ (ds : List (List Document)). AreCut c.most ds) (sym docs) closed.cut);
}

-- a list that is written over whole
pub written-back : {A : Type 0} (new old : List A) (n : ℕ) → length new ≡ length old → n ≡ length old → take n (new ++ drop (length new) old) ≡ new
written-back new old n same len =
    ap (λ l. take n (new ++ l)) (drop_all (length new) old (omega (arith, same))) ∙ ap (take n) (append-nil new) ∙ take_all n new (omega (arith, same, len))
