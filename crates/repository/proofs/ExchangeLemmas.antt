-- What parts read as where new parts of a merge stand in the place of the first ones.
use Rattle.std.proofs.Common.{◌≡◌, ◌≤◌, ◌-◌, ℕ, Bool, true, false, List, [], ◌∷◌, ◌++◌, length, map, take, drop, Option, None, refl, ap, sym, subst, ◌∙◌, arith, length-append}
use Rattle.std.specs.List.{All, AllZip, flat_map}
use Rattle.std.specs.Prelude.{sum_by}
use Rattle.std.proofs.lemmas.Grind.{flat_map-append}
use Rattle.std.proofs.lemmas.List.{append-nil, drop-append-le, length-map, map-append, take-append-drop, take-append-le}
use Rattle.std.proofs.lemmas.List.Elements.{All-append, All-cons, All-drop, All-head, All-nil, All-tail}
use Rattle.std.proofs.lemmas.List.Sums.{sum_by-append, sum_by-cons}
use Rattle.std.proofs.lemmas.Simd.{map-map}
use Rattle.ri_base.specs.Collection.{token_count}
use Rattle.ri_base.specs.Documents.{Document}
use Rattle.ri_base.specs.declared.limits.TheConstants.{MAX_PART_DOCS}
use Rattle.seg_codec.specs.Segment.{entry_of}
use Rattle.seg_codec.specs.declared.documents.Entry.{Entry}
use Rattle.store_ends.specs.Files.{Files}
use Rattle.disk_index.specs.Parts.{IsPartBacked, IsPartIntact, Source, outlines_of, reads, size}
use Rattle.disk_index.specs.Snapshots.{Marked, documents_held, live, live_in, unmarked}
use Rattle.disk_index.proofs.AlikeLemmas.{map-unmarked, outlines-reads, size-alike, tokens-outlines}
use Rattle.disk_index.proofs.RebuiltLemmas.{reads-length}
use Rattle.holdings.specs.MarkedParts.{IsWhole, IsWritable, docnos_of, filled, tokens_held, tokens_in}
use Rattle.holdings.specs.Parts.{Parts, closed_by, sealed}
use Rattle.holdings.proofs.LiveLemmas.{docnos-live, tokens-reads}
use Rattle.holdings.proofs.MovedLemmas.{tokens-alike}
use Rattle.merge_job.specs.Cut.{AreCut}
use Rattle.merge_job.specs.Marks.{HaveGrown, all_mapped}
use Rattle.merge_job.specs.Merge.{AreTaken, Merging, live_new, under}
use Rattle.merge_job.specs.NewParts.{all_docs, all_marks, docs_in}
use Rattle.merge_job.specs.declared.merged.MergedPart.{MergedPart}
use Rattle.merge_job.proofs.LawLemmas.{live-under, merged-live, new-together}
use Rattle.repository.specs.Merges.{IsExchange, ReadAlike, dead_documents, dead_tokens, held_part, marks_of}
use Rattle.repository.specs.States.{IsSized, numbers_in, part_numbers}
use Rattle.repository.specs.Ties.{Begins}
use Rattle.repository.proofs.TieLemmas.{source-alike}

-- ---- the first parts, and those of the snapshot under their marks

pub begins-zip : (ms ps : List Marked) → All IsWhole ps → Begins ms ps → AllZip (λ m marks. length marks ≡ size m.source) ms (marks_of (take (length ms) ps))
begins-zip [] ps whole begins = tt
begins-zip (m ∷ ms) [] whole begins = absurd begins
begins-zip (m ∷ ms) (p ∷ ps) whole begins =
    (All-head IsWhole p ps whole ∙ size-alike m.source p.source (source-alike m.source p.source begins.0.0), begins-zip ms ps (All-tail IsWhole p ps whole) begins.1)

begins-grown : (ms ps : List Marked) → Begins ms ps → HaveGrown ms (marks_of (take (length ms) ps))
begins-grown [] ps begins = tt
begins-grown (m ∷ ms) [] begins = absurd begins
begins-grown (m ∷ ms) (p ∷ ps) begins = (begins.0.1, begins-grown ms ps begins.1)

under-alike : (told : Option Files) (ms ps : List Marked) → ReadAlike told ms ps → live told (under ms (marks_of (take (length ms) ps))) ≡ live told (take (length ms) ps)
under-alike told [] ps alike = refl
under-alike told (m ∷ ms) [] alike = absurd alike
under-alike told (m ∷ ms) (p ∷ ps) alike =
    ap (λ (l : List Document). l ++ live told (under ms (marks_of (take (length ms) ps)))) (sym alike.0) ∙ ap (λ (l : List Document). unmarked (reads told p.source) p.marks ++ l) (under-alike told ms ps alike.1)

pub entries-in : (told : Option Files) (s : Source) (marks : List Bool) → map entry_of (unmarked (reads told s) marks) ≡ unmarked (outlines_of s) marks
entries-in told s marks = map-unmarked entry_of (reads told s) marks ∙ ap (λ (os : List Entry). unmarked os marks) (outlines-reads told s)

under-entries : (told : Option Files) (ms ps : List Marked) → Begins ms ps → map entry_of (live told (under ms (marks_of (take (length ms) ps)))) ≡ map entry_of (live told (take (length ms) ps))
under-entries told [] ps begins = refl
under-entries told (m ∷ ms) [] begins = absurd begins
under-entries told (m ∷ ms) (p ∷ ps) begins =
    let here : map entry_of (unmarked (reads told m.source) p.marks) ≡ map entry_of (unmarked (reads told p.source) p.marks) =
    entries-in told m.source p.marks ∙ ap (λ (os : List Entry). unmarked os p.marks) (sym (source-alike m.source p.source begins.0.0)) ∙ sym (entries-in told p.source p.marks) in
    map-append entry_of (unmarked (reads told m.source) p.marks) (live told (under ms (marks_of (take (length ms) ps))))
    ∙ ap (λ (l : List Entry). l ++ map entry_of (live told (under ms (marks_of (take (length ms) ps))))) here
    ∙ ap (λ (l : List Entry). map entry_of (unmarked (reads told p.source) p.marks) ++ l) (under-entries told ms ps begins.1) ∙ sym (map-append entry_of (unmarked (reads told p.source) p.marks) (live told (take (length ms) ps)))

-- ---- new parts

live-held : (told : Option Files) (news : List MergedPart) → live told (map held_part news) ≡ live_new news
live-held told [] = refl
live-held told (n ∷ ns) = ap (λ (l : List Document). unmarked n.docs n.marks ++ l) (live-held told ns)

numbers-new : (news : List MergedPart) → part_numbers (map held_part news) ≡ []
numbers-new [] = refl
numbers-new (n ∷ ns) = numbers-new ns

intact-new : (told : Option Files) (news : List MergedPart) → All (λ (m : Marked). IsPartIntact told m.source) (map held_part news)
intact-new told [] = All-nil _
intact-new told (n ∷ ns) = All-cons (λ (m : Marked). IsPartIntact told m.source) (held_part n) (map held_part ns) tt (intact-new told ns)

pub backed-new : (told : Option Files) (news : List MergedPart) → All (λ (m : Marked). IsPartBacked told m.source) (map held_part news)
backed-new told [] = All-nil _
backed-new told (n ∷ ns) = All-cons (λ (m : Marked). IsPartBacked told m.source) (held_part n) (map held_part ns) tt (backed-new told ns)

cut-writable : (most : ℕ) (news : List MergedPart) → most ≤ MAX_PART_DOCS → AreCut most (docs_in news) → All (λ (m : Marked). IsWritable m.source) (map held_part news)
cut-writable most [] small cut = All-nil _
cut-writable most (n ∷ ns) small cut =
    let few = cut.0.1 in
    All-cons (λ (m : Marked). IsWritable m.source) (held_part n) (map held_part ns) (omega (arith, few, small), cut.0.2) (cut-writable most ns small cut.2)

cut-sized : (most : ℕ) (news : List MergedPart) → AreCut most (docs_in news) → All IsSized (map held_part news)
cut-sized most [] cut = All-nil _
cut-sized most (n ∷ ns) cut = All-cons IsSized (held_part n) (map held_part ns) cut.0.0 (cut-sized most ns cut.2)

documents-new : (news : List MergedPart) → documents_held (map held_part news) ≡ length (all_docs news)
documents-new [] = refl
documents-new (n ∷ ns) =
    let rest = documents-new ns in
    omega (arith, rest, sum_by-cons (λ (m : Marked). size m.source) (held_part n) (map held_part ns), length-append n.docs (all_docs ns))

tokens-new : (news : List MergedPart) → tokens_held (map held_part news) ≡ token_count (all_docs news)
tokens-new [] = refl
tokens-new (n ∷ ns) =
    let rest = tokens-new ns in
    let both = sum_by-append (λ (d : Document). length d.tokens) n.docs (all_docs ns) in
    omega (arith, rest, both, sum_by-cons (λ (m : Marked). tokens_in m.source) (held_part n) (map held_part ns))

-- ---- sums over the snapshot

documents-begin : (ms ps : List Marked) → Begins ms ps → documents_held (take (length ms) ps) ≡ documents_held ms
documents-begin [] ps begins = refl
documents-begin (m ∷ ms) [] begins = absurd begins
documents-begin (m ∷ ms) (p ∷ ps) begins =
    let here = size-alike m.source p.source (source-alike m.source p.source begins.0.0) in
    let rest = documents-begin ms ps begins.1 in
    omega (arith, here, rest, sum_by-cons (λ (x : Marked). size x.source) p (take (length ms) ps), sum_by-cons (λ (x : Marked). size x.source) m ms)

tokens-begin : (ms ps : List Marked) → Begins ms ps → tokens_held (take (length ms) ps) ≡ tokens_held ms
tokens-begin [] ps begins = refl
tokens-begin (m ∷ ms) [] begins = absurd begins
tokens-begin (m ∷ ms) (p ∷ ps) begins =
    let here = tokens-alike m.source p.source (source-alike m.source p.source begins.0.0) in
    let rest = tokens-begin ms ps begins.1 in
    omega (arith, here, rest, sum_by-cons (λ (x : Marked). tokens_in x.source) p (take (length ms) ps), sum_by-cons (λ (x : Marked). tokens_in x.source) m ms)

fewer-unmarked : {A : Type 0} (f : A → ℕ) (xs : List A) (ms : List Bool) → sum_by f (unmarked xs ms) ≤ sum_by f xs
fewer-unmarked f [] ms = omega arith
fewer-unmarked f (x ∷ xs) [] = omega arith
fewer-unmarked f (x ∷ xs) (true ∷ ms) = (let rest = fewer-unmarked f xs ms in omega (arith, rest, sum_by-cons f x xs))
fewer-unmarked f (x ∷ xs) (false ∷ ms) = (let rest = fewer-unmarked f xs ms in omega (arith, rest, sum_by-cons f x xs, sum_by-cons f x (unmarked xs ms)))

short-unmarked : {A : Type 0} (xs : List A) (ms : List Bool) → length (unmarked xs ms) ≤ length xs
short-unmarked [] ms = omega arith
short-unmarked (x ∷ xs) [] = omega arith
short-unmarked (x ∷ xs) (true ∷ ms) = (let rest = short-unmarked xs ms in omega (arith, rest))
short-unmarked (x ∷ xs) (false ∷ ms) = (let rest = short-unmarked xs ms in omega (arith, rest))

pub live-few : (ms : List Marked) → length (live None ms) ≤ documents_held ms
live-few [] = omega arith
live-few (m ∷ ms) =
    let here = short-unmarked (reads None m.source) m.marks in
    let all = reads-length None m.source in
    let rest = live-few ms in
    omega (arith, here, all, rest, length-append (live_in None m) (live None ms), sum_by-cons (λ (x : Marked). size x.source) m ms)

pub live-short : (ms : List Marked) → token_count (live None ms) ≤ tokens_held ms
live-short [] = omega arith
live-short (m ∷ ms) =
    let here = fewer-unmarked (λ (d : Document). length d.tokens) (reads None m.source) m.marks in
    let all = tokens-reads None m.source in
    let rest = live-short ms in
    let both = sum_by-append (λ (d : Document). length d.tokens) (live_in None m) (live None ms) in
    omega (arith, here, all, rest, both, sum_by-cons (λ (x : Marked). tokens_in x.source) m ms)

-- ---- parts that were exchanged

module _ (m : Merging) (old new : List Marked) (ex : IsExchange m old new) (begins : Begins m.snapshot old) (whole : All IsWhole old) where
  abbrev n : ℕ
  n = length m.snapshot

  abbrev nows : List (List Bool)
  nows = marks_of (take n old)

  halves : {B : Type 0} (f : Marked → List B) → flat_map f (take n old) ++ flat_map f (drop n old) ≡ flat_map f old
  halves f = sym (flat_map-append f (take n old) (drop n old)) ∙ ap (flat_map f) (take-append-drop n old)

  parts-live : (told : Option Files) → live told new ≡ live_new ex.news ++ live told (drop n old)
  parts-live told = ap (live told) ex.parts ∙ flat_map-append (live_in told) (map held_part ex.news) (drop n old) ∙ ap (λ (l : List Document). l ++ live told (drop n old)) (live-held told ex.news)

  copied-live : (told : Option Files) → length m.copied ≡ length (live told m.snapshot)
  copied-live told = sym (length-map m.copied entry_of) ∙ ap (λ (os : List Entry). length os) (ex.entries told) ∙ length-map (live told m.snapshot) entry_of

  -- the live documents stay where what was copied is what the snapshot reads as
  pub live-exchanged : (told : Option Files) → ReadAlike told m.snapshot old → AreTaken told m → live told new ≡ live told old
  live-exchanged told alike taken =
      parts-live told
      ∙ ap (λ (l : List Document). l ++ live told (drop n old))
      (merged-live told m nows ex.news ex.merged (copied-live told) taken (begins-zip m.snapshot old whole begins) (begins-grown m.snapshot old begins) ∙ under-alike told m.snapshot old alike) ∙ halves (live_in told)

  -- without their tokens they stay whatever the files are
  entries-exchanged : (told : Option Files) → map entry_of (live told new) ≡ map entry_of (live told old)
  entries-exchanged told =
      let marks = all_mapped m.snapshot nows in
      let made : map entry_of (live_new ex.news) ≡ map entry_of (live told (take n old)) =
      ap (map entry_of) (new-together ex.news ex.merged.whole ∙ ap (λ (ds : List Document). unmarked ds (all_marks ex.news)) ex.merged.docs ∙ ap (unmarked m.copied) ex.merged.marks)
      ∙ map-unmarked entry_of m.copied marks ∙ ap (λ (os : List Entry). unmarked os marks) (ex.entries told) ∙ sym (map-unmarked entry_of (live told m.snapshot) marks)
      ∙ ap (map entry_of) (live-under told m.snapshot nows (begins-zip m.snapshot old whole begins) (begins-grown m.snapshot old begins)) ∙ under-entries told m.snapshot old begins in
      ap (map entry_of) (parts-live told) ∙ map-append entry_of (live_new ex.news) (live told (drop n old)) ∙ ap (λ (l : List Entry). l ++ map entry_of (live told (drop n old))) made
      ∙ sym (map-append entry_of (live told (take n old)) (live told (drop n old))) ∙ ap (map entry_of) (halves (live_in told))

  docnos-entries : (ds : List Document) → map (λ (d : Document). d.docno) ds ≡ map (λ (o : Entry). o.docno) (map entry_of ds)
  docnos-entries ds = sym (map-map (λ (o : Entry). o.docno) entry_of ds)

  pub docnos-exchanged : docnos_of new ≡ docnos_of old
  docnos-exchanged =
      sym (docnos-live None new) ∙ docnos-entries (live None new) ∙ ap (map (λ (o : Entry). o.docno)) (entries-exchanged None) ∙ sym (docnos-entries (live None old)) ∙ docnos-live None old

  pub documents-exchanged : documents_held new ≡ documents_held old - dead_documents m.snapshot
  documents-exchanged =
      let f = λ (x : Marked). size x.source in
      let a = ap documents_held ex.parts in
      let b = sum_by-append f (map held_part ex.news) (drop n old) in
      let c = documents-new ex.news in
      let d = ap (λ (ds : List Document). length ds) ex.merged.docs in
      let e = ex.all in
      let g = sum_by-append f (take n old) (drop n old) in
      let h = ap documents_held (take-append-drop n old) in
      let i = documents-begin m.snapshot old begins in
      let j = live-few m.snapshot in
      omega (arith, a, b, c, d, e, g, h, i, j)

  pub tokens-exchanged : tokens_held new ≡ tokens_held old - dead_tokens m.snapshot
  tokens-exchanged =
      let f = λ (x : Marked). tokens_in x.source in
      let a = ap tokens_held ex.parts in
      let b = sum_by-append f (map held_part ex.news) (drop n old) in
      let c = tokens-new ex.news in
      let d = ap token_count ex.merged.docs in
      let e = tokens-outlines m.copied ∙ ap (sum_by (λ (o : Entry). o.tokens)) (ex.entries None) ∙ sym (tokens-outlines (live None m.snapshot)) in
      let g = sum_by-append f (take n old) (drop n old) in
      let h = ap tokens_held (take-append-drop n old) in
      let i = tokens-begin m.snapshot old begins in
      let j = live-short m.snapshot in
      omega (arith, a, b, c, d, e, g, h, i, j)

  pub writable-exchanged : m.most ≤ MAX_PART_DOCS → All (λ (x : Marked). IsWritable x.source) old → All (λ (x : Marked). IsWritable x.source) new
  writable-exchanged small writable =
      subst (All (λ (x : Marked). IsWritable x.source)) (sym ex.parts)
      (All-append (λ (x : Marked). IsWritable x.source) (map held_part ex.news) (drop n old) (cut-writable m.most ex.news small ex.merged.cut) (All-drop (λ (x : Marked). IsWritable x.source) n old writable))

  pub sized-exchanged : All IsSized old → All IsSized new
  sized-exchanged sized =
      subst (All IsSized) (sym ex.parts) (All-append IsSized (map held_part ex.news) (drop n old) (cut-sized m.most ex.news ex.merged.cut) (All-drop IsSized n old sized))

  pub backed-exchanged : (told : Option Files) → All (λ (x : Marked). IsPartBacked told x.source) old → All (λ (x : Marked). IsPartBacked told x.source) new
  backed-exchanged told backed =
      subst (All (λ (x : Marked). IsPartBacked told x.source)) (sym ex.parts)
      (All-append (λ (x : Marked). IsPartBacked told x.source) (map held_part ex.news) (drop n old) (backed-new told ex.news) (All-drop (λ (x : Marked). IsPartBacked told x.source) n old backed))

  pub intact-exchanged : (told : Option Files) → All (λ (x : Marked). IsPartIntact told x.source) old → All (λ (x : Marked). IsPartIntact told x.source) new
  intact-exchanged told intact =
      subst (All (λ (x : Marked). IsPartIntact told x.source)) (sym ex.parts)
      (All-append (λ (x : Marked). IsPartIntact told x.source) (map held_part ex.news) (drop n old) (intact-new told ex.news) (All-drop (λ (x : Marked). IsPartIntact told x.source) n old intact))

  pub numbers-exchanged : part_numbers new ≡ part_numbers (drop n old)
  numbers-exchanged =
      ap part_numbers ex.parts ∙ flat_map-append (λ (x : Marked). numbers_in x.source) (map held_part ex.news) (drop n old) ∙ ap (λ (l : List ℕ). l ++ part_numbers (drop n old)) (numbers-new ex.news)

-- ---- where the part that is being filled was closed

take-by : (k : ℕ) (p : Parts) (docs : List Document) → k ≤ length p.closed → take k (closed_by p docs).closed ≡ take k p.closed
take-by k p [] le = refl
take-by k p (d ∷ docs) le = take-append-le k p.closed (filled p.filling p.marks ∷ []) le

pub take-sealed : (k : ℕ) (p : Parts) → k ≤ length p.closed → take k (sealed p).closed ≡ take k p.closed
take-sealed k p le = take-by k p p.filling le

drop-by : (k : ℕ) (p : Parts) (docs : List Document) → k ≤ length p.closed → part_numbers (drop k (closed_by p docs).closed) ≡ part_numbers (drop k p.closed)
drop-by k p [] le = refl
drop-by k p (d ∷ docs) le =
    let last = filled p.filling p.marks ∷ [] in
    ap part_numbers (drop-append-le k p.closed last le) ∙ flat_map-append (λ (x : Marked). numbers_in x.source) (drop k p.closed) last ∙ append-nil (part_numbers (drop k p.closed))

pub drop-sealed : (k : ℕ) (p : Parts) → k ≤ length p.closed → part_numbers (drop k (sealed p).closed) ≡ part_numbers (drop k p.closed)
drop-sealed k p le = drop-by k p p.filling le

-- the numbers of the first parts and those of the others
pub numbers-halves : (k : ℕ) (ps : List Marked) → part_numbers (take k ps) ++ part_numbers (drop k ps) ≡ part_numbers ps
numbers-halves k ps = sym (flat_map-append (λ (x : Marked). numbers_in x.source) (take k ps) (drop k ps)) ∙ ap part_numbers (take-append-drop k ps)
