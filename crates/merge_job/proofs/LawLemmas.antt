-- New parts, cut in any way, read as the old ones under the marks of now.
use Rattle.std.proofs.Common.{◌≡◌, Bool, true, false, List, [], ◌∷◌, ◌++◌, length, refl, ap, sym, ◌∙◌, arith, Option}
use Rattle.std.specs.List.{All, AllZip}
use Rattle.std.proofs.lemmas.List.{take_all}
use Rattle.std.proofs.lemmas.List.Elements.{All-head, All-tail}
use Rattle.ri_base.specs.Documents.{Document}
use Rattle.store_ends.specs.Files.{Files}
use Rattle.disk_index.specs.Parts.{reads, size}
use Rattle.disk_index.specs.Snapshots.{Marked, live, live_in, unmarked}
use Rattle.disk_index.proofs.RebuiltLemmas.{reads-length}
use Rattle.merge_job.specs.Marks.{HasGrown, HaveGrown, all_mapped, mapped}
use Rattle.merge_job.specs.Merge.{AreTaken, IsMerged, Merging, live_new, under}
use Rattle.merge_job.specs.NewParts.{all_docs, all_marks}
use Rattle.merge_job.specs.declared.merged.MergedPart.{MergedPart}
use Rattle.merge_job.proofs.WalkLemmas.{length-unmarked}

pub unmarked-append : {A : Type 0} (xs ys : List A) (ms ns : List Bool) → length ms ≡ length xs → unmarked (xs ++ ys) (ms ++ ns) ≡ unmarked xs ms ++ unmarked ys ns
unmarked-append [] ys [] ns e = refl
unmarked-append [] ys (m ∷ ms) ns e = absurd (omega (arith, e))
unmarked-append (x ∷ xs) ys [] ns e = absurd (omega (arith, e))
unmarked-append (x ∷ xs) ys (true ∷ ms) ns e = unmarked-append xs ys ms ns (omega (arith, e))
unmarked-append (x ∷ xs) ys (false ∷ ms) ns e = ap (λ l. x ∷ l) (unmarked-append xs ys ms ns (omega (arith, e)))

-- the marks of now, told of what wasn't marked before, leave what they leave of all
pub twice : {A : Type 0} (xs : List A) (before now : List Bool) → HasGrown before now → unmarked (unmarked xs before) (mapped before now) ≡ unmarked xs now
twice [] before now grown = refl
twice (x ∷ xs) [] [] grown = refl
twice (x ∷ xs) [] (n ∷ now) grown = absurd grown
twice (x ∷ xs) (b ∷ before) [] grown = absurd grown
twice (x ∷ xs) (true ∷ before) (true ∷ now) grown = twice xs before now grown.1
twice (x ∷ xs) (true ∷ before) (false ∷ now) grown = absurd (let same = grown.0 refl in cc)
twice (x ∷ xs) (false ∷ before) (true ∷ now) grown = twice xs before now grown.1
twice (x ∷ xs) (false ∷ before) (false ∷ now) grown = ap (λ l. x ∷ l) (twice xs before now grown.1)

-- the same of several parts
pub live-under : (told : Option Files) (parts : List Marked) (nows : List (List Bool)) → AllZip (λ m marks. length marks ≡ size m.source) parts nows → HaveGrown parts nows
    → unmarked (live told parts) (all_mapped parts nows) ≡ live told (under parts nows)
live-under told [] nows same grown = refl
live-under told (m ∷ ms) [] same grown = absurd grown
live-under told (m ∷ ms) (now ∷ nows) same grown =
    let r = reads-length told m.source in
    let long : length (mapped m.marks now) ≡ length (live_in told m) = length-unmarked now (reads told m.source) m.marks (let s = same.0 in omega (arith, r, s)) in
    unmarked-append (live_in told m) (live told ms) (mapped m.marks now) (all_mapped ms nows) long ∙ ap (λ (l : List Document). l ++ unmarked (live told ms) (all_mapped ms nows)) (twice (reads told m.source) m.marks now grown.0)
    ∙ ap (λ (l : List Document). unmarked (reads told m.source) now ++ l) (live-under told ms nows same.1 grown.1)

-- parts that are cut in any way read as their documents together under their marks together
pub new-together : (parts : List MergedPart) → All (λ p. length p.marks ≡ length p.docs) parts → live_new parts ≡ unmarked (all_docs parts) (all_marks parts)
new-together [] whole = refl
new-together (p ∷ ps) whole =
    ap (λ (l : List Document). unmarked p.docs p.marks ++ l) (new-together ps (All-tail (λ (p : MergedPart). length p.marks ≡ length p.docs) p ps whole))
    ∙ sym (unmarked-append p.docs (all_docs ps) p.marks (all_marks ps) (All-head (λ (p : MergedPart). length p.marks ≡ length p.docs) p ps whole))

pub merged-live : (told : Option Files) (m : Merging) (nows : List (List Bool)) (parts : List MergedPart) → IsMerged m nows parts → length m.copied ≡ length (live told m.snapshot) → AreTaken told m
    → AllZip (λ m marks. length marks ≡ size m.source) m.snapshot nows → HaveGrown m.snapshot nows → live_new parts ≡ live told (under m.snapshot nows)
merged-live told m nows parts merged all taken same grown =
    let copied : m.copied ≡ live told m.snapshot = taken ∙ take_all (length m.copied) (live told m.snapshot) (omega (arith, all)) in
    new-together parts merged.whole ∙ ap (λ (l : List Document). unmarked l (all_marks parts)) (merged.docs ∙ copied)
    ∙ ap (λ (l : List Bool). unmarked (live told m.snapshot) l) merged.marks ∙ live-under told m.snapshot nows same grown
