use Rattle.std.proofs.Common.{◌≡◌, ◌∙◌, ◌≤◌, ◌+◌, ℕ, ap, sym, subst, arith, map, take, get_or, None, List, Bool, length, [], ◌++◌, length-append}
use Rattle.std.specs.List.{AllZip}
use Rattle.std.proofs.lemmas.List.{get_or_read, take_all}
use Rattle.disk_index.specs.Parts.{size}
use Rattle.disk_index.specs.Snapshots.{Marked, live}
use Rattle.merge_job.specs.Marking.{marked_from, together}
use Rattle.merge_job.specs.Marks.{all_mapped, mapped}
use Rattle.merge_job.specs.declared.merged.MergedPart.{MergedPart}
use Rattle.merge_job.proofs.MarkLemmas.{IsTold, IsTold-then, live-front, live-next, mapped-live_in, mapped-more, same-together, zip-at, zip-length}
use Rattle.merge_job.proofs.marking.mark_all.Goals as goal
use Rattle.merge_job.proofs.marking.mark_all.Goals.{After-index-now-number}

-- the marks of now of the part that is gone over, as many as its documents
read : (c : After-index-now-number) → c.index-now-number.result ≡ get_or c.args.now.now c.loop-number.number []
read c =
    let n = zip-length (λ m marks. length marks ≡ size m.source) c.args.old.now c.args.now.now c.requires.same in
    get_or_read c.args.now.now c.loop-number.number c.index-now-number.result (omega (arith, n, c.loop-number-test.true)) c.index-now-number.is []

whole : (c : After-index-now-number) → length c.index-now-number.result ≡ size c.index-old-number.result.source
whole c =
    ap length (read c) ∙ zip-at (λ m marks. length marks ≡ size m.source) c.args.old.now c.args.now.now c.loop-number.number c.index-old-number.result c.requires.same c.loop-number-test.true
    ∙ sym (ap (λ (x : Marked). size x.source) c.index-old-number.is)

pub bounds-now-number : goal.bounds-now-number
bounds-now-number c =
    let n = zip-length (λ m marks. length marks ≡ size m.source) c.args.old.now c.args.now.now c.requires.same in
    omega (arith, n, c.loop-number-test.true)

pub mark_part-requires-clause-same : goal.mark_part-requires-clause-same
mark_part-requires-clause-same c =
    whole (goal.at.mark_part-requires-clause-same c).After-index-now-number ∙ sym c.marks.ensures.whole ∙ sym (ap (λ (l : List Bool). length l) c.marks.ensures.marks)

pub mark_part-requires-clause-room : goal.mark_part-requires-clause-room
mark_part-requires-clause-room c =
    let f : MergedPart → List Bool = λ p. p.marks in
    let ms = c.args.old.now in
    let i = c.loop-number.number in
    let m = c.index-old-number.result in
    let here = mapped-live_in m c.index-now-number.result c.marks.ensures.whole (whole (goal.at.mark_part-requires-clause-room c).After-index-now-number) in
    let own = ap (λ (l : List Bool). length (mapped l c.index-now-number.result)) c.marks.ensures.marks in
    let next = live-next ms i m c.loop-number-test.true c.index-old-number.is in
    let front = live-front ms (i + 1) in
    let long = same-together _ (map f c.args.parts.now) c.loop-number.invariant.told.lengths in
    omega (arith, here, own, next, front, long, c.requires.room, c.loop-number.invariant.told.behind, c.loop-number.invariant.counted)

pub loop-number-preserved : goal.loop-number-preserved
loop-number-preserved c =
    let f : MergedPart → List Bool = λ p. p.marks in
    let ms = c.args.old.now in
    let i = c.loop-number.number in
    let m = c.index-old-number.result in
    let n = zip-length (λ m marks. length marks ≡ size m.source) ms c.args.now.now c.requires.same in
    let at = (goal.at.loop-number-preserved c).After-index-now-number in
    let here = mapped-live_in m c.index-now-number.result c.marks.ensures.whole (whole at) in
    let next = live-next ms i m c.loop-number-test.true c.index-old-number.is in
    let e : all_mapped (take (i + 1) ms) (take (i + 1) c.args.now.now) ≡ all_mapped (take i ms) (take i c.args.now.now) ++ mapped c.marks.result.now c.index-now-number.result =
    mapped-more ms c.args.now.now i m n c.loop-number-test.true c.index-old-number.is
    ∙ ap (λ (l : List Bool). all_mapped (take i ms) (take i c.args.now.now) ++ mapped m.marks l) (sym (read at))
    ∙ ap (λ (l : List Bool). all_mapped (take i ms) (take i c.args.now.now) ++ mapped l c.index-now-number.result) (sym c.marks.ensures.marks) in
    let long = ap length e ∙ length-append (all_mapped (take i ms) (take i c.args.now.now)) (mapped c.marks.result.now c.index-now-number.result) in
    let own = ap (λ (l : List Bool). length (mapped l c.index-now-number.result)) c.marks.ensures.marks in
    let told = IsTold-then (map f c.args.parts.now) 0 (all_mapped (take i ms) (take i c.args.now.now)) _ (map f c.loop-number.parts) (map f c.mark_part.new.parts) c.loop-number.place.part c.loop-number.place.id
    c.mark_part.new.place.part c.mark_part.new.place.id c.loop-number.invariant.told c.mark_part.ensures.marks c.mark_part.ensures.behind c.mark_part.ensures.place c.mark_part.ensures.lengths in
    record {
      told = subst (λ (fs : List Bool). IsTold (map f c.args.parts.now) 0 fs (map f c.mark_part.new.parts) c.mark_part.new.place.part c.mark_part.new.place.id) (sym e) told;
      counted = omega (arith, long, own, here, next, c.loop-number.invariant.counted);
      docs = c.mark_part.ensures.docs ∙ c.loop-number.invariant.docs;
    }

-- all parts were gone over
gone-over : (ms : List Marked) (nows : List (List Bool)) (i : ℕ) → AllZip (λ m marks. length marks ≡ size m.source) ms nows → length ms ≤ i → (take i ms ≡ ms) × (take i nows ≡ nows)
gone-over ms nows i zip end = (let n = zip-length (λ m marks. length marks ≡ size m.source) ms nows zip in (take_all i ms end, take_all i nows (omega (arith, n, end))))

pub returns-clause-marks : goal.returns-clause-marks
returns-clause-marks c =
    let f : MergedPart → List Bool = λ p. p.marks in
    let ms = c.args.old.now in
    let i = c.loop-number.number in
    let (a, b) = gone-over ms c.args.now.now i c.requires.same c.loop-number-test.false in
    c.loop-number.invariant.told.marks ∙ ap (λ l. marked_from (together (map f c.args.parts.now)) 0 (all_mapped l (take i c.args.now.now))) a ∙ ap (λ l. marked_from (together (map f c.args.parts.now)) 0 (all_mapped ms l)) b

pub returns-clause-counted : goal.returns-clause-counted
returns-clause-counted c =
    let ms = c.args.old.now in
    let i = c.loop-number.number in
    let (a, b) = gone-over ms c.args.now.now i c.requires.same c.loop-number-test.false in
    sym (ap (λ l. length (all_mapped l (take i c.args.now.now))) a ∙ ap (λ l. length (all_mapped ms l)) b) ∙ c.loop-number.invariant.counted ∙ ap (λ (l : List Marked). length (live None l)) a
