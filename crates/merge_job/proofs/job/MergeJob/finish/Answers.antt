use Rattle.std.proofs.Common.{◌≡◌, ◌∙◌, None, ap, sym, subst, map, arith, List, length, Bool, false}
use Rattle.std.proofs.lemmas.List.{length-map, length-replicate}
use Rattle.std.specs.List.{AllZip}
use Rattle.disk_index.specs.Parts.{size}
use Rattle.disk_index.specs.Snapshots.{Marked, live}
use Rattle.seg_codec.specs.Segment.{entry_of}
use Rattle.merge_job.specs.Marking.{IsPlace, lengths, marked_from, together}
use Rattle.merge_job.specs.Marks.{all_mapped}
use Rattle.merge_job.specs.Merge.{IsMerged, Merging, size_of}
use Rattle.merge_job.specs.NewParts.{docs_in, marks_in}
use Rattle.merge_job.specs.declared.merged.MergedPart.{MergedPart}
use Rattle.merge_job.proofs.JobLemmas.{all-entries, closed-place, closed-together, merged-is, written-back}
use Rattle.merge_job.proofs.LawLemmas.{merged-live}
use Rattle.merge_job.proofs.job.MergeJob.finish.Goals as goal

pub mark_all-requires-clause-same : goal.mark_all-requires-clause-same
mark_all-requires-clause-same c =
    subst (λ (l : List Marked). AllZip (λ m marks. length marks ≡ size m.source) l c.args.now.now) (sym (c.parts.ensures.parts ∙ ap (λ (j : Merging). j.snapshot) c.self.view_is)) c.requires.now

pub mark_all-requires-clause-place : goal.mark_all-requires-clause-place
mark_all-requires-clause-place c =
    subst (λ (ps : List MergedPart). IsPlace (marks_in ps) 0 0) (sym c.deref_mut.ensures.value) (closed-place c.self.inside.copied _ c.in-Ok.ensures)

pub mark_all-requires-clause-room : goal.mark_all-requires-clause-room
mark_all-requires-clause-room c =
    let s = c.self.inside in
    let n = ap (λ (l : List Marked). length (live None l)) (c.parts.ensures.parts ∙ ap (λ (j : Merging). j.snapshot) c.self.view_is) in
    let t = ap length (ap (λ (ps : List MergedPart). together (marks_in ps)) c.deref_mut.ensures.value ∙ closed-together s.copied c.in-Ok.parts.items c.in-Ok.ensures) ∙ length-replicate (length s.copied.docs) false in
    let all = ap (λ (j : Merging). length j.copied) c.self.view_is ∙ c.requires.all in
    omega (arith, n, t, all)

pub returns-in-Ok-clause-merged : goal.returns-in-Ok-clause-merged
returns-in-Ok-clause-merged c =
    let s = c.self.inside in
    let f : MergedPart → List Bool = λ p. p.marks in
    let parts = c.parts.ensures.parts ∙ ap (λ (j : Merging). j.snapshot) c.self.view_is in
    let told : length (all_mapped c.args.self.snapshot c.args.now.now) ≡ length c.args.self.copied =
    sym (ap (λ (l : List Marked). length (all_mapped l c.args.now.now)) parts) ∙ c.mark_all.ensures.counted ∙ ap (λ (l : List Marked). length (live None l)) parts ∙ sym c.requires.all in
    let docs : docs_in c.mark_all.new.parts ≡ docs_in c.in-Ok.parts.items = c.mark_all.ensures.docs ∙ ap docs_in c.deref_mut.ensures.value in
    let long : length c.mark_all.new.parts ≡ length c.in-Ok.parts.items =
    sym (length-map c.mark_all.new.parts (λ (p : MergedPart). p.docs)) ∙ ap length docs ∙ length-map c.in-Ok.parts.items (λ (p : MergedPart). p.docs) in
    let marks : together (map f c.mark_all.new.parts) ≡ marked_from (together (map f c.in-Ok.parts.items)) 0 (all_mapped c.args.self.snapshot c.args.now.now) =
    c.mark_all.ensures.marks ∙ ap (λ (ps : List MergedPart). marked_from (together (map f ps)) 0 (all_mapped c.parts.result.now c.args.now.now)) c.deref_mut.ensures.value
    ∙ ap (λ (l : List Marked). marked_from (together (map f c.in-Ok.parts.items)) 0 (all_mapped l c.args.now.now)) parts in
    let lengths : lengths (map f c.mark_all.new.parts) ≡ lengths (map f c.in-Ok.parts.items) =
    c.mark_all.ensures.lengths ∙ ap (λ (ps : List MergedPart). lengths (map f ps)) c.deref_mut.ensures.value in
    subst (λ (ps : List MergedPart). IsMerged c.args.self c.args.now.now ps) (sym (written-back c.mark_all.new.parts c.in-Ok.parts.items c.in-Ok.parts.len long c.in-Ok.parts.ok.0))
    (merged-is c.args.self c.args.now.now s.copied c.in-Ok.parts.items c.mark_all.new.parts c.in-Ok.ensures (ap (λ (j : Merging). j.copied) c.self.view_is) (ap (λ (j : Merging). j.most) c.self.view_is) marks docs lengths told)

pub returns-in-Ok-clause-live : goal.returns-in-Ok-clause-live
returns-in-Ok-clause-live c told taken grown =
    let sized : size_of c.args.self ≡ length (live told c.args.self.snapshot) =
    sym (c.self.invariant.sized None ∙ ap size_of c.self.view_is) ∙ c.self.invariant.sized told ∙ ap (λ (j : Merging). length (live told j.snapshot)) c.self.view_is in
    merged-live told c.args.self c.args.now.now _ (returns-in-Ok-clause-merged c) (c.requires.all ∙ sized) taken c.requires.now grown

pub returns-in-Ok-clause-entries : goal.returns-in-Ok-clause-entries
returns-in-Ok-clause-entries c = λ told.
    subst (λ (m : Merging). map entry_of m.copied ≡ map entry_of (live told m.snapshot)) c.self.view_is
    (all-entries told _ _ _ _ c.self.invariant (subst (λ (m : Merging). length m.copied ≡ size_of m) (sym c.self.view_is) c.requires.all))

pub returns-in-Err-clause-entries : goal.returns-in-Err-clause-entries
returns-in-Err-clause-entries c = λ told.
    subst (λ (m : Merging). map entry_of m.copied ≡ map entry_of (live told m.snapshot)) c.self.view_is
    (all-entries told _ _ _ _ c.self.invariant (subst (λ (m : Merging). length m.copied ≡ size_of m) (sym c.self.view_is) c.requires.all))
