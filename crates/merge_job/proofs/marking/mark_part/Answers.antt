use Rattle.std.proofs.Common.{◌≡◌, ◌∙◌, ◌<◌, ◌+◌, ap, sym, subst, arith, map, take, get_or, List, Bool, true, false, length, [], ◌∷◌}
use Rattle.merge_job.specs.NewParts.{docs_in}
use Rattle.merge_job.specs.declared.merged.MergedPart.{MergedPart}
use Rattle.merge_job.specs.declared.copying.Place.{Place}
use Rattle.merge_job.specs.Marking.{before, marked_from, together}
use Rattle.merge_job.specs.Marks.{mapped}
use Rattle.merge_job.proofs.MarkLemmas.{IsTold, IsTold-then, mapped-live, mapped-dead, mapped-room, same-together}
use Rattle.merge_job.proofs.marking.mark_part.Goals as goal
use Rattle.merge_job.proofs.marking.mark_part.Goals.{then-not-is_marked, else-not-is_marked}

pub mark_next-requires-clause-some : goal.mark_next-requires-clause-some
mark_next-requires-clause-some c =
    let f : MergedPart → List Bool = λ p. p.marks in
    let inv = c.loop-id.invariant.told in
    let within : c.loop-id.id < length c.args.old.now = (let e = c.len-id-end.ensures in omega (arith, e, c.loop-id-test.true)) in
    let live : get_or c.args.old.now c.loop-id.id false ≡ false = sym c.is_marked.ensures ∙ c.if-not-is_marked.true in
    let room = mapped-room c.args.old.now c.args.now.now c.loop-id.id c.requires.same within live in
    let all = c.requires.room in
    let b = inv.behind in
    let long = same-together _ (map f c.args.parts.now) inv.lengths in
    omega (arith, room, all, b, long)

pub loop-id-preserved : goal.loop-id-preserved
loop-id-preserved c =
    let f : MergedPart → List Bool = λ p. p.marks in
    let inv = c.loop-id.invariant in
    let old = c.args.old.now in
    let now = c.args.now.now in
    let i = c.loop-id.id in
    let ms = map f c.args.parts.now in
    let at = before ms c.args.place.now.part c.args.place.now.id in
    let within : i < length old = (let e = c.len-id-end.ensures in omega (arith, e, c.loop-id-test.true)) in
    elim c.if-not-is_marked.branch [
      | then-not-is_marked w ↦
          let live : get_or old i false ≡ false = sym c.is_marked.ensures ∙ w.if-not-is_marked.true in
          let told = IsTold-then ms at (mapped (take i old) (take i now)) _ _ (map f w.mark_next.new.parts) c.loop-id.place.part c.loop-id.place.id w.mark_next.new.place.part w.mark_next.new.place.id inv.told
          (w.mark_next.ensures.marks ∙ ap (λ b. marked_from (together (map f c.loop-id.parts)) (before (map f c.loop-id.parts) c.loop-id.place.part c.loop-id.place.id) (b ∷ [])) w.is_marked-then-not-is_marked.ensures)
          w.mark_next.ensures.behind w.mark_next.ensures.place w.mark_next.ensures.lengths in
          let more = subst (λ (fs : List Bool). IsTold ms at fs (map f w.mark_next.new.parts) w.mark_next.new.place.part w.mark_next.new.place.id) (sym (mapped-live old now i c.requires.same within live)) told in
          record {
            told = subst (λ (pl : Place). IsTold ms at (mapped (take (i + 1) old) (take (i + 1) now)) (map f c.if-not-is_marked.parts) pl.part pl.id) (sym w.place-is)
                (subst (λ (ps : List MergedPart). IsTold ms at (mapped (take (i + 1) old) (take (i + 1) now)) (map f ps) w.mark_next.new.place.part w.mark_next.new.place.id) (sym w.parts-is) more);
            docs = ap (λ ps. docs_in ps) w.parts-is ∙ w.mark_next.ensures.docs ∙ inv.docs;
          }
      | else-not-is_marked w ↦
          let dead : get_or old i false ≡ true = sym c.is_marked.ensures ∙ w.if-not-is_marked.false in
          let more = subst (λ (fs : List Bool). IsTold ms at fs (map f c.loop-id.parts) c.loop-id.place.part c.loop-id.place.id) (sym (mapped-dead old now i c.requires.same within dead)) inv.told in
          record {
            told = subst (λ (pl : Place). IsTold ms at (mapped (take (i + 1) old) (take (i + 1) now)) (map f c.if-not-is_marked.parts) pl.part pl.id) (sym w.place-is)
                (subst (λ (ps : List MergedPart). IsTold ms at (mapped (take (i + 1) old) (take (i + 1) now)) (map f ps) c.loop-id.place.part c.loop-id.place.id) (sym w.parts-is) more);
            docs = ap (λ ps. docs_in ps) w.parts-is ∙ inv.docs;
          }
    ]
