use Rattle.std.proofs.Common.{◌≡◌, Some, true, ap, get_or, length, refl, subst, sym, ◌∙◌}
use Rattle.std.specs.List.{slice_get}
use Rattle.std.proofs.lemmas.Option.{slice_get_read}
use Rattle.bounded_keys.proofs.RunLemmas.{full_at}
use Rattle.bounded_keys.proofs.near.Near.is_behind.Goals as goal

pub returns-in-Some-get : goal.returns-in-Some-get
returns-in-Some-get g c = λ e most whole.
    let before = g.T.Leading.before in
    let items = c.args.self.now.items.items in
    let full = c.args.self.now.full.items in
    let x = c.args.item.now in
    let place = c.in-Some.place.now in
    let last = c.in-Some-get.last.now in
    let kept = c.deref.result.now in
    let found = c.in-Some.ensures.lookup.3 in
    let told : slice_get full c.args.number ≡ Some place = ap (λ places. slice_get places c.args.number) (sym c.deref.ensures.value) ∙ slice_get_read kept (length kept) c.args.number place refl found.0 (found.1 place) in
    let at : last ≡ get_or items place x = c.in-Some-get.ensures.lookup.3.1 x ∙ ap (λ xs. get_or xs place x) c.deref-2.ensures.value in
    full_at before most c.args.number place full items x whole (sym told) (subst (λ y. before y x ≡ true) at (sym c.is_before.ensures ∙ e))
