use Rattle.std.proofs.Common.{◌≡◌, ◌<◌, rules, false, nat_le, length, ap, subst, sym, ◌∙◌, arith}
use Rattle.std.proofs.lemmas.Bool.Decides.{nat_tests}
use Rattle.std.specs.BinaryHeap.{heap_items}
use Rattle.bounded_keys.specs.Kept.{IsKept, is_beaten_by}
use Rattle.bounded_keys.proofs.Kepts.{Keeps-beaten, room_beats_none}
use Rattle.bounded_keys.proofs.contenders.Contenders.beats_some.Goals as goal

pub returns-clause-full : goal.returns-clause-full
returns-clause-full g c =
    let b = c.self.inside in
    let len : c.len.result ≡ length (heap_items b.heap) = search rules in
    subst (λ v. nat_le b.most c.len.result ≡ nat_le v.most (length v.held)) c.self.view_is (ap (nat_le b.most) len)

pub returns-clause-nothing : goal.returns-clause-nothing
returns-clause-nothing g c = λ none all h number.
    let b = c.self.inside in
    let kept = subst (IsKept g.T.Ord.cmp g.T.Leading.number g.T.Leading.before all) (sym c.self.view_is) h in
    let len : c.len.result ≡ length (heap_items b.heap) = search rules in
    let less : c.len.result < b.most = grind (arith, nat_tests) in
    let now = Keeps-beaten g.T.Ord.cmp g.met.T.Ord.total g.T.Leading.number g.met.T.Leading.by_number b.most b.scale g.T.Leading.before all (heap_items b.heap) b.near.items.items number kept
    ∙ room_beats_none g.T.Ord.cmp g.met.T.Ord.total g.T.Leading.number g.met.T.Leading.by_number b.most b.scale (heap_items b.heap) number (omega (arith, less, len)) in
    subst (λ v. is_beaten_by g.T.Leading.number v.scale v.most all number ≡ false) c.self.view_is now
