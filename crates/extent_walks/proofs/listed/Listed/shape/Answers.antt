use Rattle.std.proofs.Common.{◌≡◌, ◌∙◌, [], drop, sym, ap, arith}
use Rattle.std.proofs.lemmas.List.{drop_all}
use Rattle.extent_walks.specs.Shapes.{first_of, list_shape}
use Rattle.extent_walks.proofs.ShapeLemmas.{first_of-before, list_shape-before}
use Rattle.extent_walks.proofs.listed.Listed.shape.Goals as goal

pub loop-i-init : goal.loop-i-init
loop-i-init c =
    let xs = c.self.inside.items.items in
    let none : drop c.len-i.result xs ≡ [] = drop_all c.len-i.result xs (omega (arith, c.len-i.ensures)) in
    record {
      within = omega (arith, c.len-i.ensures);
      shape = sym (ap list_shape none);
      next = sym (ap first_of none);
    }

pub loop-i-preserved : goal.loop-i-preserved
loop-i-preserved c =
    let xs = c.self.inside.items.items in
    let i = c.loop-i.i in
    let x = c.index-x.result.now in
    record {
      within = omega (arith, c.loop-i.invariant.within);
      shape = rw (c.weaker-shape.ensures, c.before-in-loop-i.ensures, c.loop-i.invariant.shape, c.loop-i.invariant.next) (sym (list_shape-before xs i x c.loop-i-test.true c.loop-i.invariant.within c.index-x.ensures));
      next = sym (first_of-before xs i x c.loop-i-test.true c.loop-i.invariant.within c.index-x.ensures);
    }

pub returns : goal.returns
returns c =
    let first : c.loop-i.i ≡ 0 = omega (arith, c.loop-i-test.false) in
    let xs = c.self.inside.items.items in
    c.loop-i.invariant.shape ∙ ap (λ k. list_shape (drop k xs)) first ∙ ap list_shape c.self.view_is
