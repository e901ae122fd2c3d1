use Rattle.std.proofs.Common.{◌≡◌, ℕ, false, List, Option, IfSome, subst, sym, ◌∙◌}
use Rattle.bounded_keys.specs.Kept.{is_beaten_by}
use Rattle.bounded_keys.specs.declared.entry.Entry.{Entry}
use Rattle.ranker.specs.First.{WereOffered}
use Rattle.ranker.specs.declared.window.Window.{Window}
use Rattle.ranker.proofs.bound.is_beaten.Goals as goal

pub returns-in-Some-clause-unbeaten : goal.returns-in-Some-clause-unbeaten
returns-in-Some-clause-unbeaten c = λ e.
    subst (λ (b : Option ℕ). IfSome b (λ least. (all : List (Entry Window)) → WereOffered all c.args.first.now → is_beaten_by (λ (x : Entry Window). x.leading) c.args.first.now.scale c.args.first.now.most all least ≡ false)) (sym c.in-Some.is)
    (λ all offered. sym (c.is_beaten.ensures.exact all offered) ∙ e)
