use Rattle.std.proofs.Common.{◌≡◌, ◌≤◌, length, subst, sym, ◌∙◌, arith}
use Rattle.std.proofs.Math.Logic.{∥∥₁_map}
use Rattle.std.proofs.lemmas.Bool.Decides.{nat_tests}
use Rattle.belief_nodes.specs.Network.{network_tree}
use Rattle.ranker.specs.Passed.{passed}
use Rattle.ranker.specs.Searches.{filters_of, searched}
use Rattle.ranker.specs.Windows.{HasWindows}
use Rattle.ranker.specs.declared.held.Held.{Held}
use Rattle.ranker.proofs.HeldLemmas.{IsHeld-answer, ended-credit}
use Rattle.ranker.proofs.PlaceLemmas.{credit-le, passed-all}
use Rattle.ranker.proofs.search.Search.results.Goals as goal

pub returns-in-Ended-clause-some : goal.returns-in-Ended-clause-some
returns-in-Ended-clause-some c = λ told.
    let s = c.args.self.now in
    let few : s.at.credit ≤ length (searched told s) = credit-le told s.snapshot s.at s.place in
    let all : s.at.credit ≡ length (searched told s) = ended-credit s.held c.in-Ended.hits s.at.credit (length (searched told s)) c.in-Ended.is (s.open c.requires.usable told) few in
    grind (arith, nat_tests)

pub returns-in-Ended-clause-answer : goal.returns-in-Ended-clause-answer
returns-in-Ended-clause-answer c = λ kind priors told h.
    let s = c.args.self.now in
    let few : s.at.credit ≤ length (searched told s) = credit-le told s.snapshot s.at s.place in
    let all : s.at.credit ≡ length (searched told s) = ended-credit s.held c.in-Ended.hits s.at.credit (length (searched told s)) c.in-Ended.is (s.open c.requires.usable told) few in
    IsHeld-answer kind priors (filters_of s) (network_tree s.network) (passed told s.snapshot s.at) (searched told s) s.most s.held c.in-Ended.hits c.in-Ended.is (passed-all told s.snapshot s.at (sym (s.place.credit told) ∙ all)) h.held

pub returns-in-Ended-clause-windows : goal.returns-in-Ended-clause-windows
returns-in-Ended-clause-windows c = λ told.
    let s = c.args.self.now in
    ∥∥₁_map (s.windows c.requires.usable told) (λ h. subst (λ (held : Held). HasWindows (searched told s) (length (network_tree s.network).leaves) s.most held) c.in-Ended.is h)
