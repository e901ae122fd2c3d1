use Rattle.std.proofs.Common.{◌≡◌, ℕ, ◌+◌, ◌-◌, ◌<◌, ◌≤◌, false, AllPairs, List, length, take, drop, nat_lt, ap, ◌∙◌, arith}
use Rattle.std.specs.List.{All, prefix_len}
use Rattle.std.proofs.lemmas.Bool.{le-ltb, ltb-false, ltb-true}
use Rattle.std.proofs.lemmas.List.{take_rest}
use Rattle.ri_base.specs.Pair.{Pair}
use Rattle.field_extents.specs.Extents.{begin_count}
use Rattle.field_extents.specs.Passed.{PassedExtents, Rises}
use Rattle.field_extents.proofs.Orders.{begin-IsNoLater}
use Rattle.field_extents.proofs.PassedLemmas.{begin_count-passed, begins_before}
use Rattle.field_extents.proofs.Prefixes.{fails_behind, passes_front}
use Rattle.field_extents.proofs.RisingLemmas.{pairs_behind}
use Rattle.field_extents.proofs.begins.WindowBegins.count.Goals as goal

pub returns-clause-passed : goal.returns-clause-passed
returns-clause-passed c =
    let xs = c.self.inside.extents.now in
    let n = c.self.inside.passed in
    let passed_is : n ≡ c.args.self.now.passed = ap (λ (s : PassedExtents). s.passed) c.self.view_is in
    let extents_is : xs ≡ c.args.self.now.extents = ap (λ (s : PassedExtents). s.extents) c.self.view_is in
    let before : All (λ x. x.begin < c.args.window.begin) (take n xs) = rw (passed_is, extents_is) c.requires in
    let rest : take (length xs - n) (drop n xs) ≡ drop n xs = take_rest xs n in
    let more : c.begun_before.result ≡ prefix_len (λ x. nat_lt x.begin c.args.window.begin) (drop n xs) = rw (c.begin.ensures.begin, rest) at c.begun_before.ensures.begun in
    passes_front (begins_before c.args.window.begin) xs n c.begun_before.result more (λ x. x.begin < c.args.window.begin) (λ x. ltb-true _ _) before

pub begins_ahead-requires-clause-ahead : goal.begins_ahead-requires-clause-ahead
begins_ahead-requires-clause-ahead c =
    let xs = c.self.inside.extents.now in
    let n = c.self.inside.passed in
    let position = c.args.window.begin in
    let rest : take (length xs - n) (drop n xs) ≡ drop n xs = take_rest xs n in
    let more : c.begun_before.result ≡ prefix_len (begins_before position) (drop n xs) = rw (c.begin.ensures.begin, rest) at c.begun_before.ensures.begun in
    let stays : AllPairs (λ x y. begins_before position x ≡ false → begins_before position y ≡ false) xs = λ i j d l u fails.
    le-ltb _ _ (omega (arith, ltb-false _ _ fails, begin-IsNoLater _ _ (c.self.invariant.0 i j d l u))) in
    let late : All (λ x. begins_before position x ≡ false) (drop (n + c.begun_before.result) xs) = rw more (fails_behind (begins_before position) xs n stays) in
    let ahead : All (λ x. position ≤ x.begin) (drop (n + c.begun_before.result) xs) = λ k d l. ltb-false _ _ (late k d l) in
    rw (take_rest xs (n + c.begun_before.result)) ahead

pub begins_ahead-requires-clause-rising : goal.begins_ahead-requires-clause-rising
begins_ahead-requires-clause-rising c is =
    let xs = c.self.inside.extents.now in
    let n : ℕ = c.self.inside.passed + c.begun_before.result in
    rw (take_rest xs n) (pairs_behind Rises xs n (c.self.invariant.3 is))

pub returns-clause-exact : goal.returns-clause-exact
returns-clause-exact c =
    let xs = c.self.inside.extents.now in
    let n : ℕ = c.self.inside.passed + c.begun_before.result in
    let extents_is : xs ≡ c.args.self.now.extents = ap (λ (s : PassedExtents). s.extents) c.self.view_is in
    let counted : c.begins_ahead.result ≡ begin_count (drop n xs) c.args.window = rw (take_rest xs n) at c.begins_ahead.ensures.exact in
    let passed_is : c.self.inside.passed ≡ c.args.self.now.passed = ap (λ (s : PassedExtents). s.passed) c.self.view_is in
    let before : All (λ x. x.begin < c.args.window.begin) (take c.self.inside.passed xs) = rw (passed_is, extents_is) c.requires in
    let rest : take (length xs - c.self.inside.passed) (drop c.self.inside.passed xs) ≡ drop c.self.inside.passed xs = take_rest xs c.self.inside.passed in
    let more : c.begun_before.result ≡ prefix_len (λ x. nat_lt x.begin c.args.window.begin) (drop c.self.inside.passed xs) = rw (c.begin.ensures.begin, rest) at c.begun_before.ensures.begun in
    let passed : All (λ x. x.begin < c.args.window.begin) (take n xs) = passes_front (begins_before c.args.window.begin) xs c.self.inside.passed c.begun_before.result more (λ x. x.begin < c.args.window.begin) (λ x. ltb-true _ _) before in
    counted ∙ begin_count-passed xs n c.args.window passed ∙ ap (λ (ys : List Pair). begin_count ys c.args.window) extents_is
