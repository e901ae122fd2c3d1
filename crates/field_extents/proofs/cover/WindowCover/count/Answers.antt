use Rattle.std.proofs.Common.{◌≡◌, ℕ, ◌+◌, ◌-◌, ◌≤◌, length, take, drop, nat_le, ap, ◌∙◌}
use Rattle.std.specs.List.{All, prefix_len}
use Rattle.std.proofs.lemmas.Bool.{leb-true}
use Rattle.std.proofs.lemmas.List.{take_rest}
use Rattle.ri_base.specs.Documents.{Field}
use Rattle.field_extents.specs.Fields.{greatest_end}
use Rattle.field_extents.specs.Passed.{PassedFields}
use Rattle.field_extents.proofs.PassedCover.{covered_count-passed}
use Rattle.field_extents.proofs.Prefixes.{passes_front, within_front}
use Rattle.field_extents.proofs.ReachLemmas.{greatest_end-more}
use Rattle.field_extents.proofs.cover.WindowCover.count.Goals as goal

pub invariant_of-self : goal.invariant_of-self
invariant_of-self c =
    let fields = c.self.inside.spans.now in
    let n = c.self.inside.passed in
    let rest : take (length fields - n) (drop n fields) ≡ drop n fields = take_rest fields n in
    let more : c.begun_by-more.result ≡ prefix_len (λ f. nat_le f.begin c.args.window.begin) (drop n fields) = rw (c.begin.ensures.begin, rest) at c.begun_by-more.ensures in
    let reached : c.reach_of-self-inside.result ≡ greatest_end c.self.inside.name.now c.self.inside.reach (take c.begun_by-more.result (drop n fields)) = rw rest at c.reach_of-self-inside.ensures in
    let greatest = greatest_end-more c.self.inside.name.now fields n c.begun_by-more.result c.self.inside.reach c.reach_of-self-inside.result c.self.invariant.1 reached in
    let within = within_front (λ (f : Field). nat_le f.begin c.args.window.begin) fields n c.begun_by-more.result more c.self.invariant.2 in
    (c.self.invariant.0, greatest, within)

pub returns-clause-passed : goal.returns-clause-passed
returns-clause-passed c =
    let fields = c.self.inside.spans.now in
    let n = c.self.inside.passed in
    let passed_is : n ≡ c.args.self.now.passed = ap (λ (s : PassedFields). s.passed) c.self.view_is in
    let fields_is : fields ≡ c.args.self.now.fields = ap (λ (s : PassedFields). s.fields) c.self.view_is in
    let before : All (λ f. f.begin ≤ c.args.window.begin) (take n fields) = rw (passed_is, fields_is) c.requires in
    let rest : take (length fields - n) (drop n fields) ≡ drop n fields = take_rest fields n in
    let more : c.begun_by-more.result ≡ prefix_len (λ f. nat_le f.begin c.args.window.begin) (drop n fields) = rw (c.begin.ensures.begin, rest) at c.begun_by-more.ensures in
    passes_front (λ (f : Field). nat_le f.begin c.args.window.begin) fields n c.begun_by-more.result more (λ f. f.begin ≤ c.args.window.begin) (λ f. leb-true _ _) before

pub returns-clause-exact : goal.returns-clause-exact
returns-clause-exact c =
    let fields = c.self.inside.spans.now in
    let n : ℕ = c.self.inside.passed + c.begun_by-more.result in
    let fields_is : fields ≡ c.args.self.now.fields = ap (λ (s : PassedFields). s.fields) c.self.view_is in
    let name_is : c.self.inside.name.now ≡ c.args.self.now.name = ap (λ (s : PassedFields). s.name) c.self.view_is in
    let rest : take (length fields - n) (drop n fields) ≡ drop n fields = take_rest fields n in
    let reached : c.reach_of-self-inside.result ≡ greatest_end c.self.inside.name.now 0 (take n fields) = (invariant_of-self c).1 in
    let counted = rw rest at c.count_ahead.ensures.exact in
    let exact = covered_count-passed fields c.self.inside.name.now n c.reach_of-self-inside.result c.args.window (returns-clause-passed c) reached in
    rw (← fields_is, ← name_is) (counted ∙ exact)
