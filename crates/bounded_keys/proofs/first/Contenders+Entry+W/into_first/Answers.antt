use Rattle.std.proofs.Common.{◌≡◌, ◌≤◌, ◌+◌, ◌*◌, ◌^◌, ◌++◌, [], ℕ, List, append-nil, length, map, subst, sym, ◌∙◌}
use Rattle.first_few.specs.First.{AreFirst, IsFront}
use Rattle.ri_base.specs.Ratio.{Ratio}
use Rattle.bounded_keys.specs.Digits.{digits_at}
use Rattle.bounded_keys.specs.Entries.{IsEarly, by_key, settled}
use Rattle.bounded_keys.specs.Kept.{AreAmong}
use Rattle.bounded_keys.proofs.Among.{all_among, among_mapped, front_among, front_few}
use Rattle.bounded_keys.specs.Likeness.{is_before}
use Rattle.bounded_keys.proofs.Levels.{first_settled, taken_few}
use Rattle.bounded_keys.proofs.Taken.{within_more}
use Rattle.bounded_keys.proofs.first.Contenders+Entry+W.into_first.Goals as goal

pub offer_settled-requires : goal.offer_settled-requires
offer_settled-requires g c =
    all_among (λ x. IsEarly (g.C.Combination.key_of c.args.combination.now) (g.C.Combination.leaves c.args.combination.now) x) c.in_ok-entries.entries.items (c.args.self.held ++ c.args.self.near)
    c.in_ok-entries.ensures.among c.requires.early

pub returns-in_err-offer_settled-clause-within : goal.returns-in_err-offer_settled-clause-within
returns-in_err-offer_settled-clause-within g c = λ all offered.
    within_more c.offer_settled.new.squares c.args.squares.now (28 * g.C.Combination.leaves c.args.combination.now) _ _ c.offer_settled.ensures.within
    (taken_few c.args.self.scale (is_before g.W.Ord.cmp) c.args.self.most all c.in_ok-entries.entries.items (c.in_ok-entries.ensures.contenders all offered))

pub returns-clause-within : goal.returns-clause-within
returns-clause-within g c = λ all offered.
    within_more c.offer_settled.new.squares c.args.squares.now (28 * g.C.Combination.leaves c.args.combination.now) _ _ c.offer_settled.ensures.within
    (taken_few c.args.self.scale (is_before g.W.Ord.cmp) c.args.self.most all c.in_ok-entries.entries.items (c.in_ok-entries.ensures.contenders all offered))

pub returns-clause-front : goal.returns-clause-front
returns-clause-front g c = λ all offered early.
    let order = g.W.Ord.cmp in
    let combination = c.args.combination.now in
    let key = g.C.Combination.key_of combination in
    let k = c.args.self.most in
    let taken = c.in_ok-entries.entries.items in
    let held = c.offer_settled.new.first.held in
    let begun : c.new-first.result.most ≡ k = c.new-first.ensures.most ∙ c.most-most.ensures in
    let ended : c.offer_settled.new.first.most ≡ k = c.offer_settled.ensures.most ∙ begun in
    let none = subst (λ n. AreFirst (by_key order) n [] c.new-first.result.held) (sym c.new-first.ensures.most) c.new-first.ensures.first in
    let first = subst (λ n. AreFirst (by_key order) n (map (settled key) taken ++ []) held) begun (c.in_ok-offer_settled.ensures.first [] none) in
    let most = subst (λ n. (beliefs : List Ratio) (i s : ℕ) → key (digits_at (i + s) beliefs) + n ≤ (key (digits_at i beliefs) + n) * 2 ^ s) (sym c.requires.scale) (g.met.C.Combination.most combination) in
    let whole = first_settled key (g.C.Combination.leaves combination) c.args.self.scale (g.met.C.Combination.least combination) most order g.met.W.Ord.total k all taken held early (c.in_ok-entries.ensures.contenders all offered) first in
    subst (λ n. IsFront (by_key order) n (map (settled key) all) c.into_sorted.result.items) ended
    (c.into_sorted.ensures (map (settled key) all) (subst (λ n. AreFirst (by_key order) n (map (settled key) all) held) (sym ended) whole))

pub returns-clause-few : goal.returns-clause-few
returns-clause-few g c =
    let order = g.W.Ord.cmp in
    let key = g.C.Combination.key_of c.args.combination.now in
    let taken = c.in_ok-entries.entries.items in
    let held = c.offer_settled.new.first.held in
    let ended : c.offer_settled.new.first.most ≡ c.args.self.most = c.offer_settled.ensures.most ∙ c.new-first.ensures.most ∙ c.most-most.ensures in
    let none = subst (λ n. AreFirst (by_key order) n [] c.new-first.result.held) (sym c.new-first.ensures.most) c.new-first.ensures.first in
    let first = subst (λ n. AreFirst (by_key order) n (map (settled key) taken ++ []) held) (sym c.offer_settled.ensures.most) (c.in_ok-offer_settled.ensures.first [] none) in
    subst (λ n. length c.into_sorted.result.items ≤ n) ended
    (front_few (by_key order) c.offer_settled.new.first.most (map (settled key) taken ++ []) c.into_sorted.result.items (c.into_sorted.ensures (map (settled key) taken ++ []) first))

pub returns-clause-among : goal.returns-clause-among
returns-clause-among g c =
    let order = g.W.Ord.cmp in
    let key = g.C.Combination.key_of c.args.combination.now in
    let taken = c.in_ok-entries.entries.items in
    let held = c.offer_settled.new.first.held in
    let none = subst (λ n. AreFirst (by_key order) n [] c.new-first.result.held) (sym c.new-first.ensures.most) c.new-first.ensures.first in
    let first = subst (λ n. AreFirst (by_key order) n (map (settled key) taken ++ []) held) (sym c.offer_settled.ensures.most) (c.in_ok-offer_settled.ensures.first [] none) in
    let front = c.into_sorted.ensures (map (settled key) taken ++ []) first in
    among_mapped (settled key) c.into_sorted.result.items taken (c.args.self.held ++ c.args.self.near)
    (subst (λ ys. AreAmong c.into_sorted.result.items ys) (append-nil (map (settled key) taken))
    (front_among (by_key order) c.offer_settled.new.first.most (map (settled key) taken ++ []) c.into_sorted.result.items front))
    c.in_ok-entries.ensures.among
