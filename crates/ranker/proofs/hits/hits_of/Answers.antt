use Rattle.std.proofs.Common.{rules, ◌≡◌, [], ◌∷◌, ◌++◌, append_assoc, append-nil, List, map, ap, arith, sym, ◌∙◌}
use Rattle.std.specs.Prelude.{reverse}
use Rattle.std.proofs.lemmas.List.{map-append, nil_from_length, reverse-append, reverse-reverse}
use Rattle.bounded_keys.specs.declared.entry.Settled.{Settled}
use Rattle.ri_base.specs.declared.hit.Hit.{Hit}
use Rattle.ranker.specs.First.{settled_candidate}
use Rattle.ranker.specs.Ranking.{candidate_of}
use Rattle.ranker.specs.declared.window.Window.{Window}
use Rattle.ranker.proofs.hits.hits_of.Goals as goal

pub loop-settled-init : goal.loop-settled-init
loop-settled-init c =
    let none : c.in_ok-hits.hits.items ≡ [] = search rules in
    record {
      made = (
        [],
        sym (ap reverse c.reverse.ensures.items ∙ reverse-reverse c.args.first.items),
        ap (map candidate_of) none,
        ap (map (λ (h : Hit). h.key)) none,
      );
    }

-- one more of two lists that go over into each other by f and g
more : {A B C : Type 0} (f : A → C) (g : B → C) (xs : List A) (ys : List B) (a : A) (b : B) → map f xs ≡ map g ys → f a ≡ g b → map f (xs ++ a ∷ []) ≡ map g (ys ++ b ∷ [])
more f g xs ys a b e h = map-append f xs (a ∷ []) ∙ ap (λ cs. cs ++ f a ∷ []) e ∙ ap (λ c. map g ys ++ c ∷ []) h ∙ sym (map-append g ys (b ∷ []))

pub loop-settled-preserved : goal.loop-settled-preserved
loop-settled-preserved c =
    let before = c.loop-settled.invariant.made in
    let made = before.0 in
    let x = c.in-Some.settled in
    let hit = c.in_ok-hit_of.field-0 in
    let left = c.take_last.new.items.items in
    let hits = c.loop-settled.hits.items in
    let taken : c.loop-settled.first.items ≡ left ++ x ∷ [] = search rules in
    let pushed : c.push.new.self.items ≡ hits ++ hit ∷ [] = search rules in
    record {
      made = (
        made ++ x ∷ [],
        before.1 ∙ ap (λ xs. made ++ reverse xs) taken ∙ ap (λ xs. made ++ xs) (reverse-append left (x ∷ [])) ∙ sym (append_assoc made (x ∷ []) (reverse left)),
        ap (map candidate_of) pushed ∙ more candidate_of settled_candidate hits made hit x before.2 c.in_ok-hit_of.ensures.candidate,
        ap (map (λ (h : Hit). h.key)) pushed ∙ more (λ (h : Hit). h.key) (λ (s : Settled Window). s.key) hits made hit x before.3 c.in_ok-hit_of.ensures.key,
      );
    }

-- all were made
all_made : (first made : List (Settled Window)) (left : List (Settled Window)) → first ≡ made ++ reverse left → left ≡ [] → made ≡ first
all_made first made left e none = sym (e ∙ ap (λ xs. made ++ reverse xs) none ∙ append-nil made)

pub returns-clause-candidates : goal.returns-clause-candidates
returns-clause-candidates c =
    let made = c.loop-settled.invariant.made in
    let none : c.loop-settled.first.items ≡ [] = nil_from_length _ (grind arith) in
    ap (map candidate_of) c.of.ensures ∙ made.2 ∙ ap (map settled_candidate) (all_made _ _ _ made.1 none)

pub returns-clause-keys : goal.returns-clause-keys
returns-clause-keys c =
    let made = c.loop-settled.invariant.made in
    let none : c.loop-settled.first.items ≡ [] = nil_from_length _ (grind arith) in
    ap (map (λ (h : Hit). h.key)) c.of.ensures ∙ made.3 ∙ ap (map (λ (s : Settled Window). s.key)) (all_made _ _ _ made.1 none)
