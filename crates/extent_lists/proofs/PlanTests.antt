-- Whether a plan has an extent can be tested.
use Rattle.std.specs.Prelude.{Decides}
use Rattle.std.proofs.Common.{ℕ, ◌+◌, ◌<◌, ◌≤◌, ⊎_elim, Bool, List, [], ◌∷◌, arith}
use Rattle.ri_base.specs.Pair.{Pair}
use Rattle.extent_lists.specs.Operators.{Joins}
use Rattle.extent_lists.specs.Plans.{Plan, Plans, listed, union_of, within, shortest, joined, window, whole, none, more, set, each_set, list_bound, plan_bound, plans_bound}
use Rattle.extent_lists.specs.Rows.{Has}
use Rattle.extent_lists.proofs.Tested.{AllTested, Test, Tested, both, either, has_around, is_below, is_number, joins_tested, least_tested, least_window, never, some_tested, whole_tested}

has_test : (xs : List Pair) (b e : ℕ) → Test (Has xs b e)
has_test [] b e = never
has_test (x ∷ xs) b e = either (both (is_number x.begin b) (is_number x.end e)) (has_test xs b e)

has_within : (xs : List Pair) (b e : ℕ) → Has xs b e → b + e < list_bound xs
has_within [] b e h = absurd h
has_within (x ∷ xs) b e h = ⊎_elim (λ k. omega (arith, k.0, k.1)) (λ k. let less = has_within xs b e k in omega (arith, less)) h

list_tested : (xs : List Pair) → Tested (list_bound xs) (Has xs)
list_tested xs = record {
  test = λ b e. has_test xs b e;
  begins = λ b e h. let less = has_within xs b e h in omega (arith, less);
  ends = λ b e h. let less = has_within xs b e h in omega (arith, less);
}

-- a greater bound does as well
wider : (n m : ℕ) (R : ℕ → ℕ → Type 0) → n ≤ m → Tested n R → Tested m R
wider n m R up t = record {
  test = t.test;
  begins = λ b e h. let less = t.begins b e h in omega (arith, less, up);
  ends = λ b e h. let less = t.ends b e h in omega (arith, less, up);
}

wider_all : (n m : ℕ) (rs : List (ℕ → ℕ → Type 0)) → n ≤ m → AllTested n rs → AllTested m rs
wider_all n m [] up t = tt
wider_all n m (R ∷ rs) up t = (wider n m R up t.0, wider_all n m rs up t.1)

-- those of a set for which there is another test
pub narrowed : (n : ℕ) (R S : ℕ → ℕ → Type 0) → Tested n R → ((b e : ℕ) → Test (S b e)) → Tested n (λ b e. R b e × S b e)
narrowed n R S t s = record {
  test = λ b e. both (t.test b e) (s b e);
  begins = λ b e h. t.begins b e h.0;
  ends = λ b e h. t.ends b e h.0;
}

mutual
  unfolding set each_set plan_bound plans_bound

  pub plan_tested : (p : Plan) → Tested (plan_bound p) (set p)
  plan_tested (listed xs) = narrowed (list_bound xs) (Has xs) (λ b e. b < e) (list_tested xs) is_below
  plan_tested (union_of g) = some_tested (plans_bound g) (each_set g) (plans_tested g)
  plan_tested (within p fields) = narrowed (plan_bound p) (set p) _ (plan_tested p) (λ b e. has_around (list_bound fields) (Has fields) (list_tested fields) b e)
  plan_tested (shortest p) = least_tested (plan_bound p) (set p) (plan_tested p)
  plan_tested (joined n p q) =
      let m = plan_bound p + plan_bound q in
      let first : Tested m (set p) = wider (plan_bound p) m (set p) (omega arith) (plan_tested p) in
      let later : Tested m (set q) = wider (plan_bound q) m (set q) (omega arith) (plan_tested q) in
      least_tested m (Joins n (set p) (set q)) (joins_tested m n (set p) (set q) first later)
  plan_tested (window n g) = least_window (plans_bound g) n (each_set g) (plans_tested g)
  plan_tested (whole n g) =
      whole_tested (1 + n + plans_bound g) n (each_set g) (omega arith) (wider_all (plans_bound g) (1 + n + plans_bound g) (each_set g) (omega arith) (plans_tested g))

  pub plans_tested : (g : Plans) → AllTested (plans_bound g) (each_set g)
  plans_tested none = tt
  plans_tested (more p g) = (
    wider (plan_bound p) (plan_bound p + plans_bound g) (set p) (omega arith) (plan_tested p),
    wider_all (plans_bound g) (plan_bound p + plans_bound g) (each_set g) (omega arith) (plans_tested g),
  )

-- whether the plan has the extent from b to e
pub has_planned : Plan → ℕ → ℕ → Bool
has_planned p b e = ((plan_tested p).test b e).0

module _ (p : Plan) (b e : ℕ) where
  pub planned : Decides (has_planned p b e) (set p b e)
  unfolding has_planned
  planned = ((plan_tested p).test b e).1

  pub planned_begins : set p b e → b < plan_bound p
  planned_begins h = (plan_tested p).begins b e h

  pub planned_ends : set p b e → e < plan_bound p
  planned_ends h = (plan_tested p).ends b e h
