-- how many ids are marked behind a change
use Rattle.std.proofs.Common.{◌≡◌, ℕ, zero, suc, ◌+◌, ◌-◌, ◌^◌, ◌<◌, ◌≤◌, Bool, true, false, List, [], ◌∷◌, ◌++◌, length, set, take, replicate, get_or, refl, ap, arith}
use Rattle.std.proofs.lemmas.List.{length-take}
use Rattle.deletion_list.specs.Marks.{marked_count}

pub none_marked : (n : ℕ) → marked_count (replicate n false) ≡ 0
none_marked zero = refl
none_marked (suc n) = none_marked n

pub few : (marks : List Bool) → marked_count marks ≤ length marks
few [] = omega arith
few (true ∷ marks) = omega (arith, few marks)
few (false ∷ marks) = omega (arith, few marks)

-- an id that isn't marked leaves room for one more mark
pub one_more : (marks : List Bool) (id : ℕ) → id < length marks → get_or marks id false ≡ false → (marked_count (set marks id true) ≡ marked_count marks + 1) × (marked_count marks + 1 ≤ length marks)
one_more [] id lt h = absurd (omega arith)
one_more (true ∷ marks) zero lt h = absurd cc
one_more (false ∷ marks) zero lt h = (omega arith, omega (arith, few marks))
one_more (true ∷ marks) (suc id) lt h = let p = one_more marks id (omega arith) h in (omega (arith, p.0), omega (arith, p.1))
one_more (false ∷ marks) (suc id) lt h = let p = one_more marks id (omega arith) h in (omega (arith, p.0), omega (arith, p.1))

pub grown : (marks : List Bool) → marked_count (marks ++ false ∷ []) ≡ marked_count marks
grown [] = refl
grown (true ∷ marks) = ap suc (grown marks)
grown (false ∷ marks) = grown marks

-- the last id was not marked
pub live_last : (n : ℕ) (marks : List Bool) (d : Bool) → length marks ≡ n + 1 → get_or marks n d ≡ false → (marked_count (take n marks) ≡ marked_count marks) × (marked_count marks < length marks)
live_last n [] d len h = absurd (omega arith)
live_last zero (true ∷ marks) d len h = absurd cc
live_last zero (false ∷ []) d len h = (refl, omega arith)
live_last zero (false ∷ b ∷ marks) d len h = absurd (omega (arith, len))
live_last (suc n) (true ∷ marks) d len h = let p = live_last n marks d (omega (arith, len)) h in (ap suc p.0, omega (arith, p.1))
live_last (suc n) (false ∷ marks) d len h = let p = live_last n marks d (omega (arith, len)) h in (p.0, omega (arith, p.1))

-- the last id was marked
pub dead_last : (n : ℕ) (marks : List Bool) (d : Bool) → length marks ≡ n + 1 → get_or marks n d ≡ true → marked_count (take n marks) + 1 ≡ marked_count marks
dead_last n [] d len h = absurd (omega arith)
dead_last zero (false ∷ marks) d len h = absurd cc
dead_last zero (true ∷ []) d len h = refl
dead_last zero (true ∷ b ∷ marks) d len h = absurd (omega (arith, len))
dead_last (suc n) (true ∷ marks) d len h = let p = dead_last n marks d (omega (arith, len)) h in omega (arith, p)
dead_last (suc n) (false ∷ marks) d len h = dead_last n marks d (omega (arith, len)) h

-- so many ids aren't marked
abbrev pub IsCounted : ℕ → List Bool → Type 0
IsCounted live marks = (live + marked_count marks ≡ length marks) × (length marks < 2 ^ 32)

pub live_cut : (n live live' : ℕ) (marks marks' : List Bool) (d : Bool) → IsCounted live marks → length marks ≡ n + 1 → get_or marks n d ≡ false → live' ≡ live - 1 → marks' ≡ take n marks → IsCounted live' marks'
live_cut n live live' marks marks' d h len last l m =
    let p = live_last n marks d len last in
    let short : length (take n marks) ≡ n = omega (arith, length-take n marks) in
    rw (m, l) (omega (arith, p.0, p.1, h.0, short), omega (arith, h.1, short))

pub dead_cut : (n live live' : ℕ) (marks marks' : List Bool) (d : Bool) → IsCounted live marks → length marks ≡ n + 1 → get_or marks n d ≡ true → live' ≡ live → marks' ≡ take n marks → IsCounted live' marks'
dead_cut n live live' marks marks' d h len last l m =
    let p = dead_last n marks d len last in
    let short : length (take n marks) ≡ n = omega (arith, length-take n marks) in
    rw (m, l) (omega (arith, p, h.0, short), omega (arith, h.1, short))
