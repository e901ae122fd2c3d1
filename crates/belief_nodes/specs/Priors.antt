-- What a prior tells of a document as a whole. This is the project's own.
use Rattle.std.specs.Prelude.{ℕ, ◌*◌, ◌≤◌, nat_le, Bool, true, List, [], ◌∷◌, ◌++◌, All, Contains, filter, fold, map, slice_index_or}
use Rattle.std.specs.List.{list_any}
use Rattle.std.specs.Str.{bytes_eq}
use Rattle.ri_base.specs.Ratio.{Ratio, IsBelief}

-- fractions of docnos, fractions from a length of the document on, with rising lengths, and that of all other documents;
-- a table takes rows and another rest
pub record Prior : Type 0 where
  pub rows : List (List ℕ × Ratio)
  pub steps : List (ℕ × Ratio)
  pub rest : Ratio
  pub is_table : Bool

-- a table that gives 1 to each document
abbrev pub no_prior : Prior
no_prior = record { rows = []; steps = []; rest = record { p = 1; q = 1 }; is_table = true }

-- the fraction of the last step whose length the document has, else the one of all other documents
abbrev pub by_length : Prior → ℕ → Ratio
by_length prior tokens = fold (λ r s. s) prior.rest (map (λ step. step.1) (filter (λ step. nat_le step.0 tokens) prior.steps))

-- the fraction of the row of the docno, else the one by length
abbrev pub prior_fraction : Prior → List ℕ → ℕ → Ratio
prior_fraction prior docno tokens =
    slice_index_or (map (λ row. row.1) (filter (λ row. bytes_eq docno row.0) prior.rows)) 0 (by_length prior tokens)

-- the prior of a number, where these are the priors by their numbers
abbrev pub prior_at : List Prior → ℕ → Prior
prior_at priors n = slice_index_or priors n no_prior

-- some row is that of the docno
abbrev pub has_row : Prior → List ℕ → Bool
has_row prior docno = list_any (λ row. bytes_eq docno row.0) prior.rows

-- the prior with one row more
abbrev pub with_row : Prior → List ℕ → Ratio → Prior
with_row prior docno r =
    record { rows = prior.rows ++ (docno, r) ∷ []; steps = prior.steps; rest = prior.rest; is_table = prior.is_table }

-- the prior with this fraction for all other documents
abbrev pub with_rest : Prior → Ratio → Prior
with_rest prior r = record { rows = prior.rows; steps = prior.steps; rest = r; is_table = prior.is_table }

-- all fractions of a prior
abbrev pub prior_fractions : Prior → List Ratio
prior_fractions prior = prior.rest ∷ map (λ row. row.1) prior.rows ++ map (λ step. step.1) prior.steps

-- r is one of the list and no other is greater
pub record IsGreatestOf (all : List Ratio) (r : Ratio) : Type 0 where
  pub one_of : Contains all r
  pub most : All (λ s. s.p * r.q ≤ r.p * s.q) all

-- each fraction is one that the program can hold as a belief
abbrev pub IsPrior : Prior → Type 0
IsPrior prior = All IsBelief (prior_fractions prior)
