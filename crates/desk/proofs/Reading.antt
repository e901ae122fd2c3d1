-- What a desk reads as is what its repository reads as.
use Rattle.std.proofs.Common.{◌≡◌, List, [], ◌∷◌, refl, sym, ap, subst, ◌∙◌, Option}
use Rattle.std.specs.List.{AllZip}
use Rattle.store_ends.specs.Files.{File, Files}
use Rattle.manifest.specs.declared.manifest.PriorEntry.{PriorEntry}
use Rattle.manifest.proofs.PriorLaws.{prior_again}
use Rattle.repository.specs.Stands.{IsPriorListed, Prior}
use Rattle.repository.specs.States.{IsBacked, ReadsAs}
use Rattle.desk.specs.Backed.{Keeps, state_of}
use Rattle.desk.specs.Queries.{priors_in, read_table, table_in, table_of}
use Rattle.desk.specs.State.{collection_of}

-- ---- the rows of the priors are those of their files

table-read : (told : Option Files) (e : PriorEntry) (p : Prior) → IsPriorListed told e p → table_in told e.number ≡ p.table
table-read told e p h =
    ap (λ (f : Option Files). table_in f e.number) h.is_told ∙ ap (λ (f : File). table_of f.read) h.file ∙ ap read_table (prior_again p.table h.form)

prior-read : (told : Option Files) (e : PriorEntry) (p : Prior) → IsPriorListed told e p → p ≡ record { name = e.name; table = table_in told e.number }
prior-read told e p h = λ i. record { name = h.name i; table = sym (table-read told e p h) i }

pub priors-read : (told : Option Files) (es : List PriorEntry) (ps : List Prior) → AllZip (IsPriorListed told) es ps → ps ≡ priors_in told es
priors-read told [] [] z = refl
priors-read told [] (p ∷ ps) z = absurd z
priors-read told (e ∷ es) [] z = absurd z
priors-read told (e ∷ es) (p ∷ ps) (h, rest) = λ i. prior-read told e p h i ∷ priors-read told es ps rest i

-- ---- the repository reads as the state

pub reads-state : (told : Option Files) (d : Keeps) → IsBacked told d.repository → ReadsAs told d.repository (collection_of (state_of told d))
reads-state told d backed = record {
  live_are = refl;
  documents_are = refl;
  tokens_are = refl;
  priors_are = subst (AllZip (IsPriorListed told) d.repository.priors) (priors-read told d.repository.priors backed.priors.0 backed.priors.1) backed.priors.1;
}
