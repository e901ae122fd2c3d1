-- Documents that are added one behind the other.
use Rattle.std.proofs.Common.{◌≡◌, ℕ, List, [], ◌∷◌, Option, None, Some, refl, sym, subst}
use Rattle.std.specs.Option.{IfSome}
use Rattle.store_ends.specs.Files.{Files}
use Rattle.trec_reader.specs.Read.{read}
use Rattle.trec_reader.specs.declared.document.RawDoc.{RawDoc}
use Rattle.tokens.specs.Content.{content}
use Rattle.holdings.specs.declared.limits.Limits.{Limits}
use Rattle.document_handlers.specs.Addition.{addition, collection_with}
use Rattle.document_handlers.specs.Work.{Work, adding, behind, behind_all}
use Rattle.repository.specs.RealLimits.{AreReal, StandsFor}
use Rattle.repository.specs.Stands.{Collection}
use Rattle.repository.specs.States.{IsBacked, ReadsAs, State}
use Rattle.collection_commands.specs.Ahead.{IsAhead}
use Rattle.indri_app.specs.Command.{collection_in}

-- the work goes on to be an addition with the same files and limits
pub adding-stays : (told : Option Files) (limits : Limits) (k c : Collection) (docs : List RawDoc) → behind_all (adding told limits c) docs ≡ adding told limits (collection_in k (behind_all (adding told limits c) docs))
unfolding behind_all behind
adding-stays told limits k c [] = refl
adding-stays told limits k c (d ∷ docs) = adding-stays told limits k (collection_with c (addition limits c (content d))) docs

-- documents are added to this repository, and this is the work with the next one
abbrev pub IsAdding : State → Work → Type 0
IsAdding s w = (told : Option Files) × (c : Collection) × ReadsAs told s c × IsBacked told s × (w ≡ adding told s.held.limits c)

-- the repository behind all documents of an input, for a collection that it read as with the files before them
pub added-ahead : (told : Option Files) (limits : Limits) (k : Collection) (s r : State) (left : Option (List ℕ)) → IfSome left (λ bytes. IsAdding s (behind_all (adding told limits k) (read bytes).0))
    → ((c : Collection) → IsAdding s (adding told limits c) → ReadsAs told r c × IsBacked told r × (r.held.limits ≡ limits)) → AreReal limits → StandsFor k told
    → IfSome left (λ bytes. IsAhead told r k (collection_in k (behind_all (adding told limits k) (read bytes).0)))
added-ahead told limits k s r None does reads real stands = tt
added-ahead told limits k s r (Some bytes) does reads real stands =
    let d : IsAdding s (adding told limits (collection_in k (behind_all (adding told limits k) (read bytes).0))) = subst (IsAdding s) (adding-stays told limits k k (read bytes).0) does in
    let h = reads (collection_in k (behind_all (adding told limits k) (read bytes).0)) d in
    record { backed = h.1; real = subst AreReal (sym h.2) real; stands = stands; reads = h.0 }
