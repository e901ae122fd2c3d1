use Rattle.std.proofs.Common.{◌∷◌, [], None, Some, IfOk, subst, sym}
use Rattle.store_ends.proofs.Files.{Leaves-none}
use Rattle.command_pieces.specs.Pieces.{StandsAlong}
use Rattle.repository.specs.Stands.{empty_collection}
use Rattle.repository.specs.States.{IsStateIntact}
use Rattle.collection_commands.specs.Ahead.{IsAhead}
use Rattle.collection_commands.specs.Creation.{IsMade}
use Rattle.indri_app.specs.Generated.{created}
use Rattle.indri_app.proofs.NewRepository.{file-err, silent-err, silent-of_exists}
use Rattle.indri_app.proofs.creation.new_repository.Goals as goal

-- its files are made

pub returns-in-Ok-clause-new : goal.returns-in-Ok-clause-new
returns-in-Ok-clause-new g c = λ f told none.
    subst (λ t. IfOk c.open_made.result (λ r. IsAhead t r empty_collection empty_collection)) (sym c.open_made.ensures.quiet.same_files) (c.open_made.ensures.opened (c.in-Ok.ensures.made f told none))

pub returns-in-Ok-clause-intact : goal.returns-in-Ok-clause-intact
returns-in-Ok-clause-intact g c = λ f told none.
    subst (λ t. IfOk c.open_made.result (λ r. IsStateIntact t r)) (sym c.open_made.ensures.quiet.same_files) (c.open_made.ensures.intact (c.in-Ok.ensures.made f told none))

pub returns-in-Ok-clause-along : goal.returns-in-Ok-clause-along
returns-in-Ok-clause-along g c = λ f told none. subst (StandsAlong (IsMade (Some f)) None (created ∷ [])) (sym c.open_made.ensures.quiet.same_files) (c.make_files.ensures.along f told none)

pub returns-in-Ok-clause-stops : goal.returns-in-Ok-clause-stops
returns-in-Ok-clause-stops g c = λ f told none. Leaves-none _ _ _ _ (c.make_files.ensures.stops f told none) c.open_made.ensures.quiet.no_more

pub returns-in-Ok-clause-honest : goal.returns-in-Ok-clause-honest
returns-in-Ok-clause-honest g c = λ f told none. c.open_made.ensures.honest (c.in-Ok.ensures.made f told none)

pub returns-in-Ok-clause-exists : goal.returns-in-Ok-clause-exists
returns-in-Ok-clause-exists g c = λ f told there. let no = c.in-Ok.ensures.exists f told there in absurd no.1

pub returns-in-Ok-clause-there : goal.returns-in-Ok-clause-there
returns-in-Ok-clause-there g c = λ f told is. absurd (file-err c.open_made.result c.open_made.ensures.only is)

pub returns-in-Ok-clause-same : goal.returns-in-Ok-clause-same
returns-in-Ok-clause-same g c = λ is. absurd (file-err c.open_made.result c.open_made.ensures.only is)

pub returns-in-Ok-clause-only : goal.returns-in-Ok-clause-only
returns-in-Ok-clause-only g c = silent-err c.open_made.result c.open_made.ensures.only

-- they aren't

pub returns-in-Err-clause-only : goal.returns-in-Err-clause-only
returns-in-Err-clause-only g c = silent-of_exists c.in-Err.fault c.in-Err.ensures.only
