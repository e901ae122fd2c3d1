use Rattle.std.proofs.Common.{refl}
use Rattle.indri_app.specs.Generated.{gen_items, new_state}
use Rattle.indri_app.specs.Items.{pieces_of}
use Rattle.indri_app.proofs.Ended.{rose-earlier}
use Rattle.indri_app.proofs.Generating.{stands-created, stands-filled, stops-created, stops-filled}
use Rattle.indri_app.proofs.NewRepository.{not-exists, silent-of_file}
use Rattle.indri_app.proofs.OpeningLemmas.{file-of}
use Rattle.indri_app.proofs.OpeningLemmas.{store-of_files, want-of}
use Rattle.indri_app.proofs.SilentPieces.{made-all}
use Rattle.indri_app.proofs.generation.made_text.Goals as goal

-- there is no repository

pub returns-in-Err-clause-along : goal.returns-in-Err-clause-along
returns-in-Err-clause-along g c = λ f told none. stands-created c.args.count f (g.T.Store.since c.args.store.now) (g.T.Store.since c.new_repository.new.store) _ (c.new_repository.ensures.along f told none)

pub returns-in-Err-clause-stops : goal.returns-in-Err-clause-stops
returns-in-Err-clause-stops g c = λ f told none. stops-created c.args.count f _ _ (c.new_repository.ensures.stops f told none)

-- it is filled and asked

pub returns-in-Ok-fill-clause-made : goal.returns-in-Ok-fill-clause-made
returns-in-Ok-fill-clause-made g c = λ f told none.
    let new = c.in-Ok.ensures.new f told none in
    let limits = c.in-Ok.repository.held.limits in
    record {
      limits = limits;
      real = new.real;
      text_is = c.in-Ok-fill.ensures.text new;
      files_stand = made-all f (pieces_of (new_state limits) (gen_items c.args.count)) _ (c.in-Ok-fill.ensures.done new);
      order = c.in-Ok-fill.ensures.order new;
    }

pub returns-in-Ok-fill-clause-along : goal.returns-in-Ok-fill-clause-along
returns-in-Ok-fill-clause-along g c = λ f told none.
    stands-filled c.args.count f (g.T.Store.since c.args.store.now) (g.T.Store.since c.new_repository.new.store) c.in-Ok.repository.held.limits (c.in-Ok.ensures.new f told none).real _ (c.fill.ensures.along (c.in-Ok.ensures.new f told none))

pub returns-in-Ok-fill-clause-stops : goal.returns-in-Ok-fill-clause-stops
returns-in-Ok-fill-clause-stops g c = λ f told none.
    stops-filled c.args.count f _ _ c.in-Ok.repository.held.limits (c.in-Ok.ensures.new f told none).real _ (c.new_repository.ensures.stops f told none) (c.fill.ensures.stops (c.in-Ok.ensures.new f told none))

pub returns-in-Ok-fill-clause-exists : goal.returns-in-Ok-fill-clause-exists
returns-in-Ok-fill-clause-exists g c = λ f told there. let no = c.in-Ok.ensures.exists f told there in absurd no.1

-- it isn't

pub returns-in-Err-fill-clause-along : goal.returns-in-Err-fill-clause-along
returns-in-Err-fill-clause-along g c = λ f told none.
    stands-filled c.args.count f (g.T.Store.since c.args.store.now) (g.T.Store.since c.new_repository.new.store) c.in-Ok.repository.held.limits (c.in-Ok.ensures.new f told none).real _ (c.fill.ensures.along (c.in-Ok.ensures.new f told none))

pub returns-in-Err-fill-clause-stops : goal.returns-in-Err-fill-clause-stops
returns-in-Err-fill-clause-stops g c = λ f told none.
    stops-filled c.args.count f _ _ c.in-Ok.repository.held.limits (c.in-Ok.ensures.new f told none).real _ (c.new_repository.ensures.stops f told none) (c.fill.ensures.stops (c.in-Ok.ensures.new f told none))

pub returns-in-Err-fill-clause-honest : goal.returns-in-Err-fill-clause-honest
returns-in-Err-fill-clause-honest g c = λ f told none. rw c.of_files.ensures (want-of c.in-Err-fill.fault (c.in-Err-fill.ensures.honest (c.in-Ok.ensures.new f told none) (c.in-Ok.ensures.intact f told none)))

pub returns-in-Err-fill-clause-exists : goal.returns-in-Err-fill-clause-exists
returns-in-Err-fill-clause-exists g c = λ f told there. let no = c.in-Ok.ensures.exists f told there in absurd no.1

pub returns-in-Err-fill-clause-only : goal.returns-in-Err-fill-clause-only
returns-in-Err-fill-clause-only g c = rw c.of_files.ensures (silent-of_file _ (file-of c.in-Err-fill.fault))

pub returns-in-Err-fill-clause-there : goal.returns-in-Err-fill-clause-there
returns-in-Err-fill-clause-there g c = λ f told is. absurd (not-exists c.in-Err-fill.fault cc)

pub returns-in-Err-fill-clause-same : goal.returns-in-Err-fill-clause-same
returns-in-Err-fill-clause-same g c = λ is. absurd (not-exists c.in-Err-fill.fault cc)

pub returns-in-Err-fill-clause-store : goal.returns-in-Err-fill-clause-store
returns-in-Err-fill-clause-store g c = λ is. let one = store-of_files c.in-Err-fill.fault cc in rose-earlier _ _ _ c.new_repository.ensures.store_later (c.in-Err-fill.ensures.store (rw one refl))
