use Rattle.std.proofs.Common.{refl}
use Rattle.command_words.specs.Table.{add, delete}
use Rattle.collection_commands.specs.Flushing.{delete_pieces}
use Rattle.indri_app.specs.Command.{add_pieces}
use Rattle.indri_app.proofs.ChangingLemmas.{damage-unread, items-session, items-undamaged, merge-read, merge-session}
use Rattle.indri_app.proofs.Closing.{begun-by, done-by, merge-begun, merge-done, merge-stops, prior-begun, stops-by}
use Rattle.indri_app.proofs.changing.change_repository.Goals as goal

pub returns-in-Add-clause-done : goal.returns-in-Add-clause-done
returns-in-Add-clause-done g c = λ k ahead.
    let told = g.T.Store.files c.args.store.now in
    let limits = c.args.repository.held.limits in
    rw c.in-Add.is (done-by told add k (λ bytes. add_pieces told limits k bytes) _ _ _ _ c.add.result (λ bytes. (limits, ahead.real, refl)) (c.add.ensures.refused k ahead) (c.add.ensures.finished k ahead))

pub returns-in-Add-clause-broken : goal.returns-in-Add-clause-broken
returns-in-Add-clause-broken g c = λ k ahead.
    let told = g.T.Store.files c.args.store.now in
    let limits = c.args.repository.held.limits in
    rw c.in-Add.is (begun-by told add k (λ bytes. add_pieces told limits k bytes) _ _ _ _ c.add.result (λ bytes. (limits, ahead.real, refl)) (c.add.ensures.broken k ahead))

pub returns-in-Add-clause-stops : goal.returns-in-Add-clause-stops
returns-in-Add-clause-stops g c = λ k ahead.
    let told = g.T.Store.files c.args.store.now in
    let limits = c.args.repository.held.limits in
    rw c.in-Add.is (stops-by told add k (λ bytes. add_pieces told limits k bytes) _ _ _ (λ bytes. (limits, ahead.real, refl)) (c.add.ensures.stops k ahead))

pub returns-in-Delete-clause-done : goal.returns-in-Delete-clause-done
returns-in-Delete-clause-done g c = λ k ahead.
    let told = g.T.Store.files c.args.store.now in
    rw c.in-Delete.is (done-by told delete k (λ bytes. delete_pieces k bytes) _ _ _ _ c.delete.result (λ bytes. refl) (c.delete.ensures.refused k ahead) (c.delete.ensures.finished k ahead))

pub returns-in-Delete-clause-broken : goal.returns-in-Delete-clause-broken
returns-in-Delete-clause-broken g c = λ k ahead.
    let told = g.T.Store.files c.args.store.now in
    rw c.in-Delete.is (begun-by told delete k (λ bytes. delete_pieces k bytes) _ _ _ _ c.delete.result (λ bytes. refl) (c.delete.ensures.broken k ahead))

pub returns-in-Delete-clause-stops : goal.returns-in-Delete-clause-stops
returns-in-Delete-clause-stops g c = λ k ahead.
    let told = g.T.Store.files c.args.store.now in
    rw c.in-Delete.is (stops-by told delete k (λ bytes. delete_pieces k bytes) _ _ _ (λ bytes. refl) (c.delete.ensures.stops k ahead))

pub returns-in-Prior-clause-done : goal.returns-in-Prior-clause-done
returns-in-Prior-clause-done g c = λ k ahead. rw c.in-Prior.is (c.set_prior.ensures.finished k ahead)

pub returns-in-Prior-clause-broken : goal.returns-in-Prior-clause-broken
returns-in-Prior-clause-broken g c = λ k ahead. rw c.in-Prior.is (prior-begun (g.T.Store.files c.args.store.now) c.in-Prior.name k _ _ _ _ c.set_prior.result (c.set_prior.ensures.broken k ahead))

pub returns-in-Prior-clause-stops : goal.returns-in-Prior-clause-stops
returns-in-Prior-clause-stops g c = λ k ahead. rw c.in-Prior.is (c.set_prior.ensures.stops k ahead)

pub returns-in-Add-clause-honest : goal.returns-in-Add-clause-honest
returns-in-Add-clause-honest g c = λ intact. items-undamaged ⊥ c.add.result c.add.ensures.only

pub returns-in-Add-clause-damage : goal.returns-in-Add-clause-damage
returns-in-Add-clause-damage g c = items-undamaged _ c.add.result c.add.ensures.only

pub returns-in-Add-clause-only : goal.returns-in-Add-clause-only
returns-in-Add-clause-only g c = items-session c.add.result c.add.ensures.only

pub returns-in-Delete-clause-honest : goal.returns-in-Delete-clause-honest
returns-in-Delete-clause-honest g c = λ intact. items-undamaged ⊥ c.delete.result c.delete.ensures.only

pub returns-in-Delete-clause-damage : goal.returns-in-Delete-clause-damage
returns-in-Delete-clause-damage g c = items-undamaged _ c.delete.result c.delete.ensures.only

pub returns-in-Delete-clause-only : goal.returns-in-Delete-clause-only
returns-in-Delete-clause-only g c = items-session c.delete.result c.delete.ensures.only

pub returns-in-Prior-clause-honest : goal.returns-in-Prior-clause-honest
returns-in-Prior-clause-honest g c = λ intact. items-undamaged ⊥ c.set_prior.result c.set_prior.ensures.only

pub returns-in-Prior-clause-damage : goal.returns-in-Prior-clause-damage
returns-in-Prior-clause-damage g c = items-undamaged _ c.set_prior.result c.set_prior.ensures.only

pub returns-in-Prior-clause-only : goal.returns-in-Prior-clause-only
returns-in-Prior-clause-only g c = items-session c.set_prior.result c.set_prior.ensures.only

pub returns-in-Merge-clause-done : goal.returns-in-Merge-clause-done
returns-in-Merge-clause-done g c = λ k ahead.
    rw c.in-Merge.is (merge-done (g.T.Store.files c.args.store.now) k _ _ _ _ c.merge_documents.result c.merge_documents.ensures.refused (c.merge_documents.ensures.finished k ahead))

pub returns-in-Merge-clause-broken : goal.returns-in-Merge-clause-broken
returns-in-Merge-clause-broken g c = λ k ahead. rw c.in-Merge.is (merge-begun (g.T.Store.files c.args.store.now) k _ _ _ _ c.merge_documents.result (c.merge_documents.ensures.broken k ahead))

pub returns-in-Merge-clause-stops : goal.returns-in-Merge-clause-stops
returns-in-Merge-clause-stops g c = λ k ahead. rw c.in-Merge.is (merge-stops (g.T.Store.files c.args.store.now) k _ _ _ (c.merge_documents.ensures.stops k ahead))

pub returns-in-Merge-clause-honest : goal.returns-in-Merge-clause-honest
returns-in-Merge-clause-honest g c = λ intact. c.merge_documents.ensures.honest (intact (rw c.in-Merge.is tt))

pub returns-in-Merge-clause-damage : goal.returns-in-Merge-clause-damage
returns-in-Merge-clause-damage g c = damage-unread _ _ _ c.merge_documents.result refl c.merge_documents.ensures.damage

pub returns-in-Merge-clause-only : goal.returns-in-Merge-clause-only
returns-in-Merge-clause-only g c = merge-session c.merge_documents.result c.merge_documents.ensures.only

pub returns-in-Merge-clause-read : goal.returns-in-Merge-clause-read
returns-in-Merge-clause-read g c = λ e. absurd (merge-read c.merge_documents.result c.merge_documents.ensures.only e)
