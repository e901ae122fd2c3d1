use Rattle.std.proofs.Common.{◌∙◌, ap}
use Rattle.std.specs.List.{insert}
use Rattle.repository.specs.Stale.{place_among}
use Rattle.repository.proofs.StaleLemmas.{insert-among}
use Rattle.repository.proofs.stale.note_stale.Goals as goal

pub returns-clause-done : goal.returns-clause-done
returns-clause-done c =
    let ns = c.args.stale.now.items in
    c.in_ok-insert.ensures.items ∙ ap (λ i. insert ns i c.args.number) (c.place_among-place.ensures.place ∙ ap (place_among c.args.number) c.deref.ensures.value) ∙ insert-among c.args.number ns
