use Rattle.std.proofs.Common.{◌≡◌, ◌++◌, ◌∙◌, List, ℕ, ap, arith, subst, sym}
use Rattle.store_ends.specs.Files.{Leaves, SameWhere}
use Rattle.holdings.specs.Contents.{Contents}
use Rattle.manifest.specs.Listing.{AreNumbered, prior_numbers}
use Rattle.repository.specs.Numbers.{is_among}
use Rattle.repository.specs.Saved.{IsUnlisted}
use Rattle.repository.specs.States.{part_numbers}
use Rattle.repository.specs.Writes.{IsOther}
use Rattle.repository.proofs.NumberLemmas.{taken-are}
use Rattle.repository.proofs.SaveLemmas.{leaves-among, numbers-sealed, same-among, saved-from}
use Rattle.repository.proofs.saving.save.Given as given
use Rattle.repository.proofs.saving.save.Goals as goal
use Rattle.repository.proofs.saving.save.Goals.{After-closed_parts, After-write_parts}

-- the numbers of the parts stay where the one that is being filled is closed
numbers : (g : given.Over) (c : After-closed_parts g) → part_numbers c.closed_parts.result.now ≡ part_numbers c.args.held.now.parts.closed
numbers g c = ap part_numbers c.closed_parts.ensures.parts ∙ ap (λ (x : Contents). part_numbers x.parts.closed) c.in_ok-seal.ensures.closed ∙ numbers-sealed c.args.held.now.parts

taken : (g : given.Over) (c : After-write_parts g) → part_numbers c.closed_parts.result.now ≡ part_numbers c.args.held.now.parts.closed → (k : ℕ) → is_among k c.in_ok-numbers.numbers.numbers ≡ is_among k (part_numbers c.args.held.now.parts.closed ++ (c.args.stale.now ++ prior_numbers c.args.priors.now))
taken g c are =
    let others = c.args.stale.now ++ prior_numbers c.args.priors.now in
    taken-are c.in_ok-numbers.numbers.numbers (part_numbers c.closed_parts.result.now ++ others) (part_numbers c.args.held.now.parts.closed ++ others) c.in_ok-numbers.ensures.numbers (ap (λ (ns : List ℕ). ns ++ others) are)

same : (g : given.Over) (c : After-write_parts g) → part_numbers c.closed_parts.result.now ≡ part_numbers c.args.held.now.parts.closed
    → SameWhere (IsOther (IsUnlisted (part_numbers c.args.held.now.parts.closed ++ (c.args.stale.now ++ prior_numbers c.args.priors.now)))) (g.T.Store.files c.args.store.now) (g.T.Store.files c.write_parts.new.store)
same g c are =
    same-among c.in_ok-numbers.numbers.numbers (part_numbers c.args.held.now.parts.closed ++ (c.args.stale.now ++ prior_numbers c.args.priors.now)) (g.T.Store.files c.args.store.now) (g.T.Store.files c.write_parts.new.store) (taken g c are) c.write_parts.ensures.same

stops : (g : given.Over) (c : After-write_parts g) → part_numbers c.closed_parts.result.now ≡ part_numbers c.args.held.now.parts.closed
    → Leaves (g.T.Store.since c.args.store.now) (g.T.Store.since c.write_parts.new.store) (SameWhere (IsOther (IsUnlisted (part_numbers c.args.held.now.parts.closed ++ (c.args.stale.now ++ prior_numbers c.args.priors.now)))) (g.T.Store.files c.args.store.now))
stops g c are =
    leaves-among (g.T.Store.since c.args.store.now) (g.T.Store.since c.write_parts.new.store) c.in_ok-numbers.numbers.numbers (part_numbers c.args.held.now.parts.closed ++ (c.args.stale.now ++ prior_numbers c.args.priors.now))
    (g.T.Store.files c.args.store.now) (taken g c are) c.write_parts.ensures.stops

pub of-requires-clause-numbered : goal.of-requires-clause-numbered
of-requires-clause-numbered g c =
    subst (λ (ns : List ℕ). AreNumbered c.args.next (ns ++ (c.args.stale.now ++ prior_numbers c.args.priors.now))) (sym (numbers g (goal.at.of-requires-clause-numbered g c).After-closed_parts)) c.requires.numbered

pub returns-in_err-write_parts-clause-same : goal.returns-in_err-write_parts-clause-same
returns-in_err-write_parts-clause-same g c = (let here = goal.at.returns-in_err-write_parts-clause-same g c in same g here.After-write_parts (numbers g here.After-closed_parts))

pub returns-in_err-write_parts-clause-stops : goal.returns-in_err-write_parts-clause-stops
returns-in_err-write_parts-clause-stops g c = (let here = goal.at.returns-in_err-write_parts-clause-stops g c in stops g here.After-write_parts (numbers g here.After-closed_parts))

pub returns-clause-same : goal.returns-clause-same
returns-clause-same g c = (let here = goal.at.returns-clause-same g c in same g here.After-write_parts (numbers g here.After-closed_parts))

pub returns-clause-stops : goal.returns-clause-stops
returns-clause-stops g c = (let here = goal.at.returns-clause-stops g c in stops g here.After-write_parts (numbers g here.After-closed_parts))

pub returns-clause-saved : goal.returns-clause-saved
returns-clause-saved g c =
    let here = goal.at.returns-clause-saved g c in
    saved-from (g.T.Store.files c.write_parts.new.store) (c.args.stale.now ++ prior_numbers c.args.priors.now) c.args.next c.next.result c.in_ok-numbers.numbers c.write_parts.new.numbers c.args.held.now c.seal.new.self c.write_parts.new.held
    c.in_ok-numbers.ensures.next c.next.ensures.next c.in_ok-seal.ensures.closed c.closed_parts.ensures.writable c.in_ok-write_parts.ensures.saved c.in_ok-write_parts.ensures.on_disk (let fits = c.next.ensures.fits in omega (arith, fits)) c.requires.numbered
    (taken g here.After-write_parts (numbers g here.After-closed_parts))
