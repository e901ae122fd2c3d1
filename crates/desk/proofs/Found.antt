-- The open query of a name among those of a desk that is seen as another, and what is kept of it.
use Rattle.std.proofs.Common.{◌≡◌, ◌∙◌, ℕ, Bool, true, false, List, None, Option, Some, ap, get_or, length, map}
use Rattle.std.specs.Prelude.{◌==◌, is_some, nat_lt}
use Rattle.std.specs.List.{position}
use Rattle.store_ends.specs.Files.{Files}
use Rattle.disk_index.specs.Snapshots.{AreIntact}
use Rattle.ranker.specs.Searches.{searched}
use Rattle.session_events.specs.declared.event.Event.TheVariants as event
use Rattle.desk.specs.Backed.{IsDeskBacked, IsDeskIntact, IsUsable, Keeps, state_of}
use Rattle.desk.specs.Keeping.{AreKept, IsOpen}
use Rattle.desk.specs.Queries.{IsQueryBacked, query_of}
use Rattle.desk.specs.State.{named}
use Rattle.desk.specs.Step.{refuse, step}
use Rattle.desk.specs.declared.kept.Kept.TheInside.{Inside}
use Rattle.desk.specs.declared.query.OpenQuery.{OpenQuery}
use Rattle.desk.specs.declared.reply.Refusal.TheVariants.{NotYet}
use Rattle.desk.proofs.NamedExits.{not-yet, not-yet-explained, not-yet-shown}
use Rattle.desk.proofs.Naming.{IsPlace, at-place, found-place, is_named, named-none}

-- what a desk is seen as, of its fields
abbrev pub seen : Inside → Keeps
seen s = record { repository = s.repository; kind = s.kind; queries = s.queries.items; counts = s.counts; cache = s.cache; usable = s.usable }

module _ (view now : Keeps) (name : List ℕ) (same : view ≡ now) where
  -- whether there is one
  pub found-as : (b : Bool) → is_some (position (is_named name) now.queries) ≡ b → is_some (position (is_named name) view.queries) ≡ b
  found-as b found = ap (λ (x : Keeps). is_some (position (is_named name) x.queries)) same ∙ found

  -- there is none
  pub none-found : (told : Option Files) → position (is_named name) now.queries ≡ None → named name (map (query_of told) view.queries) ≡ None
  none-found told none = named-none told name view.queries (ap (λ (x : Keeps). position (is_named name) x.queries) same ∙ none)

module _ (view now : Keeps) (name : List ℕ) (i : ℕ) (q : OpenQuery) (same : view ≡ now) (found : position (is_named name) now.queries ≡ Some i) where
  -- it stands at its place
  pub place-of : IsPlace name view.queries i q
  place-of = found-place name view.queries i q (ap (λ (x : Keeps). position (is_named name) x.queries) same ∙ found)

  -- and it is open
  pub open-of : q ≡ get_or view.queries i q → (view.usable ≡ true → view.repository.usable ≡ true → AreKept view.repository view.queries view.counts) → IsUsable now → IsOpen (length view.repository.priors) q
  open-of there kept usable =
      let all = kept (ap (λ (x : Keeps). x.usable) same ∙ usable.0) (ap (λ (x : Keeps). x.repository.usable) same ∙ usable.1) in
      at-place (IsOpen (length view.repository.priors)) view.queries i q place-of.within there all.each

  -- and backed, where the desk is
  pub backed-of : (told : Option Files) → q ≡ get_or view.queries i q → IsDeskBacked told view → IsQueryBacked told view.repository view.kind q
  backed-of told there b = at-place (IsQueryBacked told view.repository view.kind) view.queries i q place-of.within there b.queries

  -- and the files of its snapshot are read as they were put, where those of the desk are
  pub intact-of : (told : Option Files) → q ≡ get_or view.queries i q → IsDeskIntact told view → AreIntact told q.search.snapshot
  intact-of told there whole = at-place (λ (x : OpenQuery). AreIntact told x.search.snapshot) view.queries i q place-of.within there whole.queries

  -- documents of it are left
  module _ (told : Option Files) (there : q ≡ get_or view.queries i q) (kept : view.usable ≡ true → view.repository.usable ≡ true → AreKept view.repository view.queries view.counts) (usable : IsUsable now) (b : Bool)
      (is : b ≡ (q.search.at.credit == length (searched told q.search))) (not : b ≡ false) where
    left : nat_lt q.search.at.credit (length (searched told q.search)) ≡ true
    left = not-yet told view name i q place-of there (open-of there kept usable).usable b is not

    pub left-shown : step (state_of told view) (event.Show name) ≡ refuse (state_of told view) (NotYet name)
    left-shown = not-yet-shown told view name i q place-of there left

    pub left-explained : (rank : ℕ) → step (state_of told view) (event.Explain name rank) ≡ refuse (state_of told view) (NotYet name)
    left-explained rank = not-yet-explained told view name i q place-of there rank left
