-- What the run of a command has done that makes a repository: `create` and `gen`.
use Rattle.std.proofs.Common.{◌≡◌, ◌≤◌, inl, inr, ℕ, List, Option, None, Some}
use Rattle.std.specs.Prelude.{IsTrue, is_some}
use Rattle.store_ends.specs.Files.{Files, LeavesNoMore}
use Rattle.command_words.specs.Table.{Asks, create, gen, scan}
use Rattle.command_pieces.specs.CommandFaults.{IsDamage, IsExistsFault}
use Rattle.command_pieces.specs.declared.command_fault.CommandFault.{CommandFault}
use Rattle.command_pieces.specs.declared.command_fault.CommandFault.TheVariants as fault
use Rattle.repository.specs.Names.{manifest_name}
use Rattle.repository.specs.Stands.{Collection}
use Rattle.indri_app.specs.Command.{MakesInOrder, MakesRepository, NeedsRepository, ReadsPriors, ShowsInOrder}
use Rattle.indri_app.specs.HasRun.{HasRun}
use Rattle.indri_app.specs.LastLines.{IsClosed, exists_line}
use Rattle.indri_app.specs.Runs.{IsAllDone, IsUntouched, MakesAlong, MakesTo, WritesDamageOf}
use Rattle.indri_app.specs.declared.status.Status.{Status}
use Rattle.indri_app.specs.declared.status.Status.TheVariants as status
use Rattle.indri_app.proofs.Closing.{stops-none}
use Rattle.indri_app.proofs.Created.{exists-closed-status, exists-runs, stands-there}
use Rattle.indri_app.proofs.Ended.{absent-closed, exists-closed, exists-line-closed, line-first, malformed-closed, refused-not_closed, usage-not_closed}

-- it makes one, and needs none
pub record IsMaking (asks : Asks) : Type 0 where
  pub makes : MakesRepository asks
  pub needs_none : NeedsRepository asks → ⊥
  pub reads_none : ReadsPriors asks → ⊥
  pub scans_none : (text : List ℕ) → asks ≡ scan text → ⊥
  pub in_order : (c : Collection) (left : Option (List ℕ)) → ShowsInOrder asks c left

pub making-create : IsMaking create
making-create = record { makes = tt; needs_none = λ needs. needs; reads_none = λ reads. reads; scans_none = λ text e. cc; in_order = λ c left. tt }

pub making-gen : (count : ℕ) → IsMaking (gen count)
making-gen count = record { makes = tt; needs_none = λ needs. needs; reads_none = λ reads. reads; scans_none = λ text e. cc; in_order = λ c left. tt }

-- where there is no manifest
pub record HasMade (asks : Asks) (s : Status) (told files : Option Files) (past since : ℕ → Files → Type 0) (before now : Option (List ℕ)) (a z : ℕ) : Type 0 where
  pub made : (f : Files) → told ≡ Some f → (f manifest_name).read ≡ None → MakesTo s asks (Some f) before now files a z
  pub along : (f : Files) → told ≡ Some f → (f manifest_name).read ≡ None → MakesAlong asks (Some f) past since
  pub order : (f : Files) → told ≡ Some f → (f manifest_name).read ≡ None → IsAllDone s → MakesInOrder asks

-- where there is one, it is told, or the store or memory is to blame, and nothing is done
abbrev pub IsLeft : CommandFault → Option Files → Option Files → (ℕ → Files → Type 0) → (ℕ → Files → Type 0) → Option (List ℕ) → Option (List ℕ) → Type 0
IsLeft why told files past since before mid = (f : Files) → told ≡ Some f → IsTrue (is_some (f manifest_name).read) → IsExistsFault why × (files ≡ told) × LeavesNoMore past since × (mid ≡ before)

-- a status that says so leaves all as it was
pub untouched-unmade : (Q : Type 0) (why : CommandFault) (s : Status) (mid now : Option (List ℕ)) (b z : ℕ) → IsClosed why s mid now b z → (why ≡ fault.NoRepository → ⊥) → (why ≡ fault.Exists → Q) → IsUntouched s → Q
untouched-unmade Q why s mid now b z ends needed same un = elim un [
  | inl e ↦ absurd (usage-not_closed why s mid now b z ends e)
  | inr more ↦ elim more [
    | inl e ↦ absurd (refused-not_closed why s mid now b z ends e)
    | inr last ↦ elim last [
      | inl e ↦ absurd (needed (absent-closed why s mid now b z ends e))
      | inr e ↦ same (exists-closed why s mid now b z ends e)
    ]
  ]
]

module _ (asks : Asks) (making : IsMaking asks) (left : Option (List ℕ)) (told files : Option Files) (past since : ℕ → Files → Type 0) (before now : Option (List ℕ)) (a z : ℕ) where
  -- it is done, so there was none
  pub run-made : HasMade asks status.Done told files past since before now a z → ((f : Files) → told ≡ Some f → IsTrue (is_some (f manifest_name).read) → ⊥) → HasRun asks status.Done left told files past since before now a z
  run-made done never = record {
    runs = λ k stands. let has = stands-there k told stands in absurd (never has.0 has.1 has.2);
    stops = λ k stands. let has = stands-there k told stands in absurd (never has.0 has.1 has.2);
    order = λ k stands all. making.in_order k left;
    made = λ makes f is none. done.made f is none;
    made_stops = λ makes f is none. done.along f is none;
    made_order = λ makes f is none all. done.order f is none all;
    scans = λ text is. absurd (making.scans_none text is);
    sound = λ is k stands whole. absurd cc;
    there = λ f t is. absurd cc;
    damage = λ is. absurd cc;
    intact = λ f is has needs. absurd (making.needs_none needs);
    intact_priors = λ f is has reads. absurd (making.reads_none reads);
    absent = λ f t is. absurd cc;
    without = λ f is none needs. absurd (making.needs_none needs);
    absent_line_is = λ is. absurd cc;
    exists = λ f is makes there. absurd (never f is there);
    exists_there = λ f t is. absurd cc;
    exists_line_is = λ is. absurd cc;
    command = λ is. cc;
  }

  -- it is broken off
  pub run-unmade : (why : CommandFault) (s : Status) (mid : Option (List ℕ)) (b : ℕ) → IsClosed why s mid now b z → (why ≡ fault.NoRepository → ⊥) → HasMade asks s told files past since before now a z → a ≤ b → IsLeft why told files past since before mid → ((f : Files) → told ≡ Some f → why ≡ fault.Exists → IsTrue (is_some (f manifest_name).read)) → (why ≡ fault.Exists → mid ≡ before)
      → ((f : Files) → told ≡ Some f → IsDamage why → ⊥) → (s ≡ status.Malformed → WritesDamageOf asks before now a z) → HasRun asks s left told files past since before now a z
  run-unmade why s mid b ends needed done later untouched there same sound damage = record {
    runs = λ k stands. let has = stands-there k told stands in let e = untouched has.0 has.1 has.2 in exists-runs asks making.makes why s k left told files before mid now a b z e.0 ends e.3 later e.1 stands;
    stops = λ k stands. let has = stands-there k told stands in stops-none told asks k left past since (untouched has.0 has.1 has.2).2;
    order = λ k stands all. making.in_order k left;
    made = λ makes f is none. done.made f is none;
    made_stops = λ makes f is none. done.along f is none;
    made_order = λ makes f is none all. done.order f is none all;
    scans = λ text is. absurd (making.scans_none text is);
    sound = λ is k stands whole. let has = stands-there k told stands in sound has.0 has.1 (malformed-closed why s mid now b z ends is);
    there = λ f t is. absurd (sound f t (malformed-closed why s mid now b z ends is));
    damage = damage;
    intact = λ f is has needs. absurd (making.needs_none needs);
    intact_priors = λ f is has reads. absurd (making.reads_none reads);
    absent = λ f t is. absurd (needed (absent-closed why s mid now b z ends is));
    without = λ f is none needs. absurd (making.needs_none needs);
    absent_line_is = λ is. absurd (needed (absent-closed why s mid now b z ends is));
    exists = λ f is makes has. exists-closed-status why s mid now b z (untouched f is has).0 ends;
    exists_there = λ f t is. (making.makes, there f t (exists-closed why s mid now b z ends is));
    exists_line_is = λ is. line-first exists_line before mid now a b z (same (exists-closed why s mid now b z ends is)) later (exists-line-closed why s mid now b z ends is);
    command = λ is. usage-not_closed why s mid now b z ends is;
  }
