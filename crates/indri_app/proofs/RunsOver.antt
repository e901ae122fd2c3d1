-- A run that is over before it has looked at a file.
use Rattle.std.proofs.Common.{◌≡◌, inl, inr, ℕ, List, [], Option, None, Some, refl, subst}
use Rattle.std.specs.Option.{IfSome}
use Rattle.store_ends.specs.Files.{Files}
use Rattle.command_words.specs.Table.{Asks, scan}
use Rattle.command_pieces.proofs.Joining.{StoppedBetween-none}
use Rattle.repository.specs.RealLimits.{StandsFor}
use Rattle.repository.specs.Stands.{Collection}
use Rattle.indri_app.specs.HasRun.{HasRun}
use Rattle.indri_app.specs.Runs.{HasDone, IsPlainStatus, RunsTo, ScansTo}
use Rattle.indri_app.specs.declared.status.Status.{Status}
use Rattle.indri_app.specs.declared.status.Status.TheVariants as status
use Rattle.indri_app.proofs.Closing.{stops-none}
use Rattle.indri_app.proofs.Created.{memory-makes, none-makes}
use Rattle.indri_app.proofs.PlainRuns.{scan-runs, scans-memory}

memory-runs : (told : Option Files) (asks : Asks) (c : Collection) (left before : Option (List ℕ)) (a z : ℕ) → StandsFor c told → IfSome left (λ bytes. RunsTo status.Memory told asks c bytes before before told a z)
memory-runs told asks c None before a z stands = tt
memory-runs told asks c (Some bytes) before a z stands = ([], inl refl, StoppedBetween-none StandsFor c [] before before told refl stands)

done-not_memory : HasDone status.Memory → ⊥
done-not_memory has = elim has [ inl e ↦ cc | inr more ↦ elim more [ inl e ↦ cc | inr e ↦ cc ] ]

pub memory-has_run : (asks : Asks) (left : Option (List ℕ)) (told : Option Files) (past : ℕ → Files → Type 0) (before : Option (List ℕ)) (a z : ℕ) → HasRun asks status.Memory left told told past past before before a z
memory-has_run asks left told past before a z = record {
  runs = λ c stands. memory-runs told asks c left before a z stands;
  stops = λ c stands. stops-none told asks c left past past (λ t f h. h);
  order = λ c stands all. absurd (elim all [ inl e ↦ cc | inr e ↦ cc ]);
  made = λ makes f same none. memory-makes asks f makes told before a z same;
  made_stops = λ makes f same none. none-makes asks f makes past;
  made_order = λ makes f same none all. absurd (elim all [ inl e ↦ cc | inr e ↦ cc ]);
  scans = λ text is. scans-memory text left before a z;
  sound = λ e c stands whole. absurd cc;
  there = λ f same e. absurd cc;
  damage = λ e. absurd cc;
  intact = λ f same has needs. absurd (done-not_memory has);
  intact_priors = λ f same has reads. absurd (done-not_memory has);
  absent = λ f same e. absurd cc;
  without = λ f same none needs. inr (inr refl);
  absent_line_is = λ e. absurd cc;
  exists = λ f same is there. inr (inr refl);
  exists_there = λ f same e. absurd cc;
  exists_line_is = λ e. absurd cc;
  command = λ e. cc;
}

pub memory-some : (found : Option Asks) (left : Option (List ℕ)) (told : Option Files) (past : ℕ → Files → Type 0) (before : Option (List ℕ)) (a z : ℕ) → IfSome found (λ asks. HasRun asks status.Memory left told told past past before before a z)
memory-some None left told past before a z = tt
memory-some (Some asks) left told past before a z = memory-has_run asks left told past before a z

pub not-plain : (s t : Status) → IsPlainStatus s → s ≡ t → (IsPlainStatus t → ⊥) → ⊥
not-plain s t plain e never = never (subst IsPlainStatus e plain)

pub scan-has_run : (text : List ℕ) (s : Status) (left : Option (List ℕ)) (told : Option Files) (past : ℕ → Files → Type 0) (before now : Option (List ℕ)) (a z : ℕ) → IsPlainStatus s → IfSome left (λ bytes. ScansTo s text bytes before now a z) → HasRun (scan text) s left told told past past before now a z
scan-has_run text s left told past before now a z plain scans' = record {
  runs = λ c stands. scan-runs told text c left before now a z s stands scans';
  stops = λ c stands. stops-none told (scan text) c left past past (λ t f h. h);
  order = λ c stands all. tt;
  made = λ makes f same none. absurd makes;
  made_stops = λ makes f same none. absurd makes;
  made_order = λ makes f same none all. absurd makes;
  scans = λ other is. let one : text ≡ other = cc in subst (λ t. IfSome left (λ bytes. ScansTo s t bytes before now a z)) one scans';
  sound = λ e c stands whole. not-plain s status.Malformed plain e (λ h. h);
  there = λ f same e. absurd (not-plain s status.Malformed plain e (λ h. h));
  damage = λ e. absurd (not-plain s status.Malformed plain e (λ h. h));
  intact = λ f same has needs. absurd needs;
  intact_priors = λ f same has reads. absurd reads;
  absent = λ f same e. absurd (not-plain s status.NoRepository plain e (λ h. h));
  without = λ f same none needs. absurd needs;
  absent_line_is = λ e. absurd (not-plain s status.NoRepository plain e (λ h. h));
  exists = λ f same makes there. absurd makes;
  exists_there = λ f same e. absurd (not-plain s status.Exists plain e (λ h. h));
  exists_line_is = λ e. absurd (not-plain s status.Exists plain e (λ h. h));
  command = λ e. not-plain s status.Usage plain e (λ h. h);
}
