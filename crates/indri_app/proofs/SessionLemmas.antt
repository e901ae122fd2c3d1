-- A run of `session`.
use Rattle.std.proofs.Common.{◌≡◌, ◌≤◌, inl, inr, ℕ, Bool, List, Option, None, Some, Result, Ok, Err, refl}
use Rattle.std.specs.Prelude.{IfErr, OnOk}
use Rattle.std.specs.List.{AllZip}
use Rattle.std.specs.Option.{IfSome}
use Rattle.store_ends.specs.Files.{Files}
use Rattle.command_words.specs.Table.{session}
use Rattle.command_pieces.specs.declared.command_fault.CommandFault.{CommandFault}
use Rattle.command_pieces.specs.declared.command_fault.CommandFault.TheVariants as fault
use Rattle.holdings.specs.declared.limits.Limits.{Limits}
use Rattle.repository.specs.Opening.{IsRepositoryOpened}
use Rattle.repository.specs.RealLimits.{AreReal}
use Rattle.repository.specs.Stands.{Collection, IsPriorRead, Prior}
use Rattle.repository.specs.States.{State}
use Rattle.script_reader.specs.Items.{items}
use Rattle.smoothing.specs.declared.rule.RuleKind.TheVariants.{Dirichlet}
use Rattle.indri_app.specs.Orders.{AreTrue}
use Rattle.indri_app.specs.Sessions.{Grows, begun}
use Rattle.indri_app.specs.Asked.{IsIntactWithPriors}
use Rattle.indri_app.specs.Changes.{IsOverFault}
use Rattle.indri_app.specs.Command.{ShowsInOrder}
use Rattle.indri_app.specs.Runs.{IsAllDone, IsEnded, IsUntouched, WritesDamage}
use Rattle.indri_app.specs.declared.status.Status.{Status}
use Rattle.indri_app.proofs.Ended.{absent-ended, all-not_closed, damage-first, exists-not_ended, refused-not_ended, usage-not_ended}

-- its status says that all was done
pub all-ended : (P : Type 0) (answer : Result Bool CommandFault) (s : Status) (mid now : Option (List ℕ)) (b z : ℕ) → OnOk answer P → IsEnded answer s mid now b z → IsAllDone s → P
all-ended P (Ok refused) s mid now b z p ends all = p
all-ended P (Err why) s mid now b z p ends all = absurd (all-not_closed why s mid now b z ends all)

-- nothing was done where there was no manifest
pub session-untouched : (Q : Type 0) (answer : Result Bool CommandFault) (s : Status) (mid now : Option (List ℕ)) (b z : ℕ) → (answer ≡ Err fault.NoRepository → Q) → IfErr answer IsOverFault → IsEnded answer s mid now b z → IsUntouched s → Q
session-untouched Q answer s mid now b z q only ends un = elim un [
  | inl e ↦ absurd (usage-not_ended answer s mid now b z ends e)
  | inr more ↦ elim more [
    | inl e ↦ absurd (refused-not_ended answer s mid now b z ends e)
    | inr last ↦ elim last [
      | inl e ↦ q (absent-ended answer s mid now b z ends e)
      | inr e ↦ absurd (exists-not_ended answer s mid now b z only ends e)
    ]
  ]
]

-- ---- what is said of the script

pub in-order : (mu : ℕ) (c : Collection) (limits : Limits) (left : Option (List ℕ)) (answer : Result Bool CommandFault) → AreReal limits → OnOk answer (IfSome left (λ bytes. AreTrue (begun limits (Dirichlet mu) c) (items bytes)))
    → OnOk answer (ShowsInOrder (session mu) c left)
in-order mu c limits left (Err why) real true' = tt
in-order mu c limits None (Ok refused) real true' = tt
in-order mu c limits (Some bytes) (Ok refused) real true' = (limits, real, true')

-- the files of a repository that was opened, and of its priors, are in their grammar
pub with-priors : (told : Option Files) (s : State) (answer : Result Bool CommandFault) → IsRepositoryOpened told s.held.limits s → OnOk answer ((ps : List Prior) × AllZip (IsPriorRead told) s.priors ps) → OnOk answer (IsIntactWithPriors told)
with-priors told s (Err why) opened priors = tt
with-priors told s (Ok refused) opened priors = (s.held.limits, (s, opened, priors))

-- damage is told behind what was written
pub damage-behind : (start mid now : Option (List ℕ)) (a b z : ℕ) → Grows start mid → a ≤ b → WritesDamage mid now b z → (written : Option (List ℕ)) × Grows start written × WritesDamage written now a z
damage-behind start mid now a b z grows h tells = (mid, grows, damage-first mid mid now a b z refl h tells)
