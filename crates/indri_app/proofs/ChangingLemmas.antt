-- Why a command is broken off that opens a repository and changes it.
use Rattle.std.proofs.Common.{◌≡◌, ℕ, Bool, List, Option, Result, Ok, Err, subst, [], refl}
use Rattle.std.specs.Prelude.{IfErr, OnOk}
use Rattle.command_pieces.specs.CommandFaults.{IsDamage, IsItemsFault}
use Rattle.command_pieces.specs.declared.command_fault.CommandFault.{CommandFault}
use Rattle.command_pieces.specs.declared.command_fault.CommandFault.TheVariants as fault
use Rattle.repository.specs.Stands.{Collection}
use Rattle.collection_commands.specs.Merging.{IsMergeFault, merge_causes}
use Rattle.collection_commands.proofs.CauseLemmas.{as-causes, damage_causes, items_causes, of-both, of-more, undamaged-items}
use Rattle.command_words.specs.Table.{scan}
use Rattle.indri_app.specs.Changes.{IsFoundFirst, IsOverFault, first_causes, over_causes, told_change}
use Rattle.indri_app.specs.Command.{MakesRepository, NeedsRepository, ReadsPriors, ShowsInOrder}
use Rattle.indri_app.specs.Runs.{WritesDamage, WritesDamageOf}
use Rattle.indri_app.specs.declared.changing.Change.{Change}
use Rattle.indri_app.specs.declared.changing.Change.TheVariants.{Add, Delete, Merge, Prior}
use Rattle.indri_app.specs.Opened.{IsOpenFault, IsWant, open_causes, want_causes}
use Rattle.indri_app.specs.Faults.{IsSessionFault, session_causes}

-- what is found first where a repository is open is damage
pub session-damage : (why : CommandFault) → IsSessionFault why → IsFoundFirst why → IsDamage why
session-damage why is first = (as-causes why).to_damage (of-both session_causes first_causes damage_causes refl why is first)

pub open-over : (why : CommandFault) → IsOpenFault why → IsOverFault why
open-over = of-more open_causes over_causes refl

pub want-late : (why : CommandFault) → IsWant why → IsFoundFirst why → ⊥
want-late = of-both want_causes first_causes [] refl

-- a command that takes items and reads no documents of files
pub items-session : (answer : Result Bool CommandFault) → IfErr answer IsItemsFault → IfErr answer IsSessionFault
items-session (Ok refused) items = tt
items-session (Err why) items = of-more items_causes session_causes refl why ((as-causes why).items items)

pub items-undamaged : (P : Type 0) (answer : Result Bool CommandFault) → IfErr answer IsItemsFault → IfErr answer (λ why. IsDamage why → P)
items-undamaged P (Ok refused) items = tt
items-undamaged P (Err why) items = λ damage. absurd (undamaged-items why items damage)

-- a merge
pub merge-session : (answer : Result Bool CommandFault) → IfErr answer IsMergeFault → IfErr answer IsSessionFault
merge-session (Ok refused) merge = tt
merge-session (Err why) merge = of-more merge_causes session_causes refl why merge

pub merge-read : (answer : Result Bool CommandFault) → IfErr answer IsMergeFault → answer ≡ Err fault.Read → ⊥
merge-read answer merge e = subst (λ (r : Result Bool CommandFault). IfErr r IsMergeFault) e merge

pub damage-unread : (P Q R : Type 0) (answer : Result Bool CommandFault) → Q → IfErr answer (λ why. IsDamage why → P × R) → IfErr answer (λ why. IsDamage why → P × Q × R)
damage-unread P Q R (Ok refused) q damage = tt
damage-unread P Q R (Err why) q damage = λ is. let both = damage is in (both.0, q, both.1)

-- what an open repository answers: what is found first is damage
pub undamaged-late : (answer : Result Bool CommandFault) → IfErr answer IsSessionFault → IfErr answer (λ why. IsDamage why → ⊥) → IfErr answer (λ why. IsFoundFirst why → ⊥)
undamaged-late (Ok refused) work undamaged = tt
undamaged-late (Err why) work undamaged = λ first. undamaged (session-damage why work first)

pub session-first : (P Q : Type 0) (answer : Result Bool CommandFault) → (P → Q) → IfErr answer IsSessionFault → IfErr answer (λ why. IsDamage why → P) → IfErr answer (λ why. IsFoundFirst why → Q)
session-first P Q (Ok refused) on work damage = tt
session-first P Q (Err why) on work damage = λ first. on (damage (session-damage why work first))

pub session-over : (answer : Result Bool CommandFault) → IfErr answer IsSessionFault → IfErr answer IsOverFault
session-over (Ok refused) work = tt
session-over (Err why) work = of-more session_causes over_causes refl why work

pub session-not_absent : (answer : Result Bool CommandFault) → IfErr answer IsSessionFault → answer ≡ Err fault.NoRepository → ⊥
session-not_absent answer work e = subst (λ (r : Result Bool CommandFault). IfErr r IsSessionFault) e work

pub on-any : (P : Type 0) (answer : Result Bool CommandFault) → P → OnOk answer P
on-any P (Ok refused) p = p
on-any P (Err why) p = tt

-- ---- what the words of such a command ask for

pub change-not_making : (what : Change) → MakesRepository (told_change what) → ⊥
change-not_making Add makes = makes
change-not_making Delete makes = makes
change-not_making Merge makes = makes
change-not_making (Prior name) makes = makes

pub change-not_scan : (what : Change) (text : List ℕ) → told_change what ≡ scan text → ⊥
change-not_scan Add text e = cc
change-not_scan Delete text e = cc
change-not_scan Merge text e = cc
change-not_scan (Prior name) text e = cc

pub change-needs : (what : Change) → NeedsRepository (told_change what)
change-needs Add = tt
change-needs Delete = tt
change-needs Merge = tt
change-needs (Prior name) = tt

pub change-in_order : (what : Change) (c : Collection) (left : Option (List ℕ)) → ShowsInOrder (told_change what) c left
change-in_order Add c left = tt
change-in_order Delete c left = tt
change-in_order Merge c left = tt
change-in_order (Prior name) c left = tt

pub change-tells : (what : Change) (start now : Option (List ℕ)) (a z : ℕ) → WritesDamage start now a z → WritesDamageOf (told_change what) start now a z
change-tells Add start now a z tells = tells
change-tells Delete start now a z tells = tells
change-tells Merge start now a z tells = tells
change-tells (Prior name) start now a z tells = tells

pub change-reads : (what : Change) → ReadsPriors (told_change what) → ⊥
change-reads Add reads = reads
change-reads Delete reads = reads
change-reads Merge reads = reads
change-reads (Prior name) reads = reads
