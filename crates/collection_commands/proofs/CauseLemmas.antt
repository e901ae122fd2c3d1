-- Faults of some causes are faults of others, as the lists of causes tell.
use Rattle.std.proofs.Common.{◌≡◌, ◌⊎◌, inl, inr, Bool, true, false, ◌||◌, ◌&&◌, not, List, [], ◌∷◌, refl, subst}
use Rattle.std.specs.Prelude.{MatchBool, ⊤}
use Rattle.ri_base.specs.Faults.{IsOutside}
use Rattle.ri_base.specs.declared.seg_fault.SegFault.{SegFault}
use Rattle.ri_base.specs.declared.seg_fault.SegFault.TheVariants as files
use Rattle.command_pieces.specs.CommandFaults.{IsCreateFault, IsDamage, IsExistsFault, IsItemsFault, of_files}
use Rattle.command_pieces.specs.declared.command_fault.CommandFault.{CommandFault}
use Rattle.command_pieces.specs.declared.command_fault.CommandFault.TheVariants as fault
use Rattle.collection_commands.specs.FaultCauses.{Cause, IsOf, absent, cause_of, damaged, is_among, memory, present, read, store, write}

-- ---- tests of all causes

abbrev every_cause : (Cause → Bool) → Bool
every_cause test = test read && (test write && (test store && (test damaged && (test absent && (test present && test memory)))))

both : (a b : Bool) → (a && b) ≡ true → (a ≡ true) × (b ≡ true)
both true b e = (refl, e)
both false b e = absurd cc

each : (test : Cause → Bool) → every_cause test ≡ true → (c : Cause) → test c ≡ true
each test all c =
    let reads = both (test read) (test write && (test store && (test damaged && (test absent && (test present && test memory))))) all in
    let writes = both (test write) (test store && (test damaged && (test absent && (test present && test memory)))) reads.1 in
    let stores = both (test store) (test damaged && (test absent && (test present && test memory))) writes.1 in
    let damages = both (test damaged) (test absent && (test present && test memory)) stores.1 in
    let absences = both (test absent) (test present && test memory) damages.1 in
    let last = both (test present) (test memory) absences.1 in
    elim c as (λ k. test k ≡ true) [
      | read ↦ reads.0
      | write ↦ writes.0
      | store ↦ stores.0
      | damaged ↦ damages.0
      | absent ↦ absences.0
      | present ↦ last.0
      | memory ↦ last.1
    ]

-- ---- one list and another

-- what is among the first and the second is among the third
abbrev is_covered : List Cause → List Cause → List Cause → Cause → Bool
is_covered cs ds es c = not (is_among cs c && is_among ds c) || is_among es c

covered : (a b c : Bool) → (not (a && b) || c) ≡ true → MatchBool a ⊤ ⊥ → MatchBool b ⊤ ⊥ → MatchBool c ⊤ ⊥
covered a b true e h k = tt
covered false b false e h k = h
covered true false false e h k = k
covered true true false e h k = absurd cc

pub of-both : (cs ds es : List Cause) → every_cause (is_covered cs ds es) ≡ true → (why : CommandFault) → IsOf cs why → IsOf ds why → IsOf es why
of-both cs ds es all why = covered (is_among cs (cause_of why)) (is_among ds (cause_of why)) (is_among es (cause_of why)) (each (is_covered cs ds es) all (cause_of why))

pub of-more : (cs es : List Cause) → every_cause (is_covered cs cs es) ≡ true → (why : CommandFault) → IsOf cs why → IsOf es why
of-more cs es all why h = of-both cs cs es all why h h

-- ---- the faults that commands share, as causes

abbrev pub damage_causes : List Cause
damage_causes = damaged ∷ []

abbrev pub items_causes : List Cause
items_causes = read ∷ write ∷ store ∷ memory ∷ []

abbrev pub create_causes : List Cause
create_causes = write ∷ store ∷ present ∷ memory ∷ []

abbrev pub exists_causes : List Cause
exists_causes = store ∷ present ∷ memory ∷ []

pub record AsCauses (why : CommandFault) : Type 0 where
  pub damage : IsDamage why → IsOf damage_causes why
  pub to_damage : IsOf damage_causes why → IsDamage why
  pub items : IsItemsFault why → IsOf items_causes why
  pub create : IsCreateFault why → IsOf create_causes why
  pub exists : IsExistsFault why → IsOf exists_causes why

pub as-causes : (why : CommandFault) → AsCauses why
as-causes fault.Read = record { damage = λ h. h; to_damage = λ h. h; items = λ h. h; create = λ h. h; exists = λ h. h }
as-causes fault.Write = record { damage = λ h. h; to_damage = λ h. h; items = λ h. h; create = λ h. h; exists = λ h. h }
as-causes fault.Store = record { damage = λ h. h; to_damage = λ h. h; items = λ h. h; create = λ h. h; exists = λ h. h }
as-causes (fault.Malformed file part place) = record { damage = λ h. h; to_damage = λ h. h; items = λ h. h; create = λ h. h; exists = λ h. h }
as-causes (fault.Missing file) = record { damage = λ h. h; to_damage = λ h. h; items = λ h. h; create = λ h. h; exists = λ h. h }
as-causes fault.NoRepository = record { damage = λ h. h; to_damage = λ h. h; items = λ h. h; create = λ h. h; exists = λ h. h }
as-causes fault.Exists = record { damage = λ h. h; to_damage = λ h. h; items = λ h. h; create = λ h. h; exists = λ h. h }
as-causes fault.Memory = record { damage = λ h. h; to_damage = λ h. h; items = λ h. h; create = λ h. h; exists = λ h. h }

-- ---- none is damage

pub undamaged-items : (why : CommandFault) → IsItemsFault why → IsDamage why → ⊥
undamaged-items why h d = of-both items_causes damage_causes [] refl why ((as-causes why).items h) ((as-causes why).damage d)

pub undamaged-create : (why : CommandFault) → IsCreateFault why → IsDamage why → ⊥
undamaged-create why h d = of-both create_causes damage_causes [] refl why ((as-causes why).create h) ((as-causes why).damage d)

pub undamaged-exists : (why : CommandFault) → IsExistsFault why → IsDamage why → ⊥
undamaged-exists why h d = of-both exists_causes damage_causes [] refl why ((as-causes why).exists h) ((as-causes why).damage d)

outside-undamaged : (e : SegFault) → IsOutside e → IsDamage (of_files e) → ⊥
outside-undamaged (files.Malformed file part place) outside d = outside
outside-undamaged (files.Missing file) outside d = outside
outside-undamaged files.Store outside d = d
outside-undamaged files.Memory outside d = d

-- a call on files is refused whose files aren't to blame
pub undamaged-files : (e : SegFault) (why : CommandFault) → why ≡ of_files e → IsOutside e → IsDamage why → ⊥
undamaged-files e why is outside d = outside-undamaged e outside (subst IsDamage is d)

-- the store or memory is to blame
pub undamaged-swept : (why : CommandFault) → (why ≡ fault.Store) ⊎ (why ≡ fault.Memory) → IsDamage why → ⊥
undamaged-swept why which d = elim which [
  | inl is ↦ subst IsDamage is d
  | inr is ↦ subst IsDamage is d
]
