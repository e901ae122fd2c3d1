-- What a fault says of the part of the collection that was read.
use Rattle.std.specs.Prelude.{◌≡◌, ⊤, Option, Some}
use Rattle.ri_base.specs.declared.seg_fault.SegFault.{SegFault}
use Rattle.ri_base.specs.declared.seg_fault.SegFault.TheVariants.{Malformed, Missing, Store, Memory}

-- the files of the part aren't to blame: the store failed, or memory was wanting
abbrev pub IsOutside : SegFault → Type 0
IsOutside (Malformed file part place) = ⊥
IsOutside (Missing file) = ⊥
IsOutside Store = ⊤
IsOutside Memory = ⊤

-- what damage was met last, before and behind a call that answers a fault: this one where it is damage, else what it was before
abbrev pub TellsDamage : Option SegFault → Option SegFault → SegFault → Type 0
TellsDamage before now (Malformed file part place) = now ≡ Some (Malformed file part place)
TellsDamage before now (Missing file) = now ≡ Some (Missing file)
TellsDamage before now Store = now ≡ before
TellsDamage before now Memory = now ≡ before
