-- When taking bytes from a source is refused.
use Rattle.std.specs.Prelude.{ℕ, ◌≡◌, ◌≢◌, Result, Err}
use Rattle.ri_ends.specs.Causes.{Rose}
use Rattle.read_ahead.specs.declared.fault.InputFault.{InputFault}
use Rattle.read_ahead.specs.declared.fault.InputFault.TheVariants.{Read}

-- `Read` is answered only where the count rose.
abbrev pub ReadRose : {X : Type 0} → Result X InputFault → ℕ → ℕ → Type 0
ReadRose result before now = result ≡ Err Read → Rose before now

-- The count stays at every other answer.
abbrev pub StaysUnlessRead : {X : Type 0} → Result X InputFault → ℕ → ℕ → Type 0
StaysUnlessRead result before now = result ≢ Err Read → now ≡ before
