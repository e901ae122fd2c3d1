-- When a call of a store may answer that it failed.
use Rattle.std.specs.Prelude.{ℕ, ◌≤◌, Result, IsErrOf}
use Rattle.ri_ends.specs.Causes.{Rose}
use Rattle.ri_ends.specs.declared.fault.OutFault.{OutFault}
use Rattle.ri_ends.specs.declared.fault.OutFault.TheVariants.{Failed}

-- The count never falls, and the call failed only where it rose. Nothing is said of the count where it found no memory.
pub record HasOutCause {T : Type 0} (before now : ℕ) (result : Result T OutFault) : Type 0 where
  pub later : before ≤ now
  pub failed : IsErrOf result Failed → Rose before now
