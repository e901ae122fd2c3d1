-- Which faults a command answers where a call on the ends or on files is refused.
use Rattle.std.proofs.Common.{◌≡◌, refl, sym, subst}
use Rattle.command_pieces.specs.CommandFaults.{IsChangeFault, IsItemsFault, of_items}
use Rattle.command_pieces.specs.declared.command_fault.CommandFault.{CommandFault}
use Rattle.command_pieces.specs.declared.command_fault.CommandFault.TheVariants as command
use Rattle.command_pieces.specs.declared.fault.Fault.{Fault}
use Rattle.command_pieces.specs.declared.fault.Fault.TheVariants as fault

-- ---- of an end

pub items_change : (e : Fault) (f : CommandFault) → (e ≡ fault.Read → ⊥) → f ≡ of_items e → IsChangeFault f
items_change fault.Read f unread is = absurd (unread refl)
items_change fault.Write f unread is = subst IsChangeFault (sym is) tt
items_change fault.Memory f unread is = subst IsChangeFault (sym is) tt

pub items_any : (e : Fault) (f : CommandFault) → f ≡ of_items e → IsItemsFault f
items_any fault.Read f is = subst IsItemsFault (sym is) tt
items_any fault.Write f is = subst IsItemsFault (sym is) tt
items_any fault.Memory f is = subst IsItemsFault (sym is) tt

pub items_write : (e : Fault) (f : CommandFault) → f ≡ of_items e → f ≡ command.Write → e ≡ fault.Write
items_write fault.Read f is write = cc
items_write fault.Write f is write = refl
items_write fault.Memory f is write = cc

pub items_read : (e : Fault) (f : CommandFault) → f ≡ of_items e → f ≡ command.Read → e ≡ fault.Read
items_read fault.Read f is read = refl
items_read fault.Write f is read = cc
items_read fault.Memory f is read = cc

pub items_store : (e : Fault) (f : CommandFault) → f ≡ of_items e → f ≡ command.Store → ⊥
items_store fault.Read f is store = cc
items_store fault.Write f is store = cc
items_store fault.Memory f is store = cc

-- ---- of a change, where items are taken too

pub change_items : (f : CommandFault) → IsChangeFault f → IsItemsFault f
change_items command.Read change = absurd change
change_items command.Write change = tt
change_items command.Store change = tt
change_items (command.Malformed file part place) change = absurd change
change_items (command.Missing file) change = absurd change
change_items command.NoRepository change = absurd change
change_items command.Exists change = absurd change
change_items command.Memory change = tt
