use Rattle.std.proofs.Common.{◌≡◌, ◌-◌, [], map}
use Rattle.ri_base.specs.Reading.{repeat}
use Rattle.manifest.specs.Entries.{behind_prior, prior}
use Rattle.manifest.specs.declared.manifest.PriorEntry.{PriorEntry}
use Rattle.ri_base.proofs.Loops.{with_front}
use Rattle.manifest.proofs.entries.priors_from.Given as goal

abbrev pub invariant-loop : goal.invariant-loop
invariant-loop l = with_front l.priors.items (repeat (prior l.next) behind_prior (l.count - l.counter) (record { names = map (λ (p : PriorEntry). p.name) l.priors.items; used = l.used.keys }) l.rest) ≡ repeat (prior l.next) behind_prior l.count (record { names = []; used = l.fn.before.keys }) l.bytes
