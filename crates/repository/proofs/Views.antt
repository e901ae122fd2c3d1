-- What the view of a repository shows.
use Rattle.std.proofs.Common.{◌≡◌, true, ap, ◌∙◌}
use Rattle.repository.specs.States.{IsNumbered, State}

-- the state of its fields
abbrev pub seen : {s t : State} → s ≡ t → State
seen {s} {t} view = s

-- while it is usable, what it holds can be listed
pub numbered-seen : {s t : State} (view : s ≡ t) → (s.usable ≡ true → IsNumbered s) → t.usable ≡ true → IsNumbered s
numbered-seen view numbered usable = numbered (ap (λ (x : State). x.usable) view ∙ usable)
