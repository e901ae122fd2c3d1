-- two calls in a row
use Rattle.std.proofs.Common.{ℕ, List, ◌∙◌, arith}
use Rattle.ri_base.specs.Documents.{Document}
use Rattle.ri_base.specs.Keeps.{Keeps}

pub Keeps-then : {S : Type 0} (documents : S → List Document) (faults : S → ℕ) (sound intact : S → Type 0) (quiet : S → S → Type 0) → ((r s t : S) → quiet r s → quiet s t → quiet r t) →
    (r s t : S) → Keeps documents faults sound intact quiet r s → Keeps documents faults sound intact quiet s t → Keeps documents faults sound intact quiet r t
Keeps-then documents faults sound intact quiet law r s t h k = record {
  documents_stay = k.documents_stay ∙ h.documents_stay;
  no_fault_lost = omega (arith, h.no_fault_lost, k.no_fault_lost);
  sound_stays = λ u. k.sound_stays (h.sound_stays u);
  intact_stays = λ u. k.intact_stays (h.intact_stays u);
  stays_quiet = law r s t h.stays_quiet k.stays_quiet;
}
