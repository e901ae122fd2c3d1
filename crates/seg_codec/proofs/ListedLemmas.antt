-- where the documents behind the names can't be read, the part can't
use Rattle.std.proofs.Common.{◌≡◌, ℕ, List, [], Ok, refl}
use Rattle.ri_base.specs.FieldAnswers.{Fails}
use Rattle.ri_base.specs.Fields.{name_behind}
use Rattle.ri_base.specs.Reading.{repeat}
use Rattle.seg_codec.specs.Documents.{entry, listed}
use Rattle.ri_base.specs.declared.broken.Broken.{Broken}
use Rattle.ri_base.specs.declared.broken.Broken.TheVariants.{At, Memory}

pub listed_fails : (e : Broken) (names docs : ℕ) (bytes : List ℕ) (ns ms : List (List ℕ)) (rest : List ℕ) → ms ≡ ns → repeat name_behind (λ _ x. x) names [] bytes ≡ Ok (ns, rest)
    → Fails e (repeat {S = ℕ} (λ _. entry ms) (λ s _. s) docs 0 rest) → Fails e (listed names docs bytes)
unfolding listed
listed_fails Memory names docs bytes ns ms rest same h f = tt
listed_fails (At left) names docs bytes ns ms rest same h f = rw (h, ← same, f) refl
