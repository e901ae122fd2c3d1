-- In an order of fields or extents begins don't fall.
use Rattle.std.proofs.Common.{◌≡◌, ◌<◌, ◌≤◌, ◌⊎◌, ⊎_elim, arith}
use Rattle.std.specs.Cmp.Lexicographic.{slice_cmp}
use Rattle.std.specs.Ordering.{nat_cmp}
use Rattle.std.specs.declared.cmp.Ordering.TheVariants.{Less}
use Rattle.ri_base.specs.Documents.{Field, IsBefore}
use Rattle.ri_base.specs.Pair.{Pair}
use Rattle.field_extents.specs.Extents.{IsNoLater}

pub begin-IsBefore : (x y : Field) → IsBefore x y → x.begin ≤ y.begin
begin-IsBefore x y h = ⊎_elim
    (λ (l : x.begin < y.begin). omega arith)
    (λ (w : (x.begin ≡ y.begin) × ((x.end < y.end) ⊎ (x.end ≡ y.end) × (slice_cmp nat_cmp x.name y.name ≡ Less))). omega (arith, w.0))
    h

pub begin-IsNoLater : (x y : Pair) → IsNoLater x y → x.begin ≤ y.begin
begin-IsNoLater x y h = ⊎_elim (λ (l : x.begin < y.begin). omega arith) (λ (w : (x.begin ≡ y.begin) × (x.end ≤ y.end)). omega (arith, w.0)) h
