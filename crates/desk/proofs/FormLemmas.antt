-- What is replied of a query has its form, whatever the files tell.
use Rattle.std.proofs.Common.{◌≡◌, ◌≤◌, ◌∙◌, ℕ, List, [], ◌∷◌, length, refl, sym, arith}
use Rattle.std.specs.List.{All}
use Rattle.std.proofs.lemmas.List.Elements.{All-head, All-nil, All-weaker}
use Rattle.ri_base.specs.Documents.{Document}
use Rattle.ri_base.specs.declared.hit.Hit.{Hit}
use Rattle.query_check.specs.declared.checked.Checked.{Checked}
use Rattle.belief_nodes.specs.Network.{network_tree}
use Rattle.ranked_output.specs.Marks.{IsScale}
use Rattle.ranker.specs.Windows.{AreWindows}
use Rattle.desk.proofs.SearchLemmas.{as-few, as-many-beliefs}
use Rattle.session_events.specs.declared.event.TheConstants.{MAX_RESULTS}
use Rattle.desk.specs.Replied.{AreResults, leaf_count}
use Rattle.desk.specs.Keeping.{IsOpen}
use Rattle.desk.specs.declared.query.OpenQuery.{OpenQuery}

-- the scale of a checked query
pub scale-form : (checked : Checked) (scale : ℕ) → scale ≡ checked.scale → IsScale scale
scale-form checked scale is = let kept = checked.kept in record { some = omega (arith, kept.positive, is); small = omega (arith, kept.small, is) }

-- hits with as many beliefs each have as many as the first
as-first : (n : ℕ) (hits : List Hit) → All (λ (hit : Hit). length hit.fractions ≡ n) hits → All (λ (hit : Hit). length hit.fractions ≡ leaf_count hits) hits
as-first n [] all = All-nil (λ (hit : Hit). length hit.fractions ≡ 0)
as-first n (h ∷ hs) all =
    let first = All-head (λ (hit : Hit). length hit.fractions ≡ n) h hs all in
    All-weaker (λ (hit : Hit). length hit.fractions ≡ n) (λ (hit : Hit). length hit.fractions ≡ length h.fractions) (λ hit is. is ∙ sym first) (h ∷ hs) all

-- the results of a search that was asked for no more than can be
pub search-form : (checked : Checked) (scale n most : ℕ) (docs : List Document) (hits : List Hit) → scale ≡ checked.scale → most ≤ MAX_RESULTS → ∥ AreWindows docs n most hits ∥₁ → AreResults scale hits
search-form checked scale n most docs hits is fits windows = record {
  of_scale = scale-form checked scale is;
  few = as-few docs n most MAX_RESULTS hits fits windows;
  leaves = as-first n hits (as-many-beliefs docs n n most hits refl windows);
}

pub results-form : (count scale : ℕ) (q : OpenQuery) (docs : List Document) (hits : List Hit) → IsOpen count q → scale ≡ q.search.checked.scale → ∥ AreWindows docs (length (network_tree q.search.network).leaves) q.search.most hits ∥₁ → AreResults scale hits
results-form count scale q docs hits was is windows =
    search-form q.search.checked scale (length (network_tree q.search.network).leaves) q.search.most docs hits is was.few windows
