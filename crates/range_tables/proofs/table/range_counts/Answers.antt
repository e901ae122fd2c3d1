use Rattle.std.proofs.Common.{◌≡◌, ◌*◌, ◌∙◌, ℕ, List, Vec, Global, map, ap, subst, sym, arith}
use Rattle.std.specs.List.{AllZip}
use Rattle.query_check.specs.Leaves.{leaf_tree}
use Rattle.range_bounds.specs.Most.{capped}
use Rattle.range_bounds.specs.Ranges.{least_length, most_begins, range_documents}
use Rattle.range_bounds.specs.Tables.{AreFormed}
use Rattle.range_tables.specs.Needs.{IsTermCount}
use Rattle.range_tables.specs.Sections.{section}
use Rattle.range_tables.proofs.Counted.{tell_all}
use Rattle.range_tables.proofs.SectionLemmas.{section_range}
use Rattle.range_tables.proofs.table.range_counts.Goals as goal

pub returns-clause-exact : goal.returns-clause-exact
returns-clause-exact g c = λ sound.
    let docs = g.P.Postings.documents c.args.part.now in
    let leaves = map leaf_tree c.args.leaves.now in
    let terms = c.args.terms.now in
    let items : Vec ℕ Global → List ℕ = λ v. v.items in
    let here : section docs (64 * c.args.range) _ ≡ range_documents docs c.args.range = section_range docs c.args.range _ _ (omega arith) (omega (arith, c.docs-docs.ensures, c.min.ensures)) in
    let placed = subst (λ ns. AllZip (IsTermCount leaves (range_documents docs c.args.range)) terms ns) (sym (ap items c.new.ensures.places)) (c.in_ok-places.ensures.exact sound) in
    let begun = ap items c.new.ensures.begins ∙ c.in_ok-begins.ensures ∙ ap (λ ds. map (λ f. capped (most_begins ds f)) c.args.names.now) here in
    record {
      formed = subst AreFormed here c.least_length-least.ensures.formed;
      least = c.new.ensures.least ∙ c.least_length-least.ensures.exact ∙ ap least_length here;
      most = tell_all leaves terms c.args.names.now (range_documents docs c.args.range) c.new.result placed begun c.requires.asked;
    }
