use Rattle.std.proofs.Common.{◌≡◌, ◌<◌, ◌∙◌, length, max, nat_eq, sym, ap, arith}
use Rattle.std.specs.Set.{distinct_count}
use Rattle.ri_base.specs.Collection.{document_at}
use Rattle.ri_base.specs.Documents.{Document}
use Rattle.range_bounds.specs.Ranges.{field_begins, most_begins}
use Rattle.range_tables.specs.Sections.{section}
use Rattle.range_tables.proofs.SectionLemmas.{folded, section_end, section_none}
use Rattle.range_tables.proofs.sections.most_begins.Goals as goal

pub loop-id-init : goal.loop-id-init
loop-id-init g c = record {
  low = omega arith;
  exact = sym (ap (λ ds. most_begins ds c.args.name.now) (section_none (g.P.Postings.documents c.args.part.now) c.args.first));
}

pub begin_count-requires : goal.begin_count-requires
begin_count-requires g c = c.spans.ensures.form.sound.in_order

pub loop-id-preserved : goal.loop-id-preserved
loop-id-preserved g c =
    let docs = g.P.Postings.documents c.args.part.now in
    let first = c.args.first in
    let name = c.args.name.now in
    let id = c.loop-id.id in
    let so_far = c.loop-id.invariant in
    let inside : id < length docs = omega (arith, c.loop-id-test.true, c.requires.within) in
    let count : c.begin_count.result ≡ distinct_count nat_eq (field_begins name (document_at docs id).fields) = c.begin_count.ensures ∙ ap (λ fs. distinct_count nat_eq (field_begins name fs)) c.spans.ensures.exact in
    record {
      low = omega (arith, so_far.low);
      exact = c.max-most.ensures ∙ ap (λ n. max n c.begin_count.result) so_far.exact ∙ ap (max (most_begins (section docs first id) name)) count
          ∙ sym (folded (λ a b. max a b) 0 (λ (d : Document). distinct_count nat_eq (field_begins name d.fields)) docs first id so_far.low inside);
    }

pub returns : goal.returns
returns g c =
    let docs = g.P.Postings.documents c.args.part.now in
    let all = c.loop-id.invariant.exact ∙ ap (λ ds. most_begins ds c.args.name.now) (section_end docs c.args.first c.args.end c.loop-id.id (omega (arith, c.loop-id.auto.id-end, c.loop-id-test.false, c.requires.order))) in
    omega (arith, c.min.ensures, all)
