use Rattle.std.proofs.Common.{◌<◌, ◌∙◌, length, min, sym, ap, subst, arith}
use Rattle.std.proofs.lemmas.List.Elements.{All-nil}
use Rattle.ri_base.specs.Documents.{Document, IsDocument}
use Rattle.ri_base.specs.declared.limits.TheConstants.{MAX_DOC_TOKENS}
use Rattle.range_bounds.specs.Ranges.{least_length}
use Rattle.range_tables.specs.Sections.{section}
use Rattle.range_bounds.specs.Tables.{AreFormed}
use Rattle.range_tables.proofs.SectionLemmas.{All-section_more, folded, section_end, section_none}
use Rattle.range_tables.proofs.sections.least_length.Goals as goal

pub loop-id-init : goal.loop-id-init
loop-id-init g c = record {
  low = omega arith;
  exact = sym (ap least_length (section_none (g.P.Postings.documents c.args.part.now) c.args.first));
  short = omega arith;
  formed = subst AreFormed (sym (section_none (g.P.Postings.documents c.args.part.now) c.args.first)) (All-nil (λ (d : Document). IsDocument d.tokens d.fields));
}

pub loop-id-preserved : goal.loop-id-preserved
loop-id-preserved g c =
    let docs = g.P.Postings.documents c.args.part.now in
    let first = c.args.first in
    let id = c.loop-id.id in
    let so_far = c.loop-id.invariant in
    let inside : id < length docs = omega (arith, c.loop-id-test.true, c.requires.within) in
    record {
      low = omega (arith, so_far.low);
      exact = c.min-least.ensures ∙ ap (λ n. min n c.token_count.result) so_far.exact ∙ ap (min (least_length (section docs first id))) c.token_count.ensures.exact
          ∙ sym (folded (λ a b. min a b) MAX_DOC_TOKENS (λ (d : Document). length d.tokens) docs first id so_far.low inside);
      short = omega (arith, c.min-least.ensures, so_far.short);
      formed = All-section_more (λ (d : Document). IsDocument d.tokens d.fields) docs first id so_far.low inside so_far.formed c.token_count.ensures.formed;
    }

pub returns-clause-exact : goal.returns-clause-exact
returns-clause-exact g c =
    c.loop-id.invariant.exact ∙ ap least_length (section_end (g.P.Postings.documents c.args.part.now) c.args.first c.args.end c.loop-id.id (omega (arith, c.loop-id.auto.id-end, c.loop-id-test.false, c.requires.order)))

pub returns-clause-formed : goal.returns-clause-formed
returns-clause-formed g c =
    subst AreFormed (section_end (g.P.Postings.documents c.args.part.now) c.args.first c.args.end c.loop-id.id (omega (arith, c.loop-id.auto.id-end, c.loop-id-test.false, c.requires.order))) c.loop-id.invariant.formed
