use Rattle.std.proofs.Common.{◌∙◌, ◌<◌, ◌+◌, ◌%◌, ◌++◌, List, length, get_or, ap, sym, subst, map, Option, IfSome}
use Rattle.ri_base.specs.Documents.{Document}
use Rattle.seg_codec.specs.Segment.{entry_of}
use Rattle.seg_codec.specs.declared.documents.Entry.{Entry}
use Rattle.disk_index.specs.Parts.{reads}
use Rattle.merge_job.specs.Cut.{Copies}
use Rattle.merge_job.specs.Range.{IsRangeNow}
use Rattle.merge_job.specs.Walk.{entries, rest_in}
use Rattle.merge_job.specs.declared.copying.Range.{Range}
use Rattle.merge_job.proofs.CopyLemmas.{document-dead, document-next, entry-dead, entry-next, in-docs, put-document, put-entry, tokens-next}
use Rattle.merge_job.proofs.copying.copy_one.Goals as goal

-- ---- a marked one

pub returns-then-is_marked-clause-entries : goal.returns-then-is_marked-clause-entries
returns-then-is_marked-clause-entries g c =
    ap (λ (l : List Entry). map entry_of c.args.copied.now.docs ++ l) (sym (entry-dead c.args.marked.now c.args.id c.requires.whole c.requires.within (sym c.is_marked.ensures ∙ c.if-is_marked.true)))

pub returns-then-is_marked-clause-exact : goal.returns-then-is_marked-clause-exact
returns-then-is_marked-clause-exact g c backed cached last =
    ap (λ (l : List Document). c.args.copied.now.docs ++ l) (sym (document-dead c.args.marked.now c.args.id c.requires.whole c.requires.within (g.T.Store.files c.args.store.now) (sym c.is_marked.ensures ∙ c.if-is_marked.true)))

-- ---- a live one

pub bounds-as_slice-id : goal.bounds-as_slice-id
bounds-as_slice-id g c =
    subst (λ (l : List Document). c.args.id % 64 < length l) (sym c.as_slice.ensures)
    (in-docs c.args.marked.now c.args.id c.requires.whole c.requires.within c.in_ok-range.range c.in_ok-range.ensures.number c.in_ok-range.ensures.range)

pub put-requires-clause-tokens : goal.put-requires-clause-tokens
put-requires-clause-tokens g c =
    let d = c.index-as_slice-id.result in
    let at = c.index-as_slice-id.is ∙ ap (λ (l : List Document). get_or l (c.args.id % 64) d) c.as_slice.ensures in
    tokens-next _ _ _ d
    (entry-next c.args.marked.now c.args.id c.requires.whole c.requires.within c.in_ok-range.range c.in_ok-range.ensures.number c.in_ok-range.ensures.range d (sym c.is_marked.ensures ∙ c.if-is_marked.false) at)
    c.requires.tokens

pub returns-clause-entries : goal.returns-clause-entries
returns-clause-entries g c =
    let d = c.index-as_slice-id.result in
    let at = c.index-as_slice-id.is ∙ ap (λ (l : List Document). get_or l (c.args.id % 64) d) c.as_slice.ensures in
    ap (λ (v : Copies). map entry_of v.docs ++ rest_in entries c.args.marked.now (c.args.id + 1)) c.in_ok-put.ensures.put
    ∙ put-entry c.args.copied.now.docs d _ _
    (entry-next c.args.marked.now c.args.id c.requires.whole c.requires.within c.in_ok-range.range c.in_ok-range.ensures.number c.in_ok-range.ensures.range d (sym c.is_marked.ensures ∙ c.if-is_marked.false) at)

pub returns-clause-exact : goal.returns-clause-exact
returns-clause-exact g c backed cached last =
    let told = g.T.Store.files c.args.store.now in
    let d = c.index-as_slice-id.result in
    let at = c.index-as_slice-id.is ∙ ap (λ (l : List Document). get_or l (c.args.id % 64) d) c.as_slice.ensures in
    let old = subst (λ (l : Option Range). IfSome l (IsRangeNow told c.args.marked.now.source)) (sym c.take.ensures.value) last in
    ap (λ (v : Copies). v.docs ++ rest_in (reads told) c.args.marked.now (c.args.id + 1)) c.in_ok-put.ensures.put
    ∙ put-document c.args.copied.now.docs d _ _
    (document-next c.args.marked.now c.args.id c.requires.whole c.requires.within told c.in_ok-range.range d c.in_ok-range.ensures.number (c.in_ok-range.ensures.exact backed cached old) (sym c.is_marked.ensures ∙ c.if-is_marked.false) at)
